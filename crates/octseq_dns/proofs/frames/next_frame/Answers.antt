use Rattle.std.proofs.Common.{◌≡◌, ◌≤◌, ◌<◌, ◌∙◌, length, refl, ap, arith}
use Rattle.octseq.proofs.Codes.{took, not_taken, part_front, no_part_length, no_part_value}
use Rattle.octseq.specs.Integer.{octets_be}
use Rattle.octseq.specs.Parser.{window}
use Rattle.octseq.specs.Window.{left, next, rest}
use Rattle.octseq_dns.proofs.Framing.{left_less, length_next}
use Rattle.octseq_dns.proofs.frames.next_frame.Goals as goal
use Rattle.octseq.proofs.Errors.{on_err}

pub returns-in_err-len-clause-cut : goal.returns-in_err-len-clause-cut
returns-in_err-len-clause-cut g c =
    let rest_is = c.remaining.ensures.rest in
    let some : 0 < length (rest (window c.args.parser.now)) = omega arith in
    on_err c.from_residual.result
    (some, no_part_length (window c.args.parser.now) 2 (not_taken c.in_err-len.ensures.taken))

pub returns-in_err-frame-clause-cut : goal.returns-in_err-frame-clause-cut
returns-in_err-frame-clause-cut g c =
    let rest_is = c.remaining.ensures.rest in
    let some : 0 < length (rest (window c.args.parser.now)) = omega arith in
    let len = c.in_ok-len.len in
    let w = window c.args.parser.now in
    let v = window c.parse_u16_be.new.self in
    let few = not_taken c.in_err-frame.ensures.taken in
    on_err c.from_residual-in_err-frame.result (
      some,
      no_part_value (rest w) v 2 len (omega arith)
          (took (octets_be 2 len) c.in_ok-len.ensures.taken c.in_ok-len.ensures.octets) (omega (arith, few)),
    )

pub returns-clause-frame : goal.returns-clause-frame
returns-clause-frame g c =
    let len = c.in_ok-len.len in
    let w = window c.args.parser.now in
    let v = window c.parse_u16_be.new.self in
    let u = window c.parse_parser.new.self in
    let value = rest (window c.in_ok-frame.frame) in
    let is : value ≡ next c.from.result v = ap rest c.in_ok-frame.ensures.window in
    let room : c.from.result ≤ left v = c.in_ok-frame.ensures.taken.variant.0 refl in
    let long : length value ≡ c.from.result =
    ap length is ∙ length_next v c.from.result room c.parse_u16_be.new.self.within in
    let head = c.in_ok-len.ensures.taken.variant.0 refl in
    let moved = c.in_ok-len.ensures.taken.ok in
    let past = c.in_ok-frame.ensures.taken.ok in (
      omega arith,
      part_front (rest w) (rest v) (rest u) value 2 len
          (took (octets_be 2 len) c.in_ok-len.ensures.taken c.in_ok-len.ensures.octets)
          (took value c.in_ok-frame.ensures.taken is) (long ∙ c.from.ensures),
      left_less w v u c.from.result head moved past,
    )
