use Rattle.std.proofs.Common.{refl, sym}
use Rattle.std.proofs.Math.Bool.{true≢false}
use Rattle.octseq.specs.Parser.{window}
use Rattle.octseq.specs.Window.{rest}
use Rattle.octseq_dns_data.specs.Pieces.{split_number, split_part}
use Rattle.octseq_dns_data.proofs.Windows.{long_rest, no_pair_at, no_part_at, number_at, pair_at, part_at}
use Rattle.octseq_dns_data.proofs.svc_params.form.take_param.Goals as goal

pub returns-in_err-octets-clause-none : goal.returns-in_err-octets-clause-none
returns-in_err-octets-clause-none g c = λ _.
    let w = window c.args.parser.now in
    let u = window c.parse_u16_be.new.self in
    let long = long_rest w c.args.parser.now.ordered c.args.parser.now.within in
    let ahead = long_rest u c.parse_u16_be.new.self.ordered c.parse_u16_be.new.self.within in
    let key = c.in_ok-key.key in
    no_pair_at (split_number 2) (split_part 2) (rest w) key (rest u)
    (number_at 2 w u key long (c.in_ok-key.ensures.taken.variant.0 refl) c.in_ok-key.ensures.value
    c.in_ok-key.ensures.taken.ok)
    (no_part_at 2 u ahead (λ has. true≢false (sym (c.in_err-octets.ensures.taken.variant.1 has))))

pub returns-clause-param : goal.returns-clause-param
returns-clause-param g c =
    let w = window c.args.parser.now in
    let u = window c.parse_u16_be.new.self in
    let v = window c.parse_part_u16_be.new.self in
    let long = long_rest w c.args.parser.now.ordered c.args.parser.now.within in
    let ahead = long_rest u c.parse_u16_be.new.self.ordered c.parse_u16_be.new.self.within in
    let key = c.in_ok-key.key in
    let value = window c.in_ok-octets.octets in
    pair_at (split_number 2) (split_part 2) (rest w) key (rest u) (rest value) (rest v)
    (number_at 2 w u key long (c.in_ok-key.ensures.taken.variant.0 refl) c.in_ok-key.ensures.value
    c.in_ok-key.ensures.taken.ok)
    (part_at 2 u value v ahead (c.in_ok-octets.ensures.taken.variant.0 refl) c.in_ok-octets.ensures.window
    c.in_ok-octets.ensures.taken.ok)
