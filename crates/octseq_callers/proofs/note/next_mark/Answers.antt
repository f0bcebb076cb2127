use Rattle.std.proofs.Common.{◌++◌, sym, ap, ◌∙◌, rules, arith}
use Rattle.octseq.proofs.Codes.{took, not_taken, no_integer, integer_code}
use Rattle.octseq.specs.Integer.{octets_be}
use Rattle.octseq.specs.Parser.{window}
use Rattle.octseq.specs.Window.{rest}
use Rattle.octseq_callers.proofs.note.next_mark.Goals as goal

pub returns-in_err-parse_u8-clause-malformed : goal.returns-in_err-parse_u8-clause-malformed
returns-in_err-parse_u8-clause-malformed g c = (
  λ _ has. no_integer (window c.args.parser.now) 1 (not_taken c.in_err-parse_u8.ensures.taken)
      (0x4E, has.0, omega arith, has.1),
  λ _. search rules,
)

pub returns-then-branch-ne-MARK-clause-malformed : goal.returns-then-branch-ne-MARK-clause-malformed
returns-then-branch-ne-MARK-clause-malformed g c = (
  λ _ has.
      let octet = c.in_ok-parse_u8.field-0 in
      let read = took (octets_be 1 octet) c.in_ok-parse_u8.ensures.taken c.in_ok-parse_u8.ensures.octets in
      c.if-branch-ne-MARK.true (integer_code 1 octet 0x4E (rest (window c.parse_u8.new.self)) has.0 (omega arith)
      (omega arith) (sym read ∙ has.1)).0,
  λ _. tt,
)

pub returns-clause-ok : goal.returns-clause-ok
returns-clause-ok g c =
    took (octets_be 1 c.in_ok-parse_u8.field-0) c.in_ok-parse_u8.ensures.taken c.in_ok-parse_u8.ensures.octets
    ∙ ap (λ octet. octets_be 1 octet ++ rest (window c.parse_u8.new.self)) c.if-branch-ne-MARK.false

pub returns-clause-malformed : goal.returns-clause-malformed
returns-clause-malformed g c =
    (λ ok. absurd ok, λ none. none (rest (window c.parse_u8.new.self), returns-clause-ok g c))
