use Rattle.std.proofs.Common.{refl, rules}
use Rattle.octseq.specs.Parser.{window}
use Rattle.octseq.specs.Part.{part}
use Rattle.octseq_dns_data.proofs.Strings.{short_string}
use Rattle.octseq_format.proofs.Parts.{counted_of_part}
use Rattle.octseq_dns_data.proofs.data.string.take_string.Goals as goal

pub returns-in_err-string-clause-malformed : goal.returns-in_err-string-clause-malformed
returns-in_err-string-clause-malformed g c = λ _ _ v is.
    let w = window c.args.parser.now in
    c.in_err-string.ensures.malformed refl (part 1 w) v (counted_of_part 1 w (part 1 w) v (is.0, refl, is.2))

pub returns-clause-short : goal.returns-clause-short
returns-clause-short g c =
    short_string (window c.args.parser.now) (window c.in_ok-string.string) (window c.parse.new.parser)
    (record { each = search rules; ordered = search rules; within = search rules }) c.in_ok-string.ensures.value
