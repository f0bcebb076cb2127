-- Texts of parts and a limit. These are laws for callers who read octets in pieces, or one line after another.
use Rattle.std.proofs.Common.{◌≡◌, ℕ, List, ◌++◌, length, ap, ◌∙◌, arith}
use Rattle.std.proofs.lemmas.Grind.{flat_map-append}
use Rattle.std.proofs.lemmas.List.{length-append}
use Rattle.std.specs.Prelude.{Option}
use Rattle.octseq_core.specs.Limit.{ExceedsLimit}
use Rattle.octseq_core.proofs.Limits.{past_more}
use Rattle.octseq_utf8.specs.Parts.{Part, octets_with, text}

-- if the text of a front of the parts exceeds the limit, so does the text of all of them
pub past_front : (limit : Option ℕ) (front others parts : List Part) → parts ≡ front ++ others
    → ExceedsLimit limit (length (text front)) → ExceedsLimit limit (length (text parts))
past_front limit front others parts whole past =
    let long = ap length (ap text whole ∙ flat_map-append (octets_with 0xFFFD) front others)
    ∙ length-append (text front) (text others) in
    past_more limit (length (text front)) (length (text parts)) (omega arith) past

-- and if the text of all of them doesn't, the text of a front doesn't
pub front_not_past : (limit : Option ℕ) (front others parts : List Part) → parts ≡ front ++ others
    → (ExceedsLimit limit (length (text parts)) → ⊥)
    → ExceedsLimit limit (length (text front)) → ⊥
front_not_past limit front others parts whole within past = within (past_front limit front others parts whole past)
