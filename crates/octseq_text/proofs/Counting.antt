-- The turns of a reading in pieces.
use Rattle.std.proofs.Common.{◌≡◌, ℕ, ◌+◌, ◌≤◌, List, length, take}
use Rattle.std.proofs.Common.{arith, ap, ◌∙◌, length-append}
use Rattle.octseq_utf8.specs.Fault.{Fault, IsFault, fault_end}
use Rattle.octseq_utf8.specs.Parts.{Part, Splits, nothing, encoding, bad_part}
use Rattle.octseq_utf8.specs.Text.{chars}
use Rattle.octseq_utf8.proofs.Faults.{end_bounds, front_is}
use Rattle.octseq_utf8.proofs.Search.{spelled_few}
use Rattle.octseq_utf8.proofs.Fits.{length_of}
use Rattle.octseq_utf8.proofs.Spelling.{chars_of}
use Rattle.octseq_utf8.proofs.Splitting.{bad_some}

-- there are no more parts than octets
pub parts_few : {x : List ℕ} {parts : List Part} → Splits x parts → length parts ≤ length x
parts_few nothing = omega arith
parts_few (encoding {e} {rest = r} p s) = let few = parts_few s in let long = length_of p in
    omega (arith, length-append e r)
parts_few (bad_part {bad = p} {rest = r} b s) = let few = parts_few s in let some = bad_some b in
    omega (arith, length-append p r)

-- there are no more turns to a fault than octets up to its end
pub turns_few : (x : List ℕ) (fault : Fault) → IsFault x fault
    → (length (chars (take fault.place x)) + 1 ≤ fault_end x fault) × (fault_end x fault ≤ length x)
turns_few x fault f =
    let bounds = end_bounds x fault f in
    let here = f.place in
    let few = spelled_few f.good.1 in
    let same : chars (take fault.place x) ≡ f.good.0 = ap chars (front_is x fault f) ∙ chars_of f.good.1 in
    (omega (arith, ap length same), omega arith)
