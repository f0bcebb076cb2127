-- Values with a unique encoding are written as the octets they were read from.
use Rattle.std.proofs.Common.{◌≡◌, ℕ, suc, ◌+◌, ◌≤◌, List, [], ◌∷◌, ◌++◌, length, length-append, map, take}
use Rattle.std.proofs.Common.{sym, ap, ◌∙◌, arith, Fits, w8, slice_index_or}
use Rattle.std.proofs.Math.Logic.{∥∥₁_elim}
use Rattle.std.proofs.Math.Seq.{take-append_seam}
use Rattle.std.specs.Coded.{Coded-set, coded_list, coded_ℕ, le_prop, ×_prop}
use Rattle.std.specs.List.{AllByRecursion}
use Rattle.octseq.specs.Window.{Window, rest}
use Rattle.octseq_format.specs.Canonical.{AreOctets, IsSoundWindow, IsCanonical, many_rest}
use Rattle.octseq_format.specs.Laws.{Relation, IsOnward}
use Rattle.octseq_format.specs.Row.{HoldsTo, row_octets, onward_row, row_written, sound_row, each_once}

-- a slice holds octets
pub slice_octets : (xs : List ℕ) → ((k : ℕ) → Fits w8 (slice_index_or xs k 0)) → AreOctets xs
slice_octets [] each = tt
slice_octets (x ∷ xs) each = (let fits = each 0 in omega (arith, fits), slice_octets xs (λ k. each (suc k)))

-- a row ends in its window
pub held_offset : {A : Type 0} (Is : Relation A) {least : ℕ} → IsOnward least Is → (w : Window) (count end : ℕ)
    → HoldsTo Is w count end → w.position ≤ w.end → (w.position ≤ end) × (end ≤ w.end)
held_offset Is onward w count end held ordered =
    ∥∥₁_elim held.1 (×_prop (le_prop {n = w.position} {m = end}) (le_prop {n = end} {m = w.end})) (λ x.
    let on = (onward_row Is onward).on w held.0 x.0 ordered x.1.0.1 in
    let offset = x.1.1 in
    (omega (arith, on.2, offset), omega (arith, on.1, on.3, offset)))

-- and its octets are those up to its end
pub held_written : {A S : Type 0} {Is : Relation A} {says : A → S} {octets : S → List ℕ} {Fits : S → Type 0}
    {least : ℕ} → IsOnward least Is → IsCanonical Is says octets Fits → (w : Window) (count end n : ℕ)
    (held : HoldsTo Is w count end) → IsSoundWindow w → w.position + n ≡ end
    → AllByRecursion Fits (map says held.0) × (take n (rest w) ≡ row_octets octets (map says held.0))
held_written {Is = Is} {says = says} {octets = octets} onward canonical w count end n held sound ends =
    let o = row_octets octets (map says held.0) in
    let set = Coded-set (coded_list coded_ℕ) (take n (rest w)) o in
    ∥∥₁_elim held.1 (×_prop (each_once canonical.once (map says held.0)) set) (λ x.
    let v = x.0 in
    let row = row_written canonical w held.0 v sound x.1.0.1 in
    let on = (onward_row Is onward).on w held.0 v sound.ordered x.1.0.1 in
    let all = many_rest w sound in
    let more = many_rest v (sound_row canonical w held.0 v sound x.1.0.1) in
    let both = ap length row.1 ∙ length-append o (rest v) in
    let offset = x.1.1 in
    let long : length o ≡ n = omega (arith, all, more, both, offset, ends, on.1, on.2, on.3) in
    (row.0, ap (take n) row.1 ∙ ap (λ n. take n (o ++ rest v)) (sym long) ∙ take-append_seam o (rest v)))
