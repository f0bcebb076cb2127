-- A name without pointers has its wire form as its octets.
use Rattle.std.proofs.Common.{◌≡◌, ℕ, ◌≤◌, ◌<◌, List, [], ◌∷◌, ◌++◌, length, refl, sym, ap, ◌∙◌, subst, append_assoc}
use Rattle.std.proofs.Common.{arith}
use Rattle.octseq.proofs.Windows.{next_and_rest}
use Rattle.octseq.proofs.Written.{be_one}
use Rattle.octseq.proofs.WrittenBack.{as_be}
use Rattle.octseq.specs.Integer.{octets_be}
use Rattle.octseq.specs.Window.{Window, left, past, rest}
use Rattle.octseq_dns_name.specs.Name.{HasLabels, octet}
use Rattle.octseq_dns_name.specs.NameFormat.{wire_more}
use Rattle.octseq_dns_name.specs.Wire.{wire}
use Rattle.octseq_format.specs.Canonical.{IsSoundWindow, many_next, sound_past}
use Rattle.octseq_format.specs.Fixed.{canonical_fixed}
use Rattle.octseq_format.specs.Integers.{are_be}

pub one_be : (n : ℕ) → n < 256 → octets_be 1 n ≡ n ∷ []
one_be n small = ap (octets_be 1) (sym (be_one n)) ∙ as_be 1 (n ∷ []) refl (small, tt)

-- the octet that comes next, and those after it
first_octet : (w : Window) → IsSoundWindow w → 1 ≤ left w → rest w ≡ octet w ∷ rest (past 1 w)
first_octet w sound room =
    let both = (canonical_fixed (are_be 1)).written w (octet w) (past 1 w) sound (room, refl, refl) in
    both.1 ∙ ap (λ front. front ++ rest (past 1 w)) (one_be (octet w) both.0)

pub labels_written : (start : ℕ) (w v : Window) (labels : List (List ℕ)) (pointers : ℕ) → IsSoundWindow w → pointers ≡ 0
    → HasLabels start w labels pointers v → rest w ≡ wire labels ++ rest v
labels_written start w v labels pointers sound none (HasLabels.root has) =
    first_octet w sound has.room ∙ ap (λ n. n ∷ rest (past 1 w)) has.zero ∙ ap (λ u. 0 ∷ rest u) (sym has.after)
labels_written start w v labels pointers sound none (HasLabels.label {u = u} {l = l} {labels = more} has after) =
    let p = past 1 w in
    let n = octet w in
    let on = sound_past 1 w sound has.room in
    let q = past n p in
    let same : q ≡ u = sym has.after in
    let inside = subst IsSoundWindow same (sound_past n p on has.whole) in
    let long : length l ≡ n = ap length has.octets ∙ many_next n p on has.whole in
    let later = labels_written start u v more pointers inside none after in
    first_octet w sound has.room ∙ ap (λ t. n ∷ t) (sym (next_and_rest p n has.whole))
    ∙ ap (λ t. n ∷ t ++ rest q) (sym has.octets) ∙ ap (λ k. k ∷ l ++ rest q) (sym long)
    ∙ ap (λ (x : Window). length l ∷ l ++ rest x) same ∙ ap (λ t. length l ∷ l ++ t) later
    ∙ ap (λ t. length l ∷ t) (sym (append_assoc l (wire more) (rest v)))
    ∙ ap (λ t. t ++ rest v) (sym (wire_more l more))
labels_written start w v labels pointers sound none (HasLabels.pointer has after) = absurd (omega (arith, none))
