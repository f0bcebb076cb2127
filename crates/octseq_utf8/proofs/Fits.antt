-- Table 3-7 by the width and the bounds that the first octet gives: what fits an encoding, all of it or a front.
use Rattle.std.proofs.Common.{◌≡◌, ◌≢◌, ℕ, ◌+◌, ◌<◌, ◌≤◌, List, [], ◌∷◌, ◌++◌, length, get_or, take, drop, refl}
use Rattle.std.proofs.Common.{arith, ◌⊎◌, inl, inr, ap, sym, ◌∙◌, length-append, length-take}
use Rattle.std.proofs.Math.ListN.{get_or-append}
use Rattle.std.proofs.lemmas.Bool.Decides.{nat_tests}
use Rattle.std.proofs.lemmas.List.{get_or-take, take_at, drop_at}
use Rattle.std.specs.Int.{IsInRange}
use Rattle.octseq_utf8.specs.Encoding.{IsEncoding, row_00_7F, row_C2_DF, row_E0, row_E1_EC}
use Rattle.octseq_utf8.specs.Encoding.{row_ED, row_EE_EF, row_F0, row_F1_F3, row_F4}
use Rattle.octseq_utf8.specs.Parts.{IsBeginning}
use Rattle.octseq_utf8.specs.Reading.{width_of, least_second, greatest_second, fitting_by, fitting}

-- no octet requires a width of more than four
pub width_le : (a : ℕ) → width_of a ≤ 4
unfolding width_of
width_le a = grind (arith, nat_tests)

-- the bounds of the second octet are in order, and within 80..BF
pub second_bounds : (a : ℕ) → (0x80 ≤ least_second a) × (least_second a ≤ greatest_second a)
    × (greatest_second a ≤ 0xBF)
unfolding least_second greatest_second
second_bounds a = grind (arith, nat_tests)

-- The first k octets of x fit an encoding that begins with the first octet of x.
abbrev pub Fits : List ℕ → ℕ → Type 0
Fits x k = (1 ≤ k) × (k ≤ length x) × (k ≤ width_of (get_or x 0 0))
    × (1 < k → IsInRange (least_second (get_or x 0 0)) (greatest_second (get_or x 0 0)) (get_or x 1 0))
    × (2 < k → IsInRange 0x80 0xBF (get_or x 2 0)) × (3 < k → IsInRange 0x80 0xBF (get_or x 3 0))

-- all octets of an encoding fit, and their number is the width
pub fits_all : {e : List ℕ} → IsEncoding e → Fits e (length e) × (length e ≡ width_of (get_or e 0 0))
unfolding width_of least_second greatest_second
fits_all (row_00_7F {a} p) = grind (arith, nat_tests)
fits_all (row_C2_DF {a} {b} p q) = grind (arith, nat_tests)
fits_all (row_E0 {a} {b} {c} p q s) = grind (arith, nat_tests)
fits_all (row_E1_EC {a} {b} {c} p q s) = grind (arith, nat_tests)
fits_all (row_ED {a} {b} {c} p q s) = grind (arith, nat_tests)
fits_all (row_EE_EF {a} {b} {c} p q s) = grind (arith, nat_tests)
fits_all (row_F0 {a} {b} {c} {d} p q s t) = grind (arith, nat_tests)
fits_all (row_F1_F3 {a} {b} {c} {d} p q s t) = grind (arith, nat_tests)
fits_all (row_F4 {a} {b} {c} {d} p q s t) = grind (arith, nat_tests)

-- an encoding has one to four octets
pub length_of : {e : List ℕ} → IsEncoding e → (1 ≤ length e) × (length e ≤ 4)
length_of {e} p = let f = fits_all p in grind (arith, width_le (get_or e 0 0))

-- the rows of a width, by the first two octets
rows_3 : (a b : ℕ) → width_of a ≡ 3 → IsInRange (least_second a) (greatest_second a) b
    → (IsInRange 0xE0 0xE0 a × IsInRange 0xA0 0xBF b) ⊎ (IsInRange 0xE1 0xEC a × IsInRange 0x80 0xBF b)
    ⊎ (IsInRange 0xED 0xED a × IsInRange 0x80 0x9F b) ⊎ (IsInRange 0xEE 0xEF a × IsInRange 0x80 0xBF b)
unfolding width_of least_second greatest_second
rows_3 a b w s = grind (arith, nat_tests)

rows_4 : (a b : ℕ) → width_of a ≡ 4 → IsInRange (least_second a) (greatest_second a) b
    → (IsInRange 0xF0 0xF0 a × IsInRange 0x90 0xBF b) ⊎ (IsInRange 0xF1 0xF3 a × IsInRange 0x80 0xBF b)
    ⊎ (IsInRange 0xF4 0xF4 a × IsInRange 0x80 0x8F b)
unfolding width_of least_second greatest_second
rows_4 a b w s = grind (arith, nat_tests)

-- octets that all fit, and whose number is what the first one requires, are an encoding
pub from_fits : (e : List ℕ) → Fits e (length e) → length e ≡ width_of (get_or e 0 0) → IsEncoding e
unfolding width_of least_second greatest_second
from_fits [] f w = absurd (omega arith)
from_fits (a ∷ []) f w = row_00_7F (grind (arith, nat_tests))
from_fits (a ∷ b ∷ []) f w = row_C2_DF (grind (arith, nat_tests)) (grind (arith, nat_tests))
from_fits (a ∷ b ∷ c ∷ []) f w = elim (rows_3 a b (sym w) (f.3 (omega arith))) [
  | inl p ↦ row_E0 p.0 p.1 (f.4 (omega arith))
  | inr (inl p) ↦ row_E1_EC p.0 p.1 (f.4 (omega arith))
  | inr (inr (inl p)) ↦ row_ED p.0 p.1 (f.4 (omega arith))
  | inr (inr (inr p)) ↦ row_EE_EF p.0 p.1 (f.4 (omega arith))
]
from_fits (a ∷ b ∷ c ∷ d ∷ []) f w = elim (rows_4 a b (sym w) (f.3 (omega arith))) [
  | inl p ↦ row_F0 p.0 p.1 (f.4 (omega arith)) (f.5 (omega arith))
  | inr (inl p) ↦ row_F1_F3 p.0 p.1 (f.4 (omega arith)) (f.5 (omega arith))
  | inr (inr p) ↦ row_F4 p.0 p.1 (f.4 (omega arith)) (f.5 (omega arith))
]
from_fits (a ∷ b ∷ c ∷ d ∷ x ∷ e) f w = absurd (omega (arith, width_le a))

-- the whole has the same octet as a front at each place in the front
pub get_left : (p r : List ℕ) (i : ℕ) → i < length p → get_or (p ++ r) i 0 ≡ get_or p i 0
get_left p r i h = get_or-append p r 0 i h

-- what fits still fits if more octets follow it
pub fits_more : (p r : List ℕ) (k : ℕ) → Fits p k → Fits (p ++ r) k
fits_more p r k f =
    grind (arith, length-append p r, get_left p r 0, get_left p r 1, get_left p r 2, get_left p r 3)

-- what fits still fits without the octets after it
pub fits_less : (p r : List ℕ) (k : ℕ) → k ≤ length p → Fits (p ++ r) k → Fits p k
fits_less p r k w f = grind (arith, get_left p r 0, get_left p r 1, get_left p r 2, get_left p r 3)

-- the octets that fit do so by themselves, and require the same width
pub fits_take : (x : List ℕ) (k : ℕ) → Fits x k → (length (take k x) ≡ k) × Fits (take k x) (length (take k x))
    × (width_of (get_or (take k x) 0 0) ≡ width_of (get_or x 0 0))
fits_take x k f = let long : length (take k x) ≡ k = length-take k x ∙ omega arith in
    grind (arith, get_or-take k x 0 0, get_or-take k x 1 0, get_or-take k x 2 0, get_or-take k x 3 0)

-- fewer octets fit too
pub fits_fewer : (x : List ℕ) (j k : ℕ) → 1 ≤ j → j ≤ k → Fits x k → Fits x j
fits_fewer x j k some le f = grind arith

-- no encoding is a proper front of another, and two encodings at the front of the same octets are equal
pub encodings_begin_alike : {e f : List ℕ} (r s : List ℕ) → IsEncoding e → IsEncoding f → e ++ r ≡ f ++ s
    → (e ≡ f) × (r ≡ s)
encodings_begin_alike {e} {f} r s p q h =
    let a = fits_all p in
    let b = fits_all q in
    let same = ap (λ x. get_or x 0 0) h in
    let long : length e ≡ length f = grind (arith, get_left e r 0, get_left f s 0) in (
      sym (take_at e r _ long) ∙ ap (take (length f)) h ∙ take_at f s _ refl,
      sym (drop_at e r _ long) ∙ ap (drop (length f)) h ∙ drop_at f s _ refl,
    )

-- Beginnings: octets that fit and are fewer than the first one requires.

-- a list that isn't empty has at least one octet
pub nil_or_some : (p : List ℕ) → p ≢ [] → 1 ≤ length p
nil_or_some [] h = absurd (h refl)
nil_or_some (a ∷ p) h = omega arith

-- a beginning fits
pub beginning_fits : {p : List ℕ} → IsBeginning p → Fits p (length p)
beginning_fits {p} b =
    let f = (fits_all b.encoding).0 in
    fits_less p b.more (length p) (omega arith)
    (fits_fewer (p ++ b.more) _ _ (nil_or_some p b.some) (omega (arith, length-append p b.more)) f)

-- a beginning is shorter than the width that its first octet requires
pub beginning_short : {p : List ℕ} → IsBeginning p → length p < width_of (get_or p 0 0)
beginning_short {p} b =
    let e = fits_all b.encoding in
    let more = nil_or_some b.more b.proper in
    grind (arith, length-append p b.more, get_left p b.more 0, nil_or_some p b.some)

-- octets that complete others
complete : (a : ℕ) (p more : List ℕ) → 1 ≤ length more → Fits ((a ∷ p) ++ more) (length ((a ∷ p) ++ more))
    → length ((a ∷ p) ++ more) ≡ width_of a → IsBeginning (a ∷ p)
complete a p more m f w = record {
  more = more;
  some = λ h. cc;
  proper = λ h. absurd (omega (arith, ap length h));
  encoding = from_fits ((a ∷ p) ++ more) f w;
}

widths : (w n : ℕ) → n < w → w ≤ 4 → 1 ≤ n → (n + 1 ≡ w) ⊎ (n + 2 ≡ w) ⊎ (n + 3 ≡ w)
widths w n h k s = grind arith

-- octets that fit, and are fewer than the first one requires, are a beginning
pub beginning_from : (p : List ℕ) → Fits p (length p) → length p < width_of (get_or p 0 0) → IsBeginning p
beginning_from [] f h = absurd (omega arith)
beginning_from (a ∷ []) f h = elim (widths (width_of a) 1 h (width_le a) (omega arith)) [
  | inl w ↦ complete a [] (least_second a ∷ []) (omega arith) (grind (arith, second_bounds a)) w
  | inr (inl w) ↦ complete a [] (least_second a ∷ 0x80 ∷ []) (omega arith) (grind (arith, second_bounds a)) w
  | inr (inr w) ↦ complete a [] (least_second a ∷ 0x80 ∷ 0x80 ∷ []) (omega arith) (grind (arith, second_bounds a)) w
]
beginning_from (a ∷ b ∷ []) f h = elim (widths (width_of a) 2 h (width_le a) (omega arith)) [
  | inl w ↦ complete a (b ∷ []) (0x80 ∷ []) (omega arith) (grind arith) w
  | inr (inl w) ↦ complete a (b ∷ []) (0x80 ∷ 0x80 ∷ []) (omega arith) (grind arith) w
  | inr (inr w) ↦ absurd (omega (arith, width_le a))
]
beginning_from (a ∷ b ∷ c ∷ []) f h =
    complete a (b ∷ c ∷ []) (0x80 ∷ []) (omega arith) (grind arith) (omega (arith, width_le a))
beginning_from (a ∷ b ∷ c ∷ d ∷ p) f h = absurd (omega (arith, width_le a))

-- The number of octets that fit: no more than there are, no more than the width, and no fewer than any front that fits.

-- the counted octets fit, if an encoding begins with the first octet
pub fitting_fits : (x : List ℕ) → 1 ≤ length x → 1 ≤ width_of (get_or x 0 0) → Fits x (fitting x)
unfolding fitting_by
fitting_fits x some lead = grind (arith, nat_tests)

-- no more octets fit than there are, if there is at least one
pub fitting_within : (x : List ℕ) → 1 ≤ length x → fitting x ≤ length x
unfolding fitting_by
fitting_within x some = grind (arith, nat_tests)

-- no more octets fit than the first one requires
pub fitting_wide : (x : List ℕ) → fitting x ≤ width_of (get_or x 0 0)
unfolding fitting_by
fitting_wide x = grind (arith, nat_tests)

-- and any front that fits is no longer
pub fits_fitting : (x : List ℕ) (k : ℕ) → Fits x k → k ≤ fitting x
unfolding fitting_by
fits_fitting x k f = grind (arith, nat_tests, width_le (get_or x 0 0))
