-- Octets split in exactly one way, as the finder reads them, and what is at the front of them.
use Rattle.std.proofs.Common.{◌≡◌, ℕ, zero, suc, ◌-◌, ◌<◌, ◌≤◌, List, [], ◌∷◌, ◌++◌, length, get_or, take, drop, refl}
use Rattle.std.proofs.Common.{arith, ◌⊎◌, inl, inr, ⊎_elim, ap, sym, ◌∙◌, subst, length-append, length-take}
use Rattle.std.proofs.Common.{length-drop, ◌≢◌, false, true, Option, Some, None}
use Rattle.std.proofs.Math.Seq.{take-append_seam, drop-append_seam}
use Rattle.std.proofs.lemmas.List.{take-append-drop, drop_all}
use Rattle.std.proofs.lemmas.Bool.Decides.{nat_tests}
use Rattle.octseq_utf8.specs.Encoding.{IsEncoding, number_of}
use Rattle.octseq_utf8.specs.Parts.{StartsWith, IsBeginning, IsBadPart, Part, Char, Bad, Splits, nothing, encoding}
use Rattle.octseq_utf8.specs.Parts.{bad_part}
use Rattle.octseq_utf8.specs.Reading.{width, fitting, part_len, first_part, parts_after, parts_of, width_of}
use Rattle.octseq_utf8.specs.Reading.{least_second, greatest_second, fitting_by}
use Rattle.octseq_utf8.proofs.Fits.{fits_all, from_fits, fits_more, fits_take, get_left, beginning_fits, beginning_from}
use Rattle.octseq_utf8.proofs.Fits.{width_le, beginning_short, fitting_fits, fitting_within, fitting_wide, fits_fitting}
use Rattle.std.specs.Int.{is_in_range}
use Rattle.octseq_utf8.specs.Fault.{IsFaultSize}
use Rattle.octseq_utf8.specs.FirstPart.{IsBadFront, IsAtFront}
use Rattle.octseq_utf8.specs.declared.finder.FirstPart.TheVariants.{Encoding, Bad as BadFront}

-- all of the width fits
abbrev IsWhole : List ℕ → Type 0
IsWhole x = (1 ≤ width x) × (fitting x ≡ width x)

-- the first octet has no width, or less than the width fits
abbrev pub IsShort : List ℕ → Type 0
IsShort x = (width x ≡ 0) ⊎ (fitting x < width x)

-- an encoding is at the front, or none is
whole_or : (x : List ℕ) → IsWhole x ⊎ IsShort x
whole_or x = let h = fitting_wide x in grind arith

-- if all of the width fits, the first part is the character that those octets encode
first_whole : (x : List ℕ) → IsWhole x → first_part x ≡ Char (number_of (take (part_len x) x))
unfolding first_part
first_whole x w = grind (arith, nat_tests)

-- otherwise the first part is a bad part
first_bad : (x : List ℕ) → IsShort x → first_part x ≡ Bad (take (part_len x) x)
unfolding first_part
first_bad x m = grind (arith, nat_tests)

-- the first part has at least one octet, and no more than there are
pub part_len_within : (x : List ℕ) → 1 ≤ length x → (1 ≤ part_len x) × (part_len x ≤ length x)
part_len_within x h = let m = fitting_within x h in (omega arith, omega arith)

-- the parts after the first n octets are those of the rest
parts_after-drop : (n : ℕ) (x : List ℕ) → parts_after n x ≡ parts_of (drop n x)
unfolding parts_after
parts_after-drop zero [] = refl
parts_after-drop (suc n) [] = refl
parts_after-drop zero (b ∷ bs) = refl
parts_after-drop (suc n) (b ∷ bs) = parts_after-drop n bs

parts_within : (n b : ℕ) (bs : List ℕ) → 1 ≤ n → parts_after (n - 1) bs ≡ parts_of (drop n (b ∷ bs))
parts_within zero b bs h = absurd (omega arith)
parts_within (suc n) b bs h =
    let same : suc n - 1 ≡ n = omega arith in ap (λ k. parts_after k bs) same ∙ parts_after-drop n bs

-- the parts of nonempty octets are the first part followed by the parts of what is after it
pub parts_step : (x : List ℕ) → 1 ≤ length x → parts_of x ≡ first_part x ∷ parts_of (drop (part_len x) x)
unfolding parts_after
parts_step [] h = absurd (omega arith)
parts_step (b ∷ bs) h = ap (λ ps. first_part (b ∷ bs) ∷ ps) (parts_within _ b bs (part_len_within (b ∷ bs) h).0)

-- no octets, no parts
pub parts_nil : parts_of [] ≡ []
unfolding parts_after
parts_nil = refl

-- the parts of a first part followed by other octets
parts_first : (p r : List ℕ) (part : Part) → 1 ≤ length p → part_len (p ++ r) ≡ length p → first_part (p ++ r) ≡ part
    → parts_of (p ++ r) ≡ part ∷ parts_of r
parts_first p r part some long first =
    let step = parts_step (p ++ r) (omega (arith, length-append p r)) in
    let rest = drop-append_seam p r in
    cc

-- if an encoding begins the octets, it is the first part
pub encoding_fitting : {e : List ℕ} → IsEncoding e → (r : List ℕ)
    → (fitting (e ++ r) ≡ length e) × (width (e ++ r) ≡ length e)
encoding_fitting {e} p r =
    let f = fits_all p in
    let m = fits_fitting (e ++ r) (length e) (fits_more e r (length e) f.0) in
    grind (arith, get_left e r 0, fitting_wide (e ++ r))

-- the parts of an encoding followed by other octets are its character and then the parts of those octets
pub parts_encoding : {e : List ℕ} → IsEncoding e → (r : List ℕ) → parts_of (e ++ r) ≡ Char (number_of e) ∷ parts_of r
parts_encoding {e} p r =
    let f = (fits_all p).0 in
    let m = encoding_fitting p r in
    let n : part_len (e ++ r) ≡ length e = omega arith in
    parts_first e r _ f.0 n (first_whole (e ++ r) (omega arith, omega arith)
    ∙ ap (λ y. Char (number_of y)) (ap (λ k. take k (e ++ r)) n ∙ take-append_seam e r))

-- if all of the width fits, it is an encoding
pub whole_encoding : (x : List ℕ) → 1 ≤ length x → 1 ≤ width x → fitting x ≡ width x → IsEncoding (take (part_len x) x)
whole_encoding x s w m =
    let f = fits_take x (fitting x) (fitting_fits x s w) in
    subst (λ k. IsEncoding (take k x)) (let n : fitting x ≡ part_len x = omega arith in n)
    (from_fits (take (fitting x) x) f.1 (omega arith))

-- if less than the width fits, no front is an encoding
no_encoding : (x e : List ℕ) → IsShort x → StartsWith e x → ¬ IsEncoding e
no_encoding x e h (r, same) p =
    let f = (fits_all p).0 in grind (arith, encoding_fitting p r, ap fitting same, ap width same)

-- a front that is a beginning is no longer than what fits, and there is a width
pub beginning_fitting : (x q : List ℕ) → StartsWith q x → IsBeginning q → (length q ≤ fitting x) × (1 ≤ width x)
beginning_fitting x q (r, same) b =
    let f = fits_more q r (length q) (beginning_fits b) in
    grind (arith, fits_fitting (q ++ r) (length q) f, ap fitting same, ap width same)

-- what fits, if it is less than the width, is a beginning
pub fitting_beginning : (x : List ℕ) → 1 ≤ length x → 1 ≤ width x → fitting x < width x
    → IsBeginning (take (fitting x) x)
fitting_beginning x s w m =
    let f = fits_take x (fitting x) (fitting_fits x s w) in beginning_from (take (fitting x) x) f.1 (omega arith)

-- the first n octets are a front
pub front_of : (x : List ℕ) (n : ℕ) → StartsWith (take n x) x
front_of x n = (drop n x, sym (take-append-drop n x))

-- the bad part of x
pub bad_of : (x : List ℕ) → 1 ≤ length x → (width x ≡ 0) ⊎ (fitting x < width x) → IsBadPart x (take (part_len x) x)
bad_of x s h = record {
  front = front_of x (part_len x);
  none = λ e. no_encoding x e h;
  longest = longest h;
}
  where
    long : length (take (part_len x) x) ≡ part_len x
    long = let within = part_len_within x s in length-take (part_len x) x ∙ omega arith

    longest : IsShort x → (IsBeginning (take (part_len x) x) × ((q : List ℕ) → StartsWith q x → IsBeginning q
        → length q ≤ length (take (part_len x) x)))
        ⊎ ((length (take (part_len x) x) ≡ 1) × ((q : List ℕ) → StartsWith q x → ¬ IsBeginning q))
    longest (inl z) = inr (omega (arith, long, fitting_wide x), λ q f b. omega (arith, beginning_fitting x q f b))
    longest (inr z) =
        let f = fitting_fits x s (omega arith) in
        let n : fitting x ≡ part_len x = omega arith in
        inl (
          subst (λ k. IsBeginning (take k x)) n (fitting_beginning x s (omega arith) z),
          λ q g b. omega (arith, long, beginning_fitting x q g b),
        )

-- a bad part has at least one octet, and so do the octets that it is a part of
pub bad_some : {x p : List ℕ} → IsBadPart x p → (1 ≤ length p) × (length p ≤ length x)
bad_some {x} {p} b = (
  ⊎_elim (λ h. (beginning_fits h.0).0) (λ h. omega arith) b.longest,
  omega (arith, ap length b.front.1, length-append p b.front.0),
)

-- a bad part has at most three octets
pub bad_length : {x p : List ℕ} → IsBadPart x p → length p ≤ 3
bad_length {x} {p} b =
    ⊎_elim (λ h. omega (arith, beginning_short h.0, width_le (get_or p 0 0))) (λ h. omega arith) b.longest

-- there is only one bad part
pub bad_only : (x p : List ℕ) → IsBadPart x p → ((width x ≡ 0) ⊎ (fitting x < width x)) × (length p ≡ part_len x)
bad_only x p b = go (whole_or x)
  where
    some : 1 ≤ length x
    some = let s = bad_some b in omega arith

    long : IsShort x → (IsBeginning p × ((q : List ℕ) → StartsWith q x → IsBeginning q → length q ≤ length p))
        ⊎ ((length p ≡ 1) × ((q : List ℕ) → StartsWith q x → ¬ IsBeginning q)) → length p ≡ part_len x
    long (inl z) (inl g) = absurd (omega (arith, beginning_fitting x p b.front g.0))
    long (inl z) (inr g) = omega (arith, fitting_wide x)
    long (inr z) (inl g) =
        let k = beginning_fitting x p b.front g.0 in
        let f = fits_take x (fitting x) (fitting_fits x some k.1) in
        let most = g.1 (take (fitting x) x) (front_of x (fitting x)) (fitting_beginning x some k.1 z) in
        omega arith
    long (inr z) (inr g) =
        absurd (g.1 (take (fitting x) x) (front_of x (fitting x)) (fitting_beginning x some (omega arith) z))

    go : IsWhole x ⊎ IsShort x → IsShort x × (length p ≡ part_len x)
    go (inl h) = absurd (b.none _ (front_of x (part_len x)) (whole_encoding x some h.0 h.1))
    go (inr h) = (h, long h b.longest)

-- if no encoding begins the octets, the bad part is the first part
pub parts_bad : (p r : List ℕ) → IsBadPart (p ++ r) p → parts_of (p ++ r) ≡ Bad p ∷ parts_of r
parts_bad p r b =
    let only = bad_only (p ++ r) p b in
    parts_first p r _ (bad_some b).0 (sym only.1) (first_bad (p ++ r) only.0
    ∙ ap Bad (ap (λ k. take k (p ++ r)) (sym only.1) ∙ take-append_seam p r))

-- any splitting is the one that the finder reads
pub only_parts : {x : List ℕ} {parts : List Part} → Splits x parts → parts ≡ parts_of x
only_parts nothing = sym parts_nil
only_parts (encoding {e} {rest = r} {parts} p s) = ap (λ ps. Char (number_of e) ∷ ps) (only_parts s)
    ∙ sym (parts_encoding p r)
only_parts (bad_part {bad = p} {rest = r} {parts} b s) = ap (λ ps. Bad p ∷ ps) (only_parts s) ∙ sym (parts_bad p r b)

-- two splittings are equal
pub one_splitting : {x : List ℕ} {parts others : List Part} → Splits x parts → Splits x others → parts ≡ others
one_splitting s t = only_parts s ∙ sym (only_parts t)

-- the first part, and then a splitting of the rest
splits_first : (x : List ℕ) (ps : List Part) → 1 ≤ length x → Splits (drop (part_len x) x) ps
    → Splits x (first_part x ∷ ps)
splits_first x ps some s = subst (λ y. Splits y (first_part x ∷ ps)) cut (go (whole_or x))
  where
    cut : take (part_len x) x ++ drop (part_len x) x ≡ x
    cut = take-append-drop (part_len x) x

    go : IsWhole x ⊎ IsShort x → Splits (take (part_len x) x ++ drop (part_len x) x) (first_part x ∷ ps)
    go (inl w) = rw (first_whole x w) (encoding (whole_encoding x some w.0 w.1) s)
    go (inr w) =
        rw (first_bad x w) (bad_part (subst (λ y. IsBadPart y (take (part_len x) x)) (sym cut) (bad_of x some w)) s)

splits_within : (k : ℕ) (x : List ℕ) → length x ≤ k → Splits x (parts_of x)
splits_within k [] h = subst (Splits []) (sym parts_nil) nothing
splits_within zero (b ∷ bs) h = absurd (omega arith)
splits_within (suc k) (b ∷ bs) h = subst (Splits (b ∷ bs)) (sym (parts_step (b ∷ bs) (omega arith)))
    (splits_first (b ∷ bs) _ (omega arith) (splits_within k (drop (part_len (b ∷ bs)) (b ∷ bs))
    (omega (arith, length-drop (part_len (b ∷ bs)) (b ∷ bs), part_len_within (b ∷ bs)))))

-- octets split into the parts that are read from them
pub splits : (x : List ℕ) → Splits x (parts_of x)
splits x = splits_within (length x) x (omega arith)

-- What is at the front of octets, by how many fit.

-- all of the width fits
pub front_encoding : (x : List ℕ) → 0 < length x → width x ≢ 0 → fitting x ≡ width x → IsAtFront x (Encoding (width x))
front_encoding x some lead same =
    let n : part_len x ≡ width x = omega arith in
    let whole = whole_encoding x some (omega arith) same in
    (omega (arith, fitting_within x some), subst (λ k. IsEncoding (take k x)) n whole)

-- no encoding is at the front, so the first part is bad
front_bad : (x : List ℕ) → 0 < length x → IsShort x → (size : Option ℕ) (n : ℕ) → n ≡ part_len x
    → IsFaultSize (take n x) (drop n x) size → IsBadFront x size n
front_bad x some short size n e s = record {
  within = omega (arith, part_len_within x some);
  few = grind (arith, fitting_wide x, width_le (get_or x 0 0));
  bad = subst (λ k. IsBadPart x (take k x)) (sym e) (bad_of x some short);
  size = s;
}

-- the bad part isn't a beginning that reaches the end
front_sized : (x : List ℕ) → 0 < length x → IsShort x → (n : ℕ) → n ≡ part_len x
    → ¬ (IsBeginning (take n x) × (drop n x ≡ [])) → IsAtFront x (BadFront (Some n))
front_sized x some short n e more =
    front_bad x some short (Some n) n e
    (inr (ap Some (omega (arith, length-take n x, part_len_within x some)), more))

-- no encoding begins with the first octet
pub front_lead : (x : List ℕ) → 0 < length x → width x ≡ 0 → IsAtFront x (BadFront (Some 1))
front_lead x some none =
    front_sized x some (inl none) 1 (omega (arith, fitting_wide x))
    (λ b. omega (arith, beginning_fitting x _ (front_of x 1) b.0))

-- the octets end within an encoding
pub front_cut : (x : List ℕ) → 0 < length x → width x ≢ 0 → fitting x ≢ width x → fitting x ≡ length x
    → IsAtFront x (BadFront None)
front_cut x some lead short whole =
    let less : fitting x < width x = omega (arith, fitting_wide x) in
    front_bad x some (inr less) None (length x) (omega arith)
    (inl (
      refl,
      subst (λ k. IsBeginning (take k x)) whole (fitting_beginning x some (omega arith) less),
      drop_all (length x) x (omega arith),
    ))

-- the next octet is one that the encoding can't have there
pub front_other : (x : List ℕ) → 0 < length x → width x ≢ 0 → fitting x ≢ width x → fitting x ≢ length x
    → IsAtFront x (BadFront (Some (fitting x)))
front_other x some lead short more =
    front_sized x some (inr (omega (arith, fitting_wide x))) (fitting x)
    (omega (arith, fitting_fits x some (omega arith)))
    (λ b. absurd (more (omega (arith, length-drop (fitting x) x, ap length b.1, fitting_within x some))))

-- if the second octet is not a continuation, at most one octet fits, and that is less than the first one requires
fitting_one : (x : List ℕ) → 0x80 ≤ get_or x 0 0 → is_in_range 0x80 0xBF (get_or x 1 0) ≡ false
    → IsShort x × (fitting x ≤ 1)
unfolding width_of least_second greatest_second fitting_by
fitting_one x high second = grind (arith, nat_tests)

-- and the first octet, 80 or more, is the bad part
pub front_second : (x : List ℕ) → 1 < length x → 0x80 ≤ get_or x 0 0 → is_in_range 0x80 0xBF (get_or x 1 0) ≡ false
    → IsAtFront x (BadFront (Some 1))
front_second x more high second =
    let one = fitting_one x high second in
    front_sized x (omega arith) one.0 1 (omega arith) (λ b. omega (arith, length-drop 1 x, ap length b.1))

width_stray : (a : ℕ) → is_in_range 0x80 0xBF a ≡ true → width_of a ≡ 0
unfolding width_of
width_stray a h = grind (arith, nat_tests)

-- an octet of 80 to BF at the front is the bad part
pub front_stray : (x : List ℕ) → 0 < length x → is_in_range 0x80 0xBF (get_or x 0 0) ≡ true
    → IsAtFront x (BadFront (Some 1))
front_stray x some stray = front_lead x some (width_stray (get_or x 0 0) stray)
