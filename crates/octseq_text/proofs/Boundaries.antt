-- Where characters end in well-formed octets.
use Rattle.std.proofs.Common.{◌≡◌, ℕ, zero, suc, ◌+◌, ◌-◌, ◌<◌, ◌≤◌, true, false, List, [], ◌∷◌, ◌++◌, map, length}
use Rattle.std.proofs.Common.{take, drop, slice_index, refl, arith, ⊎_elim, ap, sym, ◌∙◌, subst, length-append, ◌↔◌}
use Rattle.std.proofs.lemmas.Bool.{cases_lt}
use Rattle.std.proofs.lemmas.List.{map-append, drop-append-le, drop_all, take_all}
use Rattle.std.proofs.Math.Seq.{take-append_seam, drop-append_seam, drop-append-add}
use Rattle.std.specs.Int.{is_in_range}
use Rattle.std.specs.List.{concat, AllByRecursion}
use Rattle.octseq_utf8.specs.Encoding.{IsEncoding, number_of}
use Rattle.octseq_text.specs.TextRun.{CutsTo}
use Rattle.octseq_utf8.specs.Text.{Spells, IsWellFormed, begins_within, chars, octets_of, IsFrontOf, IsBoundary}
use Rattle.octseq_utf8.proofs.Spelling.{led, begins_all, octets_of_numbers, chars_of, octets_of_spelled}
use Rattle.std.proofs.lemmas.List.Folds.{concat-append}
use Rattle.octseq_utf8.proofs.Texts.{spelled, octets_of-chars}

within_at : (more : List ℕ) → AllByRecursion (λ b. is_in_range 0x80 0xBF b ≡ true) more → (i : ℕ) (y : List ℕ)
    → i < length more → begins_within (drop i more ++ y) ≡ true
within_at [] h i y lt = absurd (omega arith)
within_at (b ∷ more) h zero y lt = h.0
within_at (b ∷ more) h (suc i) y lt = within_at more h.1 i y (omega arith)

within_after : (first : ℕ) (more : List ℕ) → AllByRecursion (λ b. is_in_range 0x80 0xBF b ≡ true) more
    → (n : ℕ) (y : List ℕ) → 0 < n → n < length (first ∷ more)
    → begins_within (drop n (first ∷ more) ++ y) ≡ true
within_after first more h zero y some lt = absurd (omega arith)
within_after first more h (suc i) y some lt = within_at more h i y (omega arith)

within_encoding : {e : List ℕ} → IsEncoding e → (n : ℕ) (y : List ℕ) → 0 < n → n < length e
    → begins_within (drop n (e ++ y)) ≡ true
within_encoding {e} p n y some lt =
    let l = led p in
    let long : length e ≡ length (l.first ∷ l.more) = ap length l.whole in
    ap begins_within (drop-append-le n e y (omega arith)) ∙ ap (λ z. begins_within (drop n z ++ y)) l.whole
    ∙ within_after l.first l.more l.within n y some (omega arith)

-- encodings are in two groups, of which the first is n octets
abbrev IsCut : List (List ℕ) → ℕ → Type 0
IsCut es n = (front : List (List ℕ)) × (back : List (List ℕ)) × (es ≡ front ++ back) × (length (concat front) ≡ n)

cut_after : (e : List ℕ) (es : List (List ℕ)) (n : ℕ) → length e ≤ n → IsCut es (n - length e) → IsCut (e ∷ es) n
cut_after e es n ge c =
    (e ∷ c.0, c.1, ap (λ z. e ∷ z) c.2, omega (arith, c.3, length-append e (concat c.0)))

drop_after : (e y : List ℕ) (n : ℕ) → length e ≤ n → drop n (e ++ y) ≡ drop (n - length e) y
drop_after e y n ge =
    let sum : n ≡ length e + (n - length e) = omega arith in
    ap (λ k. drop k (e ++ y)) sum ∙ drop-append-add e y (n - length e)

cut_where : (es : List (List ℕ)) → AllByRecursion IsEncoding es → (n : ℕ) → n ≤ length (concat es)
    → begins_within (drop n (concat es)) ≡ false → IsCut es n
cut_where [] h n le begins = ([], [], refl, omega arith)
cut_where (e ∷ es) h n le begins =
    ⊎_elim
    (λ some. ⊎_elim
    (λ lt. let within = within_encoding h.0 n (concat es) some lt in absurd (cc))
    (λ ge. cut_after e es n ge (cut_where es h.1 (n - length e) (omega (arith, length-append e (concat es)))
    (sym (ap begins_within (drop_after e (concat es) n ge)) ∙ begins)))
    (cases_lt n (length e)))
    (λ none. ([], e ∷ es, refl, omega arith))
    (cases_lt 0 n)

each_in_front : (es fs : List (List ℕ)) → AllByRecursion IsEncoding (es ++ fs) → AllByRecursion IsEncoding es
each_in_front [] fs h = tt
each_in_front (e ∷ es) fs h = (h.0, each_in_front es fs h.1)

each_in_back : (es fs : List (List ℕ)) → AllByRecursion IsEncoding (es ++ fs) → AllByRecursion IsEncoding fs
each_in_back [] fs h = h
each_in_back (e ∷ es) fs h = each_in_back es fs h.1

-- if the octets after a place don't begin within an encoding, whole characters end there
pub boundary_from : (x : List ℕ) → IsWellFormed x → (n : ℕ) → n ≤ length x → begins_within (drop n x) ≡ false
    → IsBoundary x n
boundary_from x (cs, s) n le begins =
    let c = cut_where s.encodings s.each n (subst (λ y. n ≤ length y) (sym s.joined) le)
    (subst (λ y. begins_within (drop n y) ≡ false) (sym s.joined) begins) in
    let each = each_in_front c.0 c.1 (subst (AllByRecursion IsEncoding) c.2 s.each) in (
      map number_of c.0,
      record {
        rest = map number_of c.1;
        joined = chars_of s ∙ sym s.numbers ∙ ap (map number_of) c.2 ∙ map-append number_of c.0 c.1;
        long = ap length (octets_of_numbers c.0 each) ∙ c.3;
      },
    )

-- encodings are in two groups by their characters
in_two : (es : List (List ℕ)) (front rest : List ℕ) → map number_of es ≡ front ++ rest
    → (first : List (List ℕ)) × (second : List (List ℕ)) × (es ≡ first ++ second) × (map number_of first ≡ front)
    × (map number_of second ≡ rest)
in_two es [] rest h = ([], es, refl, refl, h)
in_two [] (c ∷ front) rest h = absurd (cc)
in_two (e ∷ es) (c ∷ front) rest h =
    let t = in_two es front rest (cc) in
    let numbers = t.3 in
    (e ∷ t.0, t.1, ap (λ z. e ∷ z) t.2, cc, t.4)

-- Octets in two parts by their characters.
pub record AreInTwo (x front rest : List ℕ) : Type 0 where
  pub before : List ℕ
  pub after : List ℕ
  pub whole : x ≡ before ++ after
  pub spells_before : Spells before front
  pub spells_after : Spells after rest

-- octets that spell a front of characters and a rest are in two parts: those of the front, and those of the rest
pub are_in_two : {x front rest : List ℕ} → Spells x (front ++ rest) → AreInTwo x front rest
are_in_two {x} {front} {rest} s =
    let t = in_two s.encodings front rest s.numbers in
    let each = subst (AllByRecursion IsEncoding) t.2 s.each in
    let first = each_in_front t.0 t.1 each in
    let second = each_in_back t.0 t.1 each in
    record {
      before = concat t.0;
      after = concat t.1;
      whole = sym s.joined ∙ ap concat t.2 ∙ concat-append t.0 t.1;
      spells_before = record { encodings = t.0; each = first; joined = refl; numbers = t.3 };
      spells_after = record { encodings = t.1; each = second; joined = refl; numbers = t.4 };
    }

-- the octets before and after a boundary are texts
pub at_boundary : (x : List ℕ) → IsWellFormed x → (n : ℕ) (front : List ℕ) (f : IsFrontOf (chars x) n front)
    → AreInTwo x front f.rest
at_boundary x w n front f = are_in_two (subst (Spells x) f.joined (spelled x w))

length_before : {x front rest : List ℕ} (t : AreInTwo x front rest) → length t.before ≡ length (octets_of front)
length_before t = sym (ap length (octets_of_spelled t.spells_before))

-- if the characters of the front have n octets, the first n octets spell them
pub take_before : (x : List ℕ) (n : ℕ) {front rest : List ℕ} (t : AreInTwo x front rest) → length (octets_of front) ≡ n
    → take n x ≡ t.before
take_before x n t long =
    ap (λ y. take n y) t.whole ∙ ap (λ k. take k (t.before ++ t.after)) (sym (length_before t ∙ long))
    ∙ take-append_seam t.before t.after

drop_before : (x : List ℕ) (n : ℕ) {front rest : List ℕ} (t : AreInTwo x front rest) → length (octets_of front) ≡ n
    → drop n x ≡ t.after
drop_before x n t long =
    ap (λ y. drop n y) t.whole ∙ ap (λ k. drop k (t.before ++ t.after)) (sym (length_before t ∙ long))
    ∙ drop-append_seam t.before t.after

begins_spelled : {x cs : List ℕ} → Spells x cs → begins_within x ≡ false
begins_spelled s = sym (ap begins_within s.joined) ∙ begins_all s.encodings s.each

-- a boundary is within the octets, and the octets after it don't begin within an encoding
pub from_boundary : (x : List ℕ) → IsWellFormed x → (n : ℕ) → IsBoundary x n
    → (n ≤ length x) × (begins_within (drop n x) ≡ false)
from_boundary x w n (front, f) =
    let t = at_boundary x w n front f in
    let whole : length x ≡ length (t.before ++ t.after) = ap length t.whole in
    let long = length_before t in
    let n_long = f.long in (
      omega (arith, length-append t.before t.after),
      ap begins_within (drop_before x n t f.long)
          ∙ begins_spelled t.spells_after,
    )

-- well-formed octets stay well formed if they are cut at a boundary, at their end or past it
pub well_formed-cut : (x : List ℕ) → IsWellFormed x → (n : ℕ) → (n < length x → IsBoundary x n)
    → IsWellFormed (take n x)
well_formed-cut x w n h = ⊎_elim (λ lt. cut_at (h lt)) (λ ge. subst IsWellFormed (sym (take_all n x ge)) w)
    (cases_lt n (length x))
  where
    cut_at : IsBoundary x n → IsWellFormed (take n x)
    cut_at (front, f) = let t = at_boundary x w n front f in
        (front, subst (λ y. Spells y front) (sym (take_before x n t f.long)) t.spells_before)

-- a cut of octets is a cut of their characters
pub cuts_to : (x y : List ℕ) (n : ℕ) → y ≡ take n x → IsWellFormed x → (n < length x → IsBoundary x n)
    → CutsTo n (chars x) (chars y)
cuts_to x y n e w h =
    let long : length (octets_of (chars x)) ≡ length x = ap length (octets_of-chars x w) in (
      λ ge. ap chars (e ∙ take_all n x (omega arith)),
      λ lt. cut_at (h (omega arith)),
    )
  where
    cut_at : IsBoundary x n → IsFrontOf (chars x) n (chars y)
    cut_at (front, f) =
        let t = at_boundary x w n front f in
        let same : chars y ≡ front = ap chars (e ∙ take_before x n t f.long) ∙ chars_of t.spells_before in
        subst (λ z. IsFrontOf (chars x) n z) (sym same) f

-- whether octets begin within an encoding, by the first of them
begins_at : (x : List ℕ) (n : ℕ) → n < length x → begins_within (drop n x) ≡ is_in_range 0x80 0xBF (slice_index x n)
begins_at [] n lt = absurd (omega arith)
begins_at (b ∷ x) zero lt = refl
begins_at (b ∷ x) (suc n) lt = begins_at x n (omega arith)

-- before the end, a place is a boundary exactly if its octet isn't within an encoding
pub boundary_here : (x : List ℕ) → IsWellFormed x → (n : ℕ) → n < length x
    → (is_in_range 0x80 0xBF (slice_index x n) ≡ false) ↔ IsBoundary x n
boundary_here x w n lt = (
  λ h. boundary_from x w n (omega arith) (begins_at x n lt ∙ h),
  λ b. sym (begins_at x n lt) ∙ (from_boundary x w n b).1,
)

-- from the end on, only the end is a boundary
pub boundary_end : (x : List ℕ) → IsWellFormed x → (n : ℕ) → length x ≤ n → (n ≡ length x) ↔ IsBoundary x n
boundary_end x w n ge = (
  λ e. boundary_from x w n (omega arith) (ap begins_within (drop_all n x ge)),
  λ b. let le = (from_boundary x w n b).0 in omega arith,
)
