-- The last character of well-formed octets, read from the end.
use Rattle.std.proofs.Common.{◌≡◌, ◌≢◌, ℕ, ◌+◌, ◌-◌, ◌*◌, ◌<◌, ◌≤◌, List, [], ◌∷◌, ◌++◌, length, take, get_or}
use Rattle.std.proofs.Common.{◌⊎◌, inl, inr, slice_index, refl, arith, ap, sym, ◌∙◌, subst, length-append, append_assoc}
use Rattle.std.proofs.lemmas.List.{append-nil, get_or-append-add}
use Rattle.std.proofs.Math.Seq.{take-append_seam}
use Rattle.std.specs.Int.{IsInRange}
use Rattle.std.specs.List.{concat, AllByRecursion}
use Rattle.std.specs.Char.{IsScalar}
use Rattle.octseq_utf8.specs.Encoding.{IsEncoding, row_00_7F, row_C2_DF, row_E0, row_E1_EC, row_ED}
use Rattle.octseq_utf8.specs.Encoding.{row_EE_EF, row_F0, row_F1_F3, row_F4, number_of, encoding_of}
use Rattle.octseq_utf8.specs.Text.{Spells, IsWellFormed, chars, EndsWithCharacter}
use Rattle.octseq_utf8.proofs.Bridge.{scalar_from}
use Rattle.octseq_utf8.proofs.Numbers.{encoding_of-number_of, number_is_character}
use Rattle.octseq_utf8.proofs.Numbers.{number_of_1, number_of_2, number_of_3, number_of_4}
use Rattle.octseq_utf8.proofs.Spelling.{chars_of, spells_nothing, spells_one, spells-append}

-- Octets followed by a last encoding.
record Ending (x : List ℕ) : Type 0 where
  before : List ℕ
  characters : List ℕ
  last : List ℕ
  spelled : Spells before characters
  encoding : IsEncoding last
  whole : x ≡ before ++ last

last_of : (e : List ℕ) (es : List (List ℕ)) → AllByRecursion IsEncoding (e ∷ es) → Ending (concat (e ∷ es))
last_of e [] h = record {
  before = [];
  characters = [];
  last = e;
  spelled = spells_nothing;
  encoding = h.0;
  whole = append-nil e;
}
last_of e (f ∷ es) h =
    let t = last_of f es h.1 in
    record {
      before = e ++ t.before;
      characters = number_of e ∷ t.characters;
      last = t.last;
      spelled = spells-append (spells_one h.0) t.spelled;
      encoding = t.encoding;
      whole = ap (λ y. e ++ y) t.whole ∙ sym (append_assoc e t.before t.last);
    }

ending_of : (x : List ℕ) (es : List (List ℕ)) → AllByRecursion IsEncoding es → concat es ≡ x → 0 < length x → Ending x
ending_of x [] h joined some = let n = ap length joined in absurd (omega arith)
ending_of x (e ∷ es) h joined some = subst Ending joined (last_of e es h)

ending : (x : List ℕ) → IsWellFormed x → 0 < length x → Ending x
ending x (cs, s) some = ending_of x s.encodings s.each s.joined some

ends_with : {x : List ℕ} (t : Ending x) (c : ℕ) → number_of t.last ≡ c → EndsWithCharacter x c
ends_with {x} t c n = record {
  before = t.before;
  text = (t.characters, t.spelled);
  whole = t.whole ∙ ap (λ e. t.before ++ e) (sym (ap encoding_of (sym n) ∙ encoding_of-number_of t.encoding));
  characters = ap chars t.whole ∙ chars_of (spells-append t.spelled (spells_one t.encoding))
      ∙ ap (λ cs. cs ++ number_of t.last ∷ []) (sym (chars_of t.spelled))
      ∙ ap (λ b. chars t.before ++ b ∷ []) n;
}

-- the octets end with a character that has k octets
abbrev pub EndsIn : ℕ → List ℕ → ℕ → Type 0
EndsIn k x c = EndsWithCharacter x c × (k ≡ length (encoding_of c))

ends_in : {x : List ℕ} (t : Ending x) (k c : ℕ) → length t.last ≡ k → number_of t.last ≡ c → EndsIn k x c
ends_in t k c long n =
    (ends_with t c n, sym (ap length (ap encoding_of (sym n) ∙ encoding_of-number_of t.encoding) ∙ long))

scalar : {x : List ℕ} (t : Ending x) (c : ℕ) → number_of t.last ≡ c → IsScalar c
scalar t c n = subst IsScalar n (scalar_from (number_of t.last) (number_is_character t.encoding))

-- the octet k places before the end
abbrev from_end : List ℕ → ℕ → ℕ
from_end x k = slice_index x (length x - k)

octet : (x before e : List ℕ) (i k : ℕ) → x ≡ before ++ e → length e ≡ i + k → 0 < k → from_end x k ≡ get_or e i 0
octet x before e i k whole long some =
    let n : length x - k ≡ length before + i = let l = ap length whole in omega (arith, length-append before e) in
    ap (λ j. get_or x j 0) n ∙ ap (λ y. get_or y (length before + i) 0) whole ∙ get_or-append-add before e i 0

-- The last encoding by its width, and its octets by their places from the end.
abbrev Width : List ℕ → List ℕ → Type 0
Width x e = ((length e ≡ 1) × (from_end x 1 < 0x80) × (number_of e ≡ from_end x 1))
    ⊎ (((length e ≡ 2) × (2 ≤ length x) × (0xC0 ≤ from_end x 2) × (0x80 ≤ from_end x 1)
    × (number_of e ≡ (from_end x 2 - 0xC0) * 64 + (from_end x 1 - 0x80)))
    ⊎ (((length e ≡ 3) × (3 ≤ length x) × (0xE0 ≤ from_end x 3) × (0x80 ≤ from_end x 2) × (from_end x 2 ≤ 0xBF)
    × (0x80 ≤ from_end x 1)
    × (number_of e ≡ (from_end x 3 - 0xE0) * 4096 + (from_end x 2 - 0x80) * 64 + (from_end x 1 - 0x80)))
    ⊎ ((length e ≡ 4) × (4 ≤ length x) × (0xF0 ≤ from_end x 4) × (0x80 ≤ from_end x 3) × (from_end x 3 ≤ 0xBF)
    × (0x80 ≤ from_end x 2) × (from_end x 2 ≤ 0xBF) × (0x80 ≤ from_end x 1)
    × (number_of e ≡ (from_end x 4 - 0xF0) * 262144 + (from_end x 3 - 0x80) * 4096 + (from_end x 2 - 0x80) * 64
    + (from_end x 1 - 0x80)))))

one : (x before : List ℕ) (a : ℕ) → x ≡ before ++ a ∷ [] → a < 0x80 → Width x (a ∷ [])
one x before a whole p =
    let a' = octet x before (a ∷ []) 0 1 whole refl (omega arith) in
    inl (refl, omega arith, number_of_1 a ∙ sym a')

two : (x before : List ℕ) (a b : ℕ) → x ≡ before ++ a ∷ b ∷ [] → 0xC0 ≤ a → 0x80 ≤ b → Width x (a ∷ b ∷ [])
two x before a b whole p q =
    let n = ap length whole in
    let a' = octet x before (a ∷ b ∷ []) 0 2 whole refl (omega arith) in
    let b' = octet x before (a ∷ b ∷ []) 1 1 whole refl (omega arith) in
    inr (inl (
      refl,
      omega (arith, length-append before (a ∷ b ∷ [])),
      omega arith,
      omega arith,
      number_of_2 a b _ (omega arith),
    ))

three : (x before : List ℕ) (a b c : ℕ) → x ≡ before ++ a ∷ b ∷ c ∷ [] → 0xE0 ≤ a → IsInRange 0x80 0xBF b → 0x80 ≤ c
    → Width x (a ∷ b ∷ c ∷ [])
three x before a b c whole p q r =
    let n = ap length whole in
    let a' = octet x before (a ∷ b ∷ c ∷ []) 0 3 whole refl (omega arith) in
    let b' = octet x before (a ∷ b ∷ c ∷ []) 1 2 whole refl (omega arith) in
    let c' = octet x before (a ∷ b ∷ c ∷ []) 2 1 whole refl (omega arith) in
    inr (inr (inl (
      refl,
      omega (arith, length-append before (a ∷ b ∷ c ∷ [])),
      omega arith,
      omega arith,
      omega arith,
      omega arith,
      number_of_3 a b c _ (omega arith),
    )))

four : (x before : List ℕ) (a b c d : ℕ) → x ≡ before ++ a ∷ b ∷ c ∷ d ∷ [] → 0xF0 ≤ a → IsInRange 0x80 0xBF b
    → IsInRange 0x80 0xBF c → 0x80 ≤ d → Width x (a ∷ b ∷ c ∷ d ∷ [])
four x before a b c d whole p q r s =
    let n = ap length whole in
    let a' = octet x before (a ∷ b ∷ c ∷ d ∷ []) 0 4 whole refl (omega arith) in
    let b' = octet x before (a ∷ b ∷ c ∷ d ∷ []) 1 3 whole refl (omega arith) in
    let c' = octet x before (a ∷ b ∷ c ∷ d ∷ []) 2 2 whole refl (omega arith) in
    let d' = octet x before (a ∷ b ∷ c ∷ d ∷ []) 3 1 whole refl (omega arith) in
    inr (inr (inr (
      refl,
      omega (arith, length-append before (a ∷ b ∷ c ∷ d ∷ [])),
      omega arith,
      omega arith,
      omega arith,
      omega arith,
      omega arith,
      omega arith,
      number_of_4 a b c d _ (omega arith),
    )))

width_of_last : (x before : List ℕ) {e : List ℕ} → x ≡ before ++ e → IsEncoding e → Width x e
width_of_last x before w (row_00_7F {a} p) = one x before a w (omega arith)
width_of_last x before w (row_C2_DF {a} {b} p q) = two x before a b w (omega arith) (omega arith)
width_of_last x before w (row_E0 {a} {b} {c} p q r) =
    three x before a b c w (omega arith) (omega arith, omega arith) (omega arith)
width_of_last x before w (row_E1_EC {a} {b} {c} p q r) = three x before a b c w (omega arith) q (omega arith)
width_of_last x before w (row_ED {a} {b} {c} p q r) =
    three x before a b c w (omega arith) (omega arith, omega arith) (omega arith)
width_of_last x before w (row_EE_EF {a} {b} {c} p q r) = three x before a b c w (omega arith) q (omega arith)
width_of_last x before w (row_F0 {a} {b} {c} {d} p q r s) =
    four x before a b c d w (omega arith) (omega arith, omega arith) r (omega arith)
width_of_last x before w (row_F1_F3 {a} {b} {c} {d} p q r s) = four x before a b c d w (omega arith) q r (omega arith)
width_of_last x before w (row_F4 {a} {b} {c} {d} p q r s) =
    four x before a b c d w (omega arith) (omega arith, omega arith) r (omega arith)

-- the last encoding, read from the end: p, q, r and s are the last four octets

module _ (x : List ℕ) (w : IsWellFormed x) (some : length x ≢ 0) {p : ℕ} (is_p : p ≡ from_end x 1) where
  last : Ending x
  last = ending x w (omega arith)

  width : Width x last.last
  width = width_of_last x last.before last.whole last.encoding

  pub ends_1 : p < 0x80 → EndsIn 1 x p
  ends_1 low = let w = width in ends_in last 1 p (grind arith) (grind arith)

  pub more_1 : 0x80 ≤ p → 2 ≤ length x
  more_1 high = let w = width in grind arith

  module _ (high : 0x80 ≤ p) {q : ℕ} (is_q : q ≡ from_end x 2) where
    pub ends_2 : 0xC0 ≤ q → EndsIn 2 x ((q - 0xC0) * 64 + (p - 0x80))
    ends_2 leads = let w = width in ends_in last 2 _ (grind arith) (grind arith)

    pub more_2 : q < 0xC0 → (3 ≤ length x) × (0x80 ≤ q)
    more_2 inside = let w = width in (grind arith, grind arith)

    module _ (inside : q < 0xC0) {r : ℕ} (is_r : r ≡ from_end x 3) where
      abbrev number_3 : ℕ
      number_3 = (r - 0xE0) * 4096 + (q - 0x80) * 64 + (p - 0x80)

      pub ends_3 : 0xE0 ≤ r → IsScalar number_3 × EndsIn 3 x number_3
      ends_3 leads =
          let w = width in
          let same : number_of last.last ≡ number_3 = grind arith in
          (scalar last _ same, ends_in last 3 _ (grind arith) same)

      pub more_3 : r < 0xE0 → (4 ≤ length x) × (0x80 ≤ r)
      more_3 inside_too = let w = width in (grind arith, grind arith)

      module _ (inside_too : r < 0xE0) {s : ℕ} (is_s : s ≡ from_end x 4) where
        abbrev number_4 : ℕ
        number_4 = (s - 0xF0) * 262144 + (r - 0x80) * 4096 + (q - 0x80) * 64 + (p - 0x80)

        pub ends_4 : (0xF0 ≤ s) × IsScalar number_4 × EndsIn 4 x number_4
        ends_4 =
            let w = width in
            let same : number_of last.last ≡ number_4 = grind arith in
            (grind arith, scalar last _ same, ends_in last 4 _ (grind arith) same)

-- a text without its last character

-- the encoding of a last character is no longer than the octets that end with it
pub encoding_short : (x : List ℕ) (c : ℕ) → EndsWithCharacter x c → length (encoding_of c) ≤ length x
encoding_short x c e = let long = ap length e.whole in omega (arith, length-append e.before (encoding_of c))

without_last : (x : List ℕ) (c n : ℕ) (e : EndsWithCharacter x c) → n ≡ length x - length (encoding_of c)
    → take n x ≡ e.before
without_last x c n e cut =
    let long = ap length e.whole in
    let here : n ≡ length e.before = omega (arith, length-append e.before (encoding_of c)) in
    ap (λ k. take k x) here ∙ ap (λ y. take (length e.before) y) e.whole ∙ take-append_seam e.before (encoding_of c)

-- The text y is x without its last character, which is c.
pub record IsPopped (x y : List ℕ) (c : ℕ) : Type 0 where
  pub text : IsWellFormed y
  pub octets : x ≡ y ++ encoding_of c
  pub characters : chars x ≡ chars y ++ c ∷ []

-- a text whose end is cut by the length of its last encoding is the text without its last character
pub popped : (x y : List ℕ) (c n : ℕ) → EndsWithCharacter x c → n ≡ length x - length (encoding_of c) → y ≡ take n x
    → IsPopped x y c
popped x y c n e cut taken =
    let same : e.before ≡ y = sym (taken ∙ without_last x c n e cut) in
    subst (λ z. IsPopped x z c) same (record { text = e.text; octets = e.whole; characters = e.characters })
