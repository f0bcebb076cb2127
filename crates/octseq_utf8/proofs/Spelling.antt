-- What octets spell: the characters are a function of the octets, and the octets a function of the characters.
use Rattle.std.proofs.Common.{◌≡◌, ℕ, true, false, cond, List, [], ◌∷◌, ◌++◌, map, length, refl, arith, ap, sym}
use Rattle.std.proofs.Common.{◌∙◌, subst}
use Rattle.std.proofs.lemmas.Bool.Decides.{nat_tests}
use Rattle.std.specs.Int.{is_in_range}
use Rattle.std.proofs.lemmas.List.{append-nil, map-append}
use Rattle.std.proofs.lemmas.List.Folds.{concat-append}
use Rattle.std.specs.List.{concat, AllByRecursion}
use Rattle.octseq_utf8.specs.Encoding.{IsEncoding, number_of}
use Rattle.octseq_utf8.specs.Reading.{width_of}
use Rattle.octseq_utf8.specs.Text.{octets_of, Spells, begins_within, put_in_front, encodings_in, chars}
use Rattle.octseq_utf8.proofs.Fits.{Fits, fits_all, second_bounds, width_le}
use Rattle.octseq_utf8.proofs.Numbers.{encoding_of-number_of}

-- The octets after the first of an encoding are within it.
pub record IsLed (e : List ℕ) : Type 0 where
  pub first : ℕ
  pub more : List ℕ
  pub whole : e ≡ first ∷ more
  pub within : AllByRecursion (λ b. is_in_range 0x80 0xBF b ≡ true) more

-- an encoding is an octet that isn't within one, and then octets that are
pub led : {e : List ℕ} → IsEncoding e → IsLed e
led {e} p = go e (fits_all p).0
  where
    inner : (a : ℕ) (more : List ℕ) → Fits (a ∷ more) (length (a ∷ more))
        → AllByRecursion (λ b. is_in_range 0x80 0xBF b ≡ true) more
    inner a [] f = tt
    inner a (b ∷ []) f = (grind (arith, nat_tests, second_bounds a), tt)
    inner a (b ∷ c ∷ []) f = (grind (arith, nat_tests, second_bounds a), (grind (arith, nat_tests), tt))
    inner a (b ∷ c ∷ d ∷ []) f =
        (grind (arith, nat_tests, second_bounds a), (grind (arith, nat_tests), (grind (arith, nat_tests), tt)))
    inner a (b ∷ c ∷ d ∷ x ∷ more) f = absurd (omega (arith, width_le a))

    go : (e : List ℕ) → Fits e (length e) → IsLed e
    go [] f = absurd (omega arith)
    go (a ∷ more) f = record { first = a; more = more; whole = refl; within = inner a more f }

-- the first octet of an encoding is not one that is within an encoding
pub begins : {e : List ℕ} → IsEncoding e → (r : List ℕ) → begins_within (e ++ r) ≡ false
unfolding width_of
begins {e} p r = go e (fits_all p).0
  where
    go : (e : List ℕ) → Fits e (length e) → begins_within (e ++ r) ≡ false
    go [] f = absurd (omega arith)
    go (a ∷ more) f = grind (arith, nat_tests)

-- an octet and then octets within the encoding are cut off as a whole
cut_led : (a : ℕ) (more r : List ℕ) → AllByRecursion (λ b. is_in_range 0x80 0xBF b ≡ true) more
    → begins_within r ≡ false → encodings_in ((a ∷ more) ++ r) ≡ (a ∷ more) ∷ encodings_in r
unfolding encodings_in
cut_led a [] r w h = ap (λ b. cond b (put_in_front a (encodings_in r)) ((a ∷ []) ∷ encodings_in r)) h
cut_led a (b ∷ more) r w h =
    ap (λ t. cond t (put_in_front a (encodings_in (b ∷ (more ++ r)))) ((a ∷ []) ∷ encodings_in (b ∷ (more ++ r)))) w.0
    ∙ ap (put_in_front a) (cut_led b more r w.1 h)

-- an encoding is cut off as a whole
cut : {e : List ℕ} → IsEncoding e → (r : List ℕ) → begins_within r ≡ false → encodings_in (e ++ r) ≡ e ∷ encodings_in r
cut {e} p r h = let l = led p in
    subst (λ y. encodings_in (y ++ r) ≡ y ∷ encodings_in r) (sym l.whole) (cut_led l.first l.more r l.within h)

-- octets that are encodings, one after another, never begin within one
pub begins_all : (es : List (List ℕ)) → AllByRecursion IsEncoding es → begins_within (concat es) ≡ false
begins_all [] h = refl
begins_all (e ∷ es) h = begins h.0 (concat es)

encodings_in-concat : (es : List (List ℕ)) → AllByRecursion IsEncoding es → encodings_in (concat es) ≡ es
unfolding encodings_in
encodings_in-concat [] h = refl
encodings_in-concat (e ∷ es) h = cut h.0 (concat es) (begins_all es h.1)
    ∙ ap (λ groups. e ∷ groups) (encodings_in-concat es h.1)

-- octets spell only their own characters
pub chars_of : {x cs : List ℕ} → Spells x cs → chars x ≡ cs
chars_of {x} {cs} s = ap chars (sym s.joined) ∙ ap (map number_of) (encodings_in-concat s.encodings s.each) ∙ s.numbers

-- octets that spell some characters spell the characters that are read from them
pub spells_chars : {x cs : List ℕ} → Spells x cs → Spells x (chars x)
spells_chars {x} {cs} s = subst (Spells x) (sym (chars_of s)) s

-- the characters' encodings are the octets
pub octets_of_numbers : (es : List (List ℕ)) → AllByRecursion IsEncoding es → octets_of (map number_of es) ≡ concat es
octets_of_numbers [] h = refl
octets_of_numbers (e ∷ es) h =
    ap (λ y. y ++ octets_of (map number_of es)) (encoding_of-number_of h.0)
    ∙ ap (λ y. e ++ y) (octets_of_numbers es h.1)

-- the characters that octets spell are encoded as those octets
pub octets_of_spelled : {x cs : List ℕ} → Spells x cs → octets_of cs ≡ x
octets_of_spelled s = ap octets_of (sym s.numbers) ∙ octets_of_numbers s.encodings s.each ∙ s.joined

-- the empty list spells no character
pub spells_nothing : Spells [] []
spells_nothing = record { encodings = []; each = tt; joined = refl; numbers = refl }

-- an encoding spells its character
pub spells_one : {e : List ℕ} → IsEncoding e → Spells e (number_of e ∷ [])
spells_one {e} p = record { encodings = e ∷ []; each = (p, tt); joined = append-nil e; numbers = refl }

-- octets that follow others spell their characters after the characters of the others

each-append : (es fs : List (List ℕ)) → AllByRecursion IsEncoding es → AllByRecursion IsEncoding fs
    → AllByRecursion IsEncoding (es ++ fs)
each-append [] fs p q = q
each-append (e ∷ es) fs p q = (p.0, each-append es fs p.1 q)

-- two joined texts spell the characters of the first followed by those of the second
pub spells-append : {x y cs ds : List ℕ} → Spells x cs → Spells y ds → Spells (x ++ y) (cs ++ ds)
spells-append {x} {cs = cs} s t = record {
  encodings = s.encodings ++ t.encodings;
  each = each-append s.encodings t.encodings s.each t.each;
  joined = concat-append s.encodings t.encodings ∙ ap (λ y. y ++ concat t.encodings) s.joined
      ∙ ap (λ y. x ++ y) t.joined;
  numbers = map-append number_of s.encodings t.encodings ∙ ap (λ y. y ++ map number_of t.encodings) s.numbers
      ∙ ap (λ y. cs ++ y) t.numbers;
}
