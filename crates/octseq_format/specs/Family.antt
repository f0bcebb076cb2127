-- What a number decides, its key: a format for each number.
use Rattle.std.specs.Prelude.{◌≡◌, ℕ, ◌+◌, ◌-◌, ◌≤◌, ◌⊎◌, List, ◌++◌, length, map, refl}
use Rattle.std.proofs.Common.{inl, inr, sym, ap, ◌∙◌, subst, take, drop, arith, append_assoc, append-nil}
use Rattle.std.proofs.lemmas.List.{length-map}
use Rattle.std.specs.Coded.{Coded-set, coded_ℕ}
use Rattle.std.specs.List.{AllByRecursion}
use Rattle.octseq.specs.Window.{Window, left, next, past, nested, rest}
use Rattle.octseq.proofs.WindowsAfter.{front_comes_next}
use Rattle.octseq.proofs.Windows.{next_and_rest}
use Rattle.octseq_format.specs.Canonical.{IsCanonical, many_next, sound_nested, sound_on}
use Rattle.octseq_format.specs.Laws.{Relation, TakesOctets, IsOne, IsOnward, IsReadBack, IsDelimited, back_of}
use Rattle.octseq_format.specs.Row.{Row, Many, row_octets, row_next, onward_row, one_many}
use Rattle.octseq_format.specs.Row.{each_once, row_written, sound_row}

-- What is at a window's position, after a key.
abbrev pub ByKey : Type 0 → Type 1
ByKey A = ℕ → Relation A

-- ---- one number has a format
abbrev pub IsCase : {A : Type 0} → ℕ → Relation A → ByKey A
IsCase n Is key w a v = (key ≡ n) × Is w a v

abbrev pub CaseFits : {S : Type 0} → ℕ → (S → Type 0) → ℕ → S → Type 0
CaseFits n Fits key said = Fits said × (key ≡ n)

-- ---- any number, which is kept
abbrev pub IsOther : {A : Type 0} → Relation A → ByKey (ℕ × A)
IsOther Is key w other v = (other.0 ≡ key) × Is w other.1 v

abbrev pub other_says : {A S : Type 0} → (A → S) → ℕ × A → ℕ × S
other_says says other = (other.0, says other.1)

abbrev pub OtherFits : {S : Type 0} → (S → Type 0) → ℕ → ℕ × S → Type 0
OtherFits Fits key said = Fits said.1 × (said.0 ≡ key)

-- ---- the first of two that covers the number
abbrev pub IsEither : {A B : Type 0} → (ℕ → Type 0) → ByKey A → ByKey B → ByKey (A ⊎ B)
IsEither Covers Is Other key w (inl a) v = Covers key × Is key w a v
IsEither Covers Is Other key w (inr b) v = (¬ Covers key) × Other key w b v

abbrev pub either_says : {A B S T : Type 0} → (A → S) → (B → T) → A ⊎ B → S ⊎ T
either_says says other (inl a) = inl (says a)
either_says says other (inr b) = inr (other b)

-- a number of each
abbrev pub either_number : {A B : Type 0} → (A → ℕ) → (B → ℕ) → A ⊎ B → ℕ
either_number first second (inl a) = first a
either_number first second (inr b) = second b

abbrev pub either_octets : {S T : Type 0} → (ℕ → S → List ℕ) → (ℕ → T → List ℕ) → ℕ → S ⊎ T → List ℕ
either_octets octets other key (inl a) = octets key a
either_octets octets other key (inr b) = other key b

abbrev pub EitherFits : {S T : Type 0} → (ℕ → Type 0) → (ℕ → S → Type 0) → (ℕ → T → Type 0) → ℕ → S ⊎ T → Type 0
EitherFits Covers Fits Other key (inl a) = Fits key a × Covers key
EitherFits Covers Fits Other key (inr b) = Other key b × (¬ Covers key)

-- ---- numbers that meet a test
abbrev pub IsWhen : {A : Type 0} → (ℕ → Type 0) → ByKey A → ByKey A
IsWhen Holds Is key w a v = Holds key × Is key w a v

abbrev pub WhenFits : {S : Type 0} → (ℕ → Type 0) → (ℕ → S → Type 0) → ℕ → S → Type 0
WhenFits Holds Fits key said = Fits key said × Holds key

-- ---- as many octets as the number says, less `extra` that it counts too

-- It takes all of the octets that the number counts.
abbrev pub IsSized : {A : Type 0} → ℕ → Relation A → ByKey A
IsSized extra Is n w a v = (extra ≤ n) × (n - extra ≤ left w)
    × Is (nested (n - extra) w) a (past (n - extra) (nested (n - extra) w)) × (v ≡ past (n - extra) w)

-- the number: `extra`, and the octets of the value
abbrev pub sized_number : {S : Type 0} → ℕ → (S → List ℕ) → S → ℕ
sized_number extra octets said = extra + length (octets said)

-- It fits, and the number counts its octets.
pub record SizedFit {S : Type 0} (extra : ℕ) (octets : S → List ℕ) (Fits : S → Type 0) (n : ℕ) (said : S) : Type 0 where
  pub inside : Fits said
  pub many : extra + length (octets said) ≡ n

-- ---- as many values as the number says

-- Each fits, and the number counts them.
pub record ManyFit {S : Type 0} (Fits : S → Type 0) (n : ℕ) (said : List S) : Type 0 where
  pub each : AllByRecursion Fits said
  pub many : length said ≡ n

-- ---- lemmas: proved below this line, so what the words mean is read above it

pub any_onward : {A : Type 0} {Is : Relation A} {least : ℕ} → IsOnward least Is → IsOnward 0 Is
any_onward onward = record {
  on = onward.on;
  less = λ w a v is. let less = onward.less w a v is in omega (arith, less);
}

module _ {A : Type 0} (n : ℕ) (Is : Relation A) where
  pub one_case : IsOne Is → (key : ℕ) → IsOne (IsCase n Is key)
  one_case one key = record { same = λ w a b u v is other. one.same w a b u v is.1 other.1 }

  pub onward_case : {least : ℕ} → IsOnward least Is → (key : ℕ) → IsOnward 0 (IsCase n Is key)
  onward_case onward key = record {
    on = λ w a v ordered is. onward.on w a v ordered is.1;
    less = λ w a v is. let less = onward.less w a v is.1 in omega (arith, less);
  }

module _ {A S : Type 0} {n : ℕ} {Is : Relation A} {says : A → S} {octets : S → List ℕ} {Fits : S → Type 0} where
  pub case_read_back : IsReadBack Is says octets Fits → (key : ℕ)
      → IsReadBack (IsCase n Is key) says octets (CaseFits n Fits key)
  case_read_back one key = record {
    back = λ w said fits is all.
        let taken = one.back w said fits.0 is all in
        record { it = taken.it; tells = taken.tells; is = (fits.1, taken.is) };
  }

  pub delimited_case : IsDelimited Is says octets Fits → (key : ℕ)
      → IsDelimited (IsCase n Is key) says octets (CaseFits n Fits key)
  delimited_case one key = record {
    next = λ w said more fits is.
        let taken = one.next w said more fits.0 is in
        record { it = taken.it; tells = taken.tells; is = (fits.1, taken.is) };
  }

module _ {A : Type 0} (Is : Relation A) where
  same_other : {a b : A} {m n : ℕ} → m ≡ n → a ≡ b → Path (ℕ × A) (m, a) (n, b)
  same_other {b = b} {m = m} keys values = ap (λ a. (m, a)) values ∙ ap (λ m. (m, b)) keys

  pub one_other : IsOne Is → (key : ℕ) → IsOne (IsOther Is key)
  one_other one key = record {
    same = λ w a b u v is other.
        let same = one.same w a.1 b.1 u v is.1 other.1 in
        (same_other (is.0 ∙ sym other.0) same.0, same.1);
  }

  pub onward_other : {least : ℕ} → IsOnward least Is → (key : ℕ) → IsOnward 0 (IsOther Is key)
  onward_other onward key = record {
    on = λ w a v ordered is. onward.on w a.1 v ordered is.1;
    less = λ w a v is. let less = onward.less w a.1 v is.1 in omega (arith, less);
  }

module _ {A S : Type 0} {Is : Relation A} {says : A → S} {octets : S → List ℕ} {Fits : S → Type 0} where
  pub other_read_back : IsReadBack Is says octets Fits → (key : ℕ)
      → IsReadBack (IsOther Is key) (other_says says) (λ (said : ℕ × S). octets said.1) (OtherFits Fits key)
  other_read_back one key = record {
    back = λ w said fits is all.
        let taken = one.back w said.1 fits.0 is all in
        record { it = (said.0, taken.it); tells = ap (λ s. (said.0, s)) taken.tells; is = (fits.1, taken.is) };
  }

  pub delimited_other : IsDelimited Is says octets Fits → (key : ℕ)
      → IsDelimited (IsOther Is key) (other_says says) (λ (said : ℕ × S). octets said.1) (OtherFits Fits key)
  delimited_other one key = record {
    next = λ w said more fits is.
        let taken = one.next w said.1 more fits.0 is in
        record { it = (said.0, taken.it); tells = ap (λ s. (said.0, s)) taken.tells; is = (fits.1, taken.is) };
  }

module _ {A B : Type 0} (Covers : ℕ → Type 0) (Is : ByKey A) (Other : ByKey B) where
  same_either : ((key : ℕ) → IsOne (Is key)) → ((key : ℕ) → IsOne (Other key)) → (key : ℕ) (w : Window)
      (a b : A ⊎ B) (u v : Window) → IsEither Covers Is Other key w a u → IsEither Covers Is Other key w b v
      → (a ≡ b) × (u ≡ v)
  same_either one others key w (inl a) (inl b) u v is other =
      let same = (one key).same w a b u v is.1 other.1 in (ap inl same.0, same.1)
  same_either one others key w (inl a) (inr b) u v is other = absurd (other.0 is.0)
  same_either one others key w (inr a) (inl b) u v is other = absurd (is.0 other.0)
  same_either one others key w (inr a) (inr b) u v is other =
      let same = (others key).same w a b u v is.1 other.1 in (ap inr same.0, same.1)

  pub one_either : ((key : ℕ) → IsOne (Is key)) → ((key : ℕ) → IsOne (Other key)) → (key : ℕ)
      → IsOne (IsEither Covers Is Other key)
  one_either one others key = record { same = same_either one others key }

  either_on : {l m : ℕ} → ((key : ℕ) → IsOnward l (Is key)) → ((key : ℕ) → IsOnward m (Other key)) → (key : ℕ)
      (w : Window) (a : A ⊎ B) (v : Window) → w.position ≤ w.end → IsEither Covers Is Other key w a v
      → (v.octets ≡ w.octets) × (v.end ≡ w.end) × (w.position ≤ v.position) × (v.position ≤ v.end)
  either_on on others key w (inl a) v ordered is = (on key).on w a v ordered is.1
  either_on on others key w (inr b) v ordered is = (others key).on w b v ordered is.1

  either_less : {l m : ℕ} → ((key : ℕ) → IsOnward l (Is key)) → ((key : ℕ) → IsOnward m (Other key)) → (key : ℕ)
      (w : Window) (a : A ⊎ B) (v : Window) → IsEither Covers Is Other key w a v → left v + 0 ≤ left w
  either_less on others key w (inl a) v is = let less = (on key).less w a v is.1 in omega (arith, less)
  either_less on others key w (inr b) v is = let less = (others key).less w b v is.1 in omega (arith, less)

  pub onward_either : {l m : ℕ} → ((key : ℕ) → IsOnward l (Is key)) → ((key : ℕ) → IsOnward m (Other key))
      → (key : ℕ) → IsOnward 0 (IsEither Covers Is Other key)
  onward_either on others key = record { on = either_on on others key; less = either_less on others key }

module _ {A B S T : Type 0} (Covers : ℕ → Type 0) {Is : ByKey A} {Other : ByKey B} {says : A → S} {tells : B → T}
    {octets : ℕ → S → List ℕ} {others : ℕ → T → List ℕ} {Fits : ℕ → S → Type 0} {OtherFits : ℕ → T → Type 0} where
  pub either_read_back : ((key : ℕ) → IsReadBack (Is key) says (octets key) (Fits key))
      → ((key : ℕ) → IsReadBack (Other key) tells (others key) (OtherFits key)) → (key : ℕ)
      → IsReadBack (IsEither Covers Is Other key) (either_says says tells) (either_octets octets others key)
      (EitherFits Covers Fits OtherFits key)
  either_read_back one more key = record { back = back } where
    back : (w : Window) (said : S ⊎ T) → EitherFits Covers Fits OtherFits key said
        → rest w ≡ either_octets octets others key said
        → w.end ≡ w.position + length (either_octets octets others key said)
        → TakesOctets (IsEither Covers Is Other key) (either_says says tells) w said
        (length (either_octets octets others key said))
    back w (inl a) fits is all =
        let taken = (one key).back w a fits.0 is all in
        record { it = inl taken.it; tells = ap inl taken.tells; is = (fits.1, taken.is) }
    back w (inr b) fits is all =
        let taken = (more key).back w b fits.0 is all in
        record { it = inr taken.it; tells = ap inr taken.tells; is = (fits.1, taken.is) }

  pub delimited_either : ((key : ℕ) → IsDelimited (Is key) says (octets key) (Fits key))
      → ((key : ℕ) → IsDelimited (Other key) tells (others key) (OtherFits key)) → (key : ℕ)
      → IsDelimited (IsEither Covers Is Other key) (either_says says tells) (either_octets octets others key)
      (EitherFits Covers Fits OtherFits key)
  delimited_either one more key = record { next = next } where
    next : (w : Window) (said : S ⊎ T) (after : List ℕ) → EitherFits Covers Fits OtherFits key said
        → rest w ≡ either_octets octets others key said ++ after
        → TakesOctets (IsEither Covers Is Other key) (either_says says tells) w said
        (length (either_octets octets others key said))
    next w (inl a) after fits is =
        let taken = (one key).next w a after fits.0 is in
        record { it = inl taken.it; tells = ap inl taken.tells; is = (fits.1, taken.is) }
    next w (inr b) after fits is =
        let taken = (more key).next w b after fits.0 is in
        record { it = inr taken.it; tells = ap inr taken.tells; is = (fits.1, taken.is) }

module _ {A : Type 0} (Holds : ℕ → Type 0) {Is : ByKey A} where
  pub one_when : ((key : ℕ) → IsOne (Is key)) → (key : ℕ) → IsOne (IsWhen Holds Is key)
  one_when one key = record { same = λ w a b u v is other. (one key).same w a b u v is.1 other.1 }

  pub onward_when : {least : ℕ} → ((key : ℕ) → IsOnward least (Is key)) → (key : ℕ)
      → IsOnward least (IsWhen Holds Is key)
  onward_when onward key = record {
    on = λ w a v ordered is. (onward key).on w a v ordered is.1;
    less = λ w a v is. (onward key).less w a v is.1;
  }

module _ {A S : Type 0} (Holds : ℕ → Type 0) {Is : ByKey A} {says : A → S} {octets : ℕ → S → List ℕ}
    {Fits : ℕ → S → Type 0} where
  pub when_read_back : ((key : ℕ) → IsReadBack (Is key) says (octets key) (Fits key)) → (key : ℕ)
      → IsReadBack (IsWhen Holds Is key) says (octets key) (WhenFits Holds Fits key)
  when_read_back one key = record {
    back = λ w said fits is all.
        let taken = (one key).back w said fits.0 is all in
        record { it = taken.it; tells = taken.tells; is = (fits.1, taken.is) };
  }

  pub delimited_when : ((key : ℕ) → IsDelimited (Is key) says (octets key) (Fits key)) → (key : ℕ)
      → IsDelimited (IsWhen Holds Is key) says (octets key) (WhenFits Holds Fits key)
  delimited_when one key = record {
    next = λ w said more fits is.
        let taken = (one key).next w said more fits.0 is in
        record { it = taken.it; tells = taken.tells; is = (fits.1, taken.is) };
  }

pub onward_sized : {A : Type 0} (extra : ℕ) (Is : Relation A) (n : ℕ) → IsOnward 0 (IsSized extra Is n)
onward_sized extra Is n = record {
  on = λ w a v ordered is.
      let position = ap (λ (x : Window). x.position) is.3 in
      let end = ap (λ (x : Window). x.end) is.3 in (
        ap (λ (x : Window). x.octets) is.3,
        end,
        omega (arith, position),
        omega (arith, position, end, is.1, ordered),
      );
  less = λ w a v is. let same = ap left is.3 in omega (arith, same);
}

sized_once : {S : Type 0} {octets : S → List ℕ} {Fits : S → Type 0} (extra : ℕ) → ((said : S) → IsProp (Fits said))
    → (n : ℕ) (said : S) → IsProp (SizedFit extra octets Fits n said)
sized_once {octets = octets} extra once n said a b =
    ap (λ inside. record { inside = inside; many = a.many }) (once said a.inside b.inside)
    ∙ ap (λ many. record { inside = b.inside; many = many })
    (Coded-set coded_ℕ (extra + length (octets said)) n a.many b.many)

module _ {A : Type 0} {extra : ℕ} {Is : Relation A} where
  pub one_sized : IsOne Is → (n : ℕ) → IsOne (IsSized extra Is n)
  one_sized one n = record {
    same = λ w a b u v is other. ((one.same (nested (n - extra) w) a b _ _ is.2 other.2).0, is.3 ∙ sym other.3);
  }

  module _ {S : Type 0} {says : A → S} {octets : S → List ℕ} {Fits : S → Type 0} where
    pub delimited_sized : IsReadBack Is says octets Fits → (n : ℕ)
        → IsDelimited (IsSized extra Is n) says octets (SizedFit extra octets Fits n)
    delimited_sized back n = record {
      next = λ w said more fits is.
          let m = n - extra in
          let o = octets said in
          let many = fits.many in
          let long : length o ≡ m = omega (arith, many) in
          let come = front_comes_next w o more m is long in
          let taken = back.back (nested m w) said fits.inside come.1 (omega (arith, long)) in
          record {
            it = taken.it;
            tells = taken.tells;
            is = (
              omega (arith, many),
              come.0,
              subst (λ k. Is (nested m w) taken.it (past k (nested m w))) long taken.is,
              ap (λ k. past k w) long,
            );
          };
    }

    pub sized_read_back : IsReadBack Is says octets Fits → (n : ℕ)
        → IsReadBack (IsSized extra Is n) says octets (SizedFit extra octets Fits n)
    sized_read_back back n = back_of (delimited_sized back n)

    pub canonical_sized : IsCanonical Is says octets Fits → (n : ℕ)
        → IsCanonical (IsSized extra Is n) says octets (SizedFit extra octets Fits n)
    canonical_sized canonical n = record {
      once = sized_once extra canonical.once n;
      written = λ w a v sound is.
          let m = n - extra in
          let o = octets (says a) in
          let inside = canonical.written (nested m w) a _ (sound_nested m w sound is.1) is.2 in
          let none : w.position + m - (w.position + m) ≡ 0 = omega arith in
          let all : next m w ≡ o =
          inside.1 ∙ ap (λ k. o ++ take k (drop (w.position + m) w.octets)) none ∙ append-nil o in
          let many : length o ≡ m = sym (ap length all) ∙ many_next m w sound is.1 in (
            record { inside = inside.0; many = omega (arith, many, is.0) },
            sym (next_and_rest w m is.1) ∙ ap (λ o. o ++ rest (past m w)) all ∙ ap (λ v. o ++ rest v) (sym is.3),
          );
      on = sound_on (onward_sized extra Is n);
    }

pub one_many_by : {A : Type 0} (Is : Relation A) → IsOne Is → (n : ℕ) → IsOne (Many n Is)
one_many_by Is one n = one_many n Is one

pub onward_many : {A : Type 0} (Is : Relation A) {least : ℕ} → IsOnward least Is → (n : ℕ) → IsOnward 0 (Many n Is)
onward_many Is onward n = record {
  on = λ w row v ordered is. (onward_row Is onward).on w row v ordered is.1;
  less = λ w row v is. (onward_row Is onward).less w row v is.1;
}

many_once : {S : Type 0} {Fits : S → Type 0} → ((said : S) → IsProp (Fits said)) → (n : ℕ) (said : List S)
    → IsProp (ManyFit Fits n said)
many_once once n said a b =
    ap (λ each. record { each = each; many = a.many }) (each_once once said a.each b.each)
    ∙ ap (λ many. record { each = b.each; many = many }) (Coded-set coded_ℕ (length said) n a.many b.many)

module _ {A S : Type 0} {Is : Relation A} {says : A → S} {octets : S → List ℕ} {Fits : S → Type 0} where
  pub delimited_many : IsDelimited Is says octets Fits → (n : ℕ)
      → IsDelimited (Many n Is) (map says) (row_octets octets) (ManyFit Fits n)
  delimited_many delimited n = record {
    next = λ w said more fits is.
        let row = row_next Is says octets Fits delimited w said more fits.each is in
        let many : length row.it ≡ length said = sym (length-map row.it says) ∙ ap length row.tells in
        record { it = row.it; tells = row.tells; is = (many ∙ fits.many, row.is) };
  }

  pub many_read_back : IsDelimited Is says octets Fits → (n : ℕ)
      → IsReadBack (Many n Is) (map says) (row_octets octets) (ManyFit Fits n)
  many_read_back delimited n = back_of (delimited_many delimited n)

  pub canonical_many : IsCanonical Is says octets Fits → (n : ℕ)
      → IsCanonical (Many n Is) (map says) (row_octets octets) (ManyFit Fits n)
  canonical_many canonical n = record {
    once = many_once canonical.once n;
    written = λ w row v sound is.
        let there = row_written canonical w row v sound is.1 in
        (record { each = there.0; many = length-map row says ∙ is.0 }, there.1);
    on = λ w row v sound is. sound_row canonical w row v sound is.1;
  }
