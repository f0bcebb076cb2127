-- Items, each after its tag, up to the tag that ends them.
use Rattle.std.specs.Prelude.{◌≡◌, ◌≢◌, ℕ, ◌+◌, Bool, ◌&&◌, IsTrue, Option, Some, None, List, [], ◌∷◌, ◌++◌, length}
use Rattle.std.specs.Prelude.{map, refl}
use Rattle.std.proofs.Common.{sym, ap, ◌∙◌, subst, arith, append_assoc}
use Rattle.std.specs.Coded.{×_prop}
use mathlib.Core.HLevel.{⊥_prop}
use Rattle.std.specs.List.{AllByRecursion}
use Rattle.octseq.specs.Window.{Window, rest, past}
use Rattle.octseq.proofs.WindowsAfter.{front_comes_next}
use Rattle.octseq_format.specs.Canonical.{IsCanonical, both_ways}
use Rattle.octseq_format.specs.Family.{ByKey, IsWhen, WhenFits, one_when, onward_when, delimited_when}
use Rattle.octseq_format.specs.Laws.{Relation, NoneAt, IsOne, IsOnward, IsReadBack, IsDelimited, back_of}
use Rattle.octseq_format.specs.Pair.{past_both}
use Rattle.octseq_format.specs.Row.{Row, row_octets, row_next, onward_row, each_once, row_written, sound_row}
use Rattle.octseq_format.specs.Tagged.{Tagged, tagged_octets, TaggedFits, one_tagged, onward_tagged, delimited_tagged}
use Rattle.octseq_format.specs.Tagged.{canonical_tagged}

-- another number than n
abbrev pub IsNot : ℕ → ℕ → Type 0
IsNot n key = key ≢ n

-- an item after its tag, which isn't n
abbrev pub IsItem : {A : Type 0} → ℕ → Relation ℕ → ByKey A → Relation A
IsItem n Number Is = Tagged Number (IsWhen (IsNot n) Is)

-- an item, or none where the tag is n
abbrev pub IsNextItem : {A : Type 0} → ℕ → Relation ℕ → ByKey A → Relation (Option A)
IsNextItem n Number Is w None v = Number w n v
IsNextItem n Number Is w (Some a) v = IsItem n Number Is w a v

-- items up to the tag n, and that tag
abbrev pub IsUntil : {A : Type 0} → ℕ → Relation ℕ → ByKey A → Relation (List A)
IsUntil n Number Is w row v = (u : Window) × Row (IsItem n Number Is) w row u × Number u n v

-- the octets of each item, and those of the tag n
abbrev pub until_octets : {S : Type 0} → ℕ → (ℕ → List ℕ) → (S → ℕ) → (ℕ → S → List ℕ) → List S → List ℕ
until_octets n number tag octets said = row_octets (tagged_octets number tag octets) said ++ number n

-- Each item fits, with another tag than n, and n has octets.
pub record UntilFits {S : Type 0} (n : ℕ) (Number : ℕ → Type 0) (tag : S → ℕ) (Fits : ℕ → S → Type 0)
    (said : List S) : Type 0 where
  pub each : AllByRecursion (TaggedFits Number tag (WhenFits (IsNot n) Fits)) said
  pub ends : Number n

-- ---- lemmas: proved below this line, so what the words mean is read above it

module _ {A : Type 0} (n : ℕ) {Number : Relation ℕ} (Is : ByKey A) (number : IsOne Number) where
  -- an offset has an item, or the tag n, but not both
  pub no_item : (w : Window) (a : A) (u v : Window) → IsItem n Number Is w a u → Number w n v → ⊥
  no_item w a u v is ends = is.3.0 (number.same w is.0 n is.1 v is.2 ends).0

  -- if neither an item nor the tag n is there, nothing is past another tag
  pub none_item : (w v : Window) (tag : ℕ) → Number w tag v → NoneAt (IsNextItem n Number Is) w → NoneAt (Is tag) v
  none_item w v tag is none a u item =
      none (Some a) u (tag, v, is, ((λ same. none None v (subst (λ k. Number w k v) same is)), item))

  same_until : IsOne (IsItem n Number Is) → (w : Window) (row others : List A) (u v x y : Window)
      → Row (IsItem n Number Is) w row u → Number u n v → Row (IsItem n Number Is) w others x → Number x n y
      → (row ≡ others) × (v ≡ y)
  same_until one w [] [] u v x y is ends other also =
      (refl, (number.same w n n v y (subst (λ u. Number u n v) is ends) (subst (λ u. Number u n y) other also)).1)
  same_until one w [] (b ∷ others) u v x y is ends other also =
      absurd (no_item w b other.0 v other.1 (subst (λ u. Number u n v) is ends))
  same_until one w (a ∷ row) [] u v x y is ends other also =
      absurd (no_item w a is.0 y is.1 (subst (λ u. Number u n y) other also))
  same_until one w (a ∷ row) (b ∷ others) u v x y is ends other also =
      let here = one.same w a b is.0 other.0 is.1 other.1 in
      let more = same_until one other.0 row others u v x y
      (subst (λ w. Row (IsItem n Number Is) w row u) here.1 is.2) ends other.2 also in
      (ap (λ a. a ∷ row) here.0 ∙ ap (λ more. b ∷ more) more.0, more.1)

  pub one_until : ((key : ℕ) → IsOne (Is key)) → IsOne (IsUntil n Number Is)
  one_until one = record {
    same = λ w row others u v is other.
        same_until (one_tagged number (one_when (IsNot n) one)) w row others is.0 u other.0 v is.1 is.2 other.1 other.2;
  }

module _ {A : Type 0} (n : ℕ) {Number : Relation ℕ} {Is : ByKey A} {least : ℕ} (number : IsOnward least Number)
    (onward : (key : ℕ) → IsOnward 0 (Is key)) where
  pub onward_until : IsOnward least (IsUntil n Number Is)
  onward_until =
      let items = onward_row (IsItem n Number Is) (onward_tagged number (onward_when (IsNot n) onward)) in
      record {
        on = λ w row v ordered is.
            let first = items.on w row is.0 ordered is.1 in
            let ends = number.on is.0 n v (omega (arith, first.1, first.2, first.3)) is.2 in
            (ends.0 ∙ first.0, ends.1 ∙ first.1, omega (arith, first.2, ends.2), ends.3);
        less = λ w row v is.
            let first = items.less w row is.0 is.1 in
            let ends = number.less is.0 n v is.2 in
            omega (arith, first, ends);
      }

module _ {A S : Type 0} (n : ℕ) {Number : Relation ℕ} {Is : ByKey A} {says : A → S} {number : ℕ → List ℕ}
    {NumberFits : ℕ → Type 0} {tag : S → ℕ} {octets : ℕ → S → List ℕ} {Fits : ℕ → S → Type 0} where
  pub delimited_until : IsDelimited Number (λ n. n) number NumberFits
      → ((key : ℕ) → IsDelimited (Is key) says (octets key) (Fits key))
      → IsDelimited (IsUntil n Number Is) (map says) (until_octets n number tag octets)
      (UntilFits n NumberFits tag Fits)
  delimited_until one each = record {
    next = λ w said more fits is.
        let items = tagged_octets number tag octets in
        let x = row_octets items said in
        let y = number n in
        let apart : rest w ≡ x ++ (y ++ more) = is ∙ append_assoc x y more in
        let come = front_comes_next w x (y ++ more) (length x) apart refl in
        let row = row_next (IsItem n Number Is) says items (TaggedFits NumberFits tag (WhenFits (IsNot n) Fits))
        (delimited_tagged one (delimited_when (IsNot n) each)) w said (y ++ more) fits.each apart in
        let ends = one.next (past (length x) w) n more fits.ends come.2 in
        record {
          it = row.it;
          tells = row.tells;
          is = (
            past (length x) w,
            row.is,
            subst (λ k. Number (past (length x) w) k (past (length (x ++ y)) w)) ends.tells
                (subst (Number (past (length x) w) ends.it) (past_both w x y) ends.is),
          );
        };
  }

  pub until_read_back : IsDelimited Number (λ n. n) number NumberFits
      → ((key : ℕ) → IsDelimited (Is key) says (octets key) (Fits key))
      → IsReadBack (IsUntil n Number Is) (map says) (until_octets n number tag octets)
      (UntilFits n NumberFits tag Fits)
  until_read_back one each = back_of (delimited_until one each)

-- ---- written as they were read

-- a key is another number than n in at most one way
not_once : (n key : ℕ) → IsProp (IsNot n key)
not_once n key = hlevel ⊥_prop

until_once : {S : Type 0} (n : ℕ) {NumberFits : ℕ → Type 0} {tag : S → ℕ} {Fits : ℕ → S → Type 0}
    → ((said : List S) → IsProp (AllByRecursion (TaggedFits NumberFits tag (WhenFits (IsNot n) Fits)) said))
    → ((m : ℕ) → IsProp (NumberFits m)) → (said : List S) → IsProp (UntilFits n NumberFits tag Fits said)
until_once n each ends said a b =
    ap (λ fits. record { each = fits; ends = a.ends }) (each said a.each b.each)
    ∙ ap (λ fits. record { each = b.each; ends = fits }) (ends n a.ends b.ends)

module _ {A S : Type 0} (n : ℕ) {Is : ByKey A} {says : A → S} {octets : ℕ → S → List ℕ} {Fits : ℕ → S → Type 0} where
  pub canonical_unless : ((key : ℕ) → IsCanonical (Is key) says (octets key) (Fits key)) → (key : ℕ)
      → IsCanonical (IsWhen (IsNot n) Is key) says (octets key) (WhenFits (IsNot n) Fits key)
  canonical_unless each key = record {
    once = λ said. ×_prop ((each key).once said) (not_once n key);
    written = λ w a v sound is.
        let there = (each key).written w a v sound is.1 in
        ((there.0, is.0), there.1);
    on = λ w a v sound is. (each key).on w a v sound is.1;
  }

  module _ {Number : Relation ℕ} {number : ℕ → List ℕ} {NumberFits : ℕ → Type 0} {tag : S → ℕ} where
    pub canonical_until : IsCanonical Number (λ n. n) number NumberFits
        → ((key : ℕ) → IsCanonical (Is key) says (octets key) (Fits key))
        → ((key : ℕ) (said : S) → Fits key said → tag said ≡ key)
        → IsCanonical (IsUntil n Number Is) (map says) (until_octets n number tag octets)
        (UntilFits n NumberFits tag Fits)
    canonical_until one family told =
        let item = canonical_tagged one (canonical_unless family) (λ key said fits. told key said fits.0) in
        let items = tagged_octets number tag octets in
        record {
          once = until_once n (each_once item.once) one.once;
          written = λ w row v sound is.
              let u = is.0 in
              let there = row_written item w row u sound is.1 in
              let ends = one.written u n v (sound_row item w row u sound is.1) is.2 in
              let x = row_octets items (map says row) in (
                record { each = there.0; ends = ends.0 },
                there.1 ∙ ap (λ o. x ++ o) ends.1 ∙ sym (append_assoc x (number n) (rest v)),
              );
          on = λ w row v sound is. one.on is.0 n v (sound_row item w row is.0 sound is.1) is.2;
        }

    pub canonical_ended : {a b : Bool} → (IsTrue a → IsCanonical Number (λ n. n) number NumberFits)
        → (IsTrue b → (key : ℕ) → IsCanonical (Is key) says (octets key) (Fits key))
        → (IsTrue b → (key : ℕ) (said : S) → Fits key said → tag said ≡ key) → IsTrue (a && b)
        → IsCanonical (IsUntil n Number Is) (map says) (until_octets n number tag octets)
        (UntilFits n NumberFits tag Fits)
    canonical_ended one family told both =
        let ways = both_ways _ _ both in
        canonical_until (one ways.0) (family ways.1) (told ways.1)
