-- Numbers whose octets show how many there are.
use Rattle.std.specs.Prelude.{◌≡◌, ℕ, suc, ◌+◌, ◌-◌, ◌<◌, ◌≤◌, List, [], ◌∷◌, ◌++◌, length}
use Rattle.std.specs.Prelude.{slice_index, slice_range, refl}
use Rattle.std.proofs.Common.{take, drop, sym, ap, ◌∙◌, subst, arith, length-append, length-take-le, get_or-take}
use Rattle.std.proofs.Math.Seq.{take-append_seam}
use Rattle.std.proofs.lemmas.List.{take-append-drop}
use Rattle.octseq.specs.Window.{Window, left, rest, past}
use Rattle.octseq.proofs.Codes.{length_rest}
use Rattle.octseq.proofs.Windows.{rest_past}
use Rattle.octseq_format.specs.Canonical.{AreOctets, IsCanonical, each_taken, each_dropped, sound_on}
use Rattle.octseq_format.specs.Laws.{Relation, NoneAt, IsOne, IsOnward, IsDelimited}

-- The first k octets are a whole encoding, and are read as the number.
pub record Leads (Whole : List ℕ → Type 0) (reading : List ℕ → ℕ) (octets : List ℕ) (number k : ℕ) : Type 0 where
  pub few : k ≤ length octets
  pub whole : Whole (take k octets)
  pub value : number ≡ reading (take k octets)

-- no encoding leads
abbrev pub NoneLeads : (List ℕ → Type 0) → List ℕ → Type 0
NoneLeads Whole octets = (k : ℕ) → k ≤ length octets → Whole (take k octets) → ⊥

-- A whole encoding of the number comes next, and the second window is past it.
pub record IsVarying (Whole : List ℕ → Type 0) (reading : List ℕ → ℕ) (w : Window) (number : ℕ)
    (v : Window) : Type 0 where
  pub many : ℕ
  pub leads : Leads Whole reading (rest w) number many
  pub past : v ≡ past many w

-- An encoding has an octet, and none is the front of another.
pub record AreEncodingsApart (Whole : List ℕ → Type 0) : Type 0 where
  pub some : (xs : List ℕ) → Whole xs → 0 < length xs
  pub same : (xs : List ℕ) (j k : ℕ) → j ≤ length xs → k ≤ length xs → Whole (take j xs) → Whole (take k xs) → j ≡ k

-- The octets of a number that fits are an encoding of it.
pub record AreRead (Whole : List ℕ → Type 0) (reading : List ℕ → ℕ) (octets : ℕ → List ℕ)
    (Fits : ℕ → Type 0) : Type 0 where
  pub whole : (n : ℕ) → Fits n → Whole (octets n)
  pub back : (n : ℕ) → Fits n → reading (octets n) ≡ n

-- Each encoding is the octets of its number.
pub record AreWritten (Whole : List ℕ → Type 0) (reading : List ℕ → ℕ) (octets : ℕ → List ℕ)
    (Fits : ℕ → Type 0) : Type 0 where
  pub once : (n : ℕ) → IsProp (Fits n)
  pub written : (xs : List ℕ) → AreOctets xs → Whole xs → Fits (reading xs) × (octets (reading xs) ≡ xs)

-- ---- encodings whose first octet says how many there are

-- There are as many octets as the first one says.
abbrev pub IsAsLong : (ℕ → ℕ) → List ℕ → Type 0
IsAsLong long xs = length xs ≡ long (slice_index xs 0)

-- ---- lemmas: proved below this line, so what the words mean is read above it

module _ {Whole : List ℕ → Type 0} (reading : List ℕ → ℕ) (apart : AreEncodingsApart Whole) where
  pub one_varying : IsOne (IsVarying Whole reading)
  one_varying = record {
    same = λ w a b u v is other.
        let first = is.leads in
        let second = other.leads in
        let same = apart.same (rest w) is.many other.many first.few second.few first.whole second.whole in (
          first.value ∙ ap (λ k. reading (take k (rest w))) same ∙ sym second.value,
          is.past ∙ ap (λ k. past k w) same ∙ sym other.past,
        );
  }

  pub onward_varying : IsOnward 1 (IsVarying Whole reading)
  onward_varying = record {
    on = λ w a v ordered is.
        let position = ap (λ (x : Window). x.position) is.past in
        let end = ap (λ (x : Window). x.end) is.past in
        let room = length_rest w in
        let few = is.leads.few in (
          ap (λ (x : Window). x.octets) is.past,
          end,
          omega (arith, position),
          omega (arith, position, end, room, few, ordered),
        );
    less = λ w a v is.
        let same = ap left is.past in
        let room = length_rest w in
        let few = is.leads.few in
        let long = length-take-le is.many (rest w) few in
        let some = apart.some (take is.many (rest w)) is.leads.whole in
        omega (arith, same, room, few, long, some);
  }

module _ {Whole : List ℕ → Type 0} {reading : List ℕ → ℕ} {octets : ℕ → List ℕ} {Fits : ℕ → Type 0} where
  pub delimited_varying : AreRead Whole reading octets Fits
      → IsDelimited (IsVarying Whole reading) (λ n. n) octets Fits
  delimited_varying are = record {
    next = λ w n more fits is.
        let k = length (octets n) in
        let taken : take k (rest w) ≡ octets n = ap (take k) is ∙ take-append_seam (octets n) more in
        let all = ap length is ∙ length-append (octets n) more in
        record {
          it = n;
          tells = refl;
          is = record {
            many = k;
            leads = record {
              few = omega (arith, all);
              whole = subst Whole (sym taken) (are.whole n fits);
              value = sym (are.back n fits) ∙ ap reading (sym taken);
            };
            past = refl;
          };
        };
  }

  pub canonical_varying : AreEncodingsApart Whole → AreWritten Whole reading octets Fits
      → IsCanonical (IsVarying Whole reading) (λ n. n) octets Fits
  canonical_varying apart are = record {
    once = are.once;
    written = λ w n v sound is.
        let k = is.many in
        let xs = take k (rest w) in
        let room = length_rest w in
        let few = is.leads.few in
        let each = each_taken k (rest w) (each_taken (left w) (drop w.position w.octets)
        (each_dropped w.position w.octets sound.each)) in
        let back = are.written xs each is.leads.whole in (
          subst Fits (sym is.leads.value) back.0,
          sym (take-append-drop k (rest w))
              ∙ ap (λ more. xs ++ more) (rest_past w v k (omega (arith, few, room)) is.past)
              ∙ ap (λ xs. xs ++ rest v) (sym back.1 ∙ ap octets (sym is.leads.value)),
        );
    on = sound_on (onward_varying reading apart);
  }

first_taken : (xs : List ℕ) (k : ℕ) → 0 < k → slice_index (take k xs) 0 ≡ slice_index xs 0
first_taken xs k some = get_or-take k xs 0 0 some

module _ (long : ℕ → ℕ) (some : (first : ℕ) → 0 < long first) where
  pub apart_long : AreEncodingsApart (IsAsLong long)
  apart_long = record {
    some = λ xs whole. let least = some (slice_index xs 0) in omega (arith, whole, least);
    same = λ xs j k few less one other.
        let first = length-take-le j xs few in
        let second = length-take-le k xs less in
        let a = some (slice_index (take j xs) 0) in
        let b = some (slice_index (take k xs) 0) in
        let x = ap long (first_taken xs j (omega (arith, one, first, a))) in
        let y = ap long (first_taken xs k (omega (arith, other, second, b))) in
        omega (arith, first, second, one, other, x, y);
  }

  -- so many lead
  pub long_leads : (xs : List ℕ) (k : ℕ) → k ≤ length xs → k ≡ long (slice_index xs 0) → IsAsLong long (take k xs)
  long_leads xs k few says =
      let least = some (slice_index xs 0) in
      let same = ap long (first_taken xs k (omega (arith, says, least))) in
      let all = length-take-le k xs few in
      omega (arith, all, same, says)

  -- there are fewer
  pub none_long : (xs : List ℕ) → length xs < long (slice_index xs 0) → NoneLeads (IsAsLong long) xs
  none_long xs short k few whole =
      let all = length-take-le k xs few in
      let least = some (slice_index (take k xs) 0) in
      let same = ap long (first_taken xs k (omega (arith, whole, all, least))) in
      omega (arith, short, few, whole, all, same)

-- the octets after the first of so many
pub after_one : (xs : List ℕ) (k : ℕ) → suc k ≤ length xs → drop 1 (take (suc k) xs) ≡ slice_range xs 1 (suc k)
after_one [] k few = absurd (omega (arith, few))
after_one (x ∷ xs) k few = let same : k ≡ suc k - 1 = omega arith in ap (λ k. take k xs) same

-- ---- what leads a window
pub none_varying : {Whole : List ℕ → Type 0} {reading : List ℕ → ℕ} (w : Window) → NoneLeads Whole (rest w)
    → NoneAt (IsVarying Whole reading) w
none_varying w none number v is = none is.many is.leads.few is.leads.whole
