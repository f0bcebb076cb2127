-- Frames are read from the front of octets in one way.
use Rattle.std.proofs.Common.{◌≡◌, ◌<◌, ◌≤◌, ◌∷◌, ◌++◌, ◌∙◌, ℕ, List, [], length, take, refl, sym, ap, append_assoc}
use Rattle.std.proofs.Common.{arith}
use Rattle.std.proofs.lemmas.List.{length-append, take-append-le}
use Rattle.std.specs.List.{AllByRecursion, flat_map}
use Rattle.octseq.proofs.Codes.{halves}
use Rattle.octseq.specs.Code.{HasFront, IsCode}

-- if no frame is at the front of either rest, octets are one list of frames and one rest
pub one_reading : (Fits : List ℕ → Type 0) (code : List ℕ → List ℕ) → IsCode Fits code
    → (frames others : List (List ℕ)) (x y : List ℕ) → AllByRecursion Fits frames → AllByRecursion Fits others
    → ¬ HasFront Fits code x → ¬ HasFront Fits code y → flat_map code frames ++ x ≡ flat_map code others ++ y
    → (frames ≡ others) × (x ≡ y)
one_reading Fits code apart [] [] x y each all none also e = (refl, e)
one_reading Fits code apart [] (b ∷ others) x y each (fits, all) none also e =
    absurd (none (b, flat_map code others ++ y, fits, e ∙ append_assoc (code b) (flat_map code others) y))
one_reading Fits code apart (a ∷ frames) [] x y (fits, each) all none also e =
    absurd (also (a, flat_map code frames ++ x, fits, sym e ∙ append_assoc (code a) (flat_map code frames) x))
one_reading Fits code apart (a ∷ frames) (b ∷ others) x y (fits, each) (suits, all) none also e =
    let first = apart a b (flat_map code frames ++ x) (flat_map code others ++ y) fits suits
    (sym (append_assoc (code a) (flat_map code frames) x) ∙ e ∙ append_assoc (code b) (flat_map code others) y) in
    let rest = one_reading Fits code apart frames others x y each all none also first.1 in
    (ap (λ a. a ∷ frames) first.0 ∙ ap (λ frames. b ∷ frames) rest.0, rest.1)

module _ (header : ℕ) (Fits : List ℕ → Type 0) (code : List ℕ → List ℕ) (size : List ℕ → ℕ)
    (whole : (octets : List ℕ) → Fits octets
    → (header ≤ length (code octets)) × (length (code octets) ≡ size (take header (code octets))))
    (one : (octets others : List ℕ) → Fits octets → Fits others → code octets ≡ code others → octets ≡ others) where
  -- frames whose headers say how many octets they have are a code
  pub apart : IsCode Fits code
  apart a b x y fits also e =
      let first = whole a fits in
      let other = whole b also in
      let heads : take header (code a) ≡ take header (code b) =
      sym (take-append-le header (code a) x first.0) ∙ ap (take header) e ∙ take-append-le header (code b) y other.0 in
      let both = halves (code a) (code b) x y (first.1 ∙ ap size heads ∙ sym other.1) e in
      (one a b fits also both.0, both.1)

  -- fewer octets than a header don't begin with a frame
  pub no_header : (octets : List ℕ) → length octets < header → ¬ HasFront Fits code octets
  no_header octets few (a, more, fits, e) =
      let long = (whole a fits).0 in
      let same = ap length e in
      let all = length-append (code a) more in
      omega (arith, few, long, same, all)
