-- Streams of frames: a header, and as many octets as it says, one after another.
use Rattle.std.specs.Prelude.{◌≡◌, ℕ, ◌<◌, ◌++◌, if◌then◌else◌, Bool, List, [], length}
use Rattle.octseq.specs.Code.{HasFront}

-- what a frame holds of its header
abbrev pub kept_of : Bool → List ℕ → List ℕ
kept_of is_kept header = if is_kept then header else []

-- A header of this many octets: any octets that follow it, as many as it says, make a frame with it.
pub record IsFramingHeader (size : ℕ) (is_kept : Bool) (Fits : List ℕ → Type 0) (code : List ℕ → List ℕ)
    (header : List ℕ)
    (more : ℕ) : Type 0 where
  pub long : length header ≡ size
  pub fits : (octets : List ℕ) → length octets ≡ more → Fits (kept_of is_kept header ++ octets)
  pub whole : (octets : List ℕ) → length octets ≡ more
      → code (kept_of is_kept header ++ octets) ≡ header ++ octets

-- octets at the end of a stream that are a frame cut short: at least one, not misframed, and without a frame at their
-- front
abbrev pub IsCut : (List ℕ → Type 0) → (List ℕ → List ℕ) → (List ℕ → Type 0) → List ℕ → Type 0
IsCut Fits code IsMisframed octets = (0 < length octets) × ¬ IsMisframed octets × ¬ HasFront Fits code octets
