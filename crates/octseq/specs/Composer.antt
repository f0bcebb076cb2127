-- What a composer's call adds to a content, and when it is refused.
use Rattle.std.specs.List.{AllByRecursion}
use Rattle.std.specs.Prelude.{◌≡◌, ℕ, Bool, true, ◌+◌, ◌<◌, ◌≤◌, ◌^◌, ◌↔◌}
use Rattle.std.specs.Prelude.{Option, List, ◌++◌, length, Result, OnOk, OnErr}
use Rattle.octseq_core.specs.Limit.{ExceedsLimit}
use Rattle.octseq_core.specs.declared.builder.AppendError.{AppendError}
use Rattle.octseq.specs.Part.{part_of}
use Rattle.octseq.specs.Refusal.{IsShort, IsMemory, IsTooLong, compose_error}
use Rattle.octseq.specs.declared.compose.ComposeError.{ComposeError}
use Rattle.octseq.specs.declared.compose.ComposeError.TheVariants.{Short, Memory}

-- The octets of an integer: k of them, each from 0 to 255, with that integer as their value.
pub record AreOctetsOf {A : Type 0} (reading : List ℕ → A) (k : ℕ) (integer : A) (octets : List ℕ) : Type 0 where
  pub many : length octets ≡ k
  pub each : AllByRecursion (λ octet. octet < 256) octets
  pub value : reading octets ≡ integer

-- the error if the append of a part, or of an integer that fits its octets, was refused
abbrev pub refusal_of : AppendError → ComposeError
refusal_of (AppendError.Short e) = Short
refusal_of AppendError.Memory = Memory

-- A call adds the k octets of an integer. It is refused as too long exactly if the integer doesn't fit them, otherwise
-- as short exactly if the content would exceed its limit, and for lack of memory only if the type requests memory. A
-- refused call leaves the content unchanged.
pub record AppendsInteger (limit : Option ℕ) (asks : Bool) (result : Result (Unit {0}) ComposeError) (k integer : ℕ)
    (octets old new : List ℕ) : Type 0 where
  pub ok : OnOk result (new ≡ old ++ octets)
  pub err : OnErr result (new ≡ old)
  pub too_long : IsTooLong compose_error result ↔ (256 ^ k ≤ integer)
  pub short : IsShort compose_error result ↔ (integer < 256 ^ k) × ExceedsLimit limit (length old + length octets)
  pub memory : IsMemory compose_error result → asks ≡ true

-- A call adds a part: its length, an integer in k octets, followed by its own octets. It is refused as too long exactly
-- if its length doesn't fit, and otherwise as if all of these were the octets of that integer.
abbrev pub AppendsPart : (limit : Option ℕ) (asks : Bool) (result : Result (Unit {0}) ComposeError) (k : ℕ)
    → (part old new : List ℕ) → Type 0
AppendsPart limit asks result k part old new = AppendsInteger limit asks result k (length part) (part_of k part) old new
