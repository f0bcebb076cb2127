-- What an append does.
use Rattle.std.specs.Prelude.{◌≡◌, ℕ, Bool, true, ◌+◌, ◌↔◌, Option, List, ◌++◌, length, Result, OnOk, OnErr}
use Rattle.octseq_core.specs.Limit.{ExceedsLimit}
use Rattle.octseq_core.specs.Refusal.{IsShort, IsMemory, append_error}
use Rattle.octseq_core.specs.declared.builder.AppendError.{AppendError}

-- A call adds the octets at the end of a content. It is refused as short exactly if the content would exceed its limit,
-- and for lack of memory only if the type requests memory. A refused call leaves the content unchanged.
pub record Appends (limit : Option ℕ) (asks : Bool) (result : Result (Unit {0}) AppendError)
    (octets old new : List ℕ) : Type 0 where
  pub ok : OnOk result (new ≡ old ++ octets)
  pub err : OnErr result (new ≡ old)
  pub short : IsShort append_error result ↔ ExceedsLimit limit (length old + length octets)
  pub memory : IsMemory append_error result → asks ≡ true
