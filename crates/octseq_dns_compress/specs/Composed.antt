-- A message that is being composed, as contracts see it.
use Rattle.std.specs.Prelude.{◌≡◌, ℕ, Option, Some, None, List, length, min, nat_lt, Result, OnOk, filter}
use Rattle.octseq.specs.Limit.{ExceedsLimit, IsWithin}
use Rattle.octseq.specs.Refusal.{IsShort, IsMemory, append_error}
use Rattle.octseq.specs.declared.AppendError.{AppendError}
use Rattle.octseq_dns_compress.specs.State.{State}
use Rattle.octseq_dns_compress.specs.declared.table.Target.{Target}

-- The builder and the table; the octets, with the names that pointers may lead to; the same for the part before the
-- last entry; and the offset of data whose length isn't written yet, or 0.
pub record Composed (B T : Type 0) : Type 0 where
  pub octets : B
  pub table : T
  pub state : State
  pub begun : State
  pub data_start : ℕ

-- the greatest length of a message: 65,535 octets, or the limit of the builder if that is less
abbrev pub message_limit : Option ℕ → Option ℕ
message_limit None = Some 65535
message_limit (Some limit) = Some (min limit 65535)

-- the targets before an offset
abbrev pub before : ℕ → List Target → List Target
before place targets = filter (λ target. nat_lt target.at place) targets

-- A call changes the state of a message to the wanted one. It fails with `Short` only if the wanted octets exceed the
-- limit, and with `Memory` only if a request for memory may be refused. The part before the last entry and the offset
-- of data don't change.
pub record Composes {B T : Type 0} (limit : Option ℕ) (Asks : Type 0) (result : Result (Unit {0}) AppendError)
    (wanted : State) (old new : Composed B T) : Type 0 where
  pub ok : OnOk result (new.state ≡ wanted)
  pub within : OnOk result (IsWithin limit (length wanted.octets))
  pub short : IsShort append_error result → ExceedsLimit limit (length wanted.octets)
  pub memory : IsMemory append_error result → Asks
  pub begun : new.begun ≡ old.begun
  pub data_start : new.data_start ≡ old.data_start
