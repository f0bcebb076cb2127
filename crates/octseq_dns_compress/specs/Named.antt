-- What appending a name does to a message and its targets.
use Rattle.std.specs.Prelude.{◌≡◌, ◌↔◌, ℕ, Option, List, length, Result, OnOk, OnErr}
use Rattle.octseq.specs.Limit.{ExceedsLimit, IsWithin}
use Rattle.octseq.specs.Refusal.{IsShort, append_error}
use Rattle.octseq.specs.declared.AppendError.{AppendError}
use Rattle.octseq_dns_compress.specs.Composed.{before}
use Rattle.octseq_dns_compress.specs.Sound.{MessageWithTargets, state_of}
use Rattle.octseq_dns_compress.specs.State.{with_name}
use Rattle.octseq_dns_compress.specs.declared.table.Target.{Target}

-- The octets of a name come after those of a message, and the targets are those of the names that are then there; or
-- neither changes. It fails with `Short` exactly if the message would exceed its limit.
pub record AppendsName (limit : Option ℕ) (result : Result (Unit {0}) AppendError) (labels : List (List ℕ)) {most : ℕ}
    {octets : List ℕ} {held : List Target} (old : MessageWithTargets most octets held) (new : List ℕ)
    (kept : List Target)
    : Type 0 where
  pub now : MessageWithTargets most new kept
  pub ok : OnOk result (state_of now ≡ with_name most (state_of old) labels)
  pub err : OnErr result (state_of now ≡ state_of old)
  pub held_before : before (length octets) kept ≡ held
  pub within : OnOk result (IsWithin limit (length new))
  pub short : IsShort append_error result ↔ ExceedsLimit limit (length (with_name most (state_of old) labels).octets)
