-- A reader's octets are fed until its end.
use Rattle.std.proofs.Common.{ℕ, List, ◌++◌, Option, Some}
use Rattle.std.proofs.KnownBytes.{Consumes-trans}
use Rattle.std.specs.Io.KnownBytes.{Consumes}
use Rattle.octseq_tool.specs.Out.{Makes, Out}
use Rattle.octseq_tool.specs.declared.engine.Command.{Command}
use Rattle.octseq_tool.specs.declared.engine.Status.{Status}

-- The octets that were fed are those that the reader gave.
pub record IsFed {F : Type 0} (has_read : F → List ℕ → Type 0) (given left : Option (List ℕ)) (fed : F) : Type 0 where
  pub octets : List ℕ
  pub consumed : Consumes given left octets
  pub read : has_read fed octets

module _ {F : Type 0} {has_read : F → List ℕ → Type 0} {given left : Option (List ℕ)} {fed : F}
    (so_far : IsFed has_read given left fed) (now : Option (List ℕ)) where
  -- octets that are fed next are those that the reader gives next
  pub fed_more : (after : F) (octets : List ℕ) → Consumes left now octets
      → ((before : List ℕ) → has_read fed before → has_read after (before ++ octets)) → IsFed has_read given now after
  fed_more after octets consumed more = record {
    octets = so_far.octets ++ octets;
    consumed = Consumes-trans given left now so_far.octets octets so_far.consumed consumed;
    read = more so_far.octets so_far.read;
  }

  -- one more read was consumed
  pub lost_more : ((read : List ℕ) × Consumes left now read) → (read : List ℕ) × Consumes given now read
  lost_more (read, consumed) =
      (so_far.octets ++ read, Consumes-trans given left now so_far.octets read so_far.consumed consumed)

-- what a command makes, by what it says of the input
pub makes : {command : Command} {given left : Option (List ℕ)} {output : List ℕ} {status : Status} (input : List ℕ)
    → Out (Some command) input output status → Consumes given left input → Makes command given left output status
makes input made consumed = record { input = input; consumed = consumed; made = made }
