-- A message while it is written: RFC 4271, 4.1.
use Rattle.std.specs.Prelude.{◌≡◌, ℕ, ◌+◌, ◌<◌, ◌↔◌, Bool, true, Option, Some, None, List, ◌++◌, length, min}
use Rattle.std.specs.Prelude.{replicate, Result, OnOk, OnErr, refl}
use Rattle.std.proofs.Common.{ap, ◌∙◌, length-append}
use Rattle.octseq.specs.Integer.{octets_be}
use Rattle.octseq.specs.Refusal.{IsMalformed, IsShort, IsMemory, Refusal}

-- a header: 16 octets of 255, the length of the message, and its type
unfoldable pub header_octets : ℕ → ℕ → List ℕ
header_octets length kind = replicate 16 255 ++ (octets_be 2 length ++ octets_be 1 kind)

-- a message of a type
abbrev pub message_octets : ℕ → List ℕ → List ℕ
message_octets kind body = header_octets (19 + length body) kind ++ body

-- the greatest length of a message of at most `most` octets in a builder with a limit
abbrev pub least : ℕ → Option ℕ → ℕ
least most None = most
least most (Some limit) = min limit most

-- A call makes a message the wanted one, or leaves it unchanged. It is refused as short exactly if the message would
-- exceed its greatest length, and for lack of memory only if the type requests memory.
pub record Extends {E : Type 0} (says : E → Refusal) (most : ℕ) (asks : Bool) (result : Result (Unit {0}) E)
    (wanted old new : List ℕ) : Type 0 where
  pub ok : OnOk result (new ≡ wanted)
  pub err : OnErr result (new ≡ old)
  pub fits : ¬ IsMalformed says result
  pub short : IsShort says result ↔ (most < length wanted)
  pub memory : IsMemory says result → asks ≡ true

-- ---- lemmas: proved below this line, so what the words mean is read above it

-- its number of octets
pub header_long : (n kind : ℕ) → length (header_octets n kind) ≡ 19
unfolding header_octets octets_be
header_long n kind = refl

pub long_after : (n kind : ℕ) (body : List ℕ) → length (header_octets n kind ++ body) ≡ 19 + length body
long_after n kind body = length-append (header_octets n kind) body ∙ ap (λ n. n + length body) (header_long n kind)
