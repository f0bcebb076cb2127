-- A message to be written: its header, and what follows it: RFC 4271, 4.1, and RFC 8654 for the maximum length.
use Rattle.std.specs.Prelude.{◌≡◌, ℕ, ◌≤◌, Bool, if◌then◌else◌, Option, Some, List, [], length}
use Rattle.octseq_bgp.specs.Composed.{least, message_octets}

-- the maximum length of a message: 4,096 octets, or 65,535 if it may be extended
abbrev pub max_length : Bool → ℕ
max_length extended = if extended then 65535 else 4096

-- the smaller of a maximum and the limit of a builder
abbrev pub limit_of : ℕ → Option ℕ → Option ℕ
limit_of most limit = Some (least most limit)

-- a KEEPALIVE: RFC 4271, 4.4
abbrev pub keepalive_octets : List ℕ
keepalive_octets = message_octets 4 []

-- A message while it is written: the builder of its octets, what it says, and its maximum length.
pub record WritingMessage (B M : Type 0) : Type 0 where
  pub octets : B
  pub message : M
  pub most : ℕ

-- Octets are the message that is found in them, which fits, and at most `most`.
pub record IsWrittenMessage {M : Type 0} (octets : M → List ℕ) (Fits : M → Type 0) (found : List ℕ → M) (most : ℕ)
    (content : List ℕ) : Type 0 where
  pub are : content ≡ octets (found content)
  pub fits : Fits (found content)
  pub within : length content ≤ most
  pub few : most ≤ 65535
