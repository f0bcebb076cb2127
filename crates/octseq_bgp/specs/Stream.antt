-- Streams of messages, one after another: RFC 4271, 4.1, and RFC 8654 for the maximum length.
use Rattle.std.specs.List.{All}
use Rattle.std.specs.Prelude.{◌≡◌, if◌then◌else◌, ℕ, ◌+◌, ◌<◌, ◌≤◌, ◌⊎◌, List, length, take, slice_range}
use Rattle.octseq.specs.Code.{HasFront}
use Rattle.octseq.specs.Integer.{be}
use Rattle.octseq_bgp.specs.declared.session.SessionConfig.{SessionConfig}

-- the maximum number of octets of a message of the session
abbrev pub longest_message : SessionConfig → ℕ
longest_message s = if s.extended_message then 65535 else 4096

-- the length in octets 17 and 18
abbrev pub message_length : List ℕ → ℕ
message_length octets = be (slice_range octets 16 18)

-- the first 16 octets, or all if there are fewer, are 255
abbrev pub IsMarked : List ℕ → Type 0
IsMarked octets = All (λ octet. octet ≡ 255) (take 16 octets)

-- The octets are framed as one message of the session: 16 octets of 255, and their own length in two octets. There are
-- at least 19, and at most as many as the session allows.
pub record IsFramed (s : SessionConfig) (octets : List ℕ) : Type 0 where
  pub marked : IsMarked octets
  pub whole : length octets ≡ message_length octets
  pub least : 19 ≤ length octets
  pub most : length octets ≤ longest_message s

-- A marker and a length that a message of the session may have: `more` octets follow.
pub record IsFrameHeader (s : SessionConfig) (octets : List ℕ) (more : ℕ) : Type 0 where
  pub marked : IsMarked octets
  pub long : length octets ≡ 18
  pub says : 18 + more ≡ message_length octets
  pub least : 1 ≤ more
  pub most : 18 + more ≤ longest_message s

-- a framed message is at the front of the octets
abbrev pub BeginsFramed : SessionConfig → List ℕ → Type 0
BeginsFramed s octets = HasFront (IsFramed s) (λ octets. octets) octets

-- they have a length that no framed message has
abbrev pub HasOtherLength : SessionConfig → List ℕ → Type 0
HasOtherLength s octets = (18 ≤ length octets)
    × ((message_length octets < 19) ⊎ (longest_message s < message_length octets))

-- Octets with which no framed message begins, whatever follows: one of the first 16 isn't 255, or their length is below
-- 19 or above the maximum of the session.
abbrev pub IsMisframed : SessionConfig → List ℕ → Type 0
IsMisframed s octets = (¬ IsMarked octets) ⊎ HasOtherLength s octets

-- octets at the end of a stream that are a message cut short: at least one, not misframed, and without a framed message
-- at their front
abbrev pub IsFrameCut : SessionConfig → List ℕ → Type 0
IsFrameCut s octets = (0 < length octets) × ¬ IsMisframed s octets × ¬ BeginsFramed s octets
