-- The octets of an UPDATE while it is written, part by part: RFC 4271, 4.3.
use Rattle.std.specs.Prelude.{◌≡◌, ℕ, ◌+◌, ◌<◌, ◌≤◌, ◌↔◌, Bool, true, List, ◌++◌, length, take, drop}
use Rattle.std.specs.Prelude.{Result, OnOk, OnErr}
use Rattle.octseq.specs.Integer.{octets_be}
use Rattle.octseq.specs.Refusal.{IsMalformed, IsShort, IsMemory, write_error}
use Rattle.octseq.specs.declared.error.WriteError.{WriteError}
use Rattle.octseq_bgp.specs.Composed.{message_octets}
use Rattle.octseq_bgp.specs.Written.{body_octets}

-- The builder, and the octets of the withdrawn routes, of the attributes and of the announced prefixes.
pub record PartOctets (B : Type 0) : Type 0 where
  pub octets : B
  pub withdrawn : List ℕ
  pub attributes : List ℕ
  pub announced : List ℕ

-- an UPDATE with these parts
abbrev pub parts_octets : (withdrawn attributes announced : List ℕ) → List ℕ
parts_octets withdrawn attributes announced = message_octets 2 (body_octets withdrawn attributes announced)

-- its octets after the length of the withdrawn routes
abbrev pub after_length : (withdrawn attributes announced : List ℕ) → List ℕ
after_length withdrawn attributes announced =
    withdrawn ++ (octets_be 2 (length attributes) ++ (attributes ++ announced))

-- the parts of a message with so many octets of withdrawn routes and of attributes
abbrev pub parts_in : {B : Type 0} → B → List ℕ → ℕ → ℕ → PartOctets B
parts_in octets content withdrawn attributes =
    let rest = drop 2 (drop withdrawn (drop 21 content)) in
    record {
      octets = octets;
      withdrawn = take withdrawn (drop 21 content);
      attributes = take attributes rest;
      announced = drop attributes rest;
    }

-- The message is an UPDATE with these parts, of these numbers of octets, and has at most 65,535.
pub record AreParts {B : Type 0} (content : List ℕ) (withdrawn attributes : ℕ) (parts : PartOctets B) : Type 0 where
  pub is : content ≡ parts_octets parts.withdrawn parts.attributes parts.announced
  pub withdrawn_is : length parts.withdrawn ≡ withdrawn
  pub attributes_is : length parts.attributes ≡ attributes
  pub long : length content ≡ 23 + withdrawn + attributes + length parts.announced
  pub most : length content ≤ 65535

-- Octets are written in place of others, and what follows these is moved over as many at the end. All is then divided
-- into parts.
pub record Arranges (before : List ℕ) (at old : ℕ) (slice : List ℕ) (withdrawn attributes : ℕ) (w a n : List ℕ)
    : Type 0 where
  pub front : List ℕ
  pub replaced : List ℕ
  pub moved : List ℕ
  pub over : List ℕ
  pub between : List ℕ
  pub was : before ≡ front ++ (replaced ++ (moved ++ over))
  pub is : front ++ (slice ++ moved) ≡ w ++ (between ++ (a ++ n))
  pub at_is : length front ≡ at
  pub old_is : length replaced ≡ old
  pub over_is : length replaced + length over ≡ length slice
  pub withdrawn_is : length w ≡ withdrawn
  pub between_is : length between ≡ 2
  pub attributes_is : length a ≡ attributes

-- A call makes the parts these, or leaves them unchanged. It is refused as short exactly if the message would exceed
-- its greatest length, and for lack of memory only if the type requests memory.
pub record PutsParts {B : Type 0} (most : ℕ) (asks : Bool) (result : Result (Unit {0}) WriteError)
    (withdrawn attributes announced : List ℕ) (old new : PartOctets B) : Type 0 where
  pub withdrawn_is : OnOk result (new.withdrawn ≡ withdrawn)
  pub attributes_is : OnOk result (new.attributes ≡ attributes)
  pub announced_is : OnOk result (new.announced ≡ announced)
  pub kept : OnErr result ((new.withdrawn ≡ old.withdrawn) × (new.attributes ≡ old.attributes)
      × (new.announced ≡ old.announced))
  pub fits : ¬ IsMalformed write_error result
  pub short : IsShort write_error result ↔ (most < 23 + length withdrawn + length attributes + length announced)
  pub memory : IsMemory write_error result → asks ≡ true
