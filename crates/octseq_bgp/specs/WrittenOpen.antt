-- An OPEN to be written: RFC 4271, 4.2, and RFC 9072, 2, for the long form of parameters.
use Rattle.std.specs.Prelude.{◌≡◌, ℕ, ◌+◌, ◌<◌, ◌≤◌, ◌^◌, ◌↔◌, Bool, true, false, not, nat_eq, Option, List, [], ◌∷◌}
use Rattle.std.specs.Prelude.{◌++◌, length, min, Result, OnOk, OnErr}
use Rattle.std.specs.List.{AllByRecursion}
use Rattle.octseq.specs.Integer.{octets_be}
use Rattle.octseq.specs.Limit.{IsWithin}
use Rattle.octseq.specs.Refusal.{IsMalformed, IsMemory, IsShort, write_error}
use Rattle.octseq.specs.declared.error.WriteError.{WriteError}
use Rattle.octseq_format.specs.Row.{row_octets}
use Rattle.octseq_bgp.specs.Composed.{message_octets}
use Rattle.octseq_bgp.specs.Open.{length_octets}
use Rattle.octseq_bgp.specs.WrittenMessage.{limit_of}

-- A parameter: its type, and its octets.
abbrev pub WrittenParameter : Type 0
WrittenParameter = ℕ × List ℕ

-- An OPEN of version 4: whether it is in the long form, its numbers, and its parameters.
pub record WrittenOpen : Type 0 where
  pub long : Bool
  pub my_asn : ℕ
  pub holdtime : ℕ
  pub identifier : ℕ
  pub parameters : List WrittenParameter

-- ---- its octets

-- a type, a length of two octets or of one, and octets
abbrev pub parameter_octets : Bool → WrittenParameter → List ℕ
parameter_octets long p = octets_be 1 p.0 ++ (octets_be (length_octets long) (length p.1) ++ p.1)

abbrev pub parameters_octets : Bool → List WrittenParameter → List ℕ
parameters_octets long row = row_octets (parameter_octets long) row

-- what comes before parameters of n octets: their length; or 255, 255, and their length of two octets
abbrev pub lengths : Bool → ℕ → List ℕ
lengths true n = 255 ∷ 255 ∷ octets_be 2 n
lengths false n = octets_be 1 n

-- the version, and the numbers of an OPEN
abbrev pub numbers_octets : WrittenOpen → List ℕ
numbers_octets o = 4 ∷ (octets_be 2 o.my_asn ++ (octets_be 2 o.holdtime ++ octets_be 4 o.identifier))

-- an OPEN whose parameters are these octets
abbrev pub open_with : WrittenOpen → List ℕ → List ℕ
open_with o parameters = message_octets 1 (numbers_octets o ++ (lengths o.long (length parameters) ++ parameters))

abbrev pub open_octets : WrittenOpen → List ℕ
open_octets o = open_with o (parameters_octets o.long o.parameters)

-- an OPEN without parameters
abbrev pub bare_open : Bool → ℕ → ℕ → ℕ → WrittenOpen
bare_open long my_asn holdtime identifier = record {
  long = long;
  my_asn = my_asn;
  holdtime = holdtime;
  identifier = identifier;
  parameters = [];
}

-- with another parameter after the others
abbrev pub with_parameter : WrittenOpen → WrittenParameter → WrittenOpen
with_parameter o p = record o { parameters = o.parameters ++ p ∷ [] }

-- how many octets come before the parameters
abbrev pub front_len : Bool → ℕ
front_len true = 32
front_len false = 29

-- ---- which OPENs can be written

-- The type and the length of a parameter fit their octets.
pub record FitsParameter (long : Bool) (p : WrittenParameter) : Type 0 where
  pub kind : p.0 < 256
  pub many : length p.1 < 256 ^ length_octets long

-- in the short form the first parameter isn't of type 255: it would be read as the long form
abbrev pub is_apart : Bool → List WrittenParameter → Bool
is_apart true row = true
is_apart false [] = true
is_apart false (p ∷ row) = not (nat_eq p.0 255)

-- the same of one parameter, which is the first or not
abbrev pub apart_at : Bool → Bool → ℕ → Bool
apart_at true first kind = true
apart_at false true kind = not (nat_eq kind 255)
apart_at false false kind = true

-- the maximum number of octets of all parameters
abbrev pub most_parameters : Bool → ℕ
most_parameters true = 65535
most_parameters false = 255

-- the maximum length of an OPEN
abbrev pub open_max : Bool → ℕ
open_max long = min 4096 (front_len long + most_parameters long)

-- Its numbers and its parameters fit their octets, and it is at most 4,096 octets.
pub record FitsOpen (o : WrittenOpen) : Type 0 where
  pub my_asn : o.my_asn < 65536
  pub holdtime : o.holdtime < 65536
  pub identifier : o.identifier < 4294967296
  pub parameters : AllByRecursion (FitsParameter o.long) o.parameters
  pub apart : is_apart o.long o.parameters ≡ true
  pub few : length (parameters_octets o.long o.parameters) ≤ most_parameters o.long
  pub short : length (open_octets o) ≤ 4096

-- ---- an OPEN while it is written

-- The octets are an OPEN, in the long form or the short one.
pub record IsOpenWritten (long : Bool) (octets : List ℕ) (o : WrittenOpen) : Type 0 where
  pub form : o.long ≡ long
  pub are : octets ≡ open_octets o
  pub fits : FitsOpen o

-- they are one
abbrev pub HoldsOpen : Bool → List ℕ → Type 0
HoldsOpen long octets = (o : WrittenOpen) × IsOpenWritten long octets o

-- The builder of its octets, and what it says.
pub record WritingOpen (B : Type 0) : Type 0 where
  pub octets : B
  pub message : WrittenOpen

-- ---- what a push does

-- a parameter fits, and may come after those of an OPEN
abbrev pub CanFollow : WrittenOpen → WrittenParameter → Type 0
CanFollow o p = FitsParameter o.long p × (is_apart o.long (o.parameters ++ p ∷ []) ≡ true)

-- an OPEN isn't too long, for its length of parameters, for a message, and for the limit of a builder
abbrev pub HasRoom : Option ℕ → WrittenOpen → Type 0
HasRoom limit o = (length (parameters_octets o.long o.parameters) ≤ most_parameters o.long)
    × IsWithin (limit_of 4096 limit) (length (open_octets o))

-- A call pushes a parameter, or does nothing. It is refused as malformed exactly if the parameter can't be written
-- there, otherwise as short exactly if the OPEN would be too long, and for lack of memory only if the builder
-- requests memory.
pub record PushesParameter (limit : Option ℕ) (asks : Bool) (Can : Type 0) (result : Result (Unit {0}) WriteError)
    (p : WrittenParameter) (old new : WrittenOpen) : Type 0 where
  pub ok : OnOk result (new ≡ with_parameter old p)
  pub err : OnErr result (new ≡ old)
  pub malformed : IsMalformed write_error result ↔ ¬ Can
  pub short : IsShort write_error result ↔ (Can × ¬ HasRoom limit (with_parameter old p))
  pub memory : IsMemory write_error result → asks ≡ true
