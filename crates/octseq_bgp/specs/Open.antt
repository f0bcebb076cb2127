-- An OPEN without its header: RFC 4271, 4.2, and RFC 9072, 2, for parameters of more than 255 octets.
use Rattle.std.specs.Prelude.{◌≡◌, Bool, true, false, if◌then◌else◌, ℕ, ◌≤◌, List}
use Rattle.octseq.specs.Integer.{be}
use Rattle.octseq.specs.Window.{Window, left, next, past}
use Rattle.octseq_format.specs.Laws.{Relation}
use Rattle.octseq_format.specs.Pair.{◌then◌}
use Rattle.octseq_format.specs.Rest.{IsRest}
use Rattle.octseq_bgp.specs.Fills.{Whole, Fills}
use Rattle.octseq_bgp.specs.Parts.{IsNumber, IsCounted, IsTlv}

-- the number of octets of the length of a parameter, in the long form and in the short one
abbrev pub length_octets : Bool → ℕ
length_octets long = if long then 2 else 1

pub record Open : Type 0 where
  pub version : ℕ
  pub my_asn : ℕ
  pub holdtime : ℕ
  pub identifier : ℕ
  pub parameters : List (ℕ × Window)

-- a nonzero length, followed by the octet 255
abbrev pub IsLong : Window → Type 0
IsLong w = (2 ≤ left w) × (1 ≤ be (next 1 w)) × (be (next 1 (past 1 w)) ≡ 255)

-- a length without meaning, the octet 255, and octets after their length of two octets
abbrev pub IsLongPart : Relation (ℕ × (ℕ × Window))
IsLongPart = IsNumber 1 then IsNumber 1 then IsCounted 2

-- Parameters: after their length of one octet; or, if that isn't 0 and 255 follows, in the long form. They end the
-- message.
pub data HasParameters (w : Window) (row : List (ℕ × Window)) : Type 0 where
  short : ¬ IsLong w → (inside : Window) → Whole (IsCounted 1) w inside
      → Fills (IsTlv (length_octets false)) inside row
      → HasParameters w row
  long : IsLong w → (marks : ℕ × (ℕ × Window)) → Whole IsLongPart w marks
      → Fills (IsTlv (length_octets true)) marks.1.1 row → HasParameters w row

-- version, AS number, hold time, identifier, and what follows
abbrev pub IsOpenFront : Relation (ℕ × (ℕ × (ℕ × (ℕ × Window))))
IsOpenFront = IsNumber 1 then IsNumber 2 then IsNumber 2 then IsNumber 4 then IsRest

pub record IsOpen (w : Window) (o : Open) : Type 0 where
  pub rest : Window
  pub front : Whole IsOpenFront w (o.version, (o.my_asn, (o.holdtime, (o.identifier, rest))))
  pub parameters : HasParameters rest o.parameters
