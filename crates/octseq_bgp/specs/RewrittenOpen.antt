-- An OPEN written anew: RFC 4271, 4.2, and RFC 9072, 2. It says what it said, and what has no meaning is 0.
use Rattle.std.specs.Prelude.{◌≡◌, ℕ, ◌+◌, ◌*◌, ◌/◌, ◌%◌, Bool, false, not, ◌||◌, nat_le, List, [], ◌∷◌, ◌++◌, length}
use Rattle.std.specs.Prelude.{map}
use Rattle.std.specs.List.{AllByRecursion, flat_map}
use Rattle.octseq.specs.Integer.{octets_be}
use Rattle.octseq.specs.Window.{Window, rest}
use Rattle.octseq_format.specs.Canonical.{IsSoundWindow}
use Rattle.octseq_format.specs.Row.{row_octets}
use Rattle.octseq_bgp.specs.Capability.{CapabilityValue, IsCapabilityValue, IsParameterValue, ParameterValue, Restart}
use Rattle.octseq_bgp.specs.Composed.{header_octets}
use Rattle.octseq_bgp.specs.ItemOctets.{tuple_octets}
use Rattle.octseq_bgp.specs.OneOpen.{says_parameter}
use Rattle.octseq_bgp.specs.Open.{Open}
use Rattle.octseq_bgp.specs.WrittenOpen.{WrittenParameter, front_len, is_apart, lengths, parameters_octets}

-- ---- a capability

-- the sixteen bits of a graceful restart, of which the third and the fourth have no meaning: RFC 4724, 3, and RFC
-- 8538, 2
abbrev pub bits_anew : ℕ → ℕ
bits_anew bits = bits / 16384 * 16384 + bits % 4096

-- a family of a graceful restart, of whose flags only the first bit has a meaning: RFC 4724, 3
abbrev pub family_anew : ℕ × (ℕ × ℕ) → ℕ × (ℕ × ℕ)
family_anew t = (t.0, (t.1.0, t.1.1 / 128 * 128))

-- the octets of a graceful restart
abbrev pub restart_anew : Restart → List ℕ
restart_anew r = octets_be 2 (bits_anew r.bits) ++ row_octets tuple_octets (map family_anew r.families)

-- The octets of a capability, by its value and the octets that were read: as these were, but for the reserved octet of
-- an address family (RFC 4760, 8), and what has no meaning in a graceful restart.
abbrev pub capability_anew : CapabilityValue → List ℕ → List ℕ
capability_anew (CapabilityValue.multi_protocol family) octets = tuple_octets (family.0, (0, family.1.1))
capability_anew (CapabilityValue.graceful_restart r) octets = restart_anew r
capability_anew _ octets = octets

-- a capability: its code, and its octets
abbrev pub IsCapabilityAnew : ℕ × Window → ℕ × List ℕ → Type 0
IsCapabilityAnew c written = (v : CapabilityValue) × IsCapabilityValue c.0 c.1 v
    × (written ≡ (c.0, capability_anew v (rest c.1)))

-- ---- parameters

-- each of a row, as what it is written as, in the same order
abbrev pub Each : {A B : Type 0} → (A → B → Type 0) → List A → List B → Type 0
Each Is [] written = written ≡ []
Each {B = B} Is (a ∷ row) written =
    (b : B) × (more : List B) × Is a b × Each Is row more × (written ≡ b ∷ more)

-- octets, and then those of what each of a row is written as
abbrev pub AppendedRow : {A B : Type 0} → (A → B → Type 0) → (B → List ℕ) → List A → List ℕ → List ℕ → Type 0
AppendedRow {B = B} Is octets row old new = (written : List B) × Each Is row written
    × (new ≡ old ++ flat_map octets written)

-- the value of a parameter: its capabilities, each with a code and a length of one octet; or its octets as they were
abbrev pub IsValueAnew : ParameterValue → List ℕ → Type 0
IsValueAnew (ParameterValue.capabilities row) octets = (written : List (ℕ × List ℕ))
    × Each IsCapabilityAnew row written × (octets ≡ parameters_octets false written)
IsValueAnew (ParameterValue.opaque w) octets = octets ≡ rest w

-- a parameter: its type, and its octets
abbrev pub IsParameterAnew : ℕ × Window → WrittenParameter → Type 0
IsParameterAnew p written = (v : ParameterValue) × (octets : List ℕ) × IsParameterValue p.0 p.1 v
    × IsValueAnew v octets × (written ≡ (p.0, octets))

-- The short form can't say parameters: they have more than 255 octets in it, as they do if one of them has more than
-- 255 itself; or the first is of type 255, and they would be read as the long form.
abbrev pub needs_long : List WrittenParameter → Bool
needs_long row = not (is_apart false row) || nat_le 256 (length (parameters_octets false row))

-- ---- an OPEN

-- its version, AS number, hold time and identifier
abbrev pub open_numbers : Open → List ℕ
open_numbers o =
    octets_be 1 o.version ++ (octets_be 2 o.my_asn ++ (octets_be 2 o.holdtime ++ octets_be 4 o.identifier))

-- what comes before parameters of n octets: the header, these numbers, and the length of the parameters
abbrev pub open_front : Open → Bool → ℕ → List ℕ
open_front o long n = header_octets (front_len long + n) 1 ++ (open_numbers o ++ lengths long n)

-- an OPEN with these parameters
abbrev pub open_form : Open → Bool → List WrittenParameter → List ℕ
open_form o long row =
    open_front o long (length (parameters_octets long row)) ++ parameters_octets long row

-- the OPEN, with its parameters in the short form, or in the long one if they need it
abbrev pub IsOpenRewritten : Open → List ℕ → Type 0
IsOpenRewritten o out = (row : List WrittenParameter) × Each IsParameterAnew o.parameters row
    × (out ≡ open_form o (needs_long row) row)

-- ---- what was read

-- the octets of parameters or capabilities as they were, in the long form or the short one
abbrev pub said_octets : Bool → List (ℕ × Window) → List ℕ
said_octets long row = parameters_octets long (map says_parameter row)

-- their windows are sound
abbrev pub AreItemsSound : List (ℕ × Window) → Type 0
AreItemsSound row = AllByRecursion (λ p. IsSoundWindow p.1) row
