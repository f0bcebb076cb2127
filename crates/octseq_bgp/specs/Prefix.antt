-- Prefixes: RFC 4271, 4.3, and RFC 7911, 3.
use Rattle.std.specs.Prelude.{◌≡◌, Bool, true, false, ℕ, Option, Some, None, List, map}
use Rattle.octseq.specs.Window.{Window}
use Rattle.octseq_format.specs.Row.{Holds, held_once}
use Rattle.octseq_bgp.specs.Family.{afi_of}
use Rattle.octseq_bgp.specs.Fills.{Fills}
use Rattle.octseq_bgp.specs.OneParts.{one_prefix, one_path_prefix, prefix_code, part_code}
use Rattle.octseq_bgp.specs.Parts.{IsPrefix, IsPathPrefix}
use Rattle.octseq_bgp.specs.Session.{adds_path}
use Rattle.octseq_bgp.specs.declared.family.Afi.{Afi}
use Rattle.octseq_bgp.specs.declared.family.Afi.TheVariants as addresses
use Rattle.octseq_bgp.specs.declared.family.AfiSafiType.{AfiSafiType}
use Rattle.octseq_bgp.specs.declared.prefix.PathId.{PathId}
use Rattle.octseq_bgp.specs.declared.session.SessionConfig.{SessionConfig}

-- A prefix: the path id, if the session has them; the family of its address; its length in bits; and the window of its
-- octets.
pub record Nlri : Type 0 where
  pub path_id : Option PathId
  pub afi : Afi
  pub bits : ℕ
  pub octets : Window

-- the number of bits of an address
abbrev pub most_bits : Afi → ℕ
most_bits addresses.Ipv4 = 32
most_bits addresses.Ipv6 = 128

-- a prefix that was read without a path id, and with one
abbrev pub plain_nlri : Afi → ℕ × Window → Nlri
plain_nlri afi e = record { path_id = None; afi = afi; bits = e.0; octets = e.1 }

abbrev pub path_nlri : Afi → ℕ × (ℕ × Window) → Nlri
path_nlri afi e = record { path_id = Some (record { 0 = e.0 }); afi = afi; bits = e.1.0; octets = e.1.1 }

-- prefixes with path ids or without fill a window
abbrev pub AreNlri : Bool → Afi → Window → List Nlri → Type 0
AreNlri true afi w row = (parts : List (ℕ × (ℕ × Window))) × Fills (IsPathPrefix (most_bits afi)) w parts
    × (row ≡ map (path_nlri afi) parts)
AreNlri false afi w row = (parts : List (ℕ × Window)) × Fills (IsPrefix (most_bits afi)) w parts
    × (row ≡ map (plain_nlri afi) parts)

-- prefixes of a family fill a window
abbrev pub ArePrefixes : SessionConfig → AfiSafiType → Window → List Nlri → Type 0
ArePrefixes s family w row = AreNlri (adds_path s.add_path family) (afi_of family) w row

-- `count` prefixes are ahead
abbrev pub AreAhead : Bool → Afi → Window → ℕ → Type 0
AreAhead true afi w count = Holds (IsPathPrefix (most_bits afi)) w count
AreAhead false afi w count = Holds (IsPrefix (most_bits afi)) w count

-- these
abbrev pub nlri_ahead : (paths : Bool) (afi : Afi) (w : Window) (count : ℕ) → AreAhead paths afi w count → List Nlri
nlri_ahead true afi w count ahead = map (path_nlri afi) ahead.0
nlri_ahead false afi w count ahead = map (plain_nlri afi) ahead.0

-- ---- lemmas: proved below this line, so what the words mean is read above it

pub ahead_once : (paths : Bool) (afi : Afi) (w : Window) (count : ℕ) → IsProp (AreAhead paths afi w count)
ahead_once true afi w count =
    held_once part_code (IsPathPrefix (most_bits afi)) (one_path_prefix (most_bits afi)) w count
ahead_once false afi w count = held_once prefix_code (IsPrefix (most_bits afi)) (one_prefix (most_bits afi)) w count
