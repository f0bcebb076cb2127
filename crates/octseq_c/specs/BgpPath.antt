-- The AS numbers of an AS path, as rows of numbers that C sees.
use Rattle.std.specs.Prelude.{◌≡◌, ℕ, Bool, List, map, flat_map}
use Rattle.std.specs.List.{sum_by}
use Rattle.octseq.specs.Window.{rest, whole}
use Rattle.octseq_bgp.specs.Parts.{Segment}
use Rattle.octseq_bgp.specs.Path.{asn_size}
use Rattle.octseq_bgp.specs.Value.{IsPath}
use Rattle.octseq_bgp.specs.ValueText.{numbers}
use Rattle.octseq_bgp.specs.declared.session.SessionConfig.{SessionConfig}
use Rattle.octseq_c.specs.declared.bgp.path.BgpHop.{BgpHop}

-- octets are the segments of an AS path, with AS numbers as a session has them
abbrev pub IsAsPath : SessionConfig → List ℕ → Type 0
IsAsPath s octets = (path : Bool × List Segment) × IsPath s.four_octet_asn (whole octets) path

-- the row of an AS number in a segment of a type and a count
abbrev pub row_of_asn : ℕ → ℕ → ℕ → BgpHop
row_of_asn kind count asn = record { asn = asn; kind = kind; count = count }

-- the AS numbers of a segment
abbrev pub rows_of_segment : Bool → Segment → List BgpHop
rows_of_segment wide e = map (row_of_asn e.0 e.1.0) (numbers (asn_size wide) e.1.0 (rest e.1.1))

-- those of each segment
abbrev pub hops_of : Bool × List Segment → List BgpHop
hops_of path = flat_map (rows_of_segment path.0) path.1

-- how many these are. Contracts for C don't refer to it.
abbrev pub path_room : Bool × List Segment → ℕ
path_room path = sum_by (λ (e : Segment). e.1.0) path.1

-- The octets are an AS path of a session, and these are its rows.
pub record AreHopsOf (session : SessionConfig) (octets : List ℕ) (rows : List BgpHop) : Type 0 where
  pub path : Bool × List Segment
  pub is : IsPath session.four_octet_asn (whole octets) path
  pub rows_are : rows ≡ hops_of path
