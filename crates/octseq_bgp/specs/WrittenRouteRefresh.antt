-- A ROUTE-REFRESH to be written: RFC 2918, 3, RFC 7313, 3.2, and RFC 5291, 4.
use Rattle.std.specs.Prelude.{ℕ, ◌<◌, List, ◌∷◌, ◌++◌, take, drop, slice_index}
use Rattle.octseq.specs.Integer.{be, octets_be}
use Rattle.octseq.specs.Window.{Window, rest}
use Rattle.octseq_bgp.specs.Composed.{message_octets}
use Rattle.octseq_bgp.specs.WrittenMessage.{IsWrittenMessage}

-- AFI, subtype, SAFI, and the octets that follow.
pub record WrittenRouteRefresh : Type 0 where
  pub afi : ℕ
  pub subtype : ℕ
  pub safi : ℕ
  pub orf : List ℕ

abbrev pub route_refresh_octets : WrittenRouteRefresh → List ℕ
route_refresh_octets r = message_octets 5 (octets_be 2 r.afi ++ r.subtype ∷ r.safi ∷ r.orf)

-- with more octets after the SAFI
abbrev pub with_orf : WrittenRouteRefresh → List ℕ → WrittenRouteRefresh
with_orf r octets = record r { orf = r.orf ++ octets }

-- the ROUTE-REFRESH that octets are
abbrev pub route_refresh_in : List ℕ → WrittenRouteRefresh
route_refresh_in octets = record {
  afi = be (take 2 (drop 19 octets));
  subtype = slice_index octets 21;
  safi = slice_index octets 22;
  orf = drop 23 octets;
}

-- its AFI fits two octets
abbrev pub FitsRouteRefresh : WrittenRouteRefresh → Type 0
FitsRouteRefresh r = r.afi < 65536

abbrev pub IsRouteRefreshWritten : ℕ → List ℕ → Type 0
IsRouteRefreshWritten = IsWrittenMessage route_refresh_octets FitsRouteRefresh route_refresh_in

-- what a ROUTE-REFRESH that was read says
abbrev pub route_refresh_says : ℕ × (ℕ × (ℕ × Window)) → WrittenRouteRefresh
route_refresh_says it = record { afi = it.0; subtype = it.1.0; safi = it.1.1.0; orf = rest it.1.1.1 }
