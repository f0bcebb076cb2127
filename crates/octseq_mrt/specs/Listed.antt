-- The peers, entries and attributes that are left: they fill a window, and it is a fact that they are there.
use Rattle.std.specs.Prelude.{Bool, List}
use Rattle.std.proofs.Math.Logic.{∥∥₁_prop, ∥∥₁_elim}
use Rattle.std.proofs.Props.{props}
use mathlib.Core.HLevel.{Σ_prop_path}
use Rattle.octseq.specs.Window.{Window}
use Rattle.octseq_format.specs.Laws.{Relation, IsOne, IsMoving}
use Rattle.octseq_bgp.specs.Fills.{Fills}
use Rattle.octseq_bgp.specs.OneParts.{one_attribute}
use Rattle.octseq_bgp.specs.Parts.{IsAttribute}
use Rattle.octseq_bgp.proofs.Moves.{attribute_moves}
use Rattle.octseq_bgp.proofs.Wholes.{one_fills}
use Rattle.octseq_mrt.specs.OneListed.{one_peer, peer_moves, one_rib_entry, rib_entry_moves}
use Rattle.octseq_mrt.specs.Peer.{IsPeer}
use Rattle.octseq_mrt.specs.Rib.{IsRibEntry}

-- At most one such value is at an offset, and it takes at least one octet. Lists of them are equal in at most one way.
pub record AreListed {A : Type 0} (Is : Relation A) : Type 0 where
  pub set : IsSet (List A)
  pub one : IsOne Is
  pub moves : IsMoving Is

-- values that fill the window
abbrev pub AllAhead : {A : Type 0} → Relation A → Window → Type 0
AllAhead {A} Is w = (row : List A) × ∥ Fills Is w row ∥₁

abbrev pub PeersAhead : Window → Type 0
PeersAhead w = AllAhead IsPeer w

abbrev pub AttributesAhead : Window → Type 0
AttributesAhead w = AllAhead IsAttribute w

abbrev pub EntriesAhead : Bool → Window → Type 0
EntriesAhead paths w = AllAhead (IsRibEntry paths) w

-- ---- lemmas: proved below this line, so what the words mean is read above it

pub ahead_once : {A : Type 0} {Is : Relation A} → AreListed Is → (w : Window) → IsProp (AllAhead Is w)
ahead_once listed w a b = Σ_prop_path (λ row. ∥∥₁_prop) (∥∥₁_elim a.1 (listed.set a.0 b.0) (λ x.
    ∥∥₁_elim b.1 (listed.set a.0 b.0) (λ y. one_fills listed.one listed.moves w a.0 b.0 x y)))

pub peers_listed : AreListed IsPeer
peers_listed = record { set = Prim.hlevel props; one = one_peer; moves = peer_moves }

pub attributes_listed : AreListed IsAttribute
attributes_listed = record { set = Prim.hlevel props; one = one_attribute; moves = attribute_moves }

pub entries_listed : (paths : Bool) → AreListed (IsRibEntry paths)
entries_listed paths = record { set = Prim.hlevel props; one = one_rib_entry paths; moves = rib_entry_moves paths }

pub peers_once : (w : Window) → IsProp (PeersAhead w)
peers_once w = ahead_once peers_listed w

pub attributes_once : (w : Window) → IsProp (AttributesAhead w)
attributes_once w = ahead_once attributes_listed w

pub entries_once : (paths : Bool) (w : Window) → IsProp (EntriesAhead paths w)
entries_once paths w = ahead_once (entries_listed paths) w
