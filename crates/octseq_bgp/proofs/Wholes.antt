-- A window is filled by at most one value, and what is read of it has no more octets.
use Rattle.std.proofs.Common.{◌≡◌, ℕ, ◌+◌, ◌≤◌, Bool, true, false, List, map, sym, ap, ◌∙◌, arith}
use Rattle.octseq.specs.Window.{Window, left}
use Rattle.octseq_format.proofs.Parts.{part_of_counted}
use Rattle.octseq_format.specs.Laws.{Relation, IsOne, IsMoving}
use Rattle.octseq_format.specs.Row.{one_to}
use Rattle.octseq_bgp.specs.Fills.{Whole, Fills}
use Rattle.octseq_bgp.specs.OneParts.{one_prefix, one_path_prefix}
use Rattle.octseq_bgp.specs.Parts.{IsCounted}
use Rattle.octseq_bgp.specs.Prefix.{Nlri, AreNlri, most_bits, path_nlri, plain_nlri}
use Rattle.octseq_bgp.specs.declared.family.Afi.{Afi}
use Rattle.octseq_bgp.proofs.Moves.{prefix_moves, path_prefix_moves}

pub one_whole : {A : Type 0} (Is : Relation A) → IsOne Is → (w : Window) (a b : A) → Whole Is w a → Whole Is w b → a ≡ b
one_whole Is one w a b is other = (one.same w a b is.0 other.0 is.1 other.1).0

pub one_fills : {A : Type 0} {Is : Relation A} → IsOne Is → IsMoving Is → (w : Window) (row others : List A)
    → Fills Is w row → Fills Is w others → row ≡ others
one_fills {Is = Is} one moves w row others a b = ((one_to Is one moves).same w row others a.0 b.0 a.1 b.1).0

-- the same for prefixes
pub one_nlri : (paths : Bool) (afi : Afi) (w : Window) (row others : List Nlri) → AreNlri paths afi w row
    → AreNlri paths afi w others → row ≡ others
one_nlri true afi w row others a b =
    let most = most_bits afi in
    a.2 ∙ ap (map (path_nlri afi)) (one_fills (one_path_prefix most) (path_prefix_moves most) w a.0 b.0 a.1 b.1)
    ∙ sym b.2
one_nlri false afi w row others a b =
    let most = most_bits afi in
    a.2 ∙ ap (map (plain_nlri afi)) (one_fills (one_prefix most) (prefix_moves most) w a.0 b.0 a.1 b.1) ∙ sym b.2

-- octets after their length, and what follows them, aren't more than the window has
pub counted_left : (k : ℕ) (w inside v : Window) → IsCounted k w inside v → left inside + left v ≤ left w
counted_left k w inside v is =
    let part = part_of_counted k w inside v is in
    let here = ap left part.1 in
    let there = ap left part.2 in
    let room = part.0 in
    omega (arith, here, there, room)
