-- What is known to be there is read.
use Rattle.std.proofs.Common.{◌≡◌, ℕ, List, Result, Ok, Err, IsOk, IsErr, refl, sym, subst}
use Rattle.std.proofs.Math.Logic.{∥∥₁_elim}
use Rattle.octseq.specs.Window.{Window}
use Rattle.octseq_dns_name.specs.Name.{HasLabels}
use Rattle.octseq_dns_name.specs.OneName.{Ahead, Named}
use Rattle.octseq_dns_name.specs.Piece.{Piece, HasPiece}
use Rattle.octseq_dns_name.proofs.Names.{ahead_of_name, no_piece}

-- what isn't refused succeeds
pub ok_unless : {T E : Type 0} (result : Result T E) → (IsErr result → ⊥) → IsOk result
ok_unless (Ok value) none = refl
ok_unless (Err e) none = absurd (none refl)

-- the labels of a name are ahead at its start
pub ahead_of : (w : Window) (start : ℕ) → start ≡ w.position → Named w → Ahead start w
ahead_of w start is named = (
  named.0,
  subst (λ start. ∥ ((pointers : ℕ) × (end : Window) × HasLabels start w named.0 pointers end) ∥₁) (sym is)
      (ahead_of_name w named).0,
)

-- labels are at a window's position
abbrev pub Something : ℕ → Window → Type 0
Something start w = (labels : List (List ℕ)) × (pointers : ℕ) × (end : Window) × HasLabels start w labels pointers end

-- A step to the next piece succeeds if it is only refused when there is none, and what is known leads there.
pub ok_where_known : {T E : Type 0} (result : Result T E) (first : ℕ) (w : Window) (start : ℕ) (v : Window)
    → Ahead first w
    → ((labels : List (List ℕ)) (pointers : ℕ) (end : Window) → HasLabels first w labels pointers end
    → Something start v)
    → (IsErr result → (p : Piece) (u : Window) → HasPiece start v p u → ⊥) → IsOk result
ok_where_known result first w start v known leads refused = ok_unless result (λ err.
    ∥∥₁_elim known.1 (λ a b. absurd a) (λ x.
    let there = leads known.0 x.0 x.1 x.2 in
    no_piece start v there.2 there.0 there.1 (refused err) there.3))
