-- Where no pair is.
use Rattle.std.proofs.Common.{subst}
use Rattle.octseq.specs.Window.{Window}
use Rattle.octseq_format.specs.Laws.{Relation, NoneAt, IsOne}
use Rattle.octseq_format.specs.Pair.{◌then◌}

module _ {A B : Type 0} (First : Relation A) (Second : Relation B) where
  -- the first one isn't there
  pub none_first : (w : Window) → NoneAt First w → NoneAt (First then Second) w
  none_first w none both v is = none both.0 is.0 is.1

  -- the second one isn't there, after the first
  pub none_second : (w u : Window) (one : A) → IsOne First → First w one u → NoneAt Second u
      → NoneAt (First then Second) w
  none_second w u one first is none both v other =
      none both.1 v (subst (λ x. Second x both.1 v) (first.same w both.0 one other.0 u other.1 is).1 other.2)
