-- What a sequence holds once the borrow of its content ends.
use Rattle.std.specs.Prelude.{ℕ, List}
use Rattle.std.specs.Borrow.{Lends, Fml, RattleType, MutBor, Array, u8}
use Rattle.octseq_core.specs.ArrayOctets.{ArrayOctets, with_content}
use Rattle.octseq_core.specs.contracts.array.Array.{the_row}

module _ (N : RattleType) (a : MutBor ArrayOctets) where
  -- the borrow lends the content of an array: it ends as the final value of the borrow, and the hidden octets don't
  -- change
  abbrev pub lends_content : MutBor (List ℕ) → Fml
  lends_content borrow = Lends (the_row N) (Array u8 0) a borrow (with_content a.now)

module _ (R : RattleType) (with_octets : R.Denot → List ℕ → R.Denot) (x : MutBor R.Denot) where
  -- the borrow lends the content of any sequence, which ends as the final value of the borrow
  abbrev pub lends_octets : MutBor (List ℕ) → Fml
  lends_octets borrow = Lends R (Array u8 0) x borrow (with_octets x.now)
