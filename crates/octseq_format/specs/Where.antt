-- A value that meets a test.
use Rattle.std.specs.Prelude.{ℕ, List}
use Rattle.std.proofs.Common.{sym, subst}
use Rattle.octseq.specs.Window.{Window}
use Rattle.octseq_format.specs.Laws.{Relation, NoneAt, IsOne, IsOnward, IsReadBack, IsDelimited}

-- what it says meets the test
abbrev pub IsWhere : {A S : Type 0} → Relation A → (A → S) → (S → Type 0) → Relation A
IsWhere Is says Holds w a v = Is w a v × Holds (says a)

-- it fits, and meets the test
abbrev pub WhereFits : {S : Type 0} → (S → Type 0) → (S → Type 0) → S → Type 0
WhereFits Fits Holds said = Fits said × Holds said

-- ---- lemmas: proved below this line, so what the words mean is read above it

module _ {A S : Type 0} (Is : Relation A) (says : A → S) (Holds : S → Type 0) where
  pub one_where : IsOne Is → IsOne (IsWhere Is says Holds)
  one_where one = record { same = λ w a b u v is other. one.same w a b u v is.0 other.0 }

  -- one that doesn't meet the test is there
  pub other_where : IsOne Is → (w u : Window) (it : A) → Is w it u → ¬ Holds (says it)
      → NoneAt (IsWhere Is says Holds) w
  other_where one w u it is fails a v meets =
      fails (subst (λ a. Holds (says a)) (one.same w a it v u meets.0 is).0 meets.1)

  pub onward_where : {least : ℕ} → IsOnward least Is → IsOnward least (IsWhere Is says Holds)
  onward_where onward = record {
    on = λ w a v ordered is. onward.on w a v ordered is.0;
    less = λ w a v is. onward.less w a v is.0;
  }

  module _ (octets : S → List ℕ) (Fits : S → Type 0) where
    pub where_read_back : IsReadBack Is says octets Fits
        → IsReadBack (IsWhere Is says Holds) says octets (WhereFits Fits Holds)
    where_read_back one = record {
      back = λ w said fits is all.
          let taken = one.back w said fits.0 is all in
          record { it = taken.it; tells = taken.tells; is = (taken.is, subst Holds (sym taken.tells) fits.1) };
    }

    pub delimited_where : IsDelimited Is says octets Fits
        → IsDelimited (IsWhere Is says Holds) says octets (WhereFits Fits Holds)
    delimited_where one = record {
      next = λ w said more fits is.
          let taken = one.next w said more fits.0 is in
          record { it = taken.it; tells = taken.tells; is = (taken.is, subst Holds (sym taken.tells) fits.1) };
    }
