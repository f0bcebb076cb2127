-- No octets.
use Rattle.std.specs.Prelude.{◌≡◌, [], refl}
use Rattle.std.proofs.Common.{sym, ap, ◌∙◌, subst, arith}
use Rattle.std.specs.Coded.{Unit-prop}
use Rattle.octseq.specs.Window.{Window, left, rest, at}
use Rattle.octseq_format.specs.Canonical.{IsSoundWindow, IsCanonical}
use Rattle.octseq_format.specs.Laws.{Relation, IsOne, IsOnward, IsReadBack, IsDelimited, back_of}

-- what comes next is at the same offset
abbrev pub IsNothing : Relation (Unit {0})
IsNothing w a v = v ≡ w

-- ---- lemmas: proved below this line, so what the words mean is read above it

pub one_nothing : IsOne IsNothing
one_nothing = record { same = λ w a b u v is other. (refl, is ∙ sym other) }

pub onward_nothing : IsOnward 0 IsNothing
onward_nothing = record {
  on = λ w a v ordered is.
      let position = ap (λ (x : Window). x.position) is in
      let end = ap (λ (x : Window). x.end) is in
      (ap (λ (x : Window). x.octets) is, end, omega (arith, position), omega (arith, position, end, ordered));
  less = λ w a v is. let same = ap left is in omega (arith, same);
}

pub delimited_nothing : IsDelimited IsNothing (λ a. a) (λ _. []) (λ _. Unit {0})
delimited_nothing = record {
  next = λ w said more fits is. record { it = said; tells = refl; is = ap (λ p. at p w) (omega arith) };
}

pub nothing_read_back : IsReadBack IsNothing (λ a. a) (λ _. []) (λ _. Unit {0})
nothing_read_back = back_of delimited_nothing

pub canonical_nothing : IsCanonical IsNothing (λ a. a) (λ _. []) (λ _. Unit {0})
canonical_nothing = record {
  once = λ _. Unit-prop;
  written = λ w a v sound is. (tt, ap rest (sym is));
  on = λ w a v sound is. subst IsSoundWindow (sym is) sound;
}
