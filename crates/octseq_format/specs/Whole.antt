-- A value whose key is the number of octets that it takes.
use Rattle.std.specs.Prelude.{◌≡◌, ℕ, ◌+◌, List, length}
use Rattle.std.proofs.Common.{sym, ap, ◌∙◌, arith, length-append}
use Rattle.std.specs.Coded.{Coded-set, coded_ℕ, ×_prop}
use Rattle.octseq.specs.Window.{Window, rest}
use Rattle.octseq_format.specs.Canonical.{IsSoundWindow, IsCanonical, many_rest}
use Rattle.octseq_format.specs.Laws.{Relation, NoneAt, TakesOctets, IsOne, IsOnward, IsReadBack, IsDelimited}

-- the value, which takes as many octets as its key says
abbrev pub IsWhole : {A S : Type 0} → (S → ℕ) → (A → S) → Relation A → Relation A
IsWhole key says Is w a v = Is w a v × (w.position + key (says a) ≡ v.position)

-- It fits, and its key counts its octets.
abbrev pub WholeFits : {S : Type 0} → (S → ℕ) → (S → List ℕ) → (S → Type 0) → S → Type 0
WholeFits key octets Fits said = Fits said × (key said ≡ length (octets said))

-- ---- lemmas: proved below this line, so what the words mean is read above it

-- the octets that say it are as many as it takes, if its encoding is unique
pub octets_taken : {A S : Type 0} {Is : Relation A} {says : A → S} {octets : S → List ℕ} {Fits : S → Type 0}
    {least : ℕ} → IsOnward least Is → IsCanonical Is says octets Fits → (w : Window) (a : A) (v : Window)
    → IsSoundWindow w
    → Is w a v → w.position + length (octets (says a)) ≡ v.position
octets_taken {says = says} {octets = octets} onward canonical w a v sound is =
    let on = onward.on w a v sound.ordered is in
    let there = canonical.written w a v sound is in
    let before = many_rest w sound in
    let after = many_rest v (canonical.on w a v sound is) in
    let all = ap length there.1 ∙ length-append (octets (says a)) (rest v) in
    omega (arith, on.1, on.2, on.3, sound.ordered, before, after, all)

module _ {A S : Type 0} (key : S → ℕ) (says : A → S) {Is : Relation A} where
  pub one_whole : IsOne Is → IsOne (IsWhole key says Is)
  one_whole one = record { same = λ w a b u v is other. one.same w a b u v is.0 other.0 }

  pub onward_whole : {least : ℕ} → IsOnward least Is → IsOnward least (IsWhole key says Is)
  onward_whole onward = record {
    on = λ w a v ordered is. onward.on w a v ordered is.0;
    less = λ w a v is. onward.less w a v is.0;
  }

  -- a value that takes another number of octets is there
  pub other_whole : IsOne Is → (w u : Window) (a : A) → Is w a u → ¬ (w.position + key (says a) ≡ u.position)
      → NoneAt (IsWhole key says Is) w
  other_whole one w u a is other b v whole =
      let same = one.same w a b u v is whole.0 in
      other (ap (λ a. w.position + key (says a)) same.0 ∙ whole.1 ∙ ap (λ (v : Window). v.position) (sym same.1))

  -- a value that takes its octets, whose key counts them
  whole_taken : (octets : S → List ℕ) (w : Window) (said : S) → key said ≡ length (octets said)
      → TakesOctets Is says w said (length (octets said))
      → TakesOctets (IsWhole key says Is) says w said (length (octets said))
  whole_taken octets w said many taken = record {
    it = taken.it;
    tells = taken.tells;
    is = (taken.is, ap (λ n. w.position + n) (ap key taken.tells ∙ many));
  }

  module _ {octets : S → List ℕ} {Fits : S → Type 0} where
    pub whole_read_back : IsReadBack Is says octets Fits
        → IsReadBack (IsWhole key says Is) says octets (WholeFits key octets Fits)
    whole_read_back one = record {
      back = λ w said fits is all. whole_taken octets w said fits.1 (one.back w said fits.0 is all);
    }

    pub delimited_whole : IsDelimited Is says octets Fits
        → IsDelimited (IsWhole key says Is) says octets (WholeFits key octets Fits)
    delimited_whole one = record {
      next = λ w said more fits is. whole_taken octets w said fits.1 (one.next w said more fits.0 is);
    }

    pub canonical_whole : {least : ℕ} → IsOnward least Is → IsCanonical Is says octets Fits
        → IsCanonical (IsWhole key says Is) says octets (WholeFits key octets Fits)
    canonical_whole onward canonical = record {
      once = λ said. ×_prop (canonical.once said) (Coded-set coded_ℕ (key said) (length (octets said)));
      written = λ w a v sound is.
          let there = canonical.written w a v sound is.0 in
          let taken = octets_taken onward canonical w a v sound is.0 in
          ((there.0, omega (arith, taken, is.1)), there.1);
      on = λ w a v sound is. canonical.on w a v sound is.0;
    }
