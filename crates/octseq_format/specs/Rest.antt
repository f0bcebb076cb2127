-- All octets up to the end of a window.
use Rattle.std.specs.Prelude.{◌≡◌, ℕ, ◌+◌, ◌-◌, ◌≤◌, List, length, refl}
use Rattle.std.proofs.Common.{sym, ap, ◌∙◌, arith, take, drop, [], ◌++◌, append-nil}
use Rattle.std.specs.Coded.{Coded, code_by, coded_list, coded×, coded_ℕ, Unit-prop}
use Rattle.octseq.specs.Window.{Window, left, rest, past}
use Rattle.octseq_format.specs.Canonical.{IsCanonical, sound_on}
use Rattle.octseq_format.specs.Laws.{Relation, IsOne, IsOnward, IsReadBack}

-- the window of what is left
abbrev pub IsRest : Relation Window
IsRest w inside v = (inside ≡ w) × (v ≡ past (left w) w)

-- windows are equal in at most one way
abbrev pub window_code : Coded Window
window_code = code_by (List ℕ × (ℕ × ℕ)) (coded× (coded_list coded_ℕ) (coded× coded_ℕ coded_ℕ))
    (λ w. (w.octets, (w.position, w.end)))
    (λ c. record { octets = c.0; position = c.1.0; end = c.1.1 }) (λ _. refl)

-- ---- lemmas: proved below this line, so what the words mean is read above it

pub one_rest : IsOne IsRest
one_rest = record { same = λ w a b u v is other. (is.0 ∙ sym other.0, is.1 ∙ sym other.1) }

pub onward_rest : IsOnward 0 IsRest
onward_rest = record {
  on = λ w a v ordered is.
      let position = ap (λ (x : Window). x.position) is.1 in
      let end = ap (λ (x : Window). x.end) is.1 in (
        ap (λ (x : Window). x.octets) is.1,
        end,
        omega (arith, position),
        omega (arith, position, end, ordered),
      );
  less = λ w a v is. let same = ap left is.1 in omega (arith, same);
}

pub rest_read_back : IsReadBack IsRest rest (λ octets. octets) (λ _. Unit {0})
rest_read_back = record {
  back = λ w said fits is all.
      let many : left w ≡ length said = omega (arith, all) in
      record { it = w; tells = is; is = (refl, ap (λ n. past n w) (sym many)) };
}

-- nothing is left after it
pub nothing_left : (w v : Window) → w.position ≤ w.end → v ≡ past (left w) w → rest v ≡ []
nothing_left w v ordered is =
    let none : w.end - (w.position + left w) ≡ 0 = omega (arith, ordered) in
    ap rest is ∙ ap (λ n. take n (drop (w.position + left w) w.octets)) none

pub canonical_rest : IsCanonical IsRest rest (λ octets. octets) (λ _. Unit {0})
canonical_rest = record {
  once = λ _. Unit-prop;
  written = λ w inside v sound is. (
    tt,
    ap rest (sym is.0) ∙ sym (append-nil (rest inside)) ∙ ap (λ more. rest inside ++ more)
        (sym (nothing_left w v sound.ordered is.1)),
  );
  on = sound_on onward_rest;
}
