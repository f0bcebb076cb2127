-- Octets after their length, which has k octets, big-endian, as a parser takes them.
use Rattle.std.specs.Prelude.{◌≡◌, ℕ}
use Rattle.std.proofs.Common.{sym, ap, ◌∙◌, arith}
use Rattle.octseq.specs.Part.{HasPart, part, past_part}
use Rattle.octseq.specs.Window.{Window, left}
use Rattle.octseq_format.specs.Laws.{Relation, IsOne, IsOnward}

-- the window of those octets alone
abbrev pub IsPart : ℕ → Relation Window
IsPart k w inside v = HasPart k w × (inside ≡ part k w) × (v ≡ past_part k w)

-- ---- lemmas: proved below this line, so what the words mean is read above it

pub one_part : (k : ℕ) → IsOne (IsPart k)
one_part k = record { same = λ w a b u v is other. (is.1 ∙ sym other.1, is.2 ∙ sym other.2) }

pub onward_part : (k : ℕ) → IsOnward k (IsPart k)
onward_part k = record {
  on = λ w a v ordered is.
      let position = ap (λ (x : Window). x.position) is.2 in
      let end = ap (λ (x : Window). x.end) is.2 in (
        ap (λ (x : Window). x.octets) is.2,
        end,
        omega (arith, position),
        omega (arith, position, end, is.0.0, is.0.1, ordered),
      );
  less = λ w a v is. let same = ap left is.2 in omega (arith, same, is.0.0);
}
