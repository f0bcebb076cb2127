-- Numbers and data, the parts of a message besides names: RFC 1035, 2.3.2 and 4.1.
use Rattle.std.specs.Prelude.{ℕ}
use Rattle.octseq.specs.Integer.{be}
use Rattle.octseq.specs.Window.{Window}
use Rattle.octseq_format.specs.Fixed.{IsFixed, one_fixed}
use Rattle.octseq_format.specs.Laws.{Relation, IsOne}
use Rattle.octseq_format.specs.Part.{IsPart, one_part}

-- a number in k octets, big-endian
abbrev pub IsNumber : ℕ → Relation ℕ
IsNumber k = IsFixed k be

-- octets after their length, which has 2 octets: the window of those octets alone
abbrev pub IsData : Relation Window
IsData = IsPart 2

-- ---- lemmas: proved below this line, so what the words mean is read above it

-- at most one of each is at a place
pub one_number : (k : ℕ) → IsOne (IsNumber k)
one_number k = one_fixed k be

pub one_data : IsOne IsData
one_data = one_part 2
