-- What comes in the lists of a message: prefixes (RFC 4271, 4.3; with a path id RFC 7911, 3), path attributes (RFC
-- 4271, 4.3), parameters (RFC 4271, 4.2; with a length of two octets RFC 9072, 2), capabilities (RFC 5492, 4), and
-- segments of an AS path (RFC 4271, 4.3, and RFC 5065, 3).
use Rattle.std.specs.Prelude.{ℕ, ◌+◌, ◌*◌, ◌/◌, ◌%◌, ◌≤◌, Bool, cond, nat_eq}
use Rattle.octseq.specs.Integer.{be}
use Rattle.octseq.specs.Window.{Window}
use Rattle.octseq_format.specs.Counted.{Counted}
use Rattle.octseq_format.specs.Family.{ByKey, IsSized, IsWhen}
use Rattle.octseq_format.specs.Fixed.{IsFixed}
use Rattle.octseq_format.specs.Laws.{Relation}
use Rattle.octseq_format.specs.Pair.{◌then◌}
use Rattle.octseq_format.specs.Rest.{IsRest}
use Rattle.octseq_format.specs.Scaled.{Scales}
use Rattle.octseq_format.specs.Where.{IsWhere}

-- a number in k octets, big-endian
abbrev pub IsNumber : ℕ → Relation ℕ
IsNumber k = IsFixed k be

-- octets after their length, which has k octets
abbrev pub IsCounted : ℕ → Relation Window
IsCounted k = Counted k 0 IsRest

-- the next k octets
abbrev pub IsNext : ByKey Window
IsNext = IsSized 0 IsRest

-- one value, and another whose form it decides
abbrev pub ◌deciding◌ : {A B : Type 0} → Relation A → (A → Relation B) → Relation (A × B)
(First deciding Second) w both v = (u : Window) × First w both.0 u × Second both.0 u both.1 v

-- ---- prefixes

-- the number of octets that a number of bits needs
abbrev pub octets_of_bits : ℕ → ℕ
octets_of_bits bits = bits / 8 + (bits % 8 + 7) / 8

-- a prefix: a length of at most `most` bits, and as many octets as the bits need
abbrev pub IsPrefix : ℕ → Relation (ℕ × Window)
IsPrefix most = IsNumber 1 deciding IsWhen (λ bits. bits ≤ most) (λ bits. IsNext (octets_of_bits bits))

-- the same after a path id
abbrev pub IsPathPrefix : ℕ → Relation (ℕ × (ℕ × Window))
IsPathPrefix most = IsNumber 4 then IsPrefix most

-- ---- path attributes

-- A path attribute: its flags, its type, and the window of its octets.
abbrev pub Attribute : Type 0
Attribute = ℕ × (ℕ × Window)

abbrev pub flags_of : Attribute → ℕ
flags_of a = a.0

abbrev pub type_of : Attribute → ℕ
type_of a = a.1.0

abbrev pub inside_of : Attribute → Window
inside_of a = a.1.1

-- the length has two octets, rather than one
abbrev pub is_extended : ℕ → Bool
is_extended flags = nat_eq (flags / 16 % 2) 1

-- flags, a type, and octets after their length
abbrev pub IsAttribute : Relation Attribute
IsAttribute = IsNumber 1
    deciding (λ flags. IsNumber 1 then cond (is_extended flags) (IsCounted 2) (IsCounted 1))

-- ---- parameters and capabilities

-- a type or a code, a length of k octets, and that many octets
abbrev pub IsTlv : ℕ → Relation (ℕ × Window)
IsTlv k = IsNumber 1 then IsCounted k

-- ---- segments

-- the types of segments
abbrev pub IsSegmentType : ℕ → Type 0
IsSegmentType kind = (1 ≤ kind) × (kind ≤ 4)

-- A segment: its type, the number of its AS numbers, and the window of their octets.
abbrev pub Segment : Type 0
Segment = ℕ × (ℕ × Window)

-- a type, a count of 1 or more, and that many AS numbers of k octets
abbrev pub IsSegment : ℕ → Relation Segment
IsSegment k = IsWhere (IsNumber 1) (λ kind. kind) IsSegmentType
    then IsNumber 1 deciding IsWhen (λ count. 1 ≤ count) (IsWhen (Scales k) (λ count. IsNext (count * k)))

-- ---- lemmas: proved below this line, so what the words mean is read above it

infixr 5 ◌deciding◌
