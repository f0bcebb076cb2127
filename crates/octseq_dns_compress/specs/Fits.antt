-- Whether a name can be written: each label has 1 to 63 octets, and the wire form at most 255.
use Rattle.octseq_dns_compress.specs.State.{Field}
pub use Rattle.octseq_dns_name.specs.NameFormat.{NameFits}

-- the labels of a field can be written
abbrev pub FitsField : Field → Type 0
FitsField (Field.name labels) = NameFits labels
FitsField (Field.octets more) = Unit {0}
