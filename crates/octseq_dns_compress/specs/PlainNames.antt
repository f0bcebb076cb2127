-- A name as its labels, as contracts see it.
use Rattle.std.specs.Prelude.{ℕ, List}
use Rattle.octseq_dns_compress.specs.LabelOffsets.{labels_at}
use Rattle.octseq_dns_compress.specs.declared.plain.LabelOffsets.{LabelOffsets}

-- its labels
abbrev pub plain_labels : LabelOffsets → List (List ℕ)
plain_labels name = labels_at name.octets.now name.starts.now
