-- The number of labels of the names of a message, which bounds the turns of writing them.
use Rattle.std.specs.Prelude.{ℕ, ◌+◌, length}
use Rattle.std.specs.List.{sum_by}
use Rattle.octseq_dns_compress.specs.State.{label_count}
use Rattle.octseq_dns.specs.Contents.{Question, Record, Message, records_in}

abbrev pub question_labels : Question → ℕ
question_labels q = length q.labels

-- the labels of the owner name, and of the names in the data that may be compressed
abbrev pub record_labels : Record → ℕ
record_labels r = length r.labels + label_count r.fields

abbrev pub labels_in : Message → ℕ
labels_in m = sum_by question_labels m.questions + sum_by record_labels (records_in m)
