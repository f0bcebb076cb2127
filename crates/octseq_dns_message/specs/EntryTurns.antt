-- The least number of turns that the names of entries take: one for the root of each, and one for each label. Each
-- pointer takes one more.
use Rattle.std.specs.Prelude.{ℕ, ◌+◌, List, length}
use Rattle.std.specs.List.{sum_by}
use Rattle.octseq_dns_message.specs.Entry.{Question, Record}

abbrev pub question_turns : Question → ℕ
question_turns question = 1 + length question.qname.labels

abbrev pub record_turns : Record → ℕ
record_turns entry = 1 + length entry.owner.labels

abbrev pub questions_turns : List Question → ℕ
questions_turns questions = sum_by question_turns questions

abbrev pub records_turns : List Record → ℕ
records_turns records = sum_by record_turns records
