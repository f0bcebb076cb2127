-- The text of a message: a line for its header, and one for each question and each record.
use Rattle.std.specs.Prelude.{◌≡◌, ℕ, List, [], ◌∷◌, ◌++◌, codes}
use Rattle.std.specs.Fmt.{decimal}
use Rattle.std.specs.List.{flat_map}
use Rattle.octseq_dns_data.specs.Data.{ParsedRdata}
use Rattle.octseq_dns_message.specs.RecordData.{IsDataOf}
use Rattle.octseq_dns_data.specs.RdataText.{rdata_text}
use Rattle.octseq_dns_message.specs.Entry.{Question, Record}
use Rattle.octseq_dns_message.specs.HeaderText.{header_text, question_text}
use Rattle.octseq_dns_data.specs.Mnemonic.{class_text, rtype_text}
use Rattle.octseq_dns_name.specs.Text.{name_text}
use Rattle.octseq_dns_message.specs.declared.header.Header.{Header}

-- an owner, a TTL, a class, a type and the text of the data, with a space (32) between each two
abbrev pub record_text : Record → ParsedRdata → List ℕ
record_text r rdata = name_text r.owner.labels ++ 32 ∷ decimal r.ttl ++ 32 ∷ class_text r.class
    ++ 32 ∷ rtype_text r.rtype ++ 32 ∷ rdata_text rdata

-- a word, a space (32), a text, and a line feed (10)
abbrev pub line : List ℕ → List ℕ → List ℕ
line word text = word ++ 32 ∷ text ++ 10 ∷ []

-- a line for the header
abbrev pub header_line : Header → List ℕ
header_line header = header_text header ++ 10 ∷ []

-- a line for each question
abbrev pub questions_text : List Question → List ℕ
questions_text = flat_map (λ q. line (codes "question") (question_text q))

-- a line for each record, with its data
abbrev pub IsRecordsText : List ℕ → List Record → List ℕ → Type 0
IsRecordsText word [] text = text ≡ []
IsRecordsText word (r ∷ records) text = (rdata : ParsedRdata) × (more : List ℕ) × IsDataOf r rdata
    × IsRecordsText word records more × (text ≡ line word (record_text r rdata) ++ more)

-- The text of a message: the header's line, and those of the sections.
pub record IsMessageText (header : Header) (questions : List Question) (answers authorities additionals : List Record)
    (text : List ℕ) : Type 0 where
  pub of_answers : List ℕ
  pub answers_are : IsRecordsText (codes "answer") answers of_answers
  pub of_authorities : List ℕ
  pub authorities_are : IsRecordsText (codes "authority") authorities of_authorities
  pub of_additionals : List ℕ
  pub additionals_are : IsRecordsText (codes "additional") additionals of_additionals
  pub whole : text ≡ header_line header ++ questions_text questions ++ of_answers ++ of_authorities ++ of_additionals
