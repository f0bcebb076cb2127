-- At most one entry is at a place, with one end, so a row of them is a fact.
use Rattle.std.specs.Prelude.{ℕ, refl}
use Rattle.std.specs.Coded.{Coded, code_by, coded×, coded_ℕ}
use Rattle.octseq.specs.Window.{Window}
use Rattle.octseq_dns_message.specs.Entry.{IsQuestion, IsRecord, Question, Record}
use Rattle.octseq_dns_data.specs.Format.{one_number, one_data}
use Rattle.octseq_dns_name.specs.Name.{Name}
use Rattle.octseq_dns_name.specs.NameFormat.{one_named, name_code}
use Rattle.octseq_format.specs.Laws.{IsOne, one_by}
use Rattle.octseq_format.specs.Pair.{◌one_then◌}
use Rattle.octseq_format.specs.Rest.{window_code}
use Rattle.octseq_format.specs.Row.{Holds, held_once}

-- the parts of a question and of a record, one after another
abbrev pub question_parts : Question → Name × (ℕ × ℕ)
question_parts q = (q.qname, (q.qtype, q.qclass))

abbrev question_from : Name × (ℕ × ℕ) → Question
question_from q = record { qname = q.0; qtype = q.1.0; qclass = q.1.1 }

abbrev pub record_parts : Record → Name × (ℕ × (ℕ × (ℕ × Window)))
record_parts r = (r.owner, (r.rtype, (r.class, (r.ttl, r.rdata))))

abbrev record_from : Name × (ℕ × (ℕ × (ℕ × Window))) → Record
record_from r = record { owner = r.0; rtype = r.1.0; class = r.1.1.0; ttl = r.1.1.1.0; rdata = r.1.1.1.1 }

-- codes of entries, so that lists of them are equal in at most one way
abbrev pub question_code : Coded Question
question_code = code_by (Name × (ℕ × ℕ)) (coded× name_code (coded× coded_ℕ coded_ℕ))
    (λ q. (q.qname, (q.qtype, q.qclass)))
    (λ c. record { qname = c.0; qtype = c.1.0; qclass = c.1.1 }) (λ _. refl)

abbrev pub record_code : Coded Record
record_code = code_by (Name × (ℕ × (ℕ × (ℕ × Window))))
    (coded× name_code (coded× coded_ℕ (coded× coded_ℕ (coded× coded_ℕ window_code))))
    (λ r. (r.owner, (r.rtype, (r.class, (r.ttl, r.rdata)))))
    (λ c. record { owner = c.0; rtype = c.1.0; class = c.1.1.0; ttl = c.1.1.1.0; rdata = c.1.1.1.1 }) (λ _. refl)

-- ---- lemmas: proved below this line, so what the words mean is read above it

pub one_question : IsOne IsQuestion
one_question = one_by question_parts question_from (λ _. refl) (one_named one_then one_number 2 one_then one_number 2)

pub one_record : IsOne IsRecord
one_record = one_by record_parts record_from (λ _. refl)
    (one_named one_then one_number 2 one_then one_number 2 one_then one_number 4 one_then one_data)

pub questions_once : (w : Window) (count : ℕ) → IsProp (Holds IsQuestion w count)
questions_once = held_once question_code IsQuestion one_question

pub records_once : (w : Window) (count : ℕ) → IsProp (Holds IsRecord w count)
records_once = held_once record_code IsRecord one_record
