-- Messages section by section; a message that was read is rewritten in one way.
use Rattle.std.proofs.Common.{◌≡◌, ℕ, Option, List, [], ◌∷◌, ◌++◌, length, map, refl, sym, ap, ◌∙◌, subst}
use Rattle.std.proofs.lemmas.List.{length-map}
use Rattle.std.proofs.lemmas.Slice.Zip.{AllZip-long}
use Rattle.std.specs.List.{AllZip}
use Rattle.octseq.specs.Limit.{ExceedsLimit}
use Rattle.octseq.proofs.Limits.{past_more}
use Rattle.octseq_dns_message.specs.Entry as entry
use Rattle.octseq_dns_message.specs.declared.header.Header.{Header}
use Rattle.octseq_dns_message.specs.declared.header.HeaderCounts.{HeaderCounts}
use Rattle.octseq_dns.specs.Contents.{Question, Record, Message, counts_of, message_octets, records_in}
use Rattle.octseq_dns.specs.ReadBack.{bare}
use Rattle.octseq_dns.specs.Rewritten.{IsMessageOf, IsQuestionOf, IsRecordOf}
use Rattle.octseq_dns.specs.Writes.{Building, ComposesMessage}
use Rattle.octseq_dns.proofs.OnlyRecord.{single_record}
use Rattle.octseq_dns.proofs.Pushed.{twelve_first}
use Rattle.octseq_dns.proofs.Zips.{zip_append, zip_cut, zip_once}

-- a message of these sections
abbrev pub of_sections : Header → List Question → List Record → List Record → List Record → Message
of_sections h q a n d = record { header = h; questions = q; answers = a; authorities = n; additionals = d }

-- the first sections of a message
abbrev pub asked : Message → Message
asked m = of_sections m.header m.questions [] [] []

-- ---- a message has its header

pub past_twelve : (limit : Option ℕ) (most : ℕ) (m : Message) → ExceedsLimit limit 12
    → ExceedsLimit limit (length (message_octets most m))
past_twelve limit most m past = past_more limit 12 (length (message_octets most m)) (twelve_first most m) past

-- ---- what is written for a message that was read

pub zip_bare : (questions : List entry.Question) → AllZip IsQuestionOf questions (map bare questions)
zip_bare [] = tt
zip_bare (q ∷ questions) = (refl, zip_bare questions)

-- only one message is
pub one_contents : (header : Header) (questions : List entry.Question)
    (answers authorities additionals : List entry.Record) (m n : Message)
    → IsMessageOf header questions answers authorities additionals m
    → IsMessageOf header questions answers authorities additionals n → m ≡ n
one_contents header questions answers authorities additionals m n a b =
    let once = zip_once IsRecordOf single_record in
    λ i. of_sections ((a.header_is ∙ sym b.header_is) i) ((a.questions_are ∙ sym b.questions_are) i)
    (once answers m.answers n.answers a.answers_are b.answers_are i)
    (once authorities m.authorities n.authorities a.authorities_are b.authorities_are i)
    (once additionals m.additionals n.additionals a.additionals_are b.additionals_are i)

-- and one is if something is written for each record
pub contents_of : (header : Header) (questions : List entry.Question)
    (answers authorities additionals : List entry.Record) (records : List Record)
    → AllZip IsRecordOf (answers ++ (authorities ++ additionals)) records
    → (m : Message) × IsMessageOf header questions answers authorities additionals m
contents_of header questions answers authorities additionals records are =
    let first = zip_cut IsRecordOf answers (authorities ++ additionals) records are in
    let more = zip_cut IsRecordOf authorities additionals first.1 first.4 in (
      of_sections header (map bare questions) first.0 more.0 more.1,
      record {
        header_is = refl;
        questions_are = refl;
        answers_are = first.3;
        authorities_are = more.3;
        additionals_are = more.4;
      },
    )

module _ {header : Header} {questions : List entry.Question} {answers authorities additionals : List entry.Record}
    {m : Message} (is : IsMessageOf header questions answers authorities additionals m) where
  pub questions_zip : AllZip IsQuestionOf questions m.questions
  questions_zip = subst (AllZip IsQuestionOf questions) (sym is.questions_are) (zip_bare questions)

  pub records_zip : AllZip IsRecordOf (answers ++ (authorities ++ additionals)) (records_in m)
  records_zip = zip_append IsRecordOf answers (authorities ++ additionals) m.answers (m.authorities ++ m.additionals)
      is.answers_are (zip_append IsRecordOf authorities additionals m.authorities m.additionals is.authorities_are
      is.additionals_are)

  -- it has as many entries of each section
  pub counts_are : {counts : HeaderCounts} → counts.qdcount ≡ length questions → counts.ancount ≡ length answers
      → counts.nscount ≡ length authorities → counts.arcount ≡ length additionals → counts ≡ counts_of m
  counts_are qdcount ancount nscount arcount =
      let long = AllZip-long IsRecordOf in
      λ i. record {
        qdcount = (qdcount ∙ sym (ap length is.questions_are ∙ length-map questions bare)) i;
        ancount = (ancount ∙ sym (long answers m.answers is.answers_are)) i;
        nscount = (nscount ∙ sym (long authorities m.authorities is.authorities_are)) i;
        arcount = (arcount ∙ sym (long additionals m.additionals is.additionals_are)) i;
      }

-- ---- builders

-- it is this message
abbrev pub WritesIn : {B T : Type 0} → ℕ → Message → Building B T → Type 0
WritesIn most m b = ComposesMessage most m b.state b.header b.counts

pub stage_next : {B T : Type 0} (most : ℕ) (b then : Building B T) (m other : Message) → WritesIn most m b → m ≡ other
    → then ≡ b → WritesIn most other then
stage_next most b then m other is same next =
    subst (λ b. WritesIn most other b) (sym next) (subst (λ m. WritesIn most m b) same is)
