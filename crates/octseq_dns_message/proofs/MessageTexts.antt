-- The lines of a message, joined. A message has one text.
use Rattle.std.proofs.Common.{◌≡◌, ℕ, List, [], ◌∷◌, ◌++◌, codes, refl, ap, sym, ◌∙◌}
use Rattle.octseq_dns_message.specs.Entry.{Question, Record}
use Rattle.octseq_dns_message.specs.MessageText.{record_text, line, header_line, questions_text, IsRecordsText}
use Rattle.octseq_dns_message.specs.MessageText.{IsMessageText}
use Rattle.octseq_dns_message.specs.declared.header.Header.{Header}
use Rattle.octseq_dns_message.proofs.RecordData.{one_said}

-- records have one text
pub one_records_text : (word : List ℕ) (records : List Record) (text other : List ℕ) → IsRecordsText word records text
    → IsRecordsText word records other
    → text ≡ other
one_records_text word [] text other a b = a ∙ sym b
one_records_text word (r ∷ records) text other a b =
    let forms = one_said r a.0 b.0 a.2 b.2 in
    let mores = one_records_text word records a.1 b.1 a.3 b.3 in
    a.4 ∙ ap (λ rdata. line word (record_text r rdata) ++ a.1) forms
    ∙ ap (λ more. line word (record_text r b.0) ++ more) mores ∙ sym b.4

-- five parts of which the last three are equal
same_five : (h q a b c x y z text other : List ℕ) → text ≡ h ++ q ++ a ++ b ++ c → other ≡ h ++ q ++ x ++ y ++ z
    → a ≡ x → b ≡ y → c ≡ z → text ≡ other
same_five h q a b c x y z text other one two first second third =
    one ∙ ap (λ l. h ++ q ++ l ++ b ++ c) first ∙ ap (λ l. h ++ q ++ x ++ l ++ c) second
    ∙ ap (λ l. h ++ q ++ x ++ y ++ l) third ∙ sym two

-- and so has a message
pub one_message_text : (header : Header) (questions : List Question) (answers authorities additionals : List Record)
    (text other : List ℕ)
    → IsMessageText header questions answers authorities additionals text
    → IsMessageText header questions answers authorities additionals other → text ≡ other
one_message_text header questions answers authorities additionals text other x y =
    same_five (header_line header) (questions_text questions) x.of_answers x.of_authorities x.of_additionals
    y.of_answers y.of_authorities y.of_additionals text other
    x.whole y.whole (one_records_text (codes "answer") answers _ _ x.answers_are y.answers_are)
    (one_records_text (codes "authority") authorities _ _ x.authorities_are y.authorities_are)
    (one_records_text (codes "additional") additionals _ _ x.additionals_are y.additionals_are)

-- the lines of the sections, one after another, are the text of the message
pub text_of_parts : (header : Header) (questions : List Question) (answers authorities additionals : List Record)
    (a b c : List ℕ) → IsRecordsText (codes "answer") answers a → IsRecordsText (codes "authority") authorities b
    → IsRecordsText (codes "additional") additionals c → IsMessageText header questions answers authorities additionals
    (header_line header ++ questions_text questions ++ a ++ b ++ c)
text_of_parts header questions answers authorities additionals a b c first second third = record {
  of_answers = a;
  answers_are = first;
  of_authorities = b;
  authorities_are = second;
  of_additionals = c;
  additionals_are = third;
  whole = refl;
}
