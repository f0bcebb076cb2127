-- The messages of a text are those that its lines say.
use Rattle.std.proofs.Common.{◌≡◌, ◌↔◌, ℕ, List, [], ◌∷◌, ◌++◌, map, refl, sym, ap, ◌∙◌, subst}
use Rattle.std.proofs.Common.{append_assoc, append-nil}
use Rattle.std.specs.List.{AllZip, each_same}
use Rattle.octseq.specs.Window.{Window}
use Rattle.octseq_dns.specs.Rdata.{rdata_fields}
use Rattle.octseq_dns.specs.ReadBack.{bare}
use Rattle.octseq_dns.specs.Rewritten as rewritten
use Rattle.octseq_dns.specs.Rewritten.{record_of_parsed}
use Rattle.octseq_dns_data.specs.Data.{ParsedRdata}
use Rattle.octseq_dns_message.proofs.Formats.{onward_record}
use Rattle.octseq_dns_message.proofs.RecordData.{one_said}
use Rattle.octseq_dns_message.specs.Entry as read
use Rattle.octseq_dns_message.specs.Entry.{IsRecord}
use Rattle.octseq_dns_message.specs.MessageText as shown
use Rattle.octseq_dns_message.specs.RecordData.{IsDataOf}
use Rattle.octseq_format.specs.Canonical.{IsSoundWindow, sound_on}
use Rattle.octseq_format.specs.Row.{Row}
use Rattle.octseq_dns_compose.specs.MessageShown.{IsSaidOf, header_said, said_of}
use Rattle.octseq_dns_compose.proofs.PlainData.{says_alone}
use Rattle.octseq_dns_compose.proofs.ShownMessages.{AreRows, message_shown}
use Rattle.octseq_dns_compose.proofs.ShownRecords.{record_fit}
use Rattle.octseq_dns.specs.Contents.{Message, Question, Record}
use Rattle.octseq_dns.specs.Writes.{all_more, more_additionals, more_answers, more_authorities, more_questions}
use Rattle.octseq_dns_message.specs.declared.header.Header.{Header}
use Rattle.octseq_dns_compose.specs.MessageShown.{IsMessageOfLines, SaysLines, entries_said}
use Rattle.octseq_dns_compose.specs.MessageText.{
  EntryLine,
  IsTextOfMessage,
  IsRecordOfLine,
  IsWith,
  IsWithAll,
  RecordLine,
  SayEntries,
}
use Rattle.octseq_dns_compose.specs.MessageText.{headed_message}
use Rattle.octseq_dns_compose.proofs.SectionLines.{whole_message, whole_with}
use Rattle.octseq_dns_compose.proofs.OneMessage.{lines_once, lines_say}

split_all : (m all : Message) (xs ys : List EntryLine) → IsWithAll m (xs ++ ys) all
    → (mid : Message) × IsWithAll m xs mid × IsWithAll mid ys all
split_all m all [] ys is = (m, refl, is)
split_all m all (x ∷ xs) ys (more, one, rest) =
    let (mid, front, after) = split_all more all xs ys rest in
    (mid, (more, one, front), after)

-- entries of a section, each with a value of it
all_made : {A S : Type 0} (make : S → EntryLine) (Is : S → A → Type 0) (more : Message → A → Message)
    → ((m all : Message) (s : S) → IsWith m (make s) all → (x : A) × Is s x × (all ≡ more m x)) → (m all : Message)
    (said : List S) → IsWithAll m (map make said) all
    → (xs : List A) × AllZip Is said xs × (all ≡ all_more more m xs)
all_made make Is more one m all [] is = ([], tt, is)
all_made make Is more one m all (s ∷ said) (next, first, rest) =
    let (x, is, same) = one m next s first in
    let (xs, are, others) = all_made make Is more one next all said rest in
    (x ∷ xs, (is, are), others ∙ ap (λ n. all_more more n xs) same)

-- ---- the sections

all_questions : (m : Message) (xs : List Question)
    → all_more more_questions m xs ≡ record m { questions = m.questions ++ xs }
all_questions m [] = λ i. record m { questions = sym (append-nil m.questions) i }
all_questions m (x ∷ xs) =
    all_questions (more_questions m x) xs ∙ (λ i. record m { questions = append_assoc m.questions (x ∷ []) xs i })

all_answers : (m : Message) (xs : List Record) → all_more more_answers m xs ≡ record m { answers = m.answers ++ xs }
all_answers m [] = λ i. record m { answers = sym (append-nil m.answers) i }
all_answers m (x ∷ xs) =
    all_answers (more_answers m x) xs ∙ (λ i. record m { answers = append_assoc m.answers (x ∷ []) xs i })

all_authorities : (m : Message) (xs : List Record)
    → all_more more_authorities m xs ≡ record m { authorities = m.authorities ++ xs }
all_authorities m [] = λ i. record m { authorities = sym (append-nil m.authorities) i }
all_authorities m (x ∷ xs) =
    all_authorities (more_authorities m x) xs
    ∙ (λ i. record m { authorities = append_assoc m.authorities (x ∷ []) xs i })

all_additionals : (m : Message) (xs : List Record)
    → all_more more_additionals m xs ≡ record m { additionals = m.additionals ++ xs }
all_additionals m [] = λ i. record m { additionals = sym (append-nil m.additionals) i }
all_additionals m (x ∷ xs) =
    all_additionals (more_additionals m x) xs
    ∙ (λ i. record m { additionals = append_assoc m.additionals (x ∷ []) xs i })

abbrev message_with : Header → List Question → List Record → List Record → List Record → Message
message_with header questions answers authorities additionals = record {
  header = header;
  questions = questions;
  answers = answers;
  authorities = authorities;
  additionals = additionals;
}

whole_is : (header : Header) (questions : List Question) (rs us ds : List Record)
    → whole_message header questions rs us ds ≡ message_with header questions rs us ds
whole_is header questions rs us ds =
    let m1 = all_more more_questions (headed_message header) questions in
    let m2 = all_more more_answers m1 rs in
    let m3 = all_more more_authorities m2 us in
    all_additionals m3 ds ∙ ap (λ (m : Message). record m { additionals = m.additionals ++ ds })
    (all_authorities m2 us ∙ ap (λ (m : Message). record m { authorities = m.authorities ++ us })
    (all_answers m1 rs ∙ ap (λ (m : Message). record m { answers = m.answers ++ rs })
    (all_questions (headed_message header) questions)))

-- what entries say of a message
message_of : (header : Header) (questions : List Question) (answers authorities additionals : List RecordLine)
    (m : Message)
    → IsWithAll (headed_message header) (entries_said questions answers authorities additionals) m
    → IsMessageOfLines header questions answers authorities additionals m
message_of header questions answers authorities additionals m is =
    let m0 = headed_message header in
    let e3 = map EntryLine.additional additionals ++ [] in
    let e2 = map EntryLine.authority authorities ++ e3 in
    let e1 = map EntryLine.answer answers ++ e2 in
    let (m1, one, rest1) = split_all m0 m (map EntryLine.question questions) e1 is in
    let (m2, two, rest2) = split_all m1 m (map EntryLine.answer answers) e2 rest1 in
    let (m3, three, rest3) = split_all m2 m (map EntryLine.authority authorities) e3 rest2 in
    let (m4, four, same) = split_all m3 m (map EntryLine.additional additionals) [] rest3 in
    let (qs, q_are, q_is) = all_made EntryLine.question (λ q other. other ≡ q) more_questions
    (λ n more q it. (q, refl, it))
    m0 m1 questions one in
    let (rs, r_are, r_is) = all_made EntryLine.answer IsRecordOfLine more_answers
    (λ n more s it. it) m1 m2 answers two in
    let (us, u_are, u_is) =
    all_made EntryLine.authority IsRecordOfLine more_authorities (λ n more s it. it) m2 m3 authorities three in
    let (ds, d_are, d_is) =
    all_made EntryLine.additional IsRecordOfLine more_additionals (λ n more s it. it) m3 m4 additionals four in
    let all : m ≡ message_with header qs rs us ds =
    same ∙ d_is ∙ ap (λ n. all_more more_additionals n ds) (u_is ∙ ap (λ n. all_more more_authorities n us)
    (r_is ∙ ap (λ n. all_more more_answers n rs) q_is)) ∙ whole_is header qs rs us ds in
    record {
      header_is = ap (λ (n : Message). n.header) all;
      questions_are = ap (λ (n : Message). n.questions) all ∙ each_same questions qs q_are;
      answers_are = subst (AllZip IsRecordOfLine answers) (sym (ap (λ (n : Message). n.answers) all)) r_are;
      authorities_are = subst (AllZip IsRecordOfLine authorities) (sym (ap (λ (n : Message). n.authorities) all)) u_are;
      additionals_are = subst (AllZip IsRecordOfLine additionals) (sym (ap (λ (n : Message). n.additionals) all)) d_are;
    }

-- the messages of a text are those
pub messages_of : (text : List ℕ) (header : Header) (questions : List Question)
    (answers authorities additionals : List RecordLine) (m : Message)
    → SaysLines text header (entries_said questions answers authorities additionals)
    → IsTextOfMessage text m ↔ IsMessageOfLines header questions answers authorities additionals m
messages_of text header questions answers authorities additionals m says = (there, back)
  where
    there : IsTextOfMessage text m → IsMessageOfLines header questions answers authorities additionals m
    there is =
        let entries = entries_said questions answers authorities additionals in
        let lines = lines_once text is.lines says.lines is.lines_are says.lines_are in
        let both = lines_say says.lines is.header header is.entries entries
        (subst (λ l. SayEntries l is.header is.entries) lines is.say) says.say in
        let with_only_header = subst (λ h. IsWithAll (headed_message h) is.entries m) both.0 is.message_is in
        message_of header questions answers authorities additionals m
        (subst (λ es. IsWithAll (headed_message header) es m) both.1 with_only_header)

    back : IsMessageOfLines header questions answers authorities additionals m → IsTextOfMessage text m
    back is =
        let entries = entries_said questions answers authorities additionals in
        let made = whole_with header questions answers authorities additionals m.answers m.authorities m.additionals
        is.answers_are is.authorities_are is.additionals_are in
        let same : whole_message header questions m.answers m.authorities m.additionals ≡ m =
        whole_is header questions m.answers m.authorities m.additionals
        ∙ (λ i. message_with (sym is.header_is i) (sym is.questions_are i) m.answers m.authorities m.additionals) in
        record {
          lines = says.lines;
          header = header;
          entries = entries;
          lines_are = says.lines_are;
          say = says.say;
          message_is = subst (IsWithAll (headed_message header) entries) same made;
        }

-- ---- a message that was read

record_again : (w : Window) (r : read.Record) (v : Window) (rdata : ParsedRdata) → IsSoundWindow w → IsRecord w r v
    → IsDataOf r rdata → IsRecordOfLine (said_of r rdata) (record_of_parsed r rdata)
record_again w r v rdata sound is says =
    let (u, fit) = record_fit w r v sound is in
    let (parsed, same, alone) = says_alone r rdata fit.own fit.place fit.inside says in
    record {
      parsed = parsed;
      says = alone;
      is = λ i. record {
        labels = r.owner.labels;
        rtype = r.rtype;
        class = r.class;
        ttl = r.ttl;
        fields = rdata_fields (sym same i);
      };
    }

records_again : (w v : Window) (records : List read.Record) (said : List RecordLine) (written : List Record)
    → IsSoundWindow w
    → Row IsRecord w records v → AllZip IsSaidOf records said
    → AllZip rewritten.IsRecordOf records written → AllZip IsRecordOfLine said written
records_again w v [] [] [] sound row are others = tt
records_again w v [] (s ∷ said) written sound row are others = absurd are
records_again w v [] [] (x ∷ written) sound row are others = absurd others
records_again w v (r ∷ records) [] written sound row are others = absurd are
records_again w v (r ∷ records) (s ∷ said) [] sound row are others = absurd others
records_again w v (r ∷ records) (s ∷ said) (x ∷ written) sound (u, is, row) are others =
    let (rdata, says, same) = are.0 in
    let other = others.0 in
    let one = other.is ∙ ap (record_of_parsed r) (one_said r other.parsed rdata other.data_is says) in
    let it = record_again w r u rdata sound is says in
    let on = sound_on onward_record w r u sound is in (
      subst (λ t. IsRecordOfLine t x) (sym same) (subst (IsRecordOfLine (said_of r rdata)) (sym one) it),
      records_again u v records said written on row are.1 others.1,
    )

-- is the message of its text
pub message_again : (text : List ℕ) (header : Header) (questions : List read.Question)
    (answers authorities additionals : List read.Record) (m : Message)
    → AreRows header questions answers authorities additionals
    → shown.IsMessageText header questions answers authorities additionals text
    → rewritten.IsMessageOf (header_said header) questions answers authorities additionals m → IsTextOfMessage text m
message_again text header questions answers authorities additionals m rows is of =
    let said = message_shown text header questions answers authorities additionals rows is in
    let answered = rows.answered in
    let authorized = rows.authorized in
    let added = rows.added in
    (messages_of text (header_said header) (map bare questions) said.answers_said said.authorities_said
    said.additionals_said m said.says).1 (record {
      header_is = of.header_is;
      questions_are = of.questions_are;
      answers_are =
          records_again answered.start answered.end answers said.answers_said m.answers answered.sound answered.are
          said.answers_are of.answers_are;
      authorities_are =
          records_again authorized.start authorized.end authorities said.authorities_said m.authorities
          authorized.sound authorized.are said.authorities_are of.authorities_are;
      additionals_are =
          records_again added.start added.end additionals said.additionals_said m.additionals added.sound added.are
          said.additionals_are of.additionals_are;
    })
