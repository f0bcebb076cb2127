-- The text of a message is read back, line by line.
use Rattle.std.proofs.Common.{◌≡◌, ℕ, ◌≤◌, ◌<◌, ◌^◌, Bool, true, false, List, [], ◌∷◌, ◌++◌, length, map, codes}
use Rattle.std.proofs.Common.{refl, sym, ap, ◌∙◌, subst, append_assoc, append-nil, arith, decimal}
use Rattle.std.specs.List.{AllByRecursion, AllZip}
use Rattle.octseq.proofs.WrittenBack.{AreOctets}
use Rattle.octseq.specs.Window.{Window, whole}
use Rattle.octseq_dns.specs.Contents.{Question}
use Rattle.octseq_dns.specs.ReadBack.{bare}
use Rattle.octseq_dns_data.specs.Format.{IsNumber}
use Rattle.octseq_dns_message.proofs.Formats.{onward_number, onward_question, onward_record}
use Rattle.octseq_dns_message.specs.Entry as read
use Rattle.octseq_dns_message.specs.Entry.{IsQuestion, IsRecord}
use Rattle.octseq_dns_message.specs.Header.{header_numbers}
use Rattle.octseq_dns_message.specs.HeaderText.{flag_text, flags_text, header_text, question_text}
use Rattle.octseq_dns_message.specs.Message.{IsMessage}
use Rattle.octseq_dns_message.specs.MessageText.{IsRecordsText, header_line, line, questions_text, record_text}
use Rattle.octseq_dns_message.specs.MessageText as shown
use Rattle.octseq_dns_message.specs.declared.header.Flags.{Flags}
use Rattle.octseq_dns_message.specs.declared.header.Header.{Header}
use Rattle.octseq_dns_scan.proofs.Numerals.{shown_digits, shown_value}
use Rattle.octseq_dns_scan.specs.Word.{AreWords}
use Rattle.octseq_dns_text.proofs.OrdinaryTexts.{decimal_first}
use Rattle.octseq_dns_text.proofs.PlainNames.{are_plain, plain_from}
use Rattle.octseq_dns_text.proofs.OrdinaryTexts.{plain_first}
use Rattle.octseq_dns_text.proofs.SpacedWords.{IsFeedless, IsLineWord, spaced, spaced_feedless, spaced_words}
use Rattle.octseq_dns_text.proofs.SpacedWords.{words_before}
use Rattle.octseq_format.specs.Canonical.{IsSoundWindow, sound_on}
use Rattle.octseq_format.specs.Laws.{Relation}
use Rattle.octseq_format.specs.Row.{Row, onward_row}
use Rattle.octseq_dns_compose.specs.HeaderLine.{IsHeaderLine, flag_word, flag_words}
use Rattle.octseq_dns_compose.specs.MessageShown.{IsSaidOf, ShowsMessage, ShowsWords}
use Rattle.octseq_dns_compose.specs.MessageShown.{header_said, said_of}
use Rattle.octseq_dns_compose.specs.MessageText.{IsQuestionLine, IsRecordLine}
use Rattle.octseq_dns_compose.specs.Take.{IsUpTo}
use Rattle.octseq_dns_compose.specs.TextLines.{BeginsWithLines, TakesLine}
use Rattle.octseq_dns_compose.proofs.LineFaults.{Line}
use Rattle.octseq_dns_compose.proofs.SectionLines.{says_lines}
use Rattle.octseq_dns_compose.proofs.ShownRecords.{fixed_fits, question_shown, record_shown, before_feedless}

-- ---- a line

-- a section's word and a text of one line are a line
line_taken : {Are : Line → Type 0} (section text more : List ℕ) → IsLineWord section → (shown : ShowsWords Are text)
    → TakesLine (section ∷ shown.words) (line section text ++ more) more
line_taken section text more word shown = (
  section ++ 32 ∷ text,
  append_assoc (section ++ 32 ∷ text) (10 ∷ []) more,
  before_feedless section text word.1 shown.one_line,
  words_before section text shown.words word.0 shown.are,
)

-- ---- sections

-- What is shown of a section was read, up to what follows it.
record IsShownSection {A S : Type 0} (Is : A → S → Type 0) (IsText : S → Line → Type 0) (values : List A)
    (text rest : List ℕ) : Type 0 where
  said : List S
  are : AllZip Is values said
  lines : List Line
  begins : BeginsWithLines lines (text ++ rest) rest
  read : AllZip IsText said lines

records_shown : (section : List ℕ) → IsLineWord section → (w v : Window) (records : List read.Record)
    (text rest : List ℕ) → IsSoundWindow w → Row IsRecord w records v → IsRecordsText section records text
    → IsShownSection IsSaidOf (IsRecordLine section) records text rest
records_shown section word w v [] text rest sound row is =
    record { said = []; are = tt; lines = []; begins = ap (λ t. t ++ rest) is; read = tt }
records_shown section word w v (r ∷ records) text rest sound (u, one, row) (rdata, more, says, others, is) =
    let first = record_shown w r u rdata sound one says in
    let on = sound_on onward_record w r u sound one in
    let after = records_shown section word u v records more rest on row others in
    let here = line section (record_text r rdata) in
    let same = ap (λ t. t ++ rest) is ∙ append_assoc here more rest in
    let words = section ∷ first.words in
    let taken = line_taken section (record_text r rdata) (more ++ rest) word first in
    record {
      said = said_of r rdata ∷ after.said;
      are = ((rdata, says, refl), after.are);
      lines = words ∷ after.lines;
      begins = (more ++ rest, subst (λ t. TakesLine words t (more ++ rest)) (sym same) taken, after.begins);
      read = ((refl, first.is), after.read);
    }

abbrev IsQuestionOf : read.Question → Question → Type 0
IsQuestionOf q said = said ≡ bare q

questions_shown : IsLineWord (codes "question") → (w v : Window) (questions : List read.Question) (rest : List ℕ)
    → IsSoundWindow w → Row IsQuestion w questions v
    → (lines : List Line) × BeginsWithLines lines (questions_text questions ++ rest) rest
    × AllZip IsQuestionLine (map bare questions) lines
questions_shown word w v [] rest sound row = ([], refl, tt)
questions_shown word w v (q ∷ questions) rest sound (u, one, row) =
    let first = question_shown w q u sound one in
    let on = sound_on onward_question w q u sound one in
    let (lines, begins, read) = questions_shown word u v questions rest on row in
    let more = questions_text questions in
    let words = codes "question" ∷ first.words in
    let same = append_assoc (line (codes "question") (question_text q)) more rest in
    let taken = line_taken (codes "question") (question_text q) (more ++ rest) word first in (
      words ∷ lines,
      (more ++ rest, subst (λ t. TakesLine words t (more ++ rest)) (sym same) taken, begins),
      ((refl, first.is), read),
    )

-- ---- the header

given_word : (text : List ℕ) → are_plain text ≡ true → 1 ≤ length text → IsLineWord text
given_word text plain some = let first = plain_first text some (plain_from text plain) in (first.0, first.1)

number_word : (n : ℕ) → n < 65536 → IsLineWord (decimal n)
number_word n few = let first = decimal_first n (omega (arith, few)) in (first.0, first.1)

up_to : (most n : ℕ) → n ≤ most → most < 65536 → IsUpTo most n (decimal n)
up_to most n few less =
    let small : n < 2 ^ 64 = omega (arith, few, less) in
    (shown_digits n small, shown_value n small, few)

flag_spaced : (is : Bool) (name : List ℕ) (more : Line) → spaced (flag_word is name ++ more)
    ≡ flag_text is name ++ spaced more
flag_spaced true name more = refl
flag_spaced false name more = refl

flag_each : (is : Bool) (name : List ℕ) (more : Line) → IsLineWord name → AllByRecursion IsLineWord more
    → AllByRecursion IsLineWord (flag_word is name ++ more)
flag_each true name more word each = (word, each)
flag_each false name more word each = each

-- ---- texts one after another

seven : (a b c d e f g : List ℕ)
    → a ++ b ++ c ++ d ++ e ++ f ++ g ≡ a ++ (b ++ (c ++ (d ++ (e ++ (f ++ g)))))
seven a b c d e f g =
    append_assoc (a ++ b ++ c ++ d ++ e) f g ∙ append_assoc (a ++ b ++ c ++ d) e (f ++ g)
    ∙ append_assoc (a ++ b ++ c) d (e ++ (f ++ g)) ∙ append_assoc (a ++ b) c (d ++ (e ++ (f ++ g)))
    ∙ append_assoc a b (c ++ (d ++ (e ++ (f ++ g))))

five : (a b c d e : List ℕ) → a ++ b ++ c ++ d ++ e ≡ a ++ (b ++ (c ++ (d ++ e)))
five a b c d e =
    append_assoc (a ++ b ++ c) d e ∙ append_assoc (a ++ b) c (d ++ e) ∙ append_assoc a b (c ++ (d ++ e))

-- ---- the line of a header

flags_spaced : (flags : Flags) → spaced (flag_words flags) ≡ flags_text flags
flags_spaced flags =
    let a = flag_text flags.qr (codes "QR") in
    let b = flag_text flags.aa (codes "AA") in
    let c = flag_text flags.tc (codes "TC") in
    let d = flag_text flags.rd (codes "RD") in
    let e = flag_text flags.ra (codes "RA") in
    let f = flag_text flags.ad (codes "AD") in
    let g = flag_text flags.cd (codes "CD") in
    flag_spaced flags.qr (codes "QR") _ ∙ ap (λ t. a ++ t) (flag_spaced flags.aa (codes "AA") _)
    ∙ ap (λ t. a ++ (b ++ t)) (flag_spaced flags.tc (codes "TC") _)
    ∙ ap (λ t. a ++ (b ++ (c ++ t))) (flag_spaced flags.rd (codes "RD") _)
    ∙ ap (λ t. a ++ (b ++ (c ++ (d ++ t)))) (flag_spaced flags.ra (codes "RA") _)
    ∙ ap (λ t. a ++ (b ++ (c ++ (d ++ (e ++ t))))) (flag_spaced flags.ad (codes "AD") _)
    ∙ ap (λ t. a ++ (b ++ (c ++ (d ++ (e ++ (f ++ t)))))) (flag_spaced flags.cd (codes "CD") [] ∙ append-nil g)
    ∙ sym (seven a b c d e f g)

flags_each : (flags : Flags) → AllByRecursion IsLineWord (flag_words flags)
flags_each flags =
    flag_each flags.qr (codes "QR") _ (given_word (codes "QR") refl (omega arith))
    (flag_each flags.aa (codes "AA") _ (given_word (codes "AA") refl (omega arith))
    (flag_each flags.tc (codes "TC") _ (given_word (codes "TC") refl (omega arith))
    (flag_each flags.rd (codes "RD") _ (given_word (codes "RD") refl (omega arith))
    (flag_each flags.ra (codes "RA") _ (given_word (codes "RA") refl (omega arith))
    (flag_each flags.ad (codes "AD") _ (given_word (codes "AD") refl (omega arith))
    (flag_each flags.cd (codes "CD") [] (given_word (codes "CD") refl (omega arith)) tt))))))

header_shown : (h : Header) → h.id < 65536 → h.opcode < 16 → h.rcode < 16
    → ShowsWords (IsHeaderLine (header_said h)) (header_text h)
header_shown h small few less =
    let id = decimal h.id in
    let opcode = decimal h.opcode in
    let rcode = decimal h.rcode in
    let flags = flag_words h.flags in
    let more = id ∷ codes "opcode" ∷ opcode ∷ codes "rcode" ∷ rcode ∷ codes "flags" ∷ flags in
    let words = codes "id" ∷ more in
    let front = codes "id " ++ id in
    let rest = codes " opcode " ++ (opcode ++ (codes " rcode " ++ (rcode ++ (codes " flags" ++ flags_text h.flags)))) in
    let right : header_text h ≡ codes "id " ++ (id ++ rest) =
    seven front (codes " opcode ") opcode (codes " rcode ") rcode (codes " flags") (flags_text h.flags)
    ∙ append_assoc (codes "id ") id rest in
    let front_of = λ (t : List ℕ). codes "id " ++ (id ++ (codes " opcode " ++ (opcode ++ t))) in
    let same : codes "id" ++ spaced more ≡ header_text h =
    ap (λ t. front_of (codes " rcode " ++ (rcode ++ (codes " flags" ++ t)))) (flags_spaced h.flags) ∙ sym right in
    let first = given_word (codes "id") refl (omega arith) in
    let a = number_word h.id small in
    let b = given_word (codes "opcode") refl (omega arith) in
    let c = number_word h.opcode (omega (arith, few)) in
    let d = given_word (codes "rcode") refl (omega arith) in
    let e = number_word h.rcode (omega (arith, less)) in
    let f = given_word (codes "flags") refl (omega arith) in
    let each : AllByRecursion IsLineWord more = (a, (b, (c, (d, (e, (f, flags_each h.flags)))))) in
    let x = up_to 65535 h.id (omega (arith, small)) (omega arith) in
    let y = up_to 15 h.opcode (omega (arith, few)) (omega arith) in
    let z = up_to 15 h.rcode (omega (arith, less)) (omega arith) in
    record {
      words = words;
      are = subst (AreWords words) same (spaced_words (codes "id") more first.0 each);
      one_line = subst IsFeedless same (spaced_feedless (codes "id") more first.1 each);
      is = (refl, (x, (refl, (y, (refl, (z, (refl, (refl, refl))))))));
    }

-- ---- the message

-- Values are in a window, one after another.
pub record IsRow {A : Type 0} (Is : Relation A) (row : List A) : Type 0 where
  pub start : Window
  pub end : Window
  pub sound : IsSoundWindow start
  pub are : Row Is start row end

-- The sections of a message are rows.
pub record AreRows (header : Header) (questions : List read.Question)
    (answers authorities additionals : List read.Record) : Type 0 where
  pub id : header.id < 65536
  pub opcode : header.opcode < 16
  pub rcode : header.rcode < 16
  pub asked : IsRow IsQuestion questions
  pub answered : IsRow IsRecord answers
  pub authorized : IsRow IsRecord authorities
  pub added : IsRow IsRecord additionals

pub rows_of : (octets : List ℕ) (header : Header) (questions : List read.Question)
    (answers authorities additionals : List read.Record) → AreOctets octets
    → IsMessage octets header questions answers authorities additionals
    → AreRows header questions answers authorities additionals
rows_of octets header questions answers authorities additionals each is =
    let w = whole octets in
    let sound : IsSoundWindow w = record { each = each; ordered = omega arith; within = omega arith } in
    let numbers = is.header_is.numbers in
    let past = is.past_header in
    let s1 = sound_on (onward_row (IsNumber 2) onward_number) w (header_numbers header is.counts) past sound numbers in
    let (u1, qs, (u2, rs, (u3, us, ds))) = is.sections_are in
    let s2 = sound_on (onward_row IsQuestion onward_question) past questions u1 s1 qs.1 in
    let s3 = sound_on (onward_row IsRecord onward_record) u1 answers u2 s2 rs.1 in
    let s4 = sound_on (onward_row IsRecord onward_record) u2 authorities u3 s3 us.1 in
    record {
      id = fixed_fits 2 header.id w numbers.0 sound numbers.1;
      opcode = is.header_is.opcode;
      rcode = is.header_is.rcode;
      asked = record { start = past; end = u1; sound = s1; are = qs.1 };
      answered = record { start = u1; end = u2; sound = s2; are = rs.1 };
      authorized = record { start = u2; end = u3; sound = s3; are = us.1 };
      added = record { start = u3; end = is.past_sections; sound = s4; are = ds.1 };
    }

pub message_shown : (text : List ℕ) (header : Header) (questions : List read.Question)
    (answers authorities additionals : List read.Record) → AreRows header questions answers authorities additionals
    → shown.IsMessageText header questions answers authorities additionals text
    → ShowsMessage header questions answers authorities additionals text
message_shown text header questions answers authorities additionals rows x =
    let asked = rows.asked in
    let answered = rows.answered in
    let authorized = rows.authorized in
    let added = rows.added in
    let d = x.of_additionals ++ [] in
    let c = x.of_authorities ++ d in
    let b = x.of_answers ++ c in
    let a = questions_text questions ++ b in
    let first = header_shown header rows.id rows.opcode rows.rcode in
    let whole_text = x.whole
    ∙ five (header_line header) (questions_text questions) x.of_answers x.of_authorities x.of_additionals
    ∙ ap (λ t. header_line header ++ (questions_text questions ++ (x.of_answers ++ (x.of_authorities ++ t))))
    (sym (append-nil x.of_additionals)) ∙ append_assoc (header_text header) (10 ∷ []) a in
    let (lines, begins, read) = questions_shown (given_word (codes "question") refl (omega arith)) asked.start asked.end
    questions b asked.sound asked.are in
    let r = records_shown (codes "answer") (given_word (codes "answer") refl (omega arith)) answered.start answered.end
    answers x.of_answers c answered.sound answered.are x.answers_are in
    let u = records_shown (codes "authority") (given_word (codes "authority") refl (omega arith)) authorized.start
    authorized.end authorities x.of_authorities d authorized.sound authorized.are x.authorities_are in
    let e = records_shown (codes "additional") (given_word (codes "additional") refl (omega arith)) added.start
    added.end additionals x.of_additionals [] added.sound added.are x.additionals_are in
    let taken : TakesLine first.words text a = (header_text header, whole_text, first.one_line, first.are) in
    record {
      answers_said = r.said;
      answers_are = r.are;
      authorities_said = u.said;
      authorities_are = u.are;
      additionals_said = e.said;
      additionals_are = e.are;
      says =
          says_lines text a b c d [] (header_said header) first.words (map bare questions) r.said u.said e.said
          lines r.lines u.lines e.lines taken first.is begins read
          r.begins r.read u.begins u.read e.begins e.read refl;
    }
