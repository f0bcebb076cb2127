-- The lines of a whole message, section by section.
use Rattle.std.proofs.Common.{◌≡◌, ℕ, ◌≤◌, List, [], ◌∷◌, ◌++◌, map, codes, append-nil, refl, sym, ap, subst, arith}
use Rattle.std.specs.List.{AllZip}
use Rattle.octseq_dns.specs.Contents.{Message, Question, Record}
use Rattle.octseq_dns.specs.Writes.{all_more, more_additionals, more_answers, more_authorities, more_questions}
use Rattle.octseq_dns_message.specs.declared.header.Header.{Header}
use Rattle.octseq_dns_compose.specs.HeaderLine.{IsHeaderLine}
use Rattle.octseq_dns_compose.specs.MessageShown.{SaysLines, entries_said}
use Rattle.octseq_dns_compose.specs.MessageText.{
  AreEntries,
  EntryLine,
  IsQuestionLine,
  IsRecordLine,
  IsRecordOfLine,
  IsWithAll,
}
use Rattle.octseq_dns_compose.specs.MessageText.{RecordLine, headed_message}
use Rattle.octseq_dns_compose.specs.TextLines.{BeginsWithLines, TakesLine}
use Rattle.octseq_dns_compose.proofs.Composing as sections
use Rattle.octseq_dns_compose.proofs.Composing.{Section, entries_after}
use Rattle.octseq_dns_compose.proofs.Composing.{section_entries, section_up_to, with_more, with_values}
use Rattle.octseq_dns_compose.proofs.LineFaults.{Line, lines_end, lines_more}

-- lines of one section, and then those of later ones
section_first : {A : Type 0} {make : A → EntryLine} {IsText : A → Line → Type 0} {section : ℕ} {word : List ℕ}
    {Texts : Line → List ℕ → Type 0} (sect : Section make IsText section word Texts) (from : ℕ) (values : List A)
    (lines : List Line) (entries : List EntryLine) (others : List Line) → from ≤ section → AllZip IsText values lines
    → AreEntries section entries others → AreEntries from (map make values ++ entries) (lines ++ others)
section_first {make = make} {IsText = IsText} {section = section} sect from values lines entries others less all are =
    entries_after from section (map make values) entries lines others less
    (section_entries make IsText section from values lines sect.says less all)
    (section_up_to make section values sect.says.of) are

abbrev pub whole_message : Header → List Question → List Record → List Record → List Record → Message
whole_message header questions answers authorities additionals =
    all_more more_additionals (all_more more_authorities (all_more more_answers
    (all_more more_questions (headed_message header) questions) answers) authorities) additionals

-- the line of a header, and those of the sections
pub says_lines : (text a b c d e : List ℕ) (header : Header) (first : Line) (questions : List Question)
    (answers authorities additionals : List RecordLine) (q_lines r_lines u_lines d_lines : List Line)
    → TakesLine first text a → IsHeaderLine header first → BeginsWithLines q_lines a b
    → AllZip IsQuestionLine questions q_lines → BeginsWithLines r_lines b c
    → AllZip (IsRecordLine (codes "answer")) answers r_lines → BeginsWithLines u_lines c d
    → AllZip (IsRecordLine (codes "authority")) authorities u_lines → BeginsWithLines d_lines d e
    → AllZip (IsRecordLine (codes "additional")) additionals d_lines → e ≡ []
    → SaysLines text header (entries_said questions answers authorities additionals)
says_lines text a b c d e header first questions answers authorities additionals q_lines r_lines u_lines d_lines taken
    is q_begins q_are r_begins r_are u_begins u_are d_begins d_are over =
    let e3 = map EntryLine.additional additionals ++ [] in
    let e2 = map EntryLine.authority authorities ++ e3 in
    let e1 = map EntryLine.answer answers ++ e2 in
    let l3 = d_lines ++ [] in
    let l2 = u_lines ++ l3 in
    let l1 = r_lines ++ l2 in
    let three : AreEntries 2 e3 l3 = section_first sections.additionals.sect 2 additionals
    d_lines [] [] (omega arith) d_are refl in
    let two : AreEntries 1 e2 l2 = section_first sections.authorities.sect 1 authorities
    u_lines e3 l3 (omega arith) u_are three in
    let one : AreEntries 0 e1 l1 = section_first sections.answers.sect 0 answers r_lines e2 l2 (omega arith)
    r_are two in
    let all : AreEntries 0 (map EntryLine.question questions ++ e1) (q_lines ++ l1) =
    section_first sections.questions.sect 0 questions q_lines e1 l1 (omega arith)
    q_are one in
    let last : BeginsWithLines l3 d e =
    subst (λ ls. BeginsWithLines ls d e) (sym (append-nil d_lines)) d_begins in
    let begins = lines_more q_lines l1 a b e q_begins (lines_more r_lines l2 b c e r_begins
    (lines_more u_lines l3 c d e u_begins last)) in
    record {
      lines = first ∷ (q_lines ++ l1);
      lines_are = (a, taken, lines_end (q_lines ++ l1) a e begins over);
      say = record {
        first = first;
        others = q_lines ++ l1;
        lines_are = refl;
        header_is = is;
        entries_are = all;
      };
    }

each_is : {A : Type 0} (xs : List A) → AllZip (λ x y. y ≡ x) xs xs
each_is [] = tt
each_is (x ∷ xs) = (refl, each_is xs)

pub whole_with : (header : Header) (questions : List Question) (answers authorities additionals : List RecordLine)
    (rs us ds : List Record) → AllZip IsRecordOfLine answers rs → AllZip IsRecordOfLine authorities us
    → AllZip IsRecordOfLine additionals ds
    → IsWithAll (headed_message header) (entries_said questions answers authorities additionals)
    (whole_message header questions rs us ds)
whole_with header questions answers authorities additionals rs us ds r_are u_are d_are =
    let m0 = headed_message header in
    let m1 = all_more more_questions m0 questions in
    let m2 = all_more more_answers m1 rs in
    let m3 = all_more more_authorities m2 us in
    let m4 = all_more more_additionals m3 ds in
    let e3 = map EntryLine.additional additionals ++ [] in
    let e2 = map EntryLine.authority authorities ++ e3 in
    let e1 = map EntryLine.answer answers ++ e2 in
    let with_q =
    with_values EntryLine.question (λ q asked. asked ≡ q) more_questions (λ m q asked is. ap (more_questions m) is) m0
    questions questions (each_is questions) in
    let with_r =
    with_values EntryLine.answer IsRecordOfLine more_answers (λ m said r is. (r, is, refl)) m1 answers rs r_are in
    let with_u =
    with_values EntryLine.authority IsRecordOfLine more_authorities
    (λ m said r is. (r, is, refl)) m2 authorities us u_are in
    let with_d =
    with_values EntryLine.additional IsRecordOfLine more_additionals
    (λ m said r is. (r, is, refl)) m3 additionals ds d_are in
    with_more m0 m1 m4 (map EntryLine.question questions) e1 with_q
    (with_more m1 m2 m4 (map EntryLine.answer answers) e2 with_r
    (with_more m2 m3 m4 (map EntryLine.authority authorities) e3 with_u
    (with_more m3 m4 m4 (map EntryLine.additional additionals) [] with_d refl)))
