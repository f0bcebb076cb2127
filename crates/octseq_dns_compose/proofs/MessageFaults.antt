-- Where a text is that of no message.
use Rattle.std.proofs.Common.{◌≡◌, ℕ, ◌+◌, ◌<◌, ◌≤◌, Bool, true, false, nat_eq, cond, None, List, [], ◌∷◌, ◌++◌}
use Rattle.std.proofs.Common.{length}
use Rattle.std.proofs.Common.{codes, refl, sym, ap, ◌∙◌, subst, inl, arith}
use Rattle.std.proofs.lemmas.Bool.Decides.{nat_tests}
use Rattle.std.specs.List.{AllZip}
use Rattle.octseq_dns_scan.specs.Word.{TakesWord}
use Rattle.octseq_dns_text.proofs.ReadTexts.{takes_some}
use Rattle.octseq_dns_text.specs.Scans.{BeginsWithWords}
use Rattle.octseq_dns_message.specs.declared.header.Header.{Header}
use Rattle.octseq_dns_compose.specs.HeaderLine.{IsHeaderLine}
use Rattle.octseq_dns_compose.specs.MessageText.{AreEntries, EntryLine, IsAnyText, IsEntryLine, SayEntries}
use Rattle.octseq_dns_compose.specs.MessageText.{IsRecordLine, RecordLine, section_of}
use Rattle.octseq_dns_compose.specs.QuestionText.{IsAnyQuestion}
use Rattle.octseq_dns_compose.specs.RecordText.{IsAnyRecord}
use Rattle.octseq_dns_compose.specs.TextLines.{BeginsWithLines, IsFaultyHeader, IsFaultyLine, IsLineFault, IsNextLine}
use Rattle.octseq_dns_compose.specs.TextLines.{IsNoneOf, SplitsLines}
use Rattle.octseq_dns_compose.specs.TooLong.{data_octets}
use Rattle.octseq_dns_compose.proofs.Faults.{Leads, first_fault}
use Rattle.octseq_dns_compose.proofs.HeaderLines.{HeaderTexts}
use Rattle.octseq_dns_compose.proofs.LineFaults.{Broken, LeadsLines, Line, leads_on, led_broken}
use Rattle.octseq_dns_compose.proofs.Records.{record_goes}

-- ---- the first line of a text

-- a line of a kind, where texts of another kind are all that follows its first words
line_fault : (Is : List Line → Type 0) (Texts : Line → List ℕ → Type 0) (front : Line) (text line after rest : List ℕ)
    (number start offset : ℕ) → Leads (IsNextLine Is []) Texts front → SplitsLines text line after
    → BeginsWithWords front line rest → start + length rest ≡ length line → Broken Texts rest after start offset
    → (line ++ after ≡ [] → ¬ Is []) → IsLineFault Is text number number offset
line_fault Is Texts front text line after rest number start offset leads split begins place fault ends = record {
  front = [];
  line = line;
  after = after;
  begins = split.whole;
  is_line = split.is_line;
  ended = split.ends;
  place = omega arith;
  fault = led_broken (IsNextLine Is []) Texts front leads line rest after 0 start offset begins (omega (arith, place))
      fault;
  ends = ends;
}

-- ---- the header

pub header_next : Leads (IsNextLine IsAnyText []) HeaderTexts []
header_next = record {
  into = λ words octets is.
      let say : SayEntries (words ∷ []) is.0 [] =
      record { first = words; others = []; lines_are = refl; header_is = is.1; entries_are = refl } in
      ([], ([], (is.0, [], say)));
  out = λ words octets next.
      let say = next.1.2 in
      let same : words ≡ say.first = cc (say.lines_are) in
      ([], (next.1.0, subst (IsHeaderLine next.1.0) (sym same) say.header_is));
}

pub no_lines_at_all : ¬ IsAnyText []
no_lines_at_all (header, entries, say) = absurd (cc (say.lines_are))

pub header_fault : (text : List ℕ) (offset : ℕ) → IsFaultyHeader text offset → IsLineFault IsAnyText text 1 1 offset
header_fault text offset fault =
    line_fault IsAnyText HeaderTexts [] text fault.line fault.after fault.line 1 0 offset header_next fault.split refl
    (omega arith) fault.fault (λ over. no_lines_at_all)

-- ---- entries

abbrev pub AnyEntries : ℕ → List Line → Type 0
AnyEntries from lines = (entries : List EntryLine) × AreEntries from entries lines

pub after_header : (header : Header) (first : Line) → IsHeaderLine header first
    → LeadsLines IsAnyText (AnyEntries 0) (first ∷ [])
after_header header first is = record {
  into = λ lines all.
      let say : SayEntries (first ∷ lines) header all.0 =
      record { first = first; others = lines; lines_are = refl; header_is = is; entries_are = all.1 } in
      (header, all.0, say);
  out = λ lines all.
      let say = all.2 in
      let same : lines ≡ say.others = cc (say.lines_are) in
      (all.1, subst (AreEntries 0 all.1) (sym same) say.entries_are);
}

-- the word for a section, by its length
abbrev pub section_in : List ℕ → ℕ
section_in word = cond (nat_eq (length word) 8) 0 (cond (nat_eq (length word) 6) 1 (cond (nat_eq (length word) 9) 2 3))

abbrev pub word_of : EntryLine → List ℕ
word_of (EntryLine.question q) = codes "question"
word_of (EntryLine.answer said) = codes "answer"
word_of (EntryLine.authority said) = codes "authority"
word_of (EntryLine.additional said) = codes "additional"

-- the word for a section, of its entries alone
abbrev pub word_in : ℕ → List ℕ
word_in section = cond (nat_eq section 0) (codes "question") (cond (nat_eq section 1) (codes "answer")
    (cond (nat_eq section 2) (codes "authority") (codes "additional")))

in_section : (entry : EntryLine) → word_of entry ≡ word_in (section_of entry)
in_section (EntryLine.question q) = refl
in_section entry = refl

pub word_is : (entry : EntryLine) (word : List ℕ) (words : Line) → IsEntryLine entry (word ∷ words)
    → word ≡ word_of entry
word_is (EntryLine.question q) word words is = is.0
word_is entry word words is = is.0

pub section_is : (entry : EntryLine) → section_in (word_of entry) ≡ section_of entry
section_is (EntryLine.question q) = refl
section_is entry = refl

pub no_entry : (entry : EntryLine) → ¬ IsEntryLine entry []
no_entry (EntryLine.question q) is = is
no_entry entry is = is

pub same_section : (entry other : EntryLine) (words : Line) → IsEntryLine entry words → IsEntryLine other words
    → section_of entry ≡ section_of other
same_section entry other [] is also = absurd (no_entry entry is)
same_section entry other (word ∷ words) is also =
    sym (section_is entry) ∙ ap section_in (sym (word_is entry word words is) ∙ word_is other word words also)
    ∙ section_is other

-- after a line of a section, those of earlier ones are over
one_entry : (entry : EntryLine) (words : Line) (from section : ℕ) → IsEntryLine entry words → section_of entry ≡ section
    → from ≤ section → LeadsLines (AnyEntries from) (AnyEntries section) (words ∷ [])
one_entry entry words from section is here less = record {
  into = λ lines all.
      let after = subst (λ s. AreEntries s all.0 lines) (sym here) all.1 in
      (entry ∷ all.0, (entry, all.0, refl, omega (arith, here, less), is, after));
  out = λ lines all.
      let same = same_section all.1.0 entry words all.1.4 is ∙ here in
      (all.1.1, subst (λ s. AreEntries s all.1.1 lines) same all.1.5);
}

-- Lines say values as entries of a section.
pub record SaysAs {A : Type 0} (make : A → EntryLine) (IsText : A → Line → Type 0) (section : ℕ) : Type 0 where
  pub of : (a : A) → section_of (make a) ≡ section
  pub is : (a : A) (words : Line) → IsText a words → IsEntryLine (make a) words

leads_section : {A : Type 0} (make : A → EntryLine) (IsText : A → Line → Type 0) (section : ℕ) (values : List A)
    (lines : List Line) → SaysAs make IsText section → AllZip IsText values lines
    → LeadsLines (AnyEntries section) (AnyEntries section) lines
leads_section make IsText section [] [] says all =
    record { into = λ lines entries. entries; out = λ lines entries. entries }
leads_section make IsText section (v ∷ values) (w ∷ lines) says all =
    leads_on (w ∷ []) lines (one_entry (make v) w section section (says.is v w all.0) (says.of v) (omega arith))
    (leads_section make IsText section values lines says all.1)
leads_section make IsText section values lines says all = absurd all

-- none of the sections from `from` on, and before `to`, is next
abbrev pub NoneFrom : ℕ → ℕ → List ℕ → Type 0
NoneFrom from to text =
    (entry : EntryLine) → from ≤ section_of entry → section_of entry < to → IsNoneOf (word_of entry) text

-- Past the lines of a section: if there are some, those of earlier sections are over.
pub record PastSection (from section : ℕ) (text ahead : List ℕ) (lines : List Line) : Type 0 where
  pub to : ℕ
  pub most : to ≤ section
  pub leads : LeadsLines (AnyEntries from) (AnyEntries to) lines
  pub none : NoneFrom from section text → NoneFrom to section ahead

pub past_section : {A : Type 0} (make : A → EntryLine) (IsText : A → Line → Type 0) (section from : ℕ) (values : List A)
    (lines : List Line) (text ahead : List ℕ) → SaysAs make IsText section → from ≤ section
    → BeginsWithLines lines text ahead → AllZip IsText values lines → PastSection from section text ahead lines
past_section make IsText section from [] [] text ahead says less begins all = record {
  to = from;
  most = less;
  leads = record { into = λ lines entries. entries; out = λ lines entries. entries };
  none = subst (NoneFrom from section) begins;
}
past_section make IsText section from (v ∷ values) (w ∷ lines) text ahead says less begins all = record {
  to = section;
  most = omega arith;
  leads = leads_on (w ∷ []) lines (one_entry (make v) w from section (says.is v w all.0) (says.of v) less)
      (leads_section make IsText section values lines says all.1);
  none = λ none entry after before. absurd (omega (arith, after, before));
}
past_section make IsText section from values lines text ahead says less begins all = absurd all

-- ---- a line of a section

-- The words after the first one of a line of a section are texts of a kind.
pub record IsSection (section : ℕ) (word : List ℕ) (Texts : Line → List ℕ → Type 0) : Type 0 where
  pub first : section_in word ≡ section
  pub word_is : word ≡ word_in section
  pub makes : (words : Line) (octets : List ℕ) → Texts words octets
      → (entry : EntryLine) × (section_of entry ≡ section) × IsEntryLine entry (word ∷ words)
  pub takes : (entry : EntryLine) (words : Line) → section_of entry ≡ section → IsEntryLine entry (word ∷ words)
      → Texts words (data_octets entry)

section_next : (section from : ℕ) (word : List ℕ) (Texts : Line → List ℕ → Type 0) → IsSection section word Texts
    → from ≤ section → Leads (IsNextLine (AnyEntries from) []) Texts (word ∷ [])
section_next section from word Texts of less = record {
  into = λ words octets is.
      let one = of.makes words octets is in
      let here = one.1 in
      ([], ([], (one.0 ∷ [], (one.0, [], refl, omega (arith, here, less), one.2, refl))));
  out = λ words octets next.
      let all = next.1.1 in
      let same = sym (section_is all.0) ∙ ap section_in (sym (word_is all.0 word words all.4)) ∙ of.first in
      (data_octets all.0, of.takes all.0 words same all.4);
}

front_empty : (xs ys : List ℕ) → xs ++ ys ≡ [] → xs ≡ []
front_empty [] ys none = refl
front_empty (x ∷ xs) ys none = absurd (cc)

pub entry_fault : (section from : ℕ) (word : List ℕ) (Texts : Line → List ℕ → Type 0) (text : List ℕ)
    (number offset : ℕ) → IsSection section word Texts → from ≤ section → IsFaultyLine word Texts text offset
    → IsLineFault (AnyEntries from) text number number offset
entry_fault section from word Texts text number offset of less faulty =
    line_fault (AnyEntries from) Texts (word ∷ []) text faulty.line faulty.after faulty.rest number faulty.start offset
    (section_next section from word Texts of less) faulty.split (faulty.rest, faulty.taken, refl) faulty.place
    faulty.fault (λ over. absurd (takes_some word faulty.line faulty.rest faulty.taken
    (front_empty faulty.line faulty.after over)))

-- ---- a line of no section that may follow

split_octet : (x : ℕ) (text : List ℕ) (feed : Bool) → nat_eq x 10 ≡ feed
    → (line after : List ℕ) × SplitsLines text line after → (line after : List ℕ) × SplitsLines (x ∷ text) line after
split_octet x text true is rest =
    let feed : x ≡ 10 = grind (arith, nat_tests) in
    ([], x ∷ text, record { whole = refl; is_line = tt; ends = feed })
split_octet x text false is rest =
    let other : ¬ (x ≡ 10) = grind (arith, nat_tests) in (
      x ∷ rest.0,
      rest.1,
      record {
        whole = ap (λ l. x ∷ l) rest.2.whole;
        is_line = (other, rest.2.is_line);
        ends = rest.2.ends;
      },
    )

split_text : (text : List ℕ) → (line after : List ℕ) × SplitsLines text line after
split_text [] = ([], [], record { whole = refl; is_line = tt; ends = tt })
split_text (x ∷ text) = split_octet x text (nat_eq x 10) refl (split_text text)

pub below_four : (entry : EntryLine) → section_of entry < 4
below_four (EntryLine.question q) = omega arith
below_four entry = omega arith

pub other_fault : (from : ℕ) (text : List ℕ) (number : ℕ) → from ≤ 3 → ¬ (text ≡ []) → NoneFrom from 4 text
    → IsLineFault (AnyEntries from) text number number 0
other_fault from text number less some none =
    let split = split_text text in
    let sample = record_goes None in
    let one = EntryLine.additional (record { head = sample.2.0; octets = sample.1 }) in
    let Next = IsNextLine (AnyEntries from) [] in
    record {
      front = [];
      line = split.0;
      after = split.1;
      begins = split.2.whole;
      is_line = split.2.is_line;
      ended = split.2.ends;
      place = omega arith;
      fault = inl (first_fault Next split.0 0
          (codes "additional" ∷ sample.0, [], ([], (one ∷ [], (one, [], refl, less, (refl, sample.2.1), refl))))
          (λ word left taken goes.
          let all = goes.2.1.1 in
          none all.0 all.3 (below_four all.0) split.0 split.1 left split.2
          (subst (λ w. TakesWord w split.0 left) (word_is all.0 word goes.0 all.4) taken))
          (λ over octets next. no_entry next.1.1.0 next.1.1.4));
      ends = λ over. absurd (some (split.2.whole ∙ over));
    }

none_case : (from section : ℕ) (word text : List ℕ) → word ≡ word_in section → NoneFrom from section text
    → IsNoneOf word text → (entry : EntryLine) (is : Bool) → nat_eq (section_of entry) section ≡ is
    → from ≤ section_of entry → section_of entry < section + 1 → IsNoneOf (word_of entry) text
none_case from section word text same none here entry true is after before =
    let at : section_of entry ≡ section = grind (arith, nat_tests) in
    subst (λ w. IsNoneOf w text) (same ∙ ap word_in (sym at) ∙ sym (in_section entry)) here
none_case from section word text same none here entry false is after before =
    let other : ¬ (section_of entry ≡ section) = grind (arith, nat_tests) in
    none entry after (omega (arith, other, before))

-- where a section is over, none of its lines is next either
pub none_step : (from section : ℕ) (word text : List ℕ) → word ≡ word_in section → NoneFrom from section text
    → IsNoneOf word text → NoneFrom from (section + 1) text
none_step from section word text same none here entry =
    none_case from section word text same none here entry (nat_eq (section_of entry) section) refl

-- ---- the sections

question_taken : (entry : EntryLine) (words : Line) → section_of entry ≡ 0
    → IsEntryLine entry (codes "question" ∷ words)
    → IsAnyQuestion words (data_octets entry)
question_taken (EntryLine.question q) words here is = (q.labels, q.qclass, q.qtype, is.1)
question_taken entry words here is = absurd (omega (arith, here))

pub of_questions : IsSection 0 (codes "question") IsAnyQuestion
of_questions = record {
  first = refl;
  word_is = refl;
  makes = λ words octets is.
      (EntryLine.question (record { labels = is.0; qtype = is.2; qclass = is.1 }), refl, (refl, is.3));
  takes = question_taken;
}

record_taken : (entry : EntryLine) (word : List ℕ) (words : Line) → 1 ≤ section_of entry
    → IsEntryLine entry (word ∷ words) → IsAnyRecord None words (data_octets entry)
record_taken (EntryLine.question q) word words late is = absurd (omega (arith, late))
record_taken (EntryLine.answer said) word words late is = (said.head, is.1)
record_taken (EntryLine.authority said) word words late is = (said.head, is.1)
record_taken (EntryLine.additional said) word words late is = (said.head, is.1)

pub of_records : (make : RecordLine → EntryLine) (section : ℕ) (word : List ℕ) → SaysAs make (IsRecordLine word) section
    → section_in word ≡ section → word ≡ word_in section → 1 ≤ section → IsSection section word (IsAnyRecord None)
of_records make section word says first is late = record {
  first = first;
  word_is = is;
  makes = λ words octets found.
      let said : RecordLine = record { head = found.0; octets = octets } in
      (make said, says.of said, says.is said (word ∷ words) (refl, found.1));
  takes = λ entry words here. record_taken entry word words (omega (arith, late, here));
}
