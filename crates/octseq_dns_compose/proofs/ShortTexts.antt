-- A text of which each line was taken isn't too long.
use Rattle.std.proofs.Common.{◌≡◌, ℕ, ◌<◌, ◌≤◌, Option, Some, None, List, [], ◌∷◌, ◌++◌, length, append-nil}
use Rattle.std.proofs.Common.{append_assoc, refl, sym, ap, ◌∙◌, subst, inl, inr, arith}
use Rattle.std.specs.List.{AllByRecursion}
use Rattle.octseq.specs.Limit.{ExceedsLimit}
use Rattle.octseq_dns.specs.Contents.{Message, Record, message_octets}
use Rattle.octseq_dns.specs.Sections.{takes_additionals, takes_answers, takes_authorities, takes_questions}
use Rattle.octseq_dns.specs.Writes.{Building}
use Rattle.octseq_dns_compress.specs.Composed.{message_limit}
use Rattle.octseq_dns_message.specs.declared.header.Header.{Header}
use Rattle.octseq_dns_message.specs.declared.header.HeaderCounts.{HeaderCounts}
use Rattle.octseq_dns_scan.specs.Word.{AreWords, TakesWord}
use Rattle.octseq_dns_scan.proofs.Taken.{word_once, words_once}
use Rattle.octseq_dns_compose.specs.HeaderLine.{IsHeaderLine}
use Rattle.octseq_dns_compose.specs.MessageText.{AreEntries, EntryLine, IsAnyText, IsEntryLine, IsWith, IsWithAll}
use Rattle.octseq_dns_compose.specs.MessageText.{IsRecordLine, SayEntries, RecordLine, headed_message, section_of}
use Rattle.octseq_dns_compose.specs.Progress.{IsSmallRecord, PushedUpTo}
use Rattle.octseq_dns_compose.specs.RecordText.{IsAnyRecord}
use Rattle.octseq_dns_compose.specs.TextLines.{IsFaultyLine, IsLineFault, IsLongLine, SplitsLines, TakesLine}
use Rattle.octseq_dns_compose.specs.TooLong.{HasLongData, HasLongMessage, IsMessageTooLong, data_octets}
use Rattle.octseq_dns_compose.proofs.Composing.{IsSmall, PushesRecords, Stage, stage_on, stop_at}
use Rattle.octseq_dns_compose.proofs.Faults.{no_text}
use Rattle.octseq_dns_compose.proofs.LineFaults.{Broken, Line, line_same, splits_same}
use Rattle.octseq_dns_compose.proofs.LongTexts.{not_past}
use Rattle.octseq_dns_compose.proofs.MessageFaults.{IsSection, NoneFrom, below_four, no_entry, section_in, section_is}
use Rattle.octseq_dns_compose.proofs.MessageFaults.{word_is}
use Rattle.octseq_dns_compose.proofs.OneFault.{Compared, compared_lines}
use Rattle.octseq_dns_compose.proofs.OneMessage.{entry_once, header_once, with_once}
use Rattle.octseq_dns_compose.proofs.Overrun.{push_grows}

-- ---- with more lines, a message has no fewer octets

-- a message has no entries after a section
abbrev EndsBy : ℕ → Message → Type 0
EndsBy section m = (section ≤ 0 → length m.answers ≡ 0) × (section ≤ 1 → length m.authorities ≡ 0)
    × (section ≤ 2 → length m.additionals ≡ 0)

-- one more entry, of that section or a later one
record GrowsWith (most : ℕ) (entry : EntryLine) (m more : Message) : Type 0 where
  ends : EndsBy (section_of entry) more
  grows : length (message_octets most m) ≤ length (message_octets most more)

with_grows : (most from : ℕ) (entry : EntryLine) (m more : Message) → from ≤ section_of entry → EndsBy from m
    → IsWith m entry more → GrowsWith most entry m more
with_grows most from (EntryLine.question q) m more less (rs, us, ds) is = subst (GrowsWith most _ m) (sym is) (record {
  ends = (λ _. rs less, λ _. us (omega (arith, less)), λ _. ds (omega (arith, less)));
  grows = push_grows takes_questions most m q
      (rs less, us (omega (arith, less)), ds (omega (arith, less)));
})
with_grows most from (EntryLine.answer said) m more less (rs, us, ds) (r, record_is, is) =
    subst (GrowsWith most _ m) (sym is) (record {
      ends = (λ late. absurd (omega (arith, late)), λ _. us less, λ _. ds (omega (arith, less)));
      grows = push_grows takes_answers most m r (us less, ds (omega (arith, less)));
    })
with_grows most from (EntryLine.authority said) m more less (rs, us, ds) (r, record_is, is) =
    subst (GrowsWith most _ m) (sym is) (record {
      ends = (λ late. absurd (omega (arith, late)), λ late. absurd (omega (arith, late)), λ _. ds less);
      grows = push_grows takes_authorities most m r (ds less);
    })
with_grows most from (EntryLine.additional said) m more less ends (r, record_is, is) =
    subst (GrowsWith most _ m) (sym is) (record {
      ends = (
        λ late. absurd (omega (arith, late)),
        λ late. absurd (omega (arith, late)),
        λ late. absurd (omega (arith, late)),
      );
      grows = push_grows takes_additionals most m r tt;
    })

all_grow : (most from : ℕ) (lines : List Line) (m all : Message) (entries : List EntryLine)
    → AreEntries from entries lines → IsWithAll m entries all → EndsBy from m
    → length (message_octets most m) ≤ length (message_octets most all)
all_grow most from [] m all entries are is ends =
    let same = ap (λ x. length (message_octets most x)) (subst (λ l. IsWithAll m l all) are is) in
    omega (arith, same)
all_grow most from (words ∷ lines) m all entries (entry, more, e, less, line, are) is ends =
    let (next, with, rest) = subst (λ l. IsWithAll m l all) e is in
    let one = with_grows most from entry m next less ends with in
    let here = one.grows in
    let others = all_grow most (section_of entry) lines next all more are rest one.ends in
    omega (arith, here, others)

entries_grow : (most from : ℕ) (lines more : List Line) (m one two : Message) (entries others : List EntryLine)
    → AreEntries from entries lines → AreEntries from others (lines ++ more) → IsWithAll m entries one
    → IsWithAll m others two → EndsBy from m → length (message_octets most one) ≤ length (message_octets most two)
entries_grow most from [] more m one two entries others are also is too ends =
    let same = ap (λ x. length (message_octets most x)) (subst (λ l. IsWithAll m l one) are is) in
    let grown = all_grow most from more m two others also too ends in
    omega (arith, same, grown)
entries_grow most from (words ∷ lines) more m one two entries others (entry, rest, e, less, line, are)
    (other, left, f, on, said, also) is too ends =
    let (next, with, last) = subst (λ l. IsWithAll m l one) e is in
    let (then, adds, end) = subst (λ l. IsWithAll m l two) f too in
    let same = entry_once other entry words said line in
    let both = with_once m then next entry (subst (λ x. IsWith m x then) same adds) with in
    entries_grow most (section_of entry) lines more next one two rest left are
    (subst (λ x. AreEntries (section_of x) left (lines ++ more)) same also) last
    (subst (λ x. IsWithAll x left two) both end) (with_grows most from entry m next less ends with).ends

-- the lines of a text after that of its header
others_are : (lines more : List Line) (header other : Header) (entries others : List EntryLine)
    (one : SayEntries lines header entries) (two : SayEntries (lines ++ more) other others)
    → (two.first ≡ one.first) × (two.others ≡ one.others ++ more)
others_are lines more header other entries others one two =
    let same : two.first ∷ two.others ≡ one.first ∷ (one.others ++ more) =
    sym two.lines_are ∙ ap (λ l. l ++ more) one.lines_are in
    (cc (same), cc (same))

say_grows : (most : ℕ) (lines more : List Line) (header other : Header) (entries others : List EntryLine)
    (m n : Message) → SayEntries lines header entries → SayEntries (lines ++ more) other others
    → IsWithAll (headed_message header) entries m → IsWithAll (headed_message other) others n
    → length (message_octets most m) ≤ length (message_octets most n)
say_grows most lines more header other entries others m n one two is too =
    let same = others_are lines more header other entries others one two in
    let head = header_once header other one.first one.header_is
    (subst (IsHeaderLine other) same.0 two.header_is) in
    entries_grow most 0 one.others more (headed_message other) m n entries others one.entries_are
    (subst (AreEntries 0 others) same.1 two.entries_are)
    (subst (λ h. IsWithAll (headed_message h) entries m) head is) too (λ _. refl, λ _. refl, λ _. refl)

-- ---- data of a line

small_line : (from : ℕ) (lines more : List Line) (words : Line) (entries : List EntryLine) (entry : EntryLine)
    → AreEntries from entries (lines ++ words ∷ more) → AllByRecursion IsSmall entries → IsEntryLine entry words
    → IsSmall entry
small_line from [] more words entries entry (other, rest, e, less, line, are) small is =
    subst IsSmall (entry_once other entry words line is) (subst (AllByRecursion IsSmall) e small).0
small_line from (first ∷ lines) more words entries entry (other, rest, e, less, line, are) small is =
    small_line (section_of other) lines more words rest entry are (subst (AllByRecursion IsSmall) e small).1 is

last_line : (from : ℕ) (lines : List Line) (words : Line) (entries : List EntryLine) (entry : EntryLine)
    → AreEntries from entries lines → AreEntries from (entries ++ entry ∷ []) (lines ++ words ∷ [])
    → IsEntryLine entry words
last_line from [] words entries entry are (other, rest, e, less, line, over) =
    let same : other ≡ entry = cc (ap (λ l. l ++ entry ∷ []) (sym are) ∙ e) in
    subst (λ x. IsEntryLine x words) same line
last_line from (first ∷ lines) words entries entry (one, more, d, on, said, are) (other, rest, e, less, line, also) =
    let whole : one ∷ (more ++ entry ∷ []) ≡ other ∷ rest = ap (λ l. l ++ entry ∷ []) (sym d) ∙ e in
    let same : other ≡ one = cc (whole) in
    let tail : rest ≡ more ++ entry ∷ [] = cc (whole) in
    last_line (section_of one) lines words more entry are
    (subst (λ x. AreEntries (section_of x) (more ++ entry ∷ []) (lines ++ words ∷ [])) same
    (subst (λ l. AreEntries (section_of other) l (lines ++ words ∷ [])) tail also))

-- ---- where reading stops

-- If the next line is that of an entry that may come next, it lacks its line feed, and has no long data.
abbrev pub StopsAt : ℕ → List ℕ → Type 0
StopsAt from text = (entry : EntryLine) (words : Line) (line after : List ℕ) → SplitsLines text line after
    → AreWords words line → from ≤ section_of entry → IsEntryLine entry words
    → (after ≡ []) × ¬ (65535 < length (data_octets entry))

taken_splits : (words : Line) (text rest : List ℕ) → (taken : TakesLine words text rest)
    → SplitsLines text taken.0 (10 ∷ rest)
taken_splits words text rest taken = record { whole = taken.1; is_line = taken.2; ends = refl }

past_more : (limit : Option ℕ) (n more : ℕ) → n ≤ more → ExceedsLimit limit n → ExceedsLimit limit more
past_more None n more less past = past
past_more (Some limit) n more less past = omega (arith, less, past)

module _ {B T : Type 0} {most : ℕ} {limit : Option ℕ} {text ahead : List ℕ} {i next : ℕ} {b : Building B T}
    (now : Stage most limit text ahead i next b) (stops : StopsAt now.said.to ahead) where
  at_stop : (words : Line) (others : List Line) (line after : List ℕ) → SplitsLines ahead line after
      → AreWords words line
      → IsAnyText (now.said.front.lines ++ words ∷ others)
      → (after ≡ []) × ((entry : EntryLine) → IsEntryLine entry words → ¬ (65535 < length (data_octets entry)))
  at_stop words others line after split are any =
      let all = (now.said.leads.out (words ∷ others) any).1 in
      let ends = stops all.0 words line after split are all.3 all.4 in (
        ends.0,
        λ entry is late. ends.1 (subst (λ e. 65535 < length (data_octets e))
            (entry_once entry all.0 words is all.4) late),
      )

  -- so no text goes on with a whole line
  at_line : (words : Line) (others : List Line) (rest : List ℕ) → TakesLine words ahead rest
      → ¬ IsAnyText (now.said.front.lines ++ words ∷ others)
  at_line words others rest taken any =
      let over = (at_stop words others taken.0 (10 ∷ rest) (taken_splits words ahead rest taken) taken.3 any).0 in
      absurd (cc (over))

  within_front : (long : HasLongMessage most (message_limit limit) text) (more : List Line)
      → now.said.front.lines ≡ long.front.lines ++ more → ⊥
  within_front long more e =
      let front = now.said.front in
      let grown = say_grows most long.front.lines more long.front.header front.header long.front.entries front.entries
      long.m now.m long.front.say (subst (λ l. SayEntries l front.header front.entries) e front.say) long.message_is
      now.message_is in
      not_past (message_limit limit) (length b.state.octets) now.within
      (subst (λ s. ExceedsLimit (message_limit limit) (length s.octets)) (sym now.writes.state_is)
      (past_more (message_limit limit) _ _ grown long.past))

  no_long_message : (long : HasLongMessage most (message_limit limit) text)
      → Compared TakesLine long.front.lines now.said.front.lines long.ahead ahead → ⊥
  no_long_message long (Compared.equal p q) = within_front long [] (sym p ∙ sym (append-nil long.front.lines))
  no_long_message long (Compared.shorter words more after e takes) = within_front long (words ∷ more) e
  no_long_message long (Compared.longer words more after e takes) =
      let front = long.front in
      at_line words more after takes
      (front.header, front.entries, subst (λ l. SayEntries l front.header front.entries) e front.say)

  no_long_data : (long : HasLongData text)
      → Compared TakesLine long.front.lines now.said.front.lines long.ahead ahead → IsEntryLine long.entry long.words
      → ⊥
  no_long_data long (Compared.equal p q) is =
      let header = long.front.header in
      let entries = long.front.entries ++ long.entry ∷ [] in
      (at_stop long.words [] long.line long.after
      (subst (λ t. SplitsLines t long.line long.after) q long.split) long.are
      (header, entries, subst (λ l. SayEntries (l ++ long.words ∷ []) header entries) p long.say)).1 long.entry is
      long.past
  no_long_data long (Compared.shorter words more after e takes) is =
      let front = now.said.front in
      let say = subst (λ l. SayEntries l front.header front.entries) e front.say in
      let rest = (others_are long.front.lines (words ∷ more) long.front.header front.header long.front.entries
      front.entries long.front.say say).1 in
      let one = line_same takes.0 long.line after long.after takes.2 long.split.is_line long.split.ends
      (sym takes.1 ∙ long.split.whole) in
      let same = words_once long.words words long.line long.are (subst (AreWords words) one.0 takes.3) in
      let small = small_line 0 long.front.say.others more words front.entries long.entry
      (subst (AreEntries 0 front.entries) rest say.entries_are) now.small (subst (IsEntryLine long.entry) same is) in
      let late = long.past in
      omega (arith, small, late)
  no_long_data long (Compared.longer words more after e takes) is =
      let entries = long.front.entries ++ long.entry ∷ [] in
      at_line words (more ++ long.words ∷ []) after takes (
        long.front.header,
        entries,
        subst (λ l. SayEntries l long.front.header entries) (ap (λ l. l ++ long.words ∷ []) e
            ∙ append_assoc now.said.front.lines (words ∷ more) (long.words ∷ [])) long.say,
      )

  pub not_long : ¬ IsMessageTooLong most (message_limit limit) text
  not_long (inl long) =
      no_long_message long (compared_lines long.front.lines now.said.front.lines text long.ahead ahead
      long.front.begins now.said.front.begins)
  not_long (inr long) =
      let front = long.front in
      let rest =
      (others_are front.lines (long.words ∷ []) front.header front.header front.entries _ front.say long.say).1 in
      no_long_data long (compared_lines front.lines now.said.front.lines text long.ahead ahead front.begins
      now.said.front.begins)
      (last_line 0 front.say.others long.words front.entries long.entry front.say.entries_are
      (subst (AreEntries 0 (front.entries ++ long.entry ∷ [])) rest long.say.entries_are))

-- after the last section
pub stops_over : (from : ℕ) (text : List ℕ) → NoneFrom from 4 text → StopsAt from text
stops_over from text none entry [] line after split are less is = absurd (no_entry entry is)
stops_over from text none entry (word ∷ words) line after split (rest, taken, are) less is =
    absurd (none entry less (below_four entry) line after rest split
    (subst (λ w. TakesWord w line rest) (word_is entry word words is) taken))

-- at a fault
module _ {section : ℕ} {first : List ℕ} {Texts : Line → List ℕ → Type 0} (of : IsSection section first Texts)
    {text : List ℕ} {offset : ℕ} (fault : IsFaultyLine first Texts text offset)
    (small : (entry : EntryLine) (words : Line) → section_of entry ≡ section → AreWords words fault.rest
    → Texts words (data_octets entry) → ¬ (65535 < length (data_octets entry))) where
  unended : (words : Line) (octets : List ℕ) → AreWords words fault.rest → Texts words octets
      → Broken Texts fault.rest fault.after fault.start offset → fault.after ≡ []
  unended words octets are is (inl bad) = absurd (no_text Texts fault.rest fault.start offset bad words octets are is)
  unended words octets are is (inr bad) = bad.ends

  pub stops_fault : (from : ℕ) → StopsAt from text
  stops_fault from entry [] line after split are less is = absurd (no_entry entry is)
  stops_fault from entry (word ∷ words) line after split (rest, takes, are) less is =
      let same =
      splits_same line fault.line after fault.after split.is_line fault.split.is_line split.ends fault.split.ends
      (sym split.whole ∙ fault.split.whole) in
      let one = word_once word first fault.line rest fault.rest (subst (λ l. TakesWord word l rest) same.0 takes)
      fault.taken in
      let here : section_of entry ≡ section =
      sym (section_is entry) ∙ ap section_in (sym (word_is entry word words is) ∙ one.0) ∙ of.first in
      let said = subst (AreWords words) one.1 are in
      let texts = of.takes entry words here (subst (λ w. IsEntryLine entry (w ∷ words)) one.0 is) in
      (same.1 ∙ unended words (data_octets entry) said texts fault.fault, small entry words here said texts)

-- which isn't that of a record with long data, or is a question
pub short_line : {section : ℕ} {first : List ℕ} {Texts : Line → List ℕ → Type 0} {text : List ℕ} {offset : ℕ}
    (fault : IsFaultyLine first Texts text offset) → ¬ IsLongLine first Texts (Some 65535) text → (entry : EntryLine)
    (words : Line) → section_of entry ≡ section → AreWords words fault.rest → Texts words (data_octets entry)
    → ¬ (65535 < length (data_octets entry))
short_line fault short entry words here are is late = short (record {
  line = fault.line;
  after = fault.after;
  split = fault.split;
  rest = fault.rest;
  taken = fault.taken;
  words = words;
  octets = data_octets entry;
  are = are;
  is = is;
  past = late;
})

pub no_question_data : (entry : EntryLine) → section_of entry ≡ 0 → ¬ (65535 < length (data_octets entry))
no_question_data (EntryLine.question q) here late = omega (arith, late)
no_question_data entry here late = absurd (omega (arith, here))

-- where a record is refused
pub record_refused : {make : RecordLine → EntryLine} {section : ℕ} {word : List ℕ} {more : Message → Record → Message}
    {count : HeaderCounts → ℕ} (of : PushesRecords make more count section word) {B T : Type 0} {most : ℕ}
    {limit : Option ℕ} {text a : List ℕ} {i number offset : ℕ} {before : Building B T}
    (now : Stage most limit text a i section before)
    → PushedUpTo (IsRecordLine word) (IsSmallRecord (Some 65535)) most (message_limit limit) more a i before
    (λ ahead j after. (number ≡ j) × IsFaultyLine word (IsAnyRecord None) ahead offset
    × ¬ IsLongLine word (IsAnyRecord None) (Some 65535) ahead)
    → IsLineFault IsAnyText text 1 number offset × ¬ IsMessageTooLong most (message_limit limit) text
record_refused of now stop =
    let there = stage_on of now stop.pushed in
    let fault = stop.is.1 in (
      stop_at of.sect there.said stop.is.0 fault,
      not_long there (stops_fault of.sect.of fault (short_line fault stop.is.2) there.said.to),
    )
