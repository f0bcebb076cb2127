-- The text of a message, section by section.
use Rattle.std.proofs.Common.{◌≡◌, ◌⊎◌, ℕ, ◌+◌, ◌≤◌, Option, Some, None, List, [], ◌∷◌, ◌++◌, map, length, codes}
use Rattle.std.proofs.Common.{Bool, true, refl, sym, ap, ◌∙◌, subst, inl, inr, arith}
use Rattle.std.proofs.lemmas.List.{length-append}
use Rattle.std.specs.List.{AllByRecursion, AllZip}
use Rattle.octseq.specs.Limit.{ExceedsLimit, IsWithin}
use Rattle.octseq_dns.specs.Contents.{Message, Record, counts_of, entries_of}
use Rattle.octseq_dns.specs.Writes.{Building, ComposesMessage, all_more, least_limit, more_additionals, more_answers}
use Rattle.octseq_dns.specs.Writes.{more_authorities, more_questions}
use Rattle.octseq_dns_compress.specs.Composed.{message_limit}
use Rattle.octseq_dns_message.specs.declared.header.Header.{Header}
use Rattle.octseq_dns_message.specs.declared.header.HeaderCounts.{HeaderCounts}
use Rattle.octseq_dns_compose.specs.HeaderLine.{IsHeaderLine}
use Rattle.octseq_dns_compose.specs.MessageText.{AreEntries, EntryLine, IsAnyText, IsTextOfMessage}
use Rattle.octseq_dns_compose.specs.MessageText.{IsQuestionLine}
use Rattle.octseq_dns_compose.specs.MessageText.{IsRecordLine, IsWith, IsWithAll, RecordLine, SayEntries}
use Rattle.octseq_dns_compose.specs.MessageText.{headed_message, section_of}
use Rattle.octseq_dns_compose.specs.Progress.{ExceedsNext, HasPushed, HasReadLines, IsAsked, IsSmallRecord, PushedUpTo}
use Rattle.octseq_dns_compose.specs.QuestionText.{IsAnyQuestion}
use Rattle.octseq_dns_compose.specs.RecordText.{IsAnyRecord}
use Rattle.octseq_dns_compose.specs.TextLines.{IsFaultyLine, IsLineFault, IsLongLine, IsNoneOf, TakesLine}
use Rattle.octseq_dns_compose.specs.TooLong.{BeginsWithEntries, Exceeds, HasListLine, IsListLine}
use Rattle.octseq_dns_compose.specs.TooLong.{IsRecordWord, IsMessageTooLong, data_octets}
use Rattle.octseq_dns_compose.proofs.LineFaults.{LeadsLines, Line, leads_on, led_line_fault, lines_end, lines_more}
use Rattle.octseq_dns_compose.proofs.MessageFaults.{AnyEntries, IsSection, NoneFrom, SaysAs, after_header, entry_fault}
use Rattle.octseq_dns_compose.proofs.MessageFaults.{of_questions, of_records, section_in, word_in}
use Rattle.octseq_dns_compose.proofs.MessageFaults.{none_step, other_fault, past_section}
use Rattle.octseq_dns_compose.proofs.Overrun.{counts_most, header_past, past_limit}

-- ---- entries after others

weaker : (from to : ℕ) (entries : List EntryLine) (lines : List Line) → from ≤ to → AreEntries to entries lines
    → AreEntries from entries lines
weaker from to entries [] less are = are
weaker from to entries (words ∷ lines) less are =
    let after = are.3 in
    (are.0, are.1, are.2, omega (arith, less, after), are.4, are.5)

-- none of them is of a later section
abbrev UpTo : ℕ → List EntryLine → Type 0
UpTo section entries = AllByRecursion (λ entry. section_of entry ≤ section) entries

all_append : {A : Type 0} (P : A → Type 0) (xs ys : List A) → AllByRecursion P xs → AllByRecursion P ys
    → AllByRecursion P (xs ++ ys)
all_append P [] ys are more = more
all_append P (x ∷ xs) ys are more = (are.0, all_append P xs ys are.1 more)

up_to_later : (from section : ℕ) (entries : List EntryLine) → from ≤ section → UpTo from entries → UpTo section entries
up_to_later from section [] less are = tt
up_to_later from section (entry ∷ entries) less are =
    let here = are.0 in (omega (arith, here, less), up_to_later from section entries less are.1)

pub entries_after : (from section : ℕ) (entries others : List EntryLine) (lines more : List Line) → from ≤ section
    → AreEntries from entries lines → UpTo section entries → AreEntries section others more
    → AreEntries from (entries ++ others) (lines ++ more)
entries_after from section entries others [] more less are last after =
    subst (λ e. AreEntries from (e ++ others) more) (sym are) (weaker from section others more less after)
entries_after from section entries others (words ∷ lines) more less are last after =
    let ends = subst (UpTo section) are.2 last in (
      are.0,
      are.1 ++ others,
      ap (λ e. e ++ others) are.2,
      are.3,
      are.4,
      entries_after (section_of are.0) section are.1 others lines more ends.0 are.5 ends.1 after,
    )

pub with_more : (m n all : Message) (entries others : List EntryLine) → IsWithAll m entries n → IsWithAll n others all
    → IsWithAll m (entries ++ others) all
with_more m n all [] others one two = subst (λ x. IsWithAll x others all) one two
with_more m n all (entry ∷ entries) others one two =
    (one.0, one.1, with_more one.0 n all entries others one.2 two)

-- ---- the entries of one section

pub section_entries : {A : Type 0} (make : A → EntryLine) (IsText : A → Line → Type 0) (section from : ℕ)
    (values : List A)
    (lines : List Line) → SaysAs make IsText section → from ≤ section → AllZip IsText values lines
    → AreEntries from (map make values) lines
section_entries make IsText section from [] [] says less all = refl
section_entries make IsText section from (a ∷ values) (words ∷ lines) says less all =
    let here = says.of a in (
      make a,
      map make values,
      refl,
      omega (arith, here, less),
      says.is a words all.0,
      section_entries make IsText section (section_of (make a)) values lines says (omega (arith, here)) all.1,
    )
section_entries make IsText section from values lines says less all = absurd all

pub section_up_to : {A : Type 0} (make : A → EntryLine) (section : ℕ) (values : List A)
    → ((a : A) → section_of (make a) ≡ section) → UpTo section (map make values)
section_up_to make section [] of = tt
section_up_to make section (a ∷ values) of =
    let here = of a in (omega (arith, here), section_up_to make section values of)

-- ---- a text so far

-- A text begins with lines of entries, none of which is of a section after the next one. `to` is the section of the
-- last of them, or 0. No line of that section, or of a later one before the next, is ahead.
pub record SaidUpTo (text ahead : List ℕ) (now next : ℕ) : Type 0 where
  pub front : BeginsWithEntries text ahead
  pub last : UpTo next front.entries
  pub place : now ≡ 1 + length front.lines
  pub to : ℕ
  pub less : to ≤ next
  pub few : to ≤ 3
  pub leads : LeadsLines IsAnyText (AnyEntries to) front.lines
  pub none : NoneFrom to next ahead

abbrev pub IsSmall : EntryLine → Type 0
IsSmall entry = length (data_octets entry) ≤ 65535

-- They are those of a message, which is written within a limit, with no push limit, and none has long data.
pub record Stage {B T : Type 0} (most : ℕ) (limit : Option ℕ) (text ahead : List ℕ) (now next : ℕ)
    (b : Building B T) : Type 0 where
  pub said : SaidUpTo text ahead now next
  pub m : Message
  pub message_is : IsWithAll (headed_message said.front.header) said.front.entries m
  pub small : AllByRecursion IsSmall said.front.entries
  pub writes : ComposesMessage most m b.state b.header b.counts
  pub within : IsWithin (message_limit limit) (length b.state.octets)
  pub free : b.push_limit ≡ None

abbrev header_front : (text ahead : List ℕ) (header : Header) (first : Line) → TakesLine first text ahead
    → IsHeaderLine header first → BeginsWithEntries text ahead
header_front text ahead header first taken is = record {
  lines = first ∷ [];
  header = header;
  entries = [];
  begins = (ahead, taken, refl);
  say = record { first = first; others = []; lines_are = refl; header_is = is; entries_are = refl };
}

-- The line of a header was read, and the next one has this number.
abbrev ReadsHeader : (text ahead : List ℕ) (number now : ℕ) → Header → Type 0
ReadsHeader text ahead number now header =
    (first : Line) × TakesLine first text ahead × IsHeaderLine header first × (now ≡ number + 1)

pub header_stage : {B T : Type 0} {most : ℕ} {limit : Option ℕ} {text whole ahead : List ℕ} {number now : ℕ}
    {b other : Building B T} (header : Header) → other ≡ b → whole ≡ text → number ≡ 1
    → ReadsHeader whole ahead number now header → ComposesMessage most (headed_message header) b.state b.header b.counts
    → IsWithin (message_limit limit) (length b.state.octets) → b.push_limit ≡ None
    → Stage most limit text ahead now 0 other
header_stage {most = most} {limit = limit} {text = text} {ahead = ahead} {now = now} header also same one read writes
    within free =
    subst (Stage most limit text ahead now 0) (sym also) (record {
      said = record {
        front = header_front text ahead header read.0 (subst (λ t. TakesLine read.0 t ahead) same read.1) read.2;
        last = tt;
        place = let two = read.3 in omega (arith, one, two);
        to = 0;
        less = omega arith;
        few = omega arith;
        leads = after_header header read.0 read.2;
        none = λ entry after before. absurd (omega (arith, before));
      };
      m = headed_message header;
      message_is = refl;
      small = tt;
      writes = writes;
      within = within;
      free = free;
    })

pub long_header : {text whole ahead : List ℕ} {now : ℕ} (number most : ℕ) (limit : Option ℕ) (header : Header)
    → whole ≡ text → ReadsHeader whole ahead number now header → ExceedsLimit limit 12
    → IsMessageTooLong most (message_limit limit) text
long_header {text = text} {ahead = ahead} number most limit header same read past = inl (record {
  ahead = ahead;
  front = header_front text ahead header read.0 (subst (λ t. TakesLine read.0 t ahead) same read.1) read.2;
  m = headed_message header;
  message_is = refl;
  past = header_past most limit (headed_message header) past;
})

says_more : (lines more : List Line) (header : Header) (entries others : List EntryLine) (section : ℕ)
    → SayEntries lines header entries → UpTo section entries → AreEntries section others more
    → SayEntries (lines ++ more) header (entries ++ others)
says_more lines more header entries others section say last are = record {
  first = say.first;
  others = say.others ++ more;
  lines_are = ap (λ l. l ++ more) say.lines_are;
  header_is = say.header_is;
  entries_are = entries_after 0 section entries others say.others more (omega arith) say.entries_are last are;
}

-- ---- one section more

-- A section: its entries, what their lines say, the word for it and what may follow that.
pub record Section {A : Type 0} (make : A → EntryLine) (IsText : A → Line → Type 0) (section : ℕ) (word : List ℕ)
    (Texts : Line → List ℕ → Type 0) : Type 0 where
  pub says : SaysAs make IsText section
  pub of : IsSection section word Texts
  pub few : section ≤ 3

module _ {A : Type 0} {make : A → EntryLine} {IsText : A → Line → Type 0} {section : ℕ} {word : List ℕ}
    {Texts : Line → List ℕ → Type 0} (sect : Section make IsText section word Texts) {text a : List ℕ} {i : ℕ}
    (now : SaidUpTo text a i section) where
  abbrev section_front : (b : List ℕ) (j : ℕ) (values : List A) → HasReadLines IsText a b i j values
      → BeginsWithEntries text b
  section_front b j values read =
      let front = now.front in
      record {
        lines = front.lines ++ read.lines;
        header = front.header;
        entries = front.entries ++ map make values;
        begins = lines_more front.lines read.lines text a b front.begins read.begins;
        say = says_more front.lines read.lines front.header front.entries (map make values) section front.say now.last
            (section_entries make IsText section section values read.lines sect.says (omega arith) read.are);
      }

  section_last : (values : List A) → UpTo section (now.front.entries ++ map make values)
  section_last values =
      all_append (λ entry. section_of entry ≤ section) now.front.entries (map make values) now.last
      (section_up_to make section values sect.says.of)

  -- past some of its lines
  abbrev section_said : (b : List ℕ) (j : ℕ) (values : List A) → HasReadLines IsText a b i j values
      → SaidUpTo text b j section
  section_said b j values read =
      let front = now.front in
      let past =
      past_section make IsText section now.to values read.lines a b sect.says now.less read.begins read.are in
      let most = past.most in
      let small = sect.few in
      record {
        front = section_front b j values read;
        last = section_last values;
        place =
            let size = length-append front.lines read.lines in
            let first = now.place in
            let here = read.place in
            omega (arith, size, first, here);
        to = past.to;
        less = most;
        few = omega (arith, most, small);
        leads = leads_on front.lines read.lines now.leads past.leads;
        none = past.none now.none;
      }

  -- past all of them
  abbrev section_over : IsNoneOf word a → SaidUpTo text a i (section + 1)
  section_over none =
      let less = now.less in
      record {
        front = now.front;
        last = up_to_later section (section + 1) now.front.entries (omega arith) now.last;
        place = now.place;
        to = now.to;
        less = omega (arith, less);
        few = now.few;
        leads = now.leads;
        none = none_step now.to section word a sect.of.word_is now.none none;
      }

  pub stop_at : {number offset : ℕ} → number ≡ i → IsFaultyLine word Texts a offset
      → IsLineFault IsAnyText text 1 number offset
  stop_at {number = number} {offset = offset} same fault =
      led_line_fault IsAnyText (AnyEntries now.to) now.front.lines now.leads text a 1 i number offset now.front.begins
      now.place
      (subst (λ n. IsLineFault (AnyEntries now.to) a i n offset) (sym same)
      (entry_fault section now.to word Texts a i offset sect.of now.less fault))

pub end_at : {text ahead : List ℕ} {now : ℕ} → SaidUpTo text ahead now 4 → ¬ (ahead ≡ [])
    → IsLineFault IsAnyText text 1 now 0
end_at {text = text} {ahead = ahead} {now = now} said some =
    led_line_fault IsAnyText (AnyEntries said.to) said.front.lines said.leads text ahead 1 now now 0 said.front.begins
    said.place (other_fault said.to ahead now said.few some said.none)

-- ---- the sections

-- A section that is pushed: its entries in a message, and their count.
pub record Pushes {A R : Type 0} (make : A → EntryLine) (IsText : A → Line → Type 0) (Is : A → R → Type 0)
    (more : Message → R → Message) (count : HeaderCounts → ℕ) (section : ℕ) (word : List ℕ)
    (Texts : Line → List ℕ → Type 0) : Type 0 where
  pub sect : Section make IsText section word Texts
  pub adds : (m : Message) (a : A) (r : R) → Is a r → IsWith m (make a) (more m r)
  pub small : (a : A) (r : R) → Is a r → IsSmall (make a)
  pub counted : (m : Message) → count (counts_of m) ≤ length (entries_of m)

abbrev pub PushesRecords : (RecordLine → EntryLine) → (Message → Record → Message) → (HeaderCounts → ℕ) → ℕ → List ℕ
    → Type 0
PushesRecords make more count section word =
    Pushes make (IsRecordLine word) (IsSmallRecord (Some 65535)) more count section word (IsAnyRecord None)

pub questions : Pushes EntryLine.question IsQuestionLine IsAsked more_questions (λ counts. counts.qdcount) 0
    (codes "question") IsAnyQuestion
questions = record {
  sect = record { says = record { of = λ q. refl; is = λ q words is. is }; of = of_questions; few = omega arith };
  adds = λ m q asked is. ap (more_questions m) is;
  small = λ q asked is. omega arith;
  counted = λ m. (counts_most m).0;
}

record_section : (make : RecordLine → EntryLine) (section : ℕ) (word : List ℕ) → SaysAs make (IsRecordLine word) section
    → section_in word ≡ section → word ≡ word_in section → 1 ≤ section → section ≤ 3
    → Section make (IsRecordLine word) section word (IsAnyRecord None)
record_section make section word says first is late few =
    record { says = says; of = of_records make section word says first is late; few = few }

pub answers : PushesRecords EntryLine.answer more_answers (λ counts. counts.ancount) 1 (codes "answer")
answers = record {
  sect = record_section EntryLine.answer 1 (codes "answer") (record { of = λ said. refl; is = λ said words is. is })
      refl refl (omega arith) (omega arith);
  adds = λ m said r is. (r, is.0, refl);
  small = λ said r is. is.1;
  counted = λ m. (counts_most m).1;
}

pub authorities : PushesRecords EntryLine.authority more_authorities (λ counts. counts.nscount) 2 (codes "authority")
authorities = record {
  sect = record_section EntryLine.authority 2 (codes "authority")
      (record { of = λ said. refl; is = λ said words is. is })
      refl refl (omega arith) (omega arith);
  adds = λ m said r is. (r, is.0, refl);
  small = λ said r is. is.1;
  counted = λ m. (counts_most m).2;
}

pub additionals : PushesRecords EntryLine.additional more_additionals (λ counts. counts.arcount) 3 (codes "additional")
additionals = record {
  sect = record_section EntryLine.additional 3 (codes "additional")
      (record { of = λ said. refl; is = λ said words is. is })
      refl refl (omega arith) (omega arith);
  adds = λ m said r is. (r, is.0, refl);
  small = λ said r is. is.1;
  counted = λ m. (counts_most m).3;
}

pub with_values : {A R : Type 0} (make : A → EntryLine) (Is : A → R → Type 0) (more : Message → R → Message)
    → ((m : Message) (a : A) (r : R) → Is a r → IsWith m (make a) (more m r)) → (m : Message) (values : List A)
    (all : List R) → AllZip Is values all → IsWithAll m (map make values) (all_more more m all)
with_values make Is more adds m [] [] are = refl
with_values make Is more adds m (a ∷ values) (r ∷ all) are =
    (more m r, adds m a r are.0, with_values make Is more adds (more m r) values all are.1)
with_values make Is more adds m values all are = absurd are

all_small : {A R : Type 0} (make : A → EntryLine) (Is : A → R → Type 0) → ((a : A) (r : R) → Is a r → IsSmall (make a))
    → (values : List A) (all : List R) → AllZip Is values all → AllByRecursion IsSmall (map make values)
all_small make Is small [] all are = tt
all_small make Is small (a ∷ values) [] are = absurd are
all_small make Is small (a ∷ values) (r ∷ all) are = (small a r are.0, all_small make Is small values all are.1)

-- ---- texts that are read, and texts that are too long

pub whole_text : {B T : Type 0} {most : ℕ} {limit : Option ℕ} {text ahead : List ℕ} {i next : ℕ} {b : Building B T}
    (now : Stage most limit text ahead i next b) → ahead ≡ [] → IsTextOfMessage text now.m
whole_text {text = text} {ahead = ahead} now over =
    let front = now.said.front in
    record {
      lines = front.lines;
      header = front.header;
      entries = front.entries;
      lines_are = lines_end front.lines text ahead front.begins over;
      say = front.say;
      message_is = now.message_is;
    }

module _ {A R : Type 0} {make : A → EntryLine} {IsText : A → Line → Type 0} {Is : A → R → Type 0}
    {more : Message → R → Message} {count : HeaderCounts → ℕ} {section : ℕ} {word : List ℕ}
    {Texts : Line → List ℕ → Type 0} (of : Pushes make IsText Is more count section word Texts) {B T : Type 0}
    {most : ℕ} {limit : Option ℕ} {text a : List ℕ} {i : ℕ} {before : Building B T}
    (now : Stage most limit text a i section before) where
  -- more of its entries are in the message
  pub stage_on : {b : List ℕ} {j : ℕ} {after : Building B T}
      → HasPushed IsText Is most (message_limit limit) more a b i j before after
      → Stage most limit text b j section after
  stage_on {b = b} {j = j} pushed =
      let front = now.said.front in
      let all = map make pushed.values in
      let then = all_more more now.m pushed.entries in
      record {
        said = section_said of.sect now.said b j pushed.values pushed.read;
        m = then;
        message_is = with_more (headed_message front.header) now.m then front.entries all now.message_is
            (with_values make Is more of.adds now.m pushed.values pushed.entries pushed.are);
        small = all_append IsSmall front.entries all now.small
            (all_small make Is of.small pushed.values pushed.entries pushed.are);
        writes = pushed.written now.m now.writes;
        within = pushed.within now.within;
        free = pushed.push_limit ∙ now.free;
      }

  -- all of them are
  stage_over : IsNoneOf word a → Stage most limit text a i (section + 1) before
  stage_over none = record {
    said = section_over of.sect now.said none;
    m = now.m;
    message_is = now.message_is;
    small = now.small;
    writes = now.writes;
    within = now.within;
    free = now.free;
  }

  -- one more makes it too long
  pub long_next : ExceedsNext IsText Is most (least_limit before.push_limit (message_limit limit)) count more a before
      → IsMessageTooLong most (message_limit limit) text
  long_next next =
      let front = now.said.front in
      let one = make next.value in
      let then = more now.m next.entry in
      inl (record {
        ahead = next.rest;
        front = section_front of.sect now.said next.rest (i + 1) (next.value ∷ []) (record {
          lines = next.words ∷ [];
          begins = (next.rest, next.taken, refl);
          place = refl;
          are = (next.said, tt);
        });
        m = then;
        message_is = with_more (headed_message front.header) now.m then front.entries (one ∷ []) now.message_is
            (then, of.adds now.m next.value next.entry next.is, refl);
        past = past_limit most limit count then (of.counted then)
            (subst (λ l. Exceeds most (least_limit l (message_limit limit)) count then) now.free
            (next.exceeds now.m now.writes));
      })

-- past a section
pub stage_past : {A R : Type 0} {make : A → EntryLine} {IsText : A → Line → Type 0} {Is : A → R → Type 0}
    {more : Message → R → Message} {count : HeaderCounts → ℕ} {section : ℕ} {word : List ℕ}
    {Texts : Line → List ℕ → Type 0} (of : Pushes make IsText Is more count section word Texts) {B T : Type 0}
    {most : ℕ} {limit : Option ℕ} {text a b : List ℕ} {i j : ℕ} {before after other : Building B T} → other ≡ after
    → Stage most limit text a i section before
    → HasPushed IsText Is most (message_limit limit) more a b i j before after × IsNoneOf word b
    → Stage most limit text b j (section + 1) other
stage_past {section = section} of {most = most} {limit = limit} {text = text} {b = b} {j = j} same now (pushed, none) =
    subst (Stage most limit text b j (section + 1)) (sym same) (stage_over of (stage_on of now pushed) none)

module _ {make : RecordLine → EntryLine} {section : ℕ} {word : List ℕ} {more : Message → Record → Message}
    {count : HeaderCounts → ℕ} (of : PushesRecords make more count section word)
    (octets : (said : RecordLine) → data_octets (make said) ≡ said.octets) {B T : Type 0} {most : ℕ} {limit : Option ℕ}
    {text a : List ℕ} {i : ℕ} {before : Building B T} (now : Stage most limit text a i section before) where
  pub long_record : ExceedsNext (IsRecordLine word) (IsSmallRecord (Some 65535)) most
      (least_limit before.push_limit (message_limit limit)) count more a before
      ⊎ IsLongLine word (IsAnyRecord None) (Some 65535) a → IsMessageTooLong most (message_limit limit) text
  long_record (inl next) = long_next of now next
  long_record (inr long) =
      let front = now.said.front in
      let said : RecordLine = record { head = long.is.0; octets = long.octets } in
      let late = long.past in
      let here = of.sect.says.of said in
      let same = ap length (octets said) in
      inr (record {
        ahead = a;
        front = front;
        line = long.line;
        after = long.after;
        split = long.split;
        words = word ∷ long.words;
        are = (long.rest, long.taken, long.are);
        entry = make said;
        say = says_more front.lines ((word ∷ long.words) ∷ []) front.header front.entries (make said ∷ []) section
            front.say now.said.last (
              make said,
              [],
              refl,
              omega (arith, here),
              of.sect.says.is said (word ∷ long.words) (refl, long.is.1),
              refl,
            );
        past = omega (arith, late, same);
      })

  -- only data that ends in a list asks for memory, or what asks for the message
  pub list_asked : {C P : Type 0} (asks : Bool) → ¬ (asks ≡ true) → IsRecordWord word
      → C ⊎ P ⊎ (asks ≡ true)
      ⊎ PushedUpTo (IsRecordLine word) (IsSmallRecord (Some 65535)) most (message_limit limit) more a i before
      (λ ahead j after. IsListLine word ahead) → C ⊎ P ⊎ HasListLine text
  list_asked asks none named (inl is) = inl is
  list_asked asks none named (inr (inl is)) = inr (inl is)
  list_asked asks none named (inr (inr (inl is))) = absurd (none is)
  list_asked asks none named (inr (inr (inr found))) = inr (inr (record {
    ahead = found.ahead;
    front = (stage_on of now found.pushed).said.front;
    section = word;
    named = named;
    is = found.is;
  }))
