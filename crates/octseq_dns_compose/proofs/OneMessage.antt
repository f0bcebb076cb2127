-- A text is of one message.
use Rattle.std.proofs.Common.{◌≡◌, ◌⊎◌, ℕ, Bool, true, false, ◌&&◌, None, List, [], ◌∷◌, length}
use Rattle.std.proofs.Common.{refl, sym, ap, ◌∙◌, subst, inl, inr, arith}
use Rattle.std.proofs.lemmas.Bool.{and_parts}
use Rattle.octseq.specs.Window.{whole}
use Rattle.octseq_dns.specs.Contents.{Message, Question, Record}
use Rattle.octseq_dns.specs.Rdata.{bare_rdata, rdata_fields}
use Rattle.octseq_dns.specs.Writes.{more_answers, more_authorities, more_additionals}
use Rattle.octseq_dns_data.proofs.Rdata.{one_said}
use Rattle.octseq_dns_data.specs.Data.{ParsedRdata}
use Rattle.octseq_dns_message.specs.declared.header.Flags.{Flags}
use Rattle.octseq_dns_message.specs.declared.header.Header.{Header}
use Rattle.octseq_dns_name.proofs.Readings.{name_once}
use Rattle.octseq_dns_text.proofs.OneReading.{data_one}
use Rattle.octseq_dns_text.proofs.TypesTexts.{type_once}
use Rattle.octseq_dns_text.specs.DataText.{IsDataText}
use Rattle.octseq_dns_compose.specs.Alone.{SaysAlone}
use Rattle.octseq_dns_compose.specs.HeaderLine.{IsHeaderLine, AreFlags, ArePicked, flag_names}
use Rattle.octseq_dns_compose.specs.MessageText.{
  AreEntries,
  EntryLine,
  IsEntryLine,
  IsTextOfMessage,
  IsRecordOfLine,
  IsWith,
}
use Rattle.octseq_dns_compose.specs.MessageText.{IsWithAll, RecordLine, SayEntries, headed_message, section_of}
use Rattle.octseq_dns_compose.specs.QuestionText.{IsQuestionText}
use Rattle.octseq_dns_compose.specs.RecordText.{IsClassWord, IsOwnerWord, IsRecordText, IsRecordTypeWord, IsTtlWord}
use Rattle.octseq_dns_compose.specs.RecordText.{TtlAndClass}
use Rattle.octseq_dns_compose.specs.Take.{IsUpTo, Then}
use Rattle.octseq_dns_compose.specs.TextLines.{AreLines}
use Rattle.octseq_dns_compose.proofs.Flags.{is_apart, not_picked, picked_words, words_picked}
use Rattle.octseq_dns_compose.proofs.LineFaults.{Line, line_once, some_line}
use Rattle.octseq_dns_compose.proofs.MessageFaults.{no_entry, same_section}
use Rattle.octseq_dns_compose.proofs.Named.{no_number}
use Rattle.octseq_dns_compose.proofs.Samples.{one_class}

-- ---- lines

pub lines_once : (text : List ℕ) (lines others : List Line) → AreLines lines text → AreLines others text
    → lines ≡ others
lines_once text [] [] one two = refl
lines_once text [] (words ∷ others) one two = absurd (some_line words text two.0 two.1 one)
lines_once text (words ∷ lines) [] one two = absurd (some_line words text one.0 one.1 two)
lines_once text (words ∷ lines) (more ∷ others) one two =
    let first = line_once words more text one.0 two.0 one.1 two.1 in
    let rest = lines_once two.0 lines others (subst (AreLines lines) first.1 one.2) two.2 in
    λ i. first.0 i ∷ rest i

-- ---- the header

abbrev are_apart : List (List ℕ) → Bool
are_apart [] = true
are_apart (name ∷ names) = is_apart name names && are_apart names

picked_once : (names : List (List ℕ)) (picked others : List Bool) → are_apart names ≡ true
    → length picked ≡ length names → length others ≡ length names
    → picked_words names picked ≡ picked_words names others → picked ≡ others
picked_once [] [] [] apart many too same = refl
picked_once (name ∷ names) (true ∷ picked) (true ∷ others) apart many too same =
    let parts = and_parts (is_apart name names) (are_apart names) apart in
    let rest = picked_once names picked others parts.1 (cc) (cc) (cc) in
    ap (λ l. true ∷ l) rest
picked_once (name ∷ names) (false ∷ picked) (false ∷ others) apart many too same =
    let parts = and_parts (is_apart name names) (are_apart names) apart in
    let rest = picked_once names picked others parts.1 (cc) (cc) same in
    ap (λ l. false ∷ l) rest
picked_once (name ∷ names) (true ∷ picked) (false ∷ others) apart many too same =
    let parts = and_parts (is_apart name names) (are_apart names) apart in
    absurd (not_picked name names _ parts.0 (subst (ArePicked names) (sym same) (words_picked names others)))
picked_once (name ∷ names) (false ∷ picked) (true ∷ others) apart many too same =
    let parts = and_parts (is_apart name names) (are_apart names) apart in
    absurd (not_picked name names _ parts.0 (subst (ArePicked names) same (words_picked names picked)))
picked_once names picked others apart many too same = absurd (cc)

flags_once : (flags others : Flags) (words : List (List ℕ)) → AreFlags flags words → AreFlags others words
    → flags ≡ others
flags_once f g words one two =
    let ours = f.qr ∷ f.aa ∷ f.tc ∷ f.rd ∷ f.ra ∷ f.ad ∷ f.cd ∷ [] in
    let others = g.qr ∷ g.aa ∷ g.tc ∷ g.rd ∷ g.ra ∷ g.ad ∷ g.cd ∷ [] in
    let all : ours ≡ others = picked_once flag_names ours others refl refl refl (sym one.1 ∙ two.1) in
    let qr : f.qr ≡ g.qr = cc in
    let aa : f.aa ≡ g.aa = cc in
    let tc : f.tc ≡ g.tc = cc in
    let rd : f.rd ≡ g.rd = cc in
    let ra : f.ra ≡ g.ra = cc in
    let ad : f.ad ≡ g.ad = cc in
    let cd : f.cd ≡ g.cd = cc in
    let z : f.z ≡ g.z = one.0 ∙ sym two.0 in
    λ i. record { qr = qr i; aa = aa i; tc = tc i; rd = rd i; ra = ra i; z = z i; ad = ad i; cd = cd i }

number_once : (most a b : ℕ) (word : List ℕ) → IsUpTo most a word → IsUpTo most b word → a ≡ b
number_once most a b word (numeral, is, few) (also, too, less) = sym is ∙ too

pub header_once : (header other : Header) (words : Line) → IsHeaderLine header words → IsHeaderLine other words
    → header ≡ other
header_once h k [] one two = absurd one
header_once h k (a ∷ []) one two = absurd one.1
header_once h k (a ∷ b ∷ []) one two = absurd one.1.1
header_once h k (a ∷ b ∷ c ∷ []) one two = absurd one.1.1.1
header_once h k (a ∷ b ∷ c ∷ d ∷ []) one two = absurd one.1.1.1.1
header_once h k (a ∷ b ∷ c ∷ d ∷ e ∷ []) one two = absurd one.1.1.1.1.1
header_once h k (a ∷ b ∷ c ∷ d ∷ e ∷ f ∷ []) one two = absurd one.1.1.1.1.1.1
header_once h k (a ∷ b ∷ c ∷ d ∷ e ∷ f ∷ g ∷ words) (p, (x, (q, (y, (r, (z, (s, flags)))))))
    (t, (u, (l, (v, (m, (w, (n, others))))))) =
    let id = number_once 65535 h.id k.id b x u in
    let opcode = number_once 15 h.opcode k.opcode d y v in
    let rcode = number_once 15 h.rcode k.rcode f z w in
    let all = flags_once h.flags k.flags words flags others in
    λ i. record { id = id i; flags = all i; opcode = opcode i; rcode = rcode i }

-- ---- questions and records

owner_once : (labels others : List (List ℕ)) (word : List ℕ) → IsOwnerWord None labels word
    → IsOwnerWord None others word → labels ≡ others
owner_once labels others word (are, short, spells) (too, few, also) = name_once labels others word are too spells also

question_once : (q p : Question) (words : Line) → IsQuestionText q.labels q.qclass q.qtype words
    → IsQuestionText p.labels p.qclass p.qtype words → q ≡ p
question_once q p [] one two = absurd one
question_once q p (a ∷ []) one two = absurd one.1
question_once q p (a ∷ b ∷ []) one two = absurd one.1.1
question_once q p (a ∷ b ∷ c ∷ words) (name, (class, (rtype, over)))
    (owner, (kind, (other, end))) =
    let labels = owner_once q.labels p.labels a name owner in
    let qclass = one_class b q.qclass p.qclass class kind in
    let qtype = type_once c q.qtype p.qtype rtype other in
    λ i. record { labels = labels i; qtype = qtype i; qclass = qclass i }

-- a TTL and a class, in either order
abbrev IsEither : ℕ → ℕ → List ℕ → List ℕ → Type 0
IsEither ttl class a b = (IsTtlWord ttl a × IsClassWord class b) ⊎ (IsClassWord class a × IsTtlWord ttl b)

either_once : (ttl other class kind : ℕ) (a b : List ℕ) → IsEither ttl class a b → IsEither other kind a b
    → (ttl ≡ other) × (class ≡ kind)
either_once ttl other class kind a b (inl (time, is)) (inl (also, too)) =
    (sym time.2 ∙ also.2, one_class b class kind is too)
either_once ttl other class kind a b (inr (is, time)) (inr (too, also)) =
    (sym time.2 ∙ also.2, one_class a class kind is too)
either_once ttl other class kind a b (inl (time, is)) (inr (too, also)) = absurd (no_number a kind too time.0)
either_once ttl other class kind a b (inr (is, time)) (inl (also, too)) = absurd (no_number a class is also.0)

either_parts : (ttl class : ℕ) (Rest : Line → Type 0) (a b : List ℕ) (more : Line)
    → TtlAndClass ttl class Rest (a ∷ b ∷ more) → IsEither ttl class a b × Rest more
either_parts ttl class Rest a b more (inl (time, (is, rest))) = (inl (time, is), rest)
either_parts ttl class Rest a b more (inr (is, (time, rest))) = (inr (is, time), rest)

-- what follows the owner, and what follows the TTL and the class
abbrev IsAfterOrder : RecordLine → Line → Type 0
IsAfterOrder said =
    Then (IsRecordTypeWord said.head.rtype) (λ more. IsDataText None said.head.rtype said.head.class more said.octets)

abbrev IsAfterOwner : RecordLine → Line → Type 0
IsAfterOwner said = TtlAndClass said.head.ttl said.head.class (IsAfterOrder said)

abbrev Same : RecordLine → RecordLine → Type 0
Same said other = (said.head.ttl ≡ other.head.ttl) × (said.head.class ≡ other.head.class)
    × (said.head.rtype ≡ other.head.rtype) × (said.octets ≡ other.octets)

after_once : (said other : RecordLine) (words : Line) → IsAfterOwner said words → IsAfterOwner other words
    → Same said other
after_once said other [] (inl none) two = absurd none
after_once said other [] (inr none) two = absurd none
after_once said other (a ∷ []) (inl none) two = absurd none.1
after_once said other (a ∷ []) (inr none) two = absurd none.1
after_once said other (a ∷ b ∷ []) (inl none) two = absurd none.1.1
after_once said other (a ∷ b ∷ []) (inr none) two = absurd none.1.1
after_once said other (a ∷ b ∷ c ∷ more) one two =
    let x = either_parts said.head.ttl said.head.class (IsAfterOrder said) a b (c ∷ more) one in
    let y = either_parts other.head.ttl other.head.class (IsAfterOrder other) a b (c ∷ more) two in
    let both = either_once said.head.ttl other.head.ttl said.head.class other.head.class a b x.0 y.0 in
    let rtype = type_once c said.head.rtype other.head.rtype x.1.0 y.1.0 in
    let found = subst (λ t. IsDataText None t other.head.class more other.octets) (sym rtype) y.1.1 in
    let too = subst (λ n. IsDataText None said.head.rtype n more other.octets) (sym both.1) found in (
      both.0,
      both.1,
      rtype,
      data_one None said.head.rtype said.head.class more said.octets other.octets x.1.1 too,
    )

pub record_once : (said other : RecordLine) (words : Line) → IsRecordText None said.head words said.octets
    → IsRecordText None other.head words other.octets → said ≡ other
record_once said other [] one two = absurd one
record_once said other (owner ∷ words) one two =
    let labels = owner_once said.head.labels other.head.labels owner one.0 two.0 in
    let (ttl, class, rtype, octets) = after_once said other words one.1 two.1 in
    λ i. record {
      head = record { labels = labels i; ttl = ttl i; class = class i; rtype = rtype i };
      octets = octets i;
    }

-- ---- entries

pub entry_once : (entry other : EntryLine) (words : Line) → IsEntryLine entry words → IsEntryLine other words
    → entry ≡ other
entry_once entry other [] one two = absurd (no_entry entry one)
entry_once (EntryLine.question q) (EntryLine.question p) (word ∷ words) one two =
    ap EntryLine.question (question_once q p words one.1 two.1)
entry_once (EntryLine.answer said) (EntryLine.answer other) (word ∷ words) one two =
    ap EntryLine.answer (record_once said other words one.1 two.1)
entry_once (EntryLine.authority said) (EntryLine.authority other) (word ∷ words) one two =
    ap EntryLine.authority (record_once said other words one.1 two.1)
entry_once (EntryLine.additional said) (EntryLine.additional other) (word ∷ words) one two =
    ap EntryLine.additional (record_once said other words one.1 two.1)
entry_once entry other (word ∷ words) one two =
    let same = same_section entry other (word ∷ words) one two in
    absurd (omega (arith, same))

entries_once : (from : ℕ) (entries others : List EntryLine) (lines : List Line) → AreEntries from entries lines
    → AreEntries from others lines → entries ≡ others
entries_once from entries others [] one two = one ∙ sym two
entries_once from entries others (words ∷ lines) (entry, more, is, at, line, rest) (other, after, also, on, too, end) =
    let first = entry_once entry other words line too in
    let all = entries_once (section_of entry) more after lines rest
    (subst (λ e. AreEntries (section_of e) after lines) (sym first) end) in
    is ∙ (λ i. first i ∷ all i) ∙ sym also

pub lines_say : (lines : List Line) (header other : Header) (entries others : List EntryLine)
    → SayEntries lines header entries → SayEntries lines other others → (header ≡ other) × (entries ≡ others)
lines_say lines header other entries others one two =
    let same : one.first ∷ one.others ≡ two.first ∷ two.others = sym one.lines_are ∙ two.lines_are in
    let first : two.first ≡ one.first = cc in
    let rest : two.others ≡ one.others = cc in (
      header_once header other one.first one.header_is (subst (IsHeaderLine other) first two.header_is),
      entries_once 0 entries others one.others one.entries_are (subst (AreEntries 0 others) rest two.entries_are),
    )

-- ---- the message

alone_once : (rtype class : ℕ) (octets : List ℕ) (rdata other : ParsedRdata) → SaysAlone rtype class octets rdata
    → SaysAlone rtype class octets other → rdata ≡ other
alone_once rtype class octets rdata other (inl one) (inl two) =
    one_said rtype class (whole octets) (whole octets) rdata other (inl one.0) (inl two.0)
alone_once rtype class octets rdata other (inl one) (inr two) = absurd (two.1 rdata one)
alone_once rtype class octets rdata other (inr one) (inl two) = absurd (one.1 other two)
alone_once rtype class octets rdata other (inr one) (inr two) = one.0 ∙ sym two.0

record_of_once : (said : RecordLine) (r other : Record) → IsRecordOfLine said r → IsRecordOfLine said other → r ≡ other
record_of_once said r other one two =
    let parsed = alone_once said.head.rtype said.head.class said.octets one.parsed two.parsed one.says two.says in
    one.is ∙ (λ i. record {
      labels = said.head.labels;
      rtype = said.head.rtype;
      class = said.head.class;
      ttl = said.head.ttl;
      fields = rdata_fields (bare_rdata (parsed i));
    }) ∙ sym two.is

pub with_once : (m more other : Message) (entry : EntryLine) → IsWith m entry more → IsWith m entry other → more ≡ other
with_once m more other (EntryLine.question q) one two = one ∙ sym two
with_once m more other (EntryLine.answer said) (r, is, one) (s, also, two) =
    one ∙ ap (more_answers m) (record_of_once said r s is also) ∙ sym two
with_once m more other (EntryLine.authority said) (r, is, one) (s, also, two) =
    one ∙ ap (more_authorities m) (record_of_once said r s is also) ∙ sym two
with_once m more other (EntryLine.additional said) (r, is, one) (s, also, two) =
    one ∙ ap (more_additionals m) (record_of_once said r s is also) ∙ sym two

all_once : (m all other : Message) (entries : List EntryLine) → IsWithAll m entries all → IsWithAll m entries other
    → all ≡ other
all_once m all other [] one two = one ∙ sym two
all_once m all other (entry ∷ entries) (more, is, one) (next, also, two) =
    let same = with_once m more next entry is also in
    all_once more all other entries one (subst (λ n. IsWithAll n entries other) (sym same) two)

pub message_once : (text : List ℕ) (m other : Message) → IsTextOfMessage text m → IsTextOfMessage text other → m ≡ other
message_once text m other one two =
    let lines = lines_once text one.lines two.lines one.lines_are two.lines_are in
    let both = lines_say two.lines one.header two.header one.entries two.entries
    (subst (λ l. SayEntries l one.header one.entries) lines one.say) two.say in
    let header = subst (λ h. IsWithAll (headed_message h) one.entries m) both.0 one.message_is in
    all_once (headed_message two.header) m other two.entries
    (subst (λ es. IsWithAll (headed_message two.header) es m) both.1 header) two.message_is
