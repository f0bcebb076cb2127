-- A message while it is written, and what a push does to it.
use Rattle.std.specs.Prelude.{◌≡◌, ℕ, ◌+◌, ◌<◌, ◌≤◌, ◌⊎◌, Bool, Option, Some, None, List, [], ◌∷◌, ◌++◌, length}
use Rattle.std.specs.Prelude.{min, Result, OnOk, OnErr}
use Rattle.octseq.specs.Limit.{ExceedsLimit, IsWithin}
use Rattle.octseq.specs.Refusal.{Refusal, IsShort, IsMemory, append_error}
use Rattle.octseq.specs.declared.AppendError.{AppendError}
use Rattle.octseq_dns_compress.specs.State.{State, Entry, with_header}
use Rattle.octseq_dns_message.specs.declared.header.Header.{Header}
use Rattle.octseq_dns_message.specs.declared.header.HeaderCounts.{HeaderCounts}
use Rattle.octseq_dns.specs.Contents.{Question, Record, Message, FitsRecord, MessageFits, composed, counts_of}
use Rattle.octseq_dns.specs.Contents.{entries_of, record_entry}

-- A message that is being written: the builder of its octets, the table, its octets with the names in them, its header,
-- the number of entries of each section, the push limit, and whether it has an OPT record.
pub record Building (B T : Type 0) : Type 0 where
  pub octets : B
  pub table : T
  pub state : State
  pub header : Header
  pub counts : HeaderCounts
  pub push_limit : Option ℕ
  pub has_opt : Bool

-- It is this message, with at most `most` names kept.
pub record ComposesMessage (most : ℕ) (m : Message) (state : State) (header : Header)
    (counts : HeaderCounts) : Type 0 where
  pub state_is : state ≡ composed most m
  pub header_is : header ≡ m.header
  pub counts_are : counts ≡ counts_of m
  pub fits : MessageFits m

-- it is a message that has nothing after its section
abbrev pub IsBuilt : ℕ → State → Header → HeaderCounts → (HeaderCounts → Type 0) → Type 0
IsBuilt most state header counts Reaches =
    ∥ ((m : Message) × ComposesMessage most m state header counts) ∥₁ × Reaches counts

-- ---- up to which section it is written

-- it has only its header
abbrev pub NothingYet : HeaderCounts → Type 0
NothingYet counts = (counts.qdcount ≡ 0) × (counts.ancount ≡ 0) × (counts.nscount ≡ 0) × (counts.arcount ≡ 0)

-- it has nothing after its questions
abbrev pub UpToQuestions : HeaderCounts → Type 0
UpToQuestions counts = (counts.ancount ≡ 0) × (counts.nscount ≡ 0) × (counts.arcount ≡ 0)

-- it has nothing after its answers
abbrev pub UpToAnswers : HeaderCounts → Type 0
UpToAnswers counts = (counts.nscount ≡ 0) × (counts.arcount ≡ 0)

-- it has nothing after its authority records
abbrev pub UpToAuthorities : HeaderCounts → Type 0
UpToAuthorities counts = counts.arcount ≡ 0

-- it may have anything
abbrev pub UpToAdditionals : HeaderCounts → Type 0
UpToAdditionals counts = Unit {0}

-- ---- one more

-- with another question
abbrev pub more_questions : Message → Question → Message
more_questions m one = record m { questions = m.questions ++ one ∷ [] }

-- with another answer
abbrev pub more_answers : Message → Record → Message
more_answers m one = record m { answers = m.answers ++ one ∷ [] }

-- with another authority record
abbrev pub more_authorities : Message → Record → Message
more_authorities m one = record m { authorities = m.authorities ++ one ∷ [] }

-- with another additional record
abbrev pub more_additionals : Message → Record → Message
more_additionals m one = record m { additionals = m.additionals ++ one ∷ [] }

-- with more entries, one after another
abbrev pub all_more : {A : Type 0} → (Message → A → Message) → Message → List A → Message
all_more more m [] = m
all_more more m (one ∷ rest) = all_more more (more m one) rest

-- A section takes values as entries, and a header has their count. If a message has nothing after the section, one more
-- value becomes its last entry, and it still has nothing after the section.
pub record SectionTakes (A : Type 0) (entry : A → Entry) (FitsOne : A → Type 0) (Reaches : HeaderCounts → Type 0)
    (count : HeaderCounts → ℕ) (counted : HeaderCounts → ℕ → HeaderCounts) (more : Message → A → Message)
    : Type 0 where
  pub header : (m : Message) (one : A) → (more m one).header ≡ m.header
  pub counts : (m : Message) (one : A) → counts_of (more m one) ≡ counted (counts_of m) (count (counts_of m) + 1)
  pub entries : (m : Message) (one : A) → Reaches (counts_of m)
      → entries_of (more m one) ≡ entries_of m ++ entry one ∷ []
  pub count_is : (counts : HeaderCounts) (n : ℕ) → count (counted counts n) ≡ n
  pub reaches : (counts : HeaderCounts) (n : ℕ) → Reaches counts → Reaches (counted counts n)
  pub fits : (m : Message) (one : A) → MessageFits m → FitsOne one → count (counts_of m) < 65535
      → MessageFits (more m one)

-- a section takes records
abbrev pub TakesRecords : (HeaderCounts → Type 0) → (HeaderCounts → ℕ) → (HeaderCounts → ℕ → HeaderCounts)
    → (Message → Record → Message) → Type 0
TakesRecords Reaches count counted more = SectionTakes Record record_entry FitsRecord Reaches count counted more

-- ---- what a push does

-- the smaller of two limits; `None` is no limit
abbrev pub least_limit : Option ℕ → Option ℕ → Option ℕ
least_limit None limit = limit
least_limit (Some most) None = Some most
least_limit (Some most) (Some limit) = Some (min most limit)

-- A call changes a message to the wanted state, or leaves it unchanged. It fails with `Short` only if the wanted octets
-- exceed the limit, and with `Memory` only if a request for memory may be refused.
pub record ChangesMessage (limit : Option ℕ) (Asks : Type 0) (result : Result (Unit {0}) AppendError)
    (wanted old new : State) : Type 0 where
  pub ok : OnOk result (new ≡ wanted)
  pub within : OnOk result (IsWithin limit (length wanted.octets))
  pub err : OnErr result (new ≡ old)
  pub short : IsShort append_error result → ExceedsLimit limit (length wanted.octets)
  pub memory : IsMemory append_error result → Asks

-- A call pushes an entry: it changes a message to the wanted state with a header, or leaves it unchanged. It fails with
-- `Short` only if the octets with the entry exceed the limit, or the section has 65,535 entries.
pub record PushesAs {E : Type 0} (refusal : E → Refusal) (limit : Option ℕ) (Asks : Type 0)
    (result : Result (Unit {0}) E) (wanted : State) (header : List ℕ) (count : ℕ) (old new : State) : Type 0 where
  pub ok : OnOk result (new ≡ with_header wanted header)
  pub fits : OnOk result (IsWithin limit (length wanted.octets) × (count < 65535))
  pub err : OnErr result (new ≡ old)
  pub short : IsShort refusal result → ExceedsLimit limit (length wanted.octets) ⊎ (65535 ≤ count)
  pub memory : IsMemory refusal result → Asks

-- a call with the errors of an append
abbrev pub Pushes : Option ℕ → Type 0 → Result (Unit {0}) AppendError → State → List ℕ → ℕ → State → State → Type 0
Pushes = PushesAs append_error
