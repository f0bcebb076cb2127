-- Lines of a section that are read, and what they say written to a message.
use Rattle.std.specs.Prelude.{◌≡◌, ℕ, ◌+◌, Option, List, length}
use Rattle.std.specs.List.{AllZip}
use Rattle.octseq.specs.Limit.{IsWithin}
use Rattle.octseq_dns.specs.Contents.{Message, Question, Record}
use Rattle.octseq_dns.specs.Writes.{Building, ComposesMessage, all_more}
use Rattle.octseq_dns_message.specs.declared.header.HeaderCounts.{HeaderCounts}
use Rattle.octseq_dns_compose.specs.MessageText.{IsRecordOfLine, RecordLine}
use Rattle.octseq_dns_compose.specs.TextLines.{BeginsWithLines, TakesLine}
use Rattle.octseq_dns_compose.specs.TooLong.{Exceeds}

-- a question is written as it is; a record is what its line says, with data that is within a limit
abbrev pub IsAsked : Question → Question → Type 0
IsAsked said q = q ≡ said

abbrev pub IsSmallRecord : Option ℕ → RecordLine → Record → Type 0
IsSmallRecord limit said r = IsRecordOfLine said r × IsWithin limit (length said.octets)

-- Lines were read as values, up to what is ahead. `first` is the number of the first line, `now` of the next.
pub record HasReadLines {A : Type 0} (IsText : A → List (List ℕ) → Type 0) (text ahead : List ℕ) (first now : ℕ)
    (values : List A) : Type 0 where
  pub lines : List (List (List ℕ))
  pub begins : BeginsWithLines lines text ahead
  pub place : now ≡ first + length lines
  pub are : AllZip IsText values lines

-- And an entry was written for each, within a limit.
pub record HasPushed {A R B T : Type 0} (IsText : A → List (List ℕ) → Type 0) (Is : A → R → Type 0) (most : ℕ)
    (limit : Option ℕ) (more : Message → R → Message) (text ahead : List ℕ) (first now : ℕ)
    (before after : Building B T) : Type 0 where
  pub values : List A
  pub read : HasReadLines IsText text ahead first now values
  pub entries : List R
  pub are : AllZip Is values entries
  pub written : (m : Message) → ComposesMessage most m before.state before.header before.counts
      → ComposesMessage most (all_more more m entries) after.state after.header after.counts
  pub within : IsWithin limit (length before.state.octets) → IsWithin limit (length after.state.octets)
  pub push_limit : after.push_limit ≡ before.push_limit

-- This was done up to some line, and there this holds.
pub record PushedUpTo {A R B T : Type 0} (IsText : A → List (List ℕ) → Type 0) (Is : A → R → Type 0) (most : ℕ)
    (limit : Option ℕ) (more : Message → R → Message) (text : List ℕ) (first : ℕ) (before : Building B T)
    (Then : List ℕ → ℕ → Building B T → Type 0) : Type 0 where
  pub ahead : List ℕ
  pub now : ℕ
  pub after : Building B T
  pub pushed : HasPushed IsText Is most limit more text ahead first now before after
  pub is : Then ahead now after

-- With the entry of the next line a message exceeds a limit.
pub record ExceedsNext {A R B T : Type 0} (IsText : A → List (List ℕ) → Type 0) (Is : A → R → Type 0) (most : ℕ)
    (limit : Option ℕ) (count : HeaderCounts → ℕ) (more : Message → R → Message) (ahead : List ℕ)
    (b : Building B T) : Type 0 where
  pub value : A
  pub words : List (List ℕ)
  pub rest : List ℕ
  pub taken : TakesLine words ahead rest
  pub said : IsText value words
  pub entry : R
  pub is : Is value entry
  pub exceeds : (m : Message) → ComposesMessage most m b.state b.header b.counts
      → Exceeds most limit count (more m entry)
