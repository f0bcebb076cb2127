-- Answers within a limit: RFC 2181, 9.
use Rattle.std.specs.Prelude.{◌≡◌, ◌⊎◌, ℕ, ◌+◌, ◌*◌, ◌/◌, ◌%◌, ◌<◌, ◌≤◌, nat_eq, cond, List, length, take}
use Rattle.octseq_dns.specs.Contents as contents
use Rattle.octseq_dns.specs.Contents.{message_octets}
use Rattle.octseq_dns.specs.Entry.{Question, Record}
use Rattle.octseq_dns.specs.Message.{IsMessage}
use Rattle.octseq_dns_message.specs.declared.header.Header.{Header}
use Rattle.octseq_c.specs.Made.{IsAnswerOf, offsets_kept}
use Rattle.octseq_c.specs.declared.rows.Row.{Row}

-- flags without TC, which has the weight 512
abbrev pub flags_whole : ℕ → ℕ
flags_whole flags = flags / 1024 * 1024 + flags % 512

-- the flags of an answer with `count` of `all` records: TC is set exactly if it has fewer
abbrev pub answer_flags : ℕ → ℕ → ℕ → ℕ
answer_flags count all flags = cond (nat_eq count all) (flags_whole flags) (flags_whole flags + 512)

-- The first `count` rows, in the order that they are given in, and the answer with their records.
module _ (asked : Header) (flags : ℕ) (questions : List Question) (source : List ℕ) (rows : List Row) where
  abbrev pub IsAnswerUpTo : ℕ → contents.Message → Type 0
  IsAnswerUpTo count m = IsAnswerOf asked (answer_flags count (length rows) flags) questions source (take count rows) m

  -- it has no more octets than a limit
  abbrev pub FitsUpTo : ℕ → ℕ → Type 0
  FitsUpTo limit count =
      (m : contents.Message) × IsAnswerUpTo count m × (length (message_octets offsets_kept m) ≤ limit)

  -- it has more
  abbrev pub IsPastUpTo : ℕ → ℕ → Type 0
  IsPastUpTo limit count =
      (m : contents.Message) → IsAnswerUpTo count m → limit < length (message_octets offsets_kept m)

  -- The records of all rows exceed a limit, and so do those of one row more than `count`, but not those of fewer.
  pub record IsCutAt (limit count : ℕ) : Type 0 where
    pub some : count < length rows
    pub all : IsPastUpTo limit (length rows)
    pub next : IsPastUpTo limit (count + 1)
    pub fewer : (other : ℕ) → other < count → FitsUpTo limit other

  -- so many rows are kept: all, or those before the first with which the answer exceeds a limit
  abbrev pub KeepsUpTo : ℕ → ℕ → Type 0
  KeepsUpTo limit count = FitsUpTo limit count × ((count ≡ length rows) ⊎ IsCutAt limit count)

-- These are the octets of an answer to a message within a limit.
pub record IsAnswerWithin (query : List ℕ) (flags : ℕ) (source : List ℕ) (rows : List Row) (limit : ℕ) (made : List ℕ)
    : Type 0 where
  pub asked : Header
  pub questions : List Question
  pub answers : List Record
  pub authorities : List Record
  pub additionals : List Record
  pub message : IsMessage query asked questions answers authorities additionals
  pub count : ℕ
  pub keeps : KeepsUpTo asked flags questions source rows limit count
  pub contents : contents.Message
  pub is : IsAnswerUpTo asked flags questions source rows count contents
  pub made_is : made ≡ message_octets offsets_kept contents

-- The octets are a message, and its questions alone exceed a limit, or there are more than 65,535 rows.
pub record IsTooLongWithin (query : List ℕ) (flags : ℕ) (source : List ℕ) (rows : List Row) (limit : ℕ) : Type 0 where
  pub asked : Header
  pub questions : List Question
  pub answers : List Record
  pub authorities : List Record
  pub additionals : List Record
  pub message : IsMessage query asked questions answers authorities additionals
  pub long : (65535 < length rows) ⊎ IsPastUpTo asked flags questions source rows limit 0
