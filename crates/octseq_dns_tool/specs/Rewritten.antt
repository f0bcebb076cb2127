-- Messages that are rewritten.
use Rattle.std.specs.Prelude.{◌≡◌, ℕ, ◌<◌, ◌≤◌, List, ◌++◌, length}
use Rattle.octseq_dns.specs.Contents.{message_octets}
use Rattle.octseq_dns.specs.Contents.{Message as Contents}
use Rattle.octseq_dns.specs.Moved.{CanMove}
use Rattle.octseq_dns.specs.Rewritten.{IsMessageOf}
use Rattle.octseq_dns.specs.Entry.{Question, Record}
use Rattle.octseq_dns.specs.Message.{IsMessage}
use Rattle.octseq_dns.specs.declared.header.Header.{Header}
use Rattle.octseq_dns_tool.specs.declared.engine.rewrite.Rewriting.{Rewriting}
use Rattle.octseq_dns_tool.specs.declared.engine.rewrite.Rewriting.TheVariants.{Written, Immovable, Long}

-- A message that was read can be moved, and these are its octets when it is rewritten with at most one name kept for
-- each offset that a pointer can express: at most 65,535.
pub record IsWrittenAnew (header : Header) (questions : List Question) (answers authorities additionals : List Record)
    (anew : List ℕ) : Type 0 where
  pub moves : CanMove (answers ++ (authorities ++ additionals))
  pub contents : Contents
  pub contents_are : IsMessageOf header questions answers authorities additionals contents
  pub written : anew ≡ message_octets 16384 contents
  pub size : length anew ≤ 65535

-- a message that was read can't be moved
abbrev pub CannotMove : Header → List Question → List Record → List Record → List Record → Type 0
CannotMove header questions answers authorities additionals = ¬ CanMove (answers ++ (authorities ++ additionals))

-- a message that was read can be moved, but takes more than 65,535 octets when it is rewritten
abbrev pub IsRewrittenTooLong : Header → List Question → List Record → List Record → List Record → Type 0
IsRewrittenTooLong header questions answers authorities additionals = CanMove (answers ++ (authorities ++ additionals))
    × ((m : Contents) → IsMessageOf header questions answers authorities additionals m
    → 65535 < length (message_octets 16384 m))

-- whether a message that was read is rewritten, and its octets if it is, or why not
abbrev pub IsRewriting : Header → List Question → List Record → List Record → List Record → Rewriting → List ℕ → Type 0
IsRewriting header questions answers authorities additionals Written anew =
    IsWrittenAnew header questions answers authorities additionals anew
IsRewriting header questions answers authorities additionals Immovable anew =
    CannotMove header questions answers authorities additionals
IsRewriting header questions answers authorities additionals Long anew =
    IsRewrittenTooLong header questions answers authorities additionals

-- Octets are a message, and these are its octets when it is rewritten.
pub record IsAnew (octets anew : List ℕ) : Type 0 where
  pub header : Header
  pub questions : List Question
  pub answers : List Record
  pub authorities : List Record
  pub additionals : List Record
  pub is_message : IsMessage octets header questions answers authorities additionals
  pub is_written : IsWrittenAnew header questions answers authorities additionals anew

-- Octets are a message of which this holds.
pub record IsSuch (Holds : Header → List Question → List Record → List Record → List Record → Type 0) (octets : List ℕ)
    : Type 0 where
  pub header : Header
  pub questions : List Question
  pub answers : List Record
  pub authorities : List Record
  pub additionals : List Record
  pub is_message : IsMessage octets header questions answers authorities additionals
  pub holds : Holds header questions answers authorities additionals
