-- The least number of turns that following aliases takes: one for each answer that is looked at, and for the target of
-- each alias one for the root and one for each label. Each pointer takes one more.
use Rattle.std.specs.Prelude.{ℕ, zero, suc, ◌+◌, List, [], ◌∷◌, length}
use mathlib.Core.Logic.{inl, inr}
use Rattle.octseq_dns_message.specs.Canonical.{IsAliasOf, Chain, IsCanonicalName}
use Rattle.octseq_dns_message.specs.Entry.{Question, Record}
use Rattle.octseq_dns_name.specs.Name.{Name}
use Rattle.octseq_dns_name.specs.NameFormat.{least_turns}

-- the records up to the first one that makes the name an alias, and its target
abbrev pub alias_turns : (class : ℕ) (records : List Record) (name target : Name) → IsAliasOf class records name target
    → ℕ
alias_turns class [] name target is = 0
alias_turns class (r ∷ records) name target (inl is) = 1 + least_turns target
alias_turns class (r ∷ records) name target (inr is) = 1 + alias_turns class records name target is.1

-- those of each alias, and all records for the last name, which isn't an alias
abbrev pub chain_turns : (class : ℕ) (records : List Record) (n : ℕ) (name last : Name)
    → Chain class records n name last → ℕ
chain_turns class records zero name last is = length records
chain_turns class records (suc n) name last is =
    alias_turns class records name is.0 is.1 + chain_turns class records n is.0 last is.2

-- those from the qname of the first question to the canonical name
abbrev pub canonical_turns : (questions : List Question) (answers : List Record) (last : Name)
    → IsCanonicalName questions answers last → ℕ
canonical_turns [] answers last is = 0
canonical_turns (q ∷ questions) answers last is = chain_turns q.qclass answers is.0 q.qname last is.2
