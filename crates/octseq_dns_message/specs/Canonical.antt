-- The canonical name for the qname of a message: RFC 1034, 3.6.2.
use Rattle.std.specs.Prelude.{◌≡◌, ℕ, zero, suc, ◌≤◌, ◌⊎◌, List, [], ◌∷◌}
use Rattle.octseq_dns_data.specs.Data.{ParsedRdata}
use Rattle.octseq_dns_message.specs.Entry.{Question, Record}
use Rattle.octseq_dns_message.specs.RecordData.{IsDataTyped}
use Rattle.octseq_dns_name.specs.Name.{Name}
use Rattle.octseq_dns_name.specs.Order.{lower_labels}

-- A record makes a name an alias of its target: it has this class, its owner is the name, ignoring ASCII case (RFC
-- 4343), and its data is the target, as CNAME data.
pub record IsAlias (class : ℕ) (name : Name) (r : Record) (target : Name) : Type 0 where
  pub of_class : r.class ≡ class
  pub of_name : lower_labels r.owner.labels ≡ lower_labels name.labels
  pub data_is : IsDataTyped r (ParsedRdata.cname target)

-- the first record that makes the name an alias has the target
abbrev pub IsAliasOf : ℕ → List Record → Name → Name → Type 0
IsAliasOf class [] name target = ⊥
IsAliasOf class (r ∷ records) name target = IsAlias class name r target
    ⊎ ((other : Name) → ¬ IsAlias class name r other) × IsAliasOf class records name target

-- The given number of aliases lead from a name to the last one, which isn't an alias.
abbrev pub Chain : ℕ → List Record → ℕ → Name → Name → Type 0
Chain class records zero name last = (last ≡ name) × ((target : Name) → ¬ IsAliasOf class records name target)
Chain class records (suc n) name last =
    (target : Name) × IsAliasOf class records name target × Chain class records n target last

-- at most 15 aliases lead there, in the answers, from the qname of the first question, in its class
abbrev pub IsCanonicalName : List Question → List Record → Name → Type 0
IsCanonicalName [] answers last = ⊥
IsCanonicalName (q ∷ questions) answers last = (n : ℕ) × (n ≤ 15) × Chain q.qclass answers n q.qname last
