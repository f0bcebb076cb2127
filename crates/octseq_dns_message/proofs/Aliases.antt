-- Aliases, and chains of them.
use Rattle.std.proofs.Common.{◌≡◌, ℕ, zero, suc, ◌+◌, ◌*◌, ◌≤◌, inl, inr, List, [], ◌∷◌, Some, refl, sym, ap, ◌∙◌}
use Rattle.std.proofs.Common.{subst, arith}
use Rattle.std.proofs.lemmas.Option.{none-some, same_Some}
use Rattle.std.specs.Prelude.{slice_get}
use Rattle.octseq.specs.declared.AsOctets.{Ghosts}
use Rattle.octseq_dns_data.specs.Data.{ParsedRdata}
use Rattle.octseq_dns_data.specs.Typed.{rdata_of}
use Rattle.octseq_dns_data.specs.declared.data.Data.{Data}
use Rattle.octseq_dns_data.specs.declared.data.Data.TheVariants as kind
use Rattle.octseq_dns_message.specs.AliasTurns.{alias_turns, chain_turns, canonical_turns}
use Rattle.octseq_dns_message.specs.Canonical.{IsAlias, IsAliasOf, Chain, IsCanonicalName}
use Rattle.octseq_dns_message.specs.Entry.{Question, Record}
use Rattle.octseq_dns_message.proofs.RecordData.{one_said}
use Rattle.octseq_dns_name.specs.Name.{Name}
use Rattle.octseq_dns_name.specs.NameFormat.{least_turns}
use Rattle.octseq_dns_name.specs.declared.name.ParsedName.{ParsedName}

cname_in : Name → ParsedRdata → Name
cname_in none (ParsedRdata.cname name) = name
cname_in none _ = none

-- a record has at most one target
pub one_alias : (class : ℕ) (name : Name) (r : Record) (a b : Name) → IsAlias class name r a → IsAlias class name r b
    → a ≡ b
unfolding cname_in
one_alias class name r a b x y =
    ap (cname_in a) (one_said r (ParsedRdata.cname a) (ParsedRdata.cname b) (inl x.data_is) (inl y.data_is))

-- and so have records
pub one_target : (class : ℕ) (records : List Record) (name a b : Name) → IsAliasOf class records name a
    → IsAliasOf class records name b → a ≡ b
one_target class [] name a b x y = absurd x
one_target class (r ∷ records) name a b (inl x) (inl y) = one_alias class name r a b x y
one_target class (r ∷ records) name a b (inl x) (inr y) = absurd (y.0 a x)
one_target class (r ∷ records) name a b (inr x) (inl y) = absurd (x.0 b y)
one_target class (r ∷ records) name a b (inr x) (inr y) = one_target class records name a b x.1 y.1

-- a chain from a name with a target is one longer than the chain from the target
pub chain_more : (class : ℕ) (records : List Record) (n : ℕ) (name target last : Name)
    → IsAliasOf class records name target → Chain class records n name last
    → (m : ℕ) × (n ≡ m + 1) × Chain class records m target last
chain_more class records zero name target last leads is = absurd (is.1 target leads)
chain_more class records (suc n) name target last leads is = (
  n,
  omega arith,
  subst (λ x. Chain class records n x last) (one_target class records name is.0 target is.1 leads) is.2,
)

-- a chain has at most one end
pub one_chain : (class : ℕ) (records : List Record) (n m : ℕ) (name a b : Name)
    → Chain class records n name a → Chain class records m name b → a ≡ b
one_chain class records zero zero name a b x y = x.0 ∙ sym y.0
one_chain class records zero (suc m) name a b x y = absurd (x.1 y.0 y.1)
one_chain class records (suc n) zero name a b x y = absurd (y.1 x.0 x.1)
one_chain class records (suc n) (suc m) name a b x y =
    one_chain class records n m y.0 a b
    (subst (λ t. Chain class records n t a) (one_target class records name x.0 y.0 x.1 y.1) x.2) y.2

pub one_canonical : (questions : List Question) (answers : List Record) (a b : Name)
    → IsCanonicalName questions answers a → IsCanonicalName questions answers b → a ≡ b
one_canonical [] answers a b x y = absurd x
one_canonical (q ∷ questions) answers a b x y = one_chain q.qclass answers x.0 y.0 q.qname a b x.2 y.2

-- a record that doesn't make the name an alias can be passed over
pub passed_over : (class : ℕ) (r : Record) (records : List Record) (name target : Name)
    → ((other : Name) → IsAlias class name r other → ⊥) → IsAliasOf class (r ∷ records) name target
    → IsAliasOf class records name target
passed_over class r records name target none (inl x) = absurd (none target x)
passed_over class r records name target none (inr x) = x.1

-- data that says a CNAME is `Cname`
pub cname_named : {R : Type 0} {g : Ghosts R} (found : Data R g) (target : Name)
    → rdata_of found ≡ ParsedRdata.cname target → (name : ParsedName R g) × (found ≡ kind.Cname name)
cname_named (kind.Cname name) target same = (name, refl)
cname_named found target same = absurd cc

-- a message with a first question has the canonical name that its chain ends with
pub canonical_of : (questions : List Question) (answers : List Record) (q : Question) (n : ℕ) (last : Name)
    → Some q ≡ slice_get questions 0 → n ≤ 15 → Chain q.qclass answers n q.qname last
    → IsCanonicalName questions answers last
canonical_of [] answers q n last first few is = absurd (none-some q (sym first))
canonical_of (x ∷ questions) answers q n last first few is =
    (n, few, subst (λ q. Chain q.qclass answers n q.qname last) (same_Some q x first) is)

-- the turns of one more alias
pub more_turns : (followed each start before after : ℕ) → before ≤ start + followed * each → after ≤ before + each
    → after ≤ start + (followed + 1) * each
more_turns followed each start before after most more =
    let one : (followed + 1) * each ≡ followed * each + each = grind arith in
    omega (arith, one, most, more)

-- ---- turns

-- an alias takes the same turns however it is shown that a record makes it one
pub same_alias_turns : (class : ℕ) (records : List Record) (name a b : Name) (x : IsAliasOf class records name a)
    (y : IsAliasOf class records name b) → alias_turns class records name a x ≡ alias_turns class records name b y
same_alias_turns class [] name a b x y = absurd x
same_alias_turns class (r ∷ records) name a b (inl x) (inl y) =
    ap (λ target. 1 + least_turns target) (one_alias class name r a b x y)
same_alias_turns class (r ∷ records) name a b (inl x) (inr y) = absurd (y.0 a x)
same_alias_turns class (r ∷ records) name a b (inr x) (inl y) = absurd (x.0 b y)
same_alias_turns class (r ∷ records) name a b (inr x) (inr y) =
    ap (λ n. 1 + n) (same_alias_turns class records name a b x.1 y.1)

-- and so does a chain
pub same_chain_turns : (class : ℕ) (records : List Record) (n m : ℕ) (name a b : Name)
    (x : Chain class records n name a) (y : Chain class records m name b)
    → chain_turns class records n name a x ≡ chain_turns class records m name b y
same_chain_turns class records zero zero name a b x y = refl
same_chain_turns class records zero (suc m) name a b x y = absurd (x.1 y.0 y.1)
same_chain_turns class records (suc n) zero name a b x y = absurd (y.1 x.0 x.1)
same_chain_turns class records (suc n) (suc m) name a b x y =
    let first = same_alias_turns class records name x.0 y.0 x.1 y.1 in
    let others = subst (λ t. (z : Chain class records m t b)
    → chain_turns class records n x.0 a x.2 ≡ chain_turns class records m t b z)
    (one_target class records name x.0 y.0 x.1 y.1) (same_chain_turns class records n m x.0 a b x.2) y.2 in
    omega (arith, first, others)

-- an alias takes a turn for a record, and one for the root of its target
pub alias_takes : (class : ℕ) (records : List Record) (name target : Name) (is : IsAliasOf class records name target)
    → 2 ≤ alias_turns class records name target is
alias_takes class [] name target is = absurd is
alias_takes class (r ∷ records) name target (inl is) = omega arith
alias_takes class (r ∷ records) name target (inr is) =
    let others = alias_takes class records name target is.1 in omega (arith, others)

-- the first of some records makes the name an alias
pub found_first : (class : ℕ) (r : Record) (all records : List Record) (name target : Name) → all ≡ r ∷ records
    → IsAlias class name r target
    → (is : IsAliasOf class all name target) × (alias_turns class all name target is ≡ 1 + least_turns target)
found_first class r all records name target same alias =
    subst (λ l. (is : IsAliasOf class l name target) × (alias_turns class l name target is ≡ 1 + least_turns target))
    (sym same) (inl alias, refl)

-- or doesn't, and is passed over
pub found_later : (class : ℕ) (r : Record) (all records : List Record) (name target : Name) → all ≡ r ∷ records
    → ((other : Name) → IsAlias class name r other → ⊥) → (later : IsAliasOf class records name target)
    → (is : IsAliasOf class all name target)
    × (alias_turns class all name target is ≡ 1 + alias_turns class records name target later)
found_later class r all records name target same none later =
    subst (λ l. (is : IsAliasOf class l name target)
    × (alias_turns class l name target is ≡ 1 + alias_turns class records name target later))
    (sym same) (inr (none, later), refl)

-- a message with a first question took the turns that the chain from its qname takes
pub canonical_takes : (questions : List Question) (answers : List Record) (q : Question) (last : Name) (old now : ℕ)
    → Some q ≡ slice_get questions 0
    → ((n : ℕ) (is : Chain q.qclass answers n q.qname last)
    → old + chain_turns q.qclass answers n q.qname last is ≤ now)
    → (is : IsCanonicalName questions answers last) → old + canonical_turns questions answers last is ≤ now
canonical_takes [] answers q last old now first took is = absurd is
canonical_takes (x ∷ questions) answers q last old now first took is =
    subst (λ q. (n : ℕ) (is : Chain q.qclass answers n q.qname last)
    → old + chain_turns q.qclass answers n q.qname last is ≤ now)
    (same_Some q x first) took is.0 is.2
