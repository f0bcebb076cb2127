-- Whether a message can be rewritten. Data that isn't parsed may have pointers, which would point elsewhere in another
-- message.
use Rattle.std.specs.List.{AllByRecursion, list_any}
use Rattle.std.specs.Prelude.{ℕ, ◌<◌, Bool, ◌||◌, ◌&&◌, nat_eq, List, [], ◌∷◌, IsTrue}
use Rattle.octseq.specs.Window.{left}
use Rattle.octseq_dns_data.specs.Data.{ParsedRdata}
use Rattle.octseq_dns_message.specs.RecordData.{IsDataTyped}
use Rattle.octseq_dns_message.specs.Entry.{Record}
use Rattle.octseq_dns_data.specs.Rtype as types

-- The types whose data has names, in any class: NS, MD, MF, CNAME, SOA, MB, MG, MR, PTR, MINFO and MX (RFC 1035, 3.3),
-- RP, AFSDB and RT (RFC 1183), SIG (RFC 2535, 4.1), PX (RFC 2163, 4), NXT (RFC 2535, 5.2), NAPTR (RFC 3403, 4.1), DNAME
-- (RFC 6672, 2.1), RRSIG and NSEC (RFC 4034, 3.1 and 4.1).
abbrev pub types_with_names : List ℕ
types_with_names =
    2 ∷ 3 ∷ 4 ∷ 5 ∷ 6 ∷ 7 ∷ 8 ∷ 9 ∷ 12 ∷ 14 ∷ 15 ∷ 17 ∷ 18 ∷ 21 ∷ 24 ∷ 26 ∷ 30 ∷ 35 ∷ 39 ∷ 46 ∷ 47 ∷ []

-- whether data of a type and a class may have names: SRV (RFC 2782), SVCB and HTTPS (RFC 9460) do too, in class IN
abbrev pub may_have_names : ℕ → ℕ → Bool
may_have_names rtype class = list_any (λ t. nat_eq t rtype) types_with_names
    || (list_any (λ t. nat_eq t rtype) (types.srv ∷ types.svcb ∷ types.https ∷ []) && nat_eq class 1)

-- a record's data doesn't have the form of its type, or the type has no known form
abbrev pub IsUnknown : Record → Type 0
IsUnknown r = (rdata : ParsedRdata) → ¬ IsDataTyped r rdata

-- a record can be moved if its data is parsed, is empty, or is of a type without names
abbrev pub CanMoveRecord : Record → Type 0
CanMoveRecord r = IsUnknown r → 0 < left r.rdata → ¬ IsTrue (may_have_names r.rtype r.class)

-- all of these records can be moved
abbrev pub CanMove : List Record → Type 0
CanMove records = AllByRecursion CanMoveRecord records
