-- Record data, by type and class: RFC 1035, 3.3 and 3.4, RFC 3596, 2.2 (AAAA), RFC 2782 (SRV) and RFC 3403, 4.1
-- (NAPTR), whose names may have pointers; and the types of `Local`.
use Rattle.std.specs.Prelude.{◌≡◌, ℕ, ◌≤◌, ◌⊎◌, Bool, true, false, List, []}
use Rattle.octseq.specs.Window.{Window, left, next, past}
use Rattle.octseq_dns_data.specs.Local.{IsLocal, form}
use Rattle.octseq_dns_data.specs.Typed.{has_number, message_types, mx_form, mx_parts, soa_form, soa_parts}
use Rattle.octseq_dns_data.specs.Typed.{srv_form, srv_parts}
use Rattle.octseq_dns_name.specs.Name.{Name, HasName}
use Rattle.octseq_dns_data.specs.Rtype as types
pub use Rattle.octseq_dns_data.specs.Strings.{HasString, HasStrings}
pub use Rattle.octseq_dns_data.specs.Typed.{ParsedRdata, Mx, Soa, Srv, Naptr, naptr_form, naptr_parts}

-- the given number of octets
abbrev pub HasOctetCount : ℕ → Window → List ℕ → Window → Type 0
HasOctetCount n w octets v = (n ≤ left w) × (octets ≡ next n w) × (v ≡ past n w)

abbrev pub HasMx : Window → Mx → Window → Type 0
HasMx w mx v = mx_form.Is w (mx_parts mx) v

abbrev pub HasSoa : Window → Soa → Window → Type 0
HasSoa w soa v = soa_form.Is w (soa_parts soa) v

abbrev pub HasSrv : Window → Srv → Window → Type 0
HasSrv w srv v = srv_form.Is w (srv_parts srv) v

abbrev pub HasNaptr : Window → Naptr → Window → Type 0
HasNaptr w naptr v = naptr_form.Is w (naptr_parts naptr) v

-- the type of the record
abbrev pub rtype_of : ParsedRdata → ℕ
rtype_of (ParsedRdata.a octets) = types.a
rtype_of (ParsedRdata.aaaa octets) = types.aaaa
rtype_of (ParsedRdata.ns name) = types.ns
rtype_of (ParsedRdata.cname name) = types.cname
rtype_of (ParsedRdata.ptr name) = types.ptr
rtype_of (ParsedRdata.mx it) = types.mx
rtype_of (ParsedRdata.soa it) = types.soa
rtype_of (ParsedRdata.txt strings) = types.txt
rtype_of (ParsedRdata.srv it) = types.srv
rtype_of (ParsedRdata.naptr it) = types.naptr
rtype_of (ParsedRdata.local k found) = k
rtype_of (ParsedRdata.unknown rtype octets) = rtype

-- Data of a type and a class is at a window's position. Addresses, service records and naming authority pointers are of
-- class IN only.
abbrev pub HasRdata : ℕ → ℕ → Window → ParsedRdata → Window → Type 0
HasRdata rtype class w (ParsedRdata.a octets) v = (rtype ≡ types.a) × (class ≡ 1) × HasOctetCount 4 w octets v
HasRdata rtype class w (ParsedRdata.aaaa octets) v = (rtype ≡ types.aaaa) × (class ≡ 1) × HasOctetCount 16 w octets v
HasRdata rtype class w (ParsedRdata.ns name) v = (rtype ≡ types.ns) × HasName w name v
HasRdata rtype class w (ParsedRdata.cname name) v = (rtype ≡ types.cname) × HasName w name v
HasRdata rtype class w (ParsedRdata.ptr name) v = (rtype ≡ types.ptr) × HasName w name v
HasRdata rtype class w (ParsedRdata.mx it) v = (rtype ≡ types.mx) × HasMx w it v
HasRdata rtype class w (ParsedRdata.soa it) v = (rtype ≡ types.soa) × HasSoa w it v
HasRdata rtype class w (ParsedRdata.txt strings) v = (rtype ≡ types.txt) × HasStrings w strings v
HasRdata rtype class w (ParsedRdata.srv it) v = (rtype ≡ types.srv) × (class ≡ 1) × HasSrv w it v
HasRdata rtype class w (ParsedRdata.naptr it) v = (rtype ≡ types.naptr) × (class ≡ 1) × HasNaptr w it v
HasRdata rtype class w (ParsedRdata.local k found) v = ⊥
HasRdata rtype class w (ParsedRdata.unknown other octets) v = ⊥

-- Data whose names may have pointers: it begins where the data does, in the window of the message, so that names can
-- point before it; and it ends exactly where the window of the data does.
pub record IsInMessage (rtype class : ℕ) (w inside : Window) (rdata : ParsedRdata) : Type 0 where
  pub end : Window
  pub rdata_is : HasRdata rtype class w rdata end
  pub ends : end.position ≡ inside.end

-- data of a type and a class has this form: in the message, or in its own window
abbrev pub IsTypedData : (rtype class : ℕ) (w inside : Window) → ParsedRdata → Type 0
IsTypedData rtype class w inside (ParsedRdata.local k found) = IsLocal rtype class inside k found
IsTypedData rtype class w inside rdata = IsInMessage rtype class w inside rdata

-- What data says: what its form says, or, if it has no form, unknown data of its type.
abbrev pub SaysData : (rtype class : ℕ) (w inside : Window) → ParsedRdata → Type 0
SaysData rtype class w inside rdata = IsTypedData rtype class w inside rdata
    ⊎ (rdata ≡ ParsedRdata.unknown rtype inside) × ((other : ParsedRdata) → ¬ IsTypedData rtype class w inside other)

-- whether data of a type is read in the message
abbrev pub is_in_message : ℕ → Bool
is_in_message = has_number message_types

-- Data that is written by its form has octets: its parts fit.
abbrev pub FitsForm : ParsedRdata → Type 0
FitsForm (ParsedRdata.naptr it) = naptr_form.Fits (naptr_form.says (naptr_parts it))
FitsForm (ParsedRdata.local k found) = (form k).Fits ((form k).says found)
FitsForm _ = Unit {0}

-- whether data is written by its form, and the octets of it
abbrev pub is_by_form : ParsedRdata → Bool
is_by_form (ParsedRdata.naptr it) = true
is_by_form (ParsedRdata.local k found) = true
is_by_form _ = false

abbrev pub form_octets : ParsedRdata → List ℕ
form_octets (ParsedRdata.naptr it) = naptr_form.octets (naptr_form.says (naptr_parts it))
form_octets (ParsedRdata.local k found) = (form k).octets ((form k).says found)
form_octets _ = []
