-- Data of octets that stand alone, as in a text: no message is around them, so no name in them has a pointer.
use Rattle.std.specs.Prelude.{◌≡◌, ℕ, ◌⊎◌, List}
use Rattle.octseq.specs.Window.{Window, whole}
use Rattle.octseq_dns_data.specs.Data.{ParsedRdata, IsTypedData}
use Rattle.octseq_dns_data.specs.UncompressedName.{IsUncompressedName}
use Rattle.octseq_dns_name.specs.Name.{Name}

-- a name has no pointers
abbrev pub IsPlain : Name → Type 0
IsPlain name = (end : Window) × IsUncompressedName name.place name.labels end

-- no name in data has; those of all other types have none anyway
abbrev pub ArePlain : ParsedRdata → Type 0
ArePlain (ParsedRdata.ns name) = IsPlain name
ArePlain (ParsedRdata.cname name) = IsPlain name
ArePlain (ParsedRdata.ptr name) = IsPlain name
ArePlain (ParsedRdata.mx it) = IsPlain it.exchange
ArePlain (ParsedRdata.soa it) = IsPlain it.mname × IsPlain it.rname
ArePlain (ParsedRdata.srv it) = IsPlain it.target
ArePlain (ParsedRdata.naptr it) = IsPlain it.replacement
ArePlain _ = Unit {0}

-- octets have the form of data of a type and a class, with no pointers
abbrev pub IsTypedAlone : (rtype class : ℕ) → List ℕ → ParsedRdata → Type 0
IsTypedAlone rtype class octets rdata = IsTypedData rtype class (whole octets) (whole octets) rdata × ArePlain rdata

-- What octets say: what their form says, or, if they have no form, opaque data of their type (RFC 3597).
abbrev pub SaysAlone : (rtype class : ℕ) → List ℕ → ParsedRdata → Type 0
SaysAlone rtype class octets rdata = IsTypedAlone rtype class octets rdata
    ⊎ (rdata ≡ ParsedRdata.unknown rtype (whole octets))
    × ((other : ParsedRdata) → ¬ IsTypedAlone rtype class octets other)
