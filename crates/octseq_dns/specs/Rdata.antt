-- The values of data without the places of its names, and the fields that are written for it.
use Rattle.std.specs.Prelude.{◌≡◌, ℕ, ◌<◌, ◌≤◌, List, [], ◌∷◌, ◌++◌, length}
use Rattle.std.specs.List.{All, flat_map}
use Rattle.octseq.specs.Integer.{octets_be}
use Rattle.octseq.specs.Part.{part_of}
use Rattle.octseq.specs.Window.{rest}
use Rattle.octseq_dns_compress.specs.Fits.{NameFits}
use Rattle.octseq_dns_compress.specs.State.{Field}
use Rattle.octseq_dns_data.specs.Data.{ParsedRdata, naptr_form, naptr_parts}
use Rattle.octseq_dns_data.specs.Local.{form}
use Rattle.octseq_dns_data.specs.Local.{IsOfClass as IsLocalClass}
use Rattle.octseq_dns_message.specs.RecordData.{IsDataTyped}
use Rattle.octseq_dns_message.specs.Entry.{Record}
use Rattle.octseq_dns_name.specs.Wire.{wire}
use Rattle.octseq_dns_data.specs.Rtype as types

-- The preference and the labels of MX data, the labels of both names and the five numbers of SOA data, the three
-- numbers and the labels of SRV data, and the parts of NAPTR data; the number of a type that is read by itself, and the
-- octets of its data; the number of an unknown type, and the octets.
pub data Rdata : Type 0 where
  a : List ℕ → Rdata
  aaaa : List ℕ → Rdata
  ns : List (List ℕ) → Rdata
  cname : List (List ℕ) → Rdata
  ptr : List (List ℕ) → Rdata
  mx : ℕ → List (List ℕ) → Rdata
  soa : List (List ℕ) → List (List ℕ) → ℕ → ℕ → ℕ → ℕ → ℕ → Rdata
  txt : List (List ℕ) → Rdata
  srv : ℕ → ℕ → ℕ → List (List ℕ) → Rdata
  naptr : naptr_form.Said → Rdata
  local : ℕ → List ℕ → Rdata
  unknown : ℕ → List ℕ → Rdata

-- the values of data that was read
abbrev pub bare_rdata : ParsedRdata → Rdata
bare_rdata (ParsedRdata.a octets) = Rdata.a octets
bare_rdata (ParsedRdata.aaaa octets) = Rdata.aaaa octets
bare_rdata (ParsedRdata.ns name) = Rdata.ns name.labels
bare_rdata (ParsedRdata.cname name) = Rdata.cname name.labels
bare_rdata (ParsedRdata.ptr name) = Rdata.ptr name.labels
bare_rdata (ParsedRdata.mx it) = Rdata.mx it.preference it.exchange.labels
bare_rdata (ParsedRdata.soa it) =
    Rdata.soa it.mname.labels it.rname.labels it.serial it.refresh it.retry it.expire it.minimum
bare_rdata (ParsedRdata.txt strings) = Rdata.txt strings
bare_rdata (ParsedRdata.srv it) = Rdata.srv it.priority it.weight it.port it.target.labels
bare_rdata (ParsedRdata.naptr it) = Rdata.naptr (naptr_form.says (naptr_parts it))
bare_rdata (ParsedRdata.local k found) = Rdata.local k ((form k).octets ((form k).says found))
bare_rdata (ParsedRdata.unknown rtype octets) = Rdata.unknown rtype (rest octets)

-- its type
abbrev pub rtype_of : Rdata → ℕ
rtype_of (Rdata.a _) = types.a
rtype_of (Rdata.aaaa _) = types.aaaa
rtype_of (Rdata.ns _) = types.ns
rtype_of (Rdata.cname _) = types.cname
rtype_of (Rdata.ptr _) = types.ptr
rtype_of (Rdata.mx _ _) = types.mx
rtype_of (Rdata.soa _ _ _ _ _ _ _) = types.soa
rtype_of (Rdata.txt _) = types.txt
rtype_of (Rdata.srv _ _ _ _) = types.srv
rtype_of (Rdata.naptr _) = types.naptr
rtype_of (Rdata.local rtype _) = rtype
rtype_of (Rdata.unknown rtype _) = rtype

-- Its fields. Only names in the types of RFC 1035 are compressed: RFC 3597, 4.
abbrev pub rdata_fields : Rdata → List Field
rdata_fields (Rdata.a address) = Field.octets address ∷ []
rdata_fields (Rdata.aaaa address) = Field.octets address ∷ []
rdata_fields (Rdata.ns labels) = Field.name labels ∷ []
rdata_fields (Rdata.cname labels) = Field.name labels ∷ []
rdata_fields (Rdata.ptr labels) = Field.name labels ∷ []
rdata_fields (Rdata.mx preference labels) = Field.octets (octets_be 2 preference) ∷ Field.name labels ∷ []
rdata_fields (Rdata.soa mname rname serial refresh retry expire minimum) =
    Field.name mname ∷ Field.name rname ∷ Field.octets (octets_be 4 serial ++ (octets_be 4 refresh
    ++ (octets_be 4 retry ++ (octets_be 4 expire ++ octets_be 4 minimum)))) ∷ []
rdata_fields (Rdata.txt strings) = Field.octets (flat_map (part_of 1) strings) ∷ []
rdata_fields (Rdata.srv priority weight port labels) =
    Field.octets (octets_be 2 priority ++ (octets_be 2 weight ++ octets_be 2 port)) ∷ Field.octets (wire labels) ∷ []
rdata_fields (Rdata.naptr said) = Field.octets (naptr_form.octets said) ∷ []
rdata_fields (Rdata.local k octets) = Field.octets octets ∷ []
rdata_fields (Rdata.unknown rtype octets) = Field.octets octets ∷ []

-- its numbers, names and strings fit their octets
abbrev pub FitsRdata : Rdata → Type 0
FitsRdata (Rdata.a address) = length address ≡ 4
FitsRdata (Rdata.aaaa address) = length address ≡ 16
FitsRdata (Rdata.ns labels) = NameFits labels
FitsRdata (Rdata.cname labels) = NameFits labels
FitsRdata (Rdata.ptr labels) = NameFits labels
FitsRdata (Rdata.mx preference labels) = (preference < 65536) × NameFits labels
FitsRdata (Rdata.soa mname rname serial refresh retry expire minimum) = NameFits mname × NameFits rname
    × (serial < 4294967296) × (refresh < 4294967296) × (retry < 4294967296) × (expire < 4294967296)
    × (minimum < 4294967296)
FitsRdata (Rdata.txt strings) = (1 ≤ length strings) × All (λ string. length string ≤ 255) strings
FitsRdata (Rdata.srv priority weight port labels) =
    (priority < 65536) × (weight < 65536) × (port < 65536) × NameFits labels
FitsRdata (Rdata.naptr said) = naptr_form.Fits said
FitsRdata (Rdata.local k octets) = (said : (form k).Said) × (form k).Fits said × (octets ≡ (form k).octets said)
FitsRdata (Rdata.unknown rtype octets) = rtype < 65536

-- A, AAAA, SRV and NAPTR data is of class IN only; data that is read by itself has the classes of its type
abbrev pub IsOfClass : ℕ → Rdata → Type 0
IsOfClass class (Rdata.a _) = class ≡ 1
IsOfClass class (Rdata.aaaa _) = class ≡ 1
IsOfClass class (Rdata.srv _ _ _ _) = class ≡ 1
IsOfClass class (Rdata.naptr _) = class ≡ 1
IsOfClass class (Rdata.local k _) = IsLocalClass k class
IsOfClass class _ = Unit {0}

-- A record has the type and the class of the data. If the type is unknown, the record's data has no known form.
abbrev pub IsOfType : Record → Rdata → Type 0
IsOfType r (Rdata.unknown rtype octets) = (r.rtype ≡ rtype) × ((parsed : ParsedRdata) → ¬ IsDataTyped r parsed)
IsOfType r said = (r.rtype ≡ rtype_of said) × IsOfClass r.class said
