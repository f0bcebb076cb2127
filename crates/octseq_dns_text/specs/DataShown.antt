-- The text that is shown of data, and the octets that are read back from it.
use Rattle.std.specs.Prelude.{◌≡◌, ℕ, None, List}
use Rattle.std.specs.List.{AllByRecursion, flat_map}
use Rattle.octseq.specs.Part.{part_of}
use Rattle.octseq.specs.Window.{rest}
use Rattle.octseq_dns_data.specs.Typed.{ParsedRdata, form, mx_form, mx_parts, naptr_form, naptr_parts, soa_form}
use Rattle.octseq_dns_data.specs.Typed.{soa_parts, srv_form, srv_parts}
use Rattle.octseq_dns_name.specs.Wire.{wire}
use Rattle.octseq_dns_scan.specs.Word.{AreWords}
use Rattle.octseq_dns_text.specs.DataText.{IsDataText}

-- The octets of data in wire form, with names in plain form.
abbrev pub rdata_octets : ParsedRdata → List ℕ
rdata_octets (ParsedRdata.a octets) = octets
rdata_octets (ParsedRdata.aaaa octets) = octets
rdata_octets (ParsedRdata.ns name) = wire name.labels
rdata_octets (ParsedRdata.cname name) = wire name.labels
rdata_octets (ParsedRdata.ptr name) = wire name.labels
rdata_octets (ParsedRdata.mx mx) = mx_form.octets (mx_form.says (mx_parts mx))
rdata_octets (ParsedRdata.soa soa) = soa_form.octets (soa_form.says (soa_parts soa))
rdata_octets (ParsedRdata.txt strings) = flat_map (part_of 1) strings
rdata_octets (ParsedRdata.srv srv) = srv_form.octets (srv_form.says (srv_parts srv))
rdata_octets (ParsedRdata.naptr naptr) = naptr_form.octets (naptr_form.says (naptr_parts naptr))
rdata_octets (ParsedRdata.local k found) = (form k).octets ((form k).says found)
rdata_octets (ParsedRdata.unknown rtype octets) = rest octets

-- A text consists of words that are data of a type and a class, of these octets. It has no line feed (10).
pub record ShowsData (rtype class : ℕ) (text octets : List ℕ) : Type 0 where
  pub words : List (List ℕ)
  pub are : AreWords words text
  pub one_line : AllByRecursion (λ octet. ¬ (octet ≡ 10)) text
  pub is : IsDataText None rtype class words octets
