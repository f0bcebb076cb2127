-- The text of data by its type.
use Rattle.std.specs.Prelude.{ℕ, List}
use Rattle.std.specs.Net.Text.{ipv4_text}
use Rattle.octseq.specs.OctetsText.{ipv6_address_text, opaque_text}
use Rattle.octseq.specs.Window.{rest}
use Rattle.octseq_dns_data.specs.DataText.{strings_text}
use Rattle.octseq_dns_data.specs.Typed.{ParsedRdata, form, mx_form, mx_parts, soa_form, soa_parts, srv_form, srv_parts}
use Rattle.octseq_dns_data.specs.Typed.{naptr_form, naptr_parts}
use Rattle.octseq_dns_name.specs.Text.{name_text}

-- the text of what data says
abbrev pub rdata_text : ParsedRdata → List ℕ
rdata_text (ParsedRdata.a octets) = ipv4_text octets
rdata_text (ParsedRdata.aaaa octets) = ipv6_address_text octets
rdata_text (ParsedRdata.ns name) = name_text name.labels
rdata_text (ParsedRdata.cname name) = name_text name.labels
rdata_text (ParsedRdata.ptr name) = name_text name.labels
rdata_text (ParsedRdata.mx mx) = mx_form.text (mx_parts mx)
rdata_text (ParsedRdata.soa soa) = soa_form.text (soa_parts soa)
rdata_text (ParsedRdata.txt strings) = strings_text strings
rdata_text (ParsedRdata.srv srv) = srv_form.text (srv_parts srv)
rdata_text (ParsedRdata.naptr naptr) = naptr_form.text (naptr_parts naptr)
rdata_text (ParsedRdata.local k found) = (form k).text found
rdata_text (ParsedRdata.unknown rtype octets) = opaque_text (rest octets)
