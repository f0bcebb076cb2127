use Rattle.std.proofs.Common.{refl}
use Rattle.octseq_dns_scan.proofs.Addresses.{ipv4_word, ipv6_word}
use Rattle.octseq_dns_text.proofs.ShownFields.{number_shown, rtype_shown, time_shown, name_shown, string_shown}
use Rattle.octseq_dns_text.proofs.ShownFields.{value_shown, salt_shown, hex_shown, base64_shown, hash_shown}
use Rattle.octseq_dns_text.proofs.laws.fields_are_read_as_shown.Goals as goal

pub returns-clause-number : goal.returns-clause-number
returns-clause-number c = number_shown

pub returns-clause-rtype : goal.returns-clause-rtype
returns-clause-rtype c = rtype_shown

pub returns-clause-time : goal.returns-clause-time
returns-clause-time c = time_shown

pub returns-clause-ipv4 : goal.returns-clause-ipv4
returns-clause-ipv4 c = ipv4_word

pub returns-clause-name : goal.returns-clause-name
returns-clause-name c = name_shown

pub returns-clause-string : goal.returns-clause-string
returns-clause-string c = string_shown

pub returns-clause-salt : goal.returns-clause-salt
returns-clause-salt c = salt_shown

pub returns-clause-hash : goal.returns-clause-hash
returns-clause-hash c = hash_shown

pub returns-clause-value : goal.returns-clause-value
returns-clause-value c = value_shown

pub returns-clause-hex : goal.returns-clause-hex
returns-clause-hex c = hex_shown

pub returns-clause-base64 : goal.returns-clause-base64
returns-clause-base64 c = base64_shown

pub returns-clause-ipv6 : goal.returns-clause-ipv6
returns-clause-ipv6 c = λ octets are long. (are, long, ipv6_word octets are long)

pub returns-clause-tag : goal.returns-clause-tag
returns-clause-tag c = λ tag is. (tag, (refl, is.0), is.1, refl)
