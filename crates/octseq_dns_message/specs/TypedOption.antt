-- What contracts see of an EDNS option that was read.
use Rattle.octseq.specs.declared.AsOctets.{Ghosts}
use Rattle.octseq.specs.Parser.{window}
use Rattle.octseq.specs.Window.{rest}
use Rattle.octseq_dns_message.specs.OptionData as said
use Rattle.octseq_dns_message.specs.declared.opt.typed.ClientSubnet.{ClientSubnet}
use Rattle.octseq_dns_message.specs.declared.opt.typed.Cookie.{Cookie}
use Rattle.octseq_dns_message.specs.declared.opt.typed.ExtendedError.{ExtendedError}
use Rattle.octseq_dns_message.specs.declared.opt.typed.OptionData.{OptionData}
use Rattle.octseq_dns_message.specs.declared.opt.typed.OptionData.TheVariants as kind

-- the client subnet
abbrev pub client_subnet_of : {R : Type 0} {g : Ghosts R} → ClientSubnet R g → said.ClientSubnet
client_subnet_of subnet = record {
  family = subnet.family;
  source_prefix_len = subnet.source_prefix_len;
  scope_prefix_len = subnet.scope_prefix_len;
  address = window subnet.address;
}

-- the cookie
abbrev pub cookie_of : {R : Type 0} {g : Ghosts R} → Cookie R g → said.Cookie
cookie_of cookie = record { client = cookie.client; server = window cookie.server }

-- the extended error
abbrev pub extended_error_of : {R : Type 0} {g : Ghosts R} → ExtendedError R g → said.ExtendedError
extended_error_of found = record { code = found.code; text = rest (window found.text) }

-- what the option says
abbrev pub option_data_of : {R : Type 0} {g : Ghosts R} → OptionData R g → said.OptionData
option_data_of (kind.Nsid octets) = said.OptionData.nsid (window octets)
option_data_of (kind.ClientSubnet subnet) = said.OptionData.client_subnet (client_subnet_of subnet)
option_data_of (kind.Cookie cookie) = said.OptionData.cookie (cookie_of cookie)
option_data_of (kind.Padding octets) = said.OptionData.padding (window octets)
option_data_of (kind.ExtendedError found) = said.OptionData.extended_error (extended_error_of found)
option_data_of (kind.Unknown code octets) = said.OptionData.unknown code (window octets)
