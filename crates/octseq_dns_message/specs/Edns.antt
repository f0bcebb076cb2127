-- What contracts see of an OPT record that was read.
use Rattle.std.specs.Prelude.{List}
use Rattle.octseq.specs.declared.AsOctets.{Ghosts}
use Rattle.octseq.specs.Parser.{window}
use Rattle.octseq_dns_message.specs.Opt as said
use Rattle.octseq_dns_message.specs.declared.opt.EdnsOption.{EdnsOption}
use Rattle.octseq_dns_message.specs.declared.opt.Opt.{Opt}
use Rattle.octseq_dns_message.specs.declared.opt.Options.{Options}

-- the option that was read
abbrev pub option_of : {R : Type 0} {g : Ghosts R} → EdnsOption R g → said.EdnsOption
option_of option = record { code = option.code; octets = window option.octets }

-- the options that are left
abbrev pub options_left : {R : Type 0} {g : Ghosts R} → Options R g → List said.EdnsOption
options_left options = options.ahead.0

-- what the record says
abbrev pub opt_of : {R : Type 0} {g : Ghosts R} → Opt R g → said.Opt
opt_of opt = record {
  udp_payload_size = opt.udp_payload_size;
  extended_rcode = opt.extended_rcode;
  version = opt.version;
  dnssec_ok = opt.dnssec_ok;
  options = opt.row.0;
}
