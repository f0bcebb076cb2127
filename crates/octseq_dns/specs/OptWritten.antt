-- OPT records as they are written: RFC 6891, 6.1.2 and 6.1.3.
use Rattle.std.specs.Prelude.{◌≡◌, ℕ, ◌+◌, ◌*◌, ◌<◌, List, [], ◌∷◌, ◌++◌, length, map}
use Rattle.std.specs.List.{AllByRecursion, flat_map}
use Rattle.octseq.specs.Integer.{octets_be}
use Rattle.octseq.specs.Part.{part_of}
use Rattle.octseq.specs.Refusal.{Refusal}
use Rattle.octseq.specs.Window.{rest}
use Rattle.octseq_dns_compress.specs.State.{Field}
use Rattle.octseq_dns_message.specs.Flag.{flag}
use Rattle.octseq_dns_message.specs.Opt.{Opt}
use Rattle.octseq_dns.specs.Contents.{Record}
use Rattle.octseq_dns.specs.declared.edns.OptData.{OptData}
use Rattle.octseq_dns.specs.declared.edns.UnknownOptData.{UnknownOptData}
use Rattle.octseq_dns.specs.declared.edns.PushOptError.{PushOptError}
use Rattle.octseq_dns_data.specs.Rtype as types

-- the code and the octets of each option
abbrev pub written_options : List UnknownOptData → List (ℕ × List ℕ)
written_options options = map (λ option. (option.code, option.octets.now)) options

-- the octets of an option: its code, its length and its data
abbrev pub option_octets : ℕ × List ℕ → List ℕ
option_octets option = octets_be 2 option.0 ++ part_of 2 option.1

-- the octets of options, one after another
abbrev pub options_octets : List UnknownOptData → List ℕ
options_octets options = flat_map option_octets (written_options options)

-- the fields of the data: its options
abbrev pub opt_fields : OptData → List Field
opt_fields opt = Field.octets (options_octets opt.options.now) ∷ []

-- The bits that the record has in place of a TTL: from the highest one, eight bits of the extended response code, eight
-- of the version, the DO bit, and zeros.
abbrev pub opt_ttl : OptData → ℕ
opt_ttl opt = opt.extended_rcode * 16777216 + opt.version * 65536 + flag opt.dnssec_ok 32768

-- the record: its name is the root, and its class is the UDP payload size
abbrev pub opt_record : OptData → Record
opt_record opt = record {
  labels = [];
  rtype = types.opt;
  class = opt.udp_payload_size;
  ttl = opt_ttl opt;
  fields = opt_fields opt;
}

-- ---- how it is read

-- the numbers of an option fit their octets
abbrev pub FitsOption : ℕ × List ℕ → Type 0
FitsOption option = (option.0 < 65536) × (length option.1 < 65536)

-- the version fits, and so do the numbers of all options
abbrev pub FitsOpt : OptData → Type 0
FitsOpt opt = (opt.version < 256) × AllByRecursion FitsOption (written_options opt.options.now)

-- The values that were read are those that were written, option by option.
pub record SaysOpt (read : Opt) (opt : OptData) : Type 0 where
  pub udp_payload_size : read.udp_payload_size ≡ opt.udp_payload_size
  pub extended_rcode : read.extended_rcode ≡ opt.extended_rcode
  pub version : read.version ≡ opt.version
  pub dnssec_ok : read.dnssec_ok ≡ opt.dnssec_ok
  pub options : map (λ option. (option.code, rest option.octets)) read.options ≡ written_options opt.options.now

-- ---- errors

-- why it wasn't pushed
abbrev pub push_opt_error : PushOptError → Refusal
push_opt_error PushOptError.AlreadyPushed = Refusal.malformed
push_opt_error (PushOptError.Short e) = Refusal.short
push_opt_error PushOptError.Memory = Refusal.memory
