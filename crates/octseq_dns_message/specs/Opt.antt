-- OPT records: RFC 6891, 6.1.2 and 6.1.3.
use Rattle.std.specs.Prelude.{◌≡◌, ℕ, ◌+◌, ◌*◌, ◌<◌, Bool, List}
use Rattle.octseq.specs.Window.{Window}
use Rattle.octseq_dns_message.specs.Entry.{Record}
use Rattle.octseq_dns_message.specs.Flag.{flag}
use Rattle.octseq_dns_data.specs.Format.{IsNumber, IsData}
use Rattle.octseq_format.specs.Pair.{◌then◌}
use Rattle.octseq_format.specs.Row.{Row}
use Rattle.octseq_dns_data.specs.Rtype as types

-- An option: its code, and the window of its octets.
pub record EdnsOption : Type 0 where
  pub code : ℕ
  pub octets : Window

-- a code, and octets after their length
abbrev pub HasOption : Window → EdnsOption → Window → Type 0
HasOption w option v = (IsNumber 2 then IsData) w (option.code, option.octets) v

-- What an OPT record says.
pub record Opt : Type 0 where
  pub udp_payload_size : ℕ
  pub extended_rcode : ℕ
  pub version : ℕ
  pub dnssec_ok : Bool
  pub options : List EdnsOption

-- A record says this: its type is OPT, its class is the payload size, and its TTL has, from the highest bit, eight bits
-- of a response code, eight of a version, the DO bit, and fifteen reserved bits. Its data is options, one after
-- another, up to its end.
pub record IsOpt (r : Record) (opt : Opt) : Type 0 where
  pub rtype : r.rtype ≡ types.opt
  pub size : opt.udp_payload_size ≡ r.class
  pub z : ℕ
  pub ttl : r.ttl ≡ opt.extended_rcode * 16777216 + opt.version * 65536 + flag opt.dnssec_ok 32768 + z
  pub version : opt.version < 256
  pub few : z < 32768
  pub end : Window
  pub options : Row HasOption r.rdata opt.options end
  pub ends : end.position ≡ r.rdata.end
