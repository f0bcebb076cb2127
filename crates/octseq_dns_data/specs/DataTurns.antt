-- The least number of turns that reading data takes: one for the root of each name and one for each label, one for
-- each string of TXT, one for each window block of a type bitmap, and one for each service parameter, and for each key
-- and id in it. Each pointer takes one more.
use Rattle.std.specs.Prelude.{ℕ, ◌+◌, length}
use Rattle.octseq_dns_data.specs.Typed.{ParsedRdata, form}
use Rattle.octseq_dns_name.specs.NameFormat.{least_turns}

abbrev pub rdata_turns : ParsedRdata → ℕ
rdata_turns (ParsedRdata.ns name) = least_turns name
rdata_turns (ParsedRdata.cname name) = least_turns name
rdata_turns (ParsedRdata.ptr name) = least_turns name
rdata_turns (ParsedRdata.mx it) = least_turns it.exchange
rdata_turns (ParsedRdata.soa it) = least_turns it.mname + least_turns it.rname
rdata_turns (ParsedRdata.txt strings) = length strings
rdata_turns (ParsedRdata.srv it) = least_turns it.target
rdata_turns (ParsedRdata.naptr it) = least_turns it.replacement
rdata_turns (ParsedRdata.local k found) = (form k).turns found
rdata_turns _ = 0
