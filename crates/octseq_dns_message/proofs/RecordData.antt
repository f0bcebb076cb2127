-- What the data of a record says.
use Rattle.std.proofs.Common.{◌≡◌}
use Rattle.octseq.specs.Window.{at}
use Rattle.octseq_dns_data.specs.Data.{ParsedRdata, rtype_of}
use Rattle.octseq_dns_data.proofs.Rdata as said
use Rattle.octseq_dns_message.specs.Entry.{Record}
use Rattle.octseq_dns_message.specs.RecordData.{IsDataOf}

-- it says one thing
pub one_said : (r : Record) (rdata other : ParsedRdata) → IsDataOf r rdata → IsDataOf r other → rdata ≡ other
one_said r = said.one_said r.rtype r.class (at r.rdata.position r.owner.place) r.rdata

-- of the record's type
pub said_rtype : (r : Record) (rdata : ParsedRdata) → IsDataOf r rdata → rtype_of rdata ≡ r.rtype
said_rtype r = said.said_rtype r.rtype r.class (at r.rdata.position r.owner.place) r.rdata
