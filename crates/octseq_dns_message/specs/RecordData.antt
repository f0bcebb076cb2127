-- What the data of a record says.
use Rattle.octseq.specs.Window.{at}
use Rattle.octseq_dns_data.specs.Data.{ParsedRdata, IsTypedData, SaysData}
use Rattle.octseq_dns_message.specs.Entry.{Record}

-- A record's data has this form: in the message, it begins where the data begins, and ends where the data ends.
abbrev pub IsDataTyped : Record → ParsedRdata → Type 0
IsDataTyped r = IsTypedData r.rtype r.class (at r.rdata.position r.owner.place) r.rdata

-- what a record's data says: what its form says, or, if it has no form, unknown data of the record's type
abbrev pub IsDataOf : Record → ParsedRdata → Type 0
IsDataOf r = SaysData r.rtype r.class (at r.rdata.position r.owner.place) r.rdata
