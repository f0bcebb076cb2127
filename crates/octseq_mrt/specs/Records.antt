-- Whether octets are a record, begin with one, or are cut off, as in an MRT file: RFC 6396, 2.
use Rattle.std.specs.Prelude.{ℕ, ◌<◌, List, length, slice_range}
use Rattle.octseq.specs.Code.{HasFront}
use Rattle.octseq.specs.Integer.{be}
use Rattle.octseq.specs.Window.{Window}
use Rattle.octseq_mrt.specs.Record.{AreRecord}
use Rattle.octseq_mrt.specs.declared.header.CommonHeader.{CommonHeader}

-- the number of octets after the header at the front of octets
abbrev pub record_length : List ℕ → ℕ
record_length octets = be (slice_range octets 8 12)

-- the octets are one record
abbrev pub IsRecordOctets : List ℕ → Type 0
IsRecordOctets octets = (r : CommonHeader × Window) × AreRecord octets r

-- a record is at the front of the octets
abbrev pub BeginsWithRecord : List ℕ → Type 0
BeginsWithRecord octets = HasFront IsRecordOctets (λ octets. octets) octets

-- octets at the end of a file that aren't a whole record: at least one, and no record is at their front
abbrev pub IsRecordCut : List ℕ → Type 0
IsRecordCut octets = (0 < length octets) × ¬ BeginsWithRecord octets
