-- What is made of a file of records, one after another.
use Rattle.std.specs.Prelude.{◌≡◌, ℕ, List, [], ◌++◌, codes, Bool, true, if◌then◌else◌}
use Rattle.octseq.specs.Window.{Window, rest}
use Rattle.octseq_bgp_tool.specs.Shown.{IsNote, IsRead}
use Rattle.octseq_bgp_tool.specs.declared.engine.records.Records.{Records}
use Rattle.octseq_bgp_tool.specs.declared.engine.records.Records.TheVariants.{Shown, Taken}
use Rattle.octseq_mrt.specs.Bgp4Mp.{Event}
use Rattle.octseq_mrt.specs.Record.{AreRecord, IsValue, Value}
use Rattle.octseq_mrt.specs.RecordText.{IsRecordText}
use Rattle.octseq_mrt.specs.Records.{IsRecordCut}
use Rattle.octseq_mrt.specs.declared.header.CommonHeader.{CommonHeader}
use Rattle.octseq_cli.specs.Frames.{IsPlainEnd, IsPlainRest}
use Rattle.octseq_cli.specs.declared.frames.Ending.{Ending}

-- the message in a record as it is, or nothing if its octets aren't one
abbrev pub IsTakenEvent : Event → List ℕ → Type 0
IsTakenEvent (Event.state_change states) written = written ≡ []
IsTakenEvent (Event.message s octets) written = (is_message : Bool) × IsRead s (rest octets) is_message
    × (written ≡ (if is_message then rest octets else []))

-- the note about a record on standard error, by its number: if it holds octets that aren't a message, the offset where
-- reading stopped
abbrev pub IsEventNote : ℕ → Event → List ℕ → Type 0
IsEventNote number (Event.state_change states) note = note ≡ []
IsEventNote number (Event.message s octets) note = (is_message : Bool) × IsRead s (rest octets) is_message
    × IsNote (codes "message of record") s number (rest octets) is_message note

-- the same for the value of a record
abbrev pub IsTakenValue : Value → List ℕ → Type 0
IsTakenValue (Value.bgp4mp b) written = IsTakenEvent b.event written
IsTakenValue _ written = written ≡ []

abbrev pub IsValueNote : ℕ → Value → List ℕ → Type 0
IsValueNote number (Value.bgp4mp b) note = IsEventNote number b.event note
IsValueNote number _ note = note ≡ []

-- the output for a record: its text and an empty line, or its message
abbrev pub IsRecordOutput : Records → CommonHeader × Window → Value → List ℕ → Type 0
IsRecordOutput Shown r v written = (text : List ℕ) × IsRecordText r text × (written ≡ text ++ codes "\n")
IsRecordOutput Taken r v written = IsTakenValue v written

-- what is made of a record
abbrev pub IsRecordPiece : Records → ℕ → List ℕ → Bool → List ℕ → List ℕ → Type 0
IsRecordPiece c number octets is_fine written note = (r : CommonHeader × Window) × (v : Value) × AreRecord octets r
    × IsValue r.0 r.1 v × IsRecordOutput c r v written × IsValueNote number v note × (is_fine ≡ true)

-- the output if a file ends inside a record
abbrev pub records_cut_text : Records → List ℕ
records_cut_text Shown = codes "unexpected end of input\n"
records_cut_text Taken = []

-- the rest of a file, by how it ends
abbrev pub IsRecordsRest : Ending → List ℕ → Type 0
IsRecordsRest = IsPlainRest IsRecordCut

-- what is made of the rest
abbrev pub IsRecordsEnd : Records → ℕ → List ℕ → Bool → List ℕ → List ℕ → Type 0
IsRecordsEnd c number = IsPlainEnd IsRecordCut (records_cut_text c)
