use Rattle.std.proofs.Common.{ℕ, List, codes, refl, ap}
use Rattle.octseq_bgp.specs.MessageText.{line}
use Rattle.octseq_bgp.proofs.Shown.{shown_of}
use Rattle.octseq_mrt.specs.Parsed.{table_of}
use Rattle.octseq_mrt.specs.RecordText.{table_lines, opaque_record_text}
use Rattle.octseq_mrt.proofs.text.lines.write_value.Goals as goal

pub returns-in-PeerIndexTable : goal.returns-in-PeerIndexTable
returns-in-PeerIndexTable g c = rw c.in-PeerIndexTable.is (shown_of c.write_table.result _ _ _
    (table_lines c.args.header (table_of c.in-PeerIndexTable.table)) refl c.write_table.ensures)

pub returns-in-Opaque : goal.returns-in-Opaque
returns-in-Opaque g c =
    let text = λ (octets : List ℕ). line (codes "record") (opaque_record_text c.args.header octets) in
    rw c.in-Opaque.is (shown_of c.write_opaque_record.result _ _ _ (text c.peek_all.result.now)
    (ap text c.peek_all.ensures.content) c.write_opaque_record.ensures)
