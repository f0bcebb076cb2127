use Rattle.std.proofs.Common.{rules}
use Rattle.octseq_bgp_tool.proofs.engine.messages.anew_piece.Goals as goal

pub returns-in_ok-note_on-in-Err-Malformed : goal.returns-in_ok-note_on-in-Err-Malformed
returns-in_ok-note_on-in-Err-Malformed c =
    let said = rw c.in-Err-Malformed.field-0-is at c.in-Err-Malformed.ensures in
    (said.malformed.0 tt, search rules, search rules)
