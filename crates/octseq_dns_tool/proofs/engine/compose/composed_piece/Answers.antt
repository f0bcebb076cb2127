use Rattle.std.proofs.Common.{◌≡◌, ℕ, Bool, true, false, List, [], Result, Ok, Err, inl, inr, sym, subst}
use Rattle.std.specs.Prelude.{IfOk}
use Rattle.octseq.specs.Part.{part_of}
use Rattle.octseq_cli.specs.declared.frames.FrameOutput.{FrameOutput}
use Rattle.octseq_dns_tool.specs.Composed.{IsComposed, IsTextNote, IsTextPiece}
use Rattle.octseq_dns_tool.proofs.engine.compose.composed_piece.Goals as goal

-- a text is left out with this note
left : (number : ℕ) (text : List ℕ) (b : Bool) (written line note : List ℕ) → b ≡ false → written ≡ [] → line ≡ note
    → IsTextNote number text note → IsTextPiece number text b written line
left number text b written line note e f h is =
    subst (λ b. IsTextPiece number text b written line) (sym e) (subst (IsTextNote number text) (sym h) is, f)

-- a text is composed, and its message written after its length
written : {E : Type 0} (number : ℕ) (text octets : List ℕ) (result : Result FrameOutput E) → IsComposed text octets
    → IfOk result (λ piece. (piece.output.items ≡ part_of 2 octets) × (piece.note.items ≡ [])
    × (piece.is_fine ≡ true))
    → IfOk result (λ piece. IsTextPiece number text piece.is_fine piece.output.items piece.note.items)
written number text octets (Ok piece) is (output, note, fine) =
    subst (λ b. IsTextPiece number text b piece.output.items piece.note.items) (sym fine) (octets, is, output, note)
written number text octets (Err e) is said = tt

pub returns-in-Written : goal.returns-in-Written
returns-in-Written c =
    let is = rw c.in-Written.is at c.in_ok-compose.ensures in
    written c.args.number c.args.text.now c.as_slice.result.now c.written_piece.result
    (subst (IsComposed c.args.text.now) (sym c.as_slice.ensures.value) is) c.written_piece.ensures

pub returns-in_ok-note-in-Malformed : goal.returns-in_ok-note-in-Malformed
returns-in_ok-note-in-Malformed c =
    let said = c.left_out.ensures in
    left c.args.number c.args.text.now _ _ _ _ said.is_fine said.output said.note
    (inl (c.in-Malformed.place, rw c.in-Malformed.is at c.in_ok-compose.ensures, c.in_ok-note-in-Malformed.ensures))

pub returns-in_ok-note-in-Long : goal.returns-in_ok-note-in-Long
returns-in_ok-note-in-Long c =
    let said = c.left_out-in-Long.ensures in
    left c.args.number c.args.text.now _ _ _ _ said.is_fine said.output said.note
    (inr (rw c.in-Long.is at c.in_ok-compose.ensures, c.in_ok-note-in-Long.ensures))
