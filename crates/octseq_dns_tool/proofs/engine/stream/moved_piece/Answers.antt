use Rattle.std.proofs.Common.{◌≡◌, ℕ, Bool, false, List, [], inl, inr, refl, sym, subst}
use Rattle.octseq_dns.specs.Parsed.{header_of, questions_of, answers_of, authorities_of, additionals_of}
use Rattle.octseq_dns_tool.specs.Rewritten.{CannotMove, IsSuch, IsRewrittenTooLong}
use Rattle.octseq_dns_tool.specs.Taken.{IsLeftNote, IsMoved}
use Rattle.octseq_dns_tool.proofs.engine.stream.moved_piece.Goals as goal

-- octets are left out with this note
left : (number : ℕ) (octets : List ℕ) (b : Bool) (written line note : List ℕ) → b ≡ false → written ≡ []
    → line ≡ note → IsLeftNote number octets note → IsMoved number octets b written line
left number octets b written line note e f h is =
    subst (λ b. IsMoved number octets b written line) (sym e) (subst (IsLeftNote number octets) (sym h) is, f)

pub returns-in_default : goal.returns-in_default
returns-in_default c =
    left c.args.number c.args.octets.now _ _ _ _ c.left_out.ensures.is_fine c.left_out.ensures.output
    c.left_out.ensures.note (inl (c.in_default.ensures.malformed refl, c.in_ok-note.ensures))

pub returns-in_ok-note-in-Immovable : goal.returns-in_ok-note-in-Immovable
returns-in_ok-note-in-Immovable c =
    let message = c.in-Ok.message in
    let such : IsSuch CannotMove c.args.octets.now = record {
      header = header_of message;
      questions = questions_of message;
      answers = answers_of message;
      authorities = authorities_of message;
      additionals = additionals_of message;
      is_message = c.in-Ok.ensures.message;
      holds = rw c.in-Immovable.is at c.in_ok-rewrite.ensures;
    } in
    let said = c.left_out-in-Immovable.ensures in
    left c.args.number c.args.octets.now _ _ _ _ said.is_fine said.output said.note
    (inr (inl (such, c.in_ok-note-in-Immovable.ensures)))

pub returns-in_ok-note-in-Long : goal.returns-in_ok-note-in-Long
returns-in_ok-note-in-Long c =
    let message = c.in-Ok.message in
    let such : IsSuch IsRewrittenTooLong c.args.octets.now = record {
      header = header_of message;
      questions = questions_of message;
      answers = answers_of message;
      authorities = authorities_of message;
      additionals = additionals_of message;
      is_message = c.in-Ok.ensures.message;
      holds = rw c.in-Long.is at c.in_ok-rewrite.ensures;
    } in
    let said = c.left_out-in-Long.ensures in
    left c.args.number c.args.octets.now _ _ _ _ said.is_fine said.output said.note
    (inr (inr (such, c.in_ok-note-in-Long.ensures)))
