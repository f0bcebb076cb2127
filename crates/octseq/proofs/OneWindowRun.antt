-- If no request for memory was refused, the replies are a function of the windows and the commands.
use Rattle.std.proofs.Common.{◌≡◌, ◌≢◌, Bool, Option, Some, None, List, []}
use Rattle.std.proofs.Common.{◌∷◌, ◌++◌, refl, sym, ap, ◌∙◌, subst, inl, inr}
use Rattle.std.specs.Prelude.{slice_get, slice_set}
use Rattle.octseq.specs.WindowReply.{WindowReply}
use Rattle.octseq.specs.WindowRun.{Outcome, Does, StepOn, IsWithoutMemory, WindowRun}
use Rattle.octseq.specs.Window.{Window}
use Rattle.octseq.specs.declared.parse.commands.ParserCommand.{ParserCommand}

-- what a call does if its reply isn't `Memory`
done_is : (asks : Bool) (before : Window) (wanted done : Outcome) → Does asks before wanted done
    → done.reply ≢ WindowReply.memory → done ≡ wanted
done_is asks before wanted done (inl e) answered = e
done_is asks before wanted done (inr refused) answered = absurd (answered (ap (λ o. o.reply) refused.1))

-- one command
one_step_on : (w : Option Window) (asks others : Bool) (windows after later : List Window) (command : ParserCommand)
    (r s : WindowReply)
    → StepOn w asks windows command r after → StepOn w others windows command s later → r ≢ WindowReply.memory
    → s ≢ WindowReply.memory → (r ≡ s) × (after ≡ later)
one_step_on None asks others windows after later command r s (e, f) (g, h) p q = (e ∙ sym g, f ∙ sym h)
one_step_on (Some w) asks others windows after later command r s (done, d, e, f) (also, a, g, h) p q =
    let same : done ≡ also = done_is asks w _ done d (λ m. p (e ∙ m))
    ∙ sym (done_is others w _ also a (λ m. q (g ∙ m))) in (
      e ∙ ap (λ o. o.reply) same ∙ sym g,
      f ∙ ap (λ o. slice_set windows command.parser o.window ++ o.added) same
          ∙ sym h,
    )

-- if memory is never refused, a list of commands on windows has one list of replies
pub one_replies : (asks others : Bool) (windows : List Window) (commands : List ParserCommand) (x y : List WindowReply)
    → WindowRun asks windows commands x → WindowRun others windows commands y → IsWithoutMemory x → IsWithoutMemory y
    → x ≡ y
one_replies asks others windows [] [] [] run also p q = refl
one_replies asks others windows (c ∷ commands) (r ∷ x) (s ∷ y) (after, step, run) (later, other, also) p q =
    let same : (r ≡ s) × (after ≡ later) = one_step_on (slice_get windows c.parser) asks others windows after later c r
    s step other p.0 q.0 in
    let R : List Window → Type 0 = λ ws. WindowRun others ws commands y in
    let rest : x ≡ y = one_replies asks others after commands x y run (subst R (sym same.1) also) p.1 q.1 in
    ap (λ q. q ∷ x) same.0 ∙ ap (λ ys. s ∷ ys) rest
one_replies asks others windows [] (r ∷ x) y run also p q = absurd run
one_replies asks others windows [] [] (s ∷ y) run also p q = absurd also
one_replies asks others windows (c ∷ commands) [] y run also p q = absurd run
one_replies asks others windows (c ∷ commands) (r ∷ x) [] run also p q = absurd also
