-- Runs that continue.
use Rattle.std.proofs.Common.{◌≡◌, ℕ, ◌+◌, ◌<◌, Bool, Option, List, [], ◌∷◌, ◌++◌, length, take, get_or, refl, subst}
use Rattle.std.proofs.lemmas.List.{take_more}
use Rattle.octseq_text.specs.TextRun.{TextStep, TextRun}
use Rattle.octseq_text.specs.declared.str.commands.Command.{Command}
use Rattle.octseq_text.specs.declared.str.commands.Reply.{Reply}

-- a run followed by one command
pub run-append : (limit : Option ℕ) (asks : Bool) (before middle after : List ℕ) (commands : List Command)
    (replies : List Reply) (c : Command) (r : Reply)
    → TextRun limit asks before commands replies middle → TextStep limit asks middle c r after
    → TextRun limit asks before (commands ++ c ∷ []) (replies ++ r ∷ []) after
run-append limit asks before middle after [] [] c r e s =
    (after, subst (λ b. TextStep limit asks b c r after) e s, refl)
run-append limit asks before middle after (d ∷ commands) (q ∷ replies) c r (next, t, u) s =
    (next, t, run-append limit asks next middle after commands replies c r u s)
run-append limit asks before middle after [] (q ∷ replies) c r u s = absurd u
run-append limit asks before middle after (d ∷ commands) [] c r u s = absurd u

-- one step of a loop over the commands
pub run_more : (limit : Option ℕ) (asks : Bool) (before middle after : List ℕ) (commands : List Command) (i : ℕ)
    (d : Command) (replies more : List Reply) (r : Reply)
    → i < length commands → TextRun limit asks before (take i commands) replies middle
    → TextStep limit asks middle (get_or commands i d) r after → more ≡ replies ++ r ∷ []
    → TextRun limit asks before (take (i + 1) commands) more after
run_more limit asks before middle after commands i d replies more r lt u s e =
    rw (take_more commands i d lt, e)
    (run-append limit asks before middle after (take i commands) replies (get_or commands i d) r u s)
