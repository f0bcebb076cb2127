-- Runs that continue.
use Rattle.std.proofs.Common.{◌≡◌, ℕ, ◌+◌, ◌<◌, ◌≤◌, Bool, List, [], ◌∷◌, ◌++◌}
use Rattle.std.proofs.Common.{length, get_or, drop, sym, add-one, append_assoc, subst}
use Rattle.std.proofs.Math.Seq.{drop-cons}
use Rattle.std.proofs.lemmas.List.{append-nil, drop_all}
use Rattle.octseq.specs.WindowReply.{WindowReply}
use Rattle.octseq.specs.WindowRun.{WindowStep, WindowRun}
use Rattle.octseq.specs.Window.{Window}
use Rattle.octseq.specs.declared.parse.commands.ParserCommand.{ParserCommand}

-- Whatever the replies to the commands from number i on are, together with the replies so far they make a run of all
-- commands.
abbrev pub RunsOn : Bool → List Window → List ParserCommand → ℕ → List Window → List WindowReply → Type 0
RunsOn asks start commands i windows so_far =
    (more : List WindowReply) → WindowRun asks windows (drop i commands) more
    → WindowRun asks start commands (so_far ++ more)

-- one more command
pub runs_more : (asks : Bool) (start : List Window) (commands : List ParserCommand) (i : ℕ) (d : ParserCommand)
    (before after : List Window) (so_far : List WindowReply) (reply : WindowReply)
    → i < length commands → RunsOn asks start commands i before so_far
    → WindowStep asks before (get_or commands i d) reply after
    → RunsOn asks start commands (i + 1) after (so_far ++ reply ∷ [])
runs_more asks start commands i d before after so_far reply within runs step = λ more run.
    let R : List ParserCommand → Type 0 = λ cs. WindowRun asks before cs (reply ∷ more) in
    let rest : drop i commands ≡ get_or commands i d ∷ drop (i + 1) commands =
    rw add-one (drop-cons commands i d within) in
    rw append_assoc (runs (reply ∷ more) (subst R (sym rest) (after, step, run)))

-- no command is left
pub runs_all : (asks : Bool) (start : List Window) (commands : List ParserCommand) (i : ℕ) (windows : List Window)
    (so_far : List WindowReply)
    → length commands ≤ i → RunsOn asks start commands i windows so_far → WindowRun asks start commands so_far
runs_all asks start commands i windows so_far past runs =
    let R : List ParserCommand → Type 0 = λ cs. WindowRun asks windows cs [] in
    subst (WindowRun asks start commands) (append-nil so_far) (runs [] (subst R (sym (drop_all i commands past)) tt))
