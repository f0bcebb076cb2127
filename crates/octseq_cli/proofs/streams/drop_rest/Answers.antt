use Rattle.std.proofs.Common.{◌++◌, List, ℕ, Option, Ok, ap}
use Rattle.std.proofs.KnownBytes.{Consumes-trans}
use Rattle.std.specs.Io.KnownBytes.{Consumes}
use Rattle.octseq_cli.proofs.streams.drop_rest.Goals as goal
use Rattle.octseq.proofs.Errors.{on_err}

-- what was read in two steps
both_lost : (a b c : Option (List ℕ)) → ((read : List ℕ) × Consumes a b read) → ((read : List ℕ) × Consumes b c read)
    → (read : List ℕ) × Consumes a c read
both_lost a b c (first, lost) (second, more) = (first ++ second, Consumes-trans a b c first second lost more)

pub returns-in_err-drop_next-clause-some : goal.returns-in_err-drop_next-clause-some
returns-in_err-drop_next-clause-some g c =
    on_err c.from_residual.result
    (both_lost (g.R.Read.remaining c.args.reader.now) (g.R.Read.remaining c.loop.reader)
    (g.R.Read.remaining c.drop_next.new.reader) c.loop.invariant c.drop_next.ensures.read)

pub returns-then-not-branch-clause-all : goal.returns-then-not-branch-clause-all
returns-then-not-branch-clause-all g c =
    let all =
    both_lost (g.R.Read.remaining c.args.reader.now) (g.R.Read.remaining c.loop.reader)
    (g.R.Read.remaining c.drop_next.new.reader) c.loop.invariant c.drop_next.ensures.read in
    (all.0, all.1, c.in_ok-drop_next.ensures.end (ap (λ b. Ok b) c.if-not-branch.true))

pub loop-preserved : goal.loop-preserved
loop-preserved g c =
    both_lost _ (g.R.Read.remaining c.loop.reader) (g.R.Read.remaining c.drop_next.new.reader) c.loop.invariant
    c.drop_next.ensures.read
