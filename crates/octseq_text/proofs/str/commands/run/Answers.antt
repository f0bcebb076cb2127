use Rattle.std.proofs.Common.{◌≡◌, ◌+◌, [], ◌∷◌, ◌++◌, arith, vec_len, ◌∙◌}
use Rattle.octseq_text.proofs.Runs.{run_more}
use Rattle.octseq_text.proofs.str.commands.run.Goals as goal

pub loop-command-preserved : goal.loop-command-preserved
loop-command-preserved g c =
    let before = c.loop-command.invariant in
    let items : c.push.new.self.items ≡ c.loop-command.replies.items ++ c.step.result ∷ [] =
    rw c.unwrap.ensures at c.push.ensures.items in
    let len : vec_len c.push.new.self ≡ vec_len c.loop-command.replies + 1 =
    rw c.unwrap.ensures at c.push.ensures.len in
    record {
      so_far = run_more _ _ _ _ _ _ _ _ _ _ _ c.loop-command-test.true before.so_far c.step.ensures.step items;
      counted = omega arith;
      room = omega arith;
      borrows = c.step.ensures.borrows ∙ before.borrows;
    }
