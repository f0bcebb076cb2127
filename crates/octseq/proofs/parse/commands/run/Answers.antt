use Rattle.std.proofs.Common.{◌≡◌, ◌+◌, [], ◌∷◌, ◌++◌, map, vec_len, ap, ◌∙◌, arith}
use Rattle.std.proofs.lemmas.List.{map-append}
use Rattle.octseq.proofs.Runs.{runs_more, runs_all}
use Rattle.octseq.specs.WindowReply.{shown}
use Rattle.octseq.proofs.parse.commands.run.Goals as goal

pub loop-command-preserved : goal.loop-command-preserved
loop-command-preserved g c =
    let before = c.loop-command.invariant in
    let show = shown {R = g.row.R.Denot} g.R.Range.AsOctets.content in
    let items : c.push-in-loop-command.new.self.items ≡ c.loop-command.replies.items ++ c.step.result ∷ [] =
    rw c.unwrap-in-loop-command.ensures at c.push-in-loop-command.ensures.items in
    let len : vec_len c.push-in-loop-command.new.self ≡ vec_len c.loop-command.replies + 1 =
    rw c.unwrap-in-loop-command.ensures at c.push-in-loop-command.ensures.len in
    let so_far : map show c.push-in-loop-command.new.self.items ≡ map show c.loop-command.replies.items
    ++ show c.step.result ∷ [] =
    ap (map show) items ∙ map-append show _ _ in
    record {
      runs = rw so_far (runs_more _ _ _ _ _ _ _ _ _ c.loop-command-test.true before.runs c.step.ensures.step);
      replied = omega arith;
      replies_room = omega arith;
      made = omega arith;
      parsers_room = omega arith;
    }

pub returns : goal.returns
returns g c = runs_all _ _ _ c.loop-command.command-index _ _ c.loop-command-test.false c.loop-command.invariant.runs
