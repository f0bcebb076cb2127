-- The replies so far continue to a run of all commands, and there is room for the rest.
use Rattle.std.proofs.Common.{◌≡◌, ◌+◌, ◌≤◌, [], ◌∷◌, length, map, vec_len, vec_capacity}
use Rattle.octseq.proofs.Runs.{RunsOn}
use Rattle.octseq.specs.Parser.{window}
use Rattle.octseq.specs.WindowReply.{shown}
use Rattle.octseq.specs.Window.{whole}
use Rattle.octseq.proofs.parse.commands.run.Given as goal

abbrev pub invariant-loop-command : goal.invariant-loop-command
invariant-loop-command g l =
    let windows = map (window {R = g.row.R.Denot} {g = g.R.AsOctets}) l.parsers.items in
    let so_far = map (shown g.R.Range.AsOctets.content) l.replies.items in
    record {
      runs : RunsOn g.R.Range.AsOctets.asks (whole (g.R.AsOctets.content l.fn.octets) ∷ []) l.commands l.command-index
          windows so_far;
      replied : vec_len l.replies ≡ l.command-index;
      replies_room : length l.commands ≤ vec_capacity l.replies;
      made : vec_len l.parsers ≤ l.command-index + 1;
      parsers_room : length l.commands + 1 ≤ vec_capacity l.parsers;
    }
