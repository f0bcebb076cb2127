-- The replies so far are a run of the commands so far, and there is room for the rest.
use Rattle.std.proofs.Common.{◌≡◌, ◌≤◌, length, take, vec_len, vec_capacity}
use Rattle.octseq_text.specs.TextRun.{TextRun}
use Rattle.octseq_utf8.specs.Text.{chars}
use Rattle.octseq_text.proofs.str.commands.run.Given as goal

abbrev pub invariant-loop-command : goal.invariant-loop-command
invariant-loop-command g l =
    let content = g.B.AsOctets.content in
    record {
      so_far : TextRun g.B.AsOctets.limit g.B.AsOctets.asks (chars (content l.fn.builder))
          (take l.command-index l.commands) l.replies.items (chars (content l.builder));
      counted : vec_len l.replies ≡ l.command-index;
      room : length l.commands ≤ vec_capacity l.replies;
      borrows : g.B.AsOctets.borrows l.builder ≡ g.B.AsOctets.borrows l.fn.builder;
    }
