-- The octets so far are a text, and what was appended was read.
use Rattle.std.proofs.Common.{◌≡◌, ◌++◌, ℕ, List, true, false}
use Rattle.std.specs.Io.KnownBytes.{Consumes}
use Rattle.octseq_cli.specs.Texts.{EndsWithLineFeed, IsLineText}
use Rattle.octseq_cli.proofs.texts.append_lines.Given as goal

abbrev pub invariant-loop : goal.invariant-loop
invariant-loop g l = record {
  text : IsLineText l.text.items;
  is_ended : l.is_ended ≡ true → EndsWithLineFeed l.text.items;
  is_open : l.is_ended ≡ false → ¬ EndsWithLineFeed l.text.items;
  read : (read : List ℕ) × (l.text.items ≡ l.fn.text.items ++ read)
      × Consumes (g.R.Read.remaining l.fn.reader) (g.R.Read.remaining l.reader) read;
}
