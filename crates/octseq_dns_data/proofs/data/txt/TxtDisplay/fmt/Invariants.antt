-- What is written, and the text of the strings ahead, are the whole text.
use Rattle.std.proofs.Common.{◌≡◌, ℕ, List, ◌++◌}
use Rattle.std.specs.Fmt.{HasWritten, IsPlainFormatter}
use Rattle.octseq_dns_data.specs.DataText.{strings_after, strings_text}
use Rattle.octseq_dns_data.specs.Txt.{strings_of, strings_left}
use Rattle.octseq_dns_data.proofs.data.txt.TxtDisplay.fmt.Given as goal

abbrev pub invariant-loop-string : goal.invariant-loop-string
invariant-loop-string g l =
    IsPlainFormatter l.fn.f → (done : List ℕ) × HasWritten g.W.Write.write_str_gives l.fn.f done l.f
    × (done ++ strings_after (strings_left l.string-iterator) ≡ strings_text (strings_of l.fn.self))
