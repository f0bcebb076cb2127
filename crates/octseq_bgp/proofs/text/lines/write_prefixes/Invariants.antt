-- What is written, and the text of what is ahead, are the whole text.
use Rattle.std.proofs.Common.{◌≡◌, ◌++◌, ℕ, List}
use Rattle.std.specs.Fmt.{HasWritten, IsPlainFormatter}
use Rattle.std.specs.List.{flat_map}
use Rattle.octseq_bgp.specs.Lists.{prefixes_left}
use Rattle.octseq_bgp.specs.MessageText.{line}
use Rattle.octseq_bgp.specs.ValueText.{nlri_text}
use Rattle.octseq_bgp.proofs.text.lines.write_prefixes.Given as goal

abbrev pub invariant-loop-nlri : goal.invariant-loop-nlri
invariant-loop-nlri g l =
    IsPlainFormatter l.initial.f → (done : List ℕ) × HasWritten g.W.Write.write_str_gives l.initial.f done l.f
    × (done ++ flat_map (λ n. line l.word (nlri_text n)) (prefixes_left l.nlri-iterator) ≡ flat_map
    (λ n. line l.word (nlri_text n)) (prefixes_left l.fn.prefixes))
