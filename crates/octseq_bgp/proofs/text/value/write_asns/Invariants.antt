-- What is written, and the text of what is ahead, are the whole text.
use Rattle.std.proofs.Common.{◌≡◌, ◌++◌, ℕ, List}
use Rattle.std.specs.Fmt.{HasWritten, IsPlainFormatter}
use Rattle.std.specs.List.{flat_map}
use Rattle.std.specs.Fmt.{decimal}
use Rattle.octseq_bgp.specs.OctetsText.{spaced}
use Rattle.octseq_bgp.specs.PathOf.{asns_left}
use Rattle.octseq_bgp.proofs.text.value.write_asns.Given as goal

abbrev pub invariant-loop-asn : goal.invariant-loop-asn
invariant-loop-asn g l =
    IsPlainFormatter l.initial.f → (done : List ℕ) × HasWritten g.W.Write.write_str_gives l.initial.f done l.f
    × (done ++ flat_map (λ n. spaced (decimal n)) (asns_left l.asn-iterator) ≡ flat_map (λ n. spaced (decimal n))
    (asns_left l.fn.asns))
