-- The octets counted so far, and those of what is ahead, are all.
use Rattle.std.proofs.Common.{◌≡◌, ◌+◌, length}
use Rattle.octseq_bgp.specs.Lists.{prefixes_left}
use Rattle.octseq_bgp.specs.Rewritten.{prefixes_anew}
use Rattle.octseq_bgp.specs.Written.{prefixes_octets}
use Rattle.octseq_bgp.proofs.message.rewriting.prefixes.prefixes_len.Given as goal

abbrev pub invariant-loop-nlri : goal.invariant-loop-nlri
invariant-loop-nlri g l =
    l.len + length (prefixes_octets (prefixes_anew (prefixes_left l.nlri-iterator)))
    ≡ length (prefixes_octets (prefixes_anew (prefixes_left l.fn.prefixes)))
