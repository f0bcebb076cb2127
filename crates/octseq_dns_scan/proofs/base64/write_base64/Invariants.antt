-- What is written, and the text of the octets ahead, are the whole text.
use Rattle.std.proofs.Common.{◌≡◌, ℕ, List, ◌++◌, length}
use Rattle.std.specs.Fmt.{HasWritten, IsPlainFormatter}
use Rattle.octseq_dns_scan.specs.Base64.{base64_text}
use Rattle.octseq_dns_scan.proofs.base64.write_base64.Given as goal

abbrev pub invariant-loop-group : goal.invariant-loop-group
invariant-loop-group g l = IsPlainFormatter l.fn.f → (done : List ℕ)
    × HasWritten g.W.Write.write_str_gives l.fn.f done l.f × (done ++ base64_text l.rest ≡ base64_text l.fn.octets)

abbrev pub decreases-loop-group : goal.decreases-loop-group
decreases-loop-group g l = length l.rest
