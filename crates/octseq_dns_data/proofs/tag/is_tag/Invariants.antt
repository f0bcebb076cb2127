-- The octets so far are letters and digits.
use Rattle.std.proofs.Common.{ℕ, ◌<◌}
use Rattle.std.specs.Char.{is_ascii_alphanumeric}
use Rattle.std.specs.Prelude.{IsTrue, slice_index_or}
use Rattle.octseq_dns_data.proofs.tag.is_tag.Given as goal

abbrev pub invariant-loop-octet : goal.invariant-loop-octet
invariant-loop-octet l = (k d : ℕ) → k < l.octet-index → IsTrue (is_ascii_alphanumeric (slice_index_or l.octets k d))
