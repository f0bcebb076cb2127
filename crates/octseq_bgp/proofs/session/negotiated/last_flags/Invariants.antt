-- The flags so far, and the list that is left, say what the whole list does.
use Rattle.std.proofs.Common.{◌≡◌, length}
use Rattle.octseq_bgp.specs.Items.{items_left}
use Rattle.octseq_bgp.specs.Negotiated.{path_flags}
use Rattle.octseq_bgp.proofs.session.negotiated.last_flags.Given as goal

abbrev pub invariant-tuples : goal.invariant-tuples
invariant-tuples g l = path_flags l.fn.family l.flags (items_left l.ahead) ≡ path_flags l.fn.family 0
    (items_left l.fn.paths)

abbrev pub decreases-tuples : goal.decreases-tuples
decreases-tuples g l = length (items_left l.ahead)
