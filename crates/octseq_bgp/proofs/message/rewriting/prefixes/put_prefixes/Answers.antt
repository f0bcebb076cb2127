use Rattle.std.proofs.Common.{[], refl, sym, subst, append-nil}
use Rattle.octseq_bgp.specs.Rewritten.{AreFew}
use Rattle.octseq_bgp.proofs.message.rewriting.prefixes.put_prefixes.Goals as goal

pub prefixes-init : goal.prefixes-init
prefixes-init g c =
    record { done = []; appended = sym (append-nil _); split = refl; few = c.requires.few; borrows = refl }

pub put_prefix-requires-clause-bits : goal.put_prefix-requires-clause-bits
put_prefix-requires-clause-bits g c = (subst AreFew c.in-Some.ensures.steps c.prefixes.invariant.few).0
