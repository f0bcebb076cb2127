use Rattle.std.proofs.Common.{[], refl, sym, append-nil}
use Rattle.octseq_bgp.proofs.message.rewriting.open.put_families.Goals as goal

pub families-init : goal.families-init
families-init g c = record { done = []; appended = sym (append-nil _); split = refl; borrows = refl }
