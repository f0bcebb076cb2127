use Rattle.std.proofs.Common.{[], refl, sym, append-nil}
use Rattle.octseq_bgp.proofs.part.put_parts.Goals as goal

pub parts-init : goal.parts-init
parts-init g c =
    record { done = []; appended = sym (append-nil _); split = refl; fit = c.requires.fit.each; borrows = refl }
