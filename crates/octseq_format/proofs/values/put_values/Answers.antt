use Rattle.std.proofs.Common.{[], refl, sym, append-nil}
use Rattle.octseq_format.proofs.values.put_values.Goals as goal

pub values-init : goal.values-init
values-init g c =
    record { done = []; appended = sym (append-nil _); split = refl; fit = c.requires.fit; borrows = refl }
