use Rattle.std.proofs.Common.{subst, sym}
use Rattle.std.proofs.Math.Logic.{∥∥₁_elim}
use Rattle.std.specs.Str.{IsUtf8}
use mathlib.Core.HLevel.{⊥_prop}
use Rattle.octseq_dns_message.proofs.opt.typed.ExtendedError.text.Goals as goal

pub returns-in-Err : goal.returns-in-Err
returns-in-Err g c = absurd (∥∥₁_elim c.args.self.now.utf8 ⊥_prop
    (λ utf8. c.in-Err.ensures.cases.0 (subst IsUtf8 (sym c.peek_all.ensures.content) utf8)))
