use Rattle.std.proofs.Common.{◌≡◌, ℕ, ◌<◌, List, length, codes, Some, Result, Ok, Err, refl, sym, subst}
use Rattle.std.specs.Prelude.{IfOk}
use Rattle.octseq.specs.Parts.{Part, Splits, text}
use Rattle.octseq_tool.specs.Out.{Out}
use Rattle.octseq_tool.specs.declared.engine.Answer.{Answer}
use Rattle.octseq_tool.specs.declared.engine.Command.TheVariants.{Lossy64}
use Rattle.octseq_tool.specs.declared.engine.Status.TheVariants.{Refused}
use Rattle.octseq_tool.proofs.engine.lossy64.Goals as goal

-- octets whose text is too long are refused
refused : {E : Type 0} (r : Result Answer E) (input : List ℕ) (parts : List Part) → Splits input parts
    → 64 < length (text parts)
    → IfOk r (λ answer. answer.output.items ≡ codes "buffer size exceeded\n")
    → IfOk r (λ answer. answer.status ≡ Refused)
    → IfOk r (λ answer. Out (Some Lossy64) input answer.output.items answer.status)
refused (Ok answer) input parts s long line status =
    subst (Out (Some Lossy64) input answer.output.items) (sym status) (text parts, (parts, s, refl), long, line)
refused (Err e) input parts s long line status = tt

pub returns-in-Err-Short : goal.returns-in-Err-Short
returns-in-Err-Short c =
    let answer = c.in-Err-Short.ensures.answer in
    let p = answer.splitting in
    refused c.too_long.result c.args.input.now p.0 p.1 (answer.short (rw c.in-Err-Short.field-0-is tt) p.0 p.1)
    c.too_long.ensures.output c.too_long.ensures.status
