use Rattle.std.proofs.Common.{◌≡◌, ◌+◌, ◌≤◌, ℕ, Bool, true, Option, List, [], length, length-append, Bor, Result, Ok}
use Rattle.std.proofs.Common.{Err, sym, ap, ◌∙◌, arith}
use Rattle.std.specs.Prelude.{is_err}
use Rattle.std.proofs.lemmas.List.Folds.{length-flat_map-take}
use Rattle.octseq.proofs.Limits.{past_more, within_not_past}
use Rattle.octseq.specs.Appends.{Appends}
use Rattle.octseq.specs.Limit.{IsWithin}
use Rattle.octseq.specs.declared.AppendError.{AppendError}
use Rattle.octseq_mrt.proofs.builder.parts.put_parts.Goals as goal

-- an append within the limit is refused only for lack of memory
for_memory : (limit : Option ℕ) (asks : Bool) (result : Result (Unit {0}) AppendError) (slice old new : List ℕ)
    (total : ℕ) → Appends limit asks result slice old new → IsWithin limit total → length old + length slice ≤ total
    → is_err result ≡ true → asks ≡ true
for_memory limit asks (Ok done) slice old new total appended within less err = cc
for_memory limit asks (Err (AppendError.Short e)) slice old new total appended within less err =
    absurd (within_not_past limit total within (past_more limit _ total less (appended.short.0 tt)))
for_memory limit asks (Err AppendError.Memory) slice old new total appended within less err = appended.memory tt

pub returns-then-is_err-clause-memory : goal.returns-then-is_err-clause-memory
returns-then-is_err-clause-memory g c = λ _.
    let long = length-flat_map-take (λ (p : Bor (List ℕ)). p.now) c.args.parts.now _
    (record { ref_ptr = (0, 0); now = [] }) c.loop-part-test.true in
    let here = ap length c.loop-part.invariant.octets ∙ length-append (g.B.AsOctets.content c.args.builder.now) _ in
    for_memory g.B.AsOctets.limit g.B.AsOctets.asks c.append_few.result _ _ _ _ c.append_few.ensures.appended
    c.requires (omega (arith, long, here)) (sym c.is_err.ensures.value ∙ c.if-is_err.true)
