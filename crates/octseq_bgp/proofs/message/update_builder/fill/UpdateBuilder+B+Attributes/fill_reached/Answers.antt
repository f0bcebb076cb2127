use Rattle.std.proofs.Common.{refl, ap, ◌+◌, ◌∙◌, arith, Ok, Err}
use Rattle.std.proofs.lemmas.List.{take_more}
use Rattle.octseq.specs.declared.error.WriteError.TheVariants.{Malformed, Memory, Short}
use Rattle.octseq_bgp.specs.Filling.{given_long, with_in_last}
use Rattle.octseq_bgp.specs.Writing.{IsReached}
use Rattle.octseq_bgp.specs.declared.attribute.attribute_type.AttributeType.TheVariants as kind
use Rattle.octseq_bgp.proofs.Filling.{filled, full, grows, none_put, put_more, refuses, step}
use Rattle.octseq_bgp.proofs.InLast.{in_last_rises, next_in_last, one_in_last}
use Rattle.octseq_bgp.proofs.message.update_builder.fill.UpdateBuilder+B+Attributes.fill_reached.Goals as goal

pub loop-prefix-init : goal.loop-prefix-init
loop-prefix-init g c = record { put = none_put _ _ _ _ _ refl; count = refl; borrows = refl }

pub returns-in-Err-Short-clause-filled : goal.returns-in-Err-Short-clause-filled
returns-in-Err-Short-clause-filled g c =
    let before = c.args.self.now.update in
    let is = take_more c.args.prefixes.now c.loop-prefix.prefix-index _ c.loop-prefix-test.true in
    let pushed = step (λ s l p. IsReached s l p.0 p.1) (Err Short) _ (one_in_last kind.MpReachNlri)
    (with_in_last kind.MpReachNlri before) (next_in_last kind.MpReachNlri before) c.loop-prefix.invariant.put is
    (rw c.in-Err-Short.field-0-is at c.in-Err-Short.ensures.pushed) in
    rw c.loop-prefix.invariant.count
    (full c.loop-prefix.invariant.put c.loop-prefix-test.true is pushed
    (grows (with_in_last kind.MpReachNlri before) given_long (in_last_rises kind.MpReachNlri before)
    c.args.prefixes.now))

pub returns-in-Err-Malformed-clause-filled : goal.returns-in-Err-Malformed-clause-filled
returns-in-Err-Malformed-clause-filled g c =
    let before = c.args.self.now.update in
    let is = take_more c.args.prefixes.now c.loop-prefix.prefix-index _ c.loop-prefix-test.true in
    let pushed = step (λ s l p. IsReached s l p.0 p.1) (Err Malformed) _ (one_in_last kind.MpReachNlri)
    (with_in_last kind.MpReachNlri before) (next_in_last kind.MpReachNlri before) c.loop-prefix.invariant.put is
    (rw c.in-Err-Malformed.field-0-is at c.in-Err-Malformed.ensures.pushed) in
    refuses Malformed (λ none. none) c.loop-prefix.invariant.put c.loop-prefix-test.true is pushed

pub returns-in-Err-Memory-clause-filled : goal.returns-in-Err-Memory-clause-filled
returns-in-Err-Memory-clause-filled g c =
    let before = c.args.self.now.update in
    let is = take_more c.args.prefixes.now c.loop-prefix.prefix-index _ c.loop-prefix-test.true in
    let pushed = step (λ s l p. IsReached s l p.0 p.1) (Err Memory) _ (one_in_last kind.MpReachNlri)
    (with_in_last kind.MpReachNlri before) (next_in_last kind.MpReachNlri before) c.loop-prefix.invariant.put is
    (rw c.in-Err-Memory.field-0-is at c.in-Err-Memory.ensures.pushed) in
    refuses Memory (λ none. none) c.loop-prefix.invariant.put c.loop-prefix-test.true is pushed

pub loop-prefix-preserved : goal.loop-prefix-preserved
loop-prefix-preserved g c =
    let before = c.args.self.now.update in
    let is = take_more c.args.prefixes.now c.loop-prefix.prefix-index _ c.loop-prefix-test.true in
    let pushed = step (λ s l p. IsReached s l p.0 p.1) (Ok tt) _ (one_in_last kind.MpReachNlri)
    (with_in_last kind.MpReachNlri before) (next_in_last kind.MpReachNlri before) c.loop-prefix.invariant.put is
    c.in-Ok.ensures.pushed in
    record {
      put = put_more c.loop-prefix.invariant.put c.loop-prefix-test.true is pushed;
      count = ap (λ k. k + 1) c.loop-prefix.invariant.count;
      borrows = c.push_reached.ensures.borrows ∙ c.loop-prefix.invariant.borrows;
    }

pub returns-clause-filled : goal.returns-clause-filled
returns-clause-filled g c =
    let past = c.loop-prefix-test.false in
    rw c.loop-prefix.invariant.count (filled c.loop-prefix.invariant.put (omega (arith, past)))
