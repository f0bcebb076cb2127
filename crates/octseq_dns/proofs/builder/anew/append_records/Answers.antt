use Rattle.std.proofs.Common.{◌≡◌, ◌∙◌, ◌||◌, [], ◌∷◌, ap, length, refl, rules, sym, subst, arith}
use Rattle.std.proofs.Math.Bool.{or_assoc, or-false}
use Rattle.std.specs.Prelude.{◌↔◌, nat_eq}
use Rattle.octseq.specs.Limit.{IsWithin}
use Rattle.octseq_dns_compress.specs.Composed.{message_limit}
use Rattle.octseq_dns_data.specs.Rtype as types
use Rattle.octseq_dns_data.specs.Typed.{rdata_of}
use Rattle.octseq_dns_message.specs.Listed.{records_ahead, without_sections}
use Rattle.octseq_dns_message.specs.Parsed.{records_of}
use Rattle.octseq_dns_message.specs.Said.{record_of}
use Rattle.octseq_dns.specs.Moved.{CanMove}
use Rattle.octseq_dns.specs.Rewritten.{any_opt}
use Rattle.octseq_dns.proofs.Onward.{onward_first, onward_next, onward_none, onward_past, onward_fewer, onward_turns}
use Rattle.octseq_dns.proofs.OnlyRecord.{record_is, single_record}
use Rattle.octseq_dns.proofs.builder.anew.append_records.Goals as goal

pub loop-listed-init : goal.loop-listed-init
loop-listed-init g c =
    let all = ap (λ walk. records_ahead walk) c.into_iter-listed-iterator.ensures.into_iter_gives
    ∙ c.records-listed-items.ensures.records in
    record {
      on = onward_first all;
      movable = subst (λ l. CanMove l ↔ CanMove (records_of c.args.source.now)) (sym all) (λ is. is, λ is. is);
      opt = ap any_opt (sym all);
      within = λ within. within;
      counted = omega arith;
      borrows = refl;
    }

pub loop-listed-preserved : goal.loop-listed-preserved
loop-listed-preserved g c =
    let so_far = c.loop-listed.invariant in
    let went = c.in_ok-compose_record.ensures in
    let i = record_of c.in-Some.listed.0 in
    let steps = ap without_sections c.in-Some.ensures.steps in
    let moves = c.is_movable.ensures.0 (search rules) in
    let all = subst (λ q. CanMove q ↔ CanMove (records_of c.args.source.now)) steps so_far.movable in
    record {
      on = onward_next so_far.on single_record steps
          (record_is c.owner.ensures c.class-class.ensures c.ttl-ttl.ensures c.data-data.ensures.rdata) went.ok
          went.fits
          went.turns went.least;
      movable = (λ more. all.0 (moves, more), λ every. (all.1 every).1);
      opt = so_far.opt ∙ ap (λ q. c.loop-listed.has_opt || any_opt q) steps
          ∙ sym (or_assoc c.loop-listed.has_opt (nat_eq i.rtype types.opt) (any_opt (records_ahead c.next.new.self)))
          ∙ ap (λ is. c.loop-listed.has_opt || is || any_opt (records_ahead c.next.new.self))
          (sym (c.eq-has_opt.ensures ∙ ap (λ n. nat_eq n types.opt) c.rtype.ensures));
      within = λ _. subst (λ s. IsWithin (message_limit g.B.AsOctets.limit) (length s.octets))
          (sym went.ok) went.within;
      counted = let before = so_far.counted in let more = went.on in omega (arith, before, more);
      borrows = went.borrows ∙ so_far.borrows;
    }

pub returns-in_err-compose_record-clause-short : goal.returns-in_err-compose_record-clause-short
returns-in_err-compose_record-clause-short g c short =
    onward_past c.loop-listed.invariant.on single_record (ap without_sections c.in-Some.ensures.steps)
    (record_is c.owner.ensures c.class-class.ensures c.ttl-ttl.ensures c.data-data.ensures.rdata)
    (message_limit g.B.AsOctets.limit) (c.in_err-compose_record.ensures.short (search (rules, short)))

pub returns-in_err-compose_record-clause-turns : goal.returns-in_err-compose_record-clause-turns
returns-in_err-compose_record-clause-turns g c =
    onward_turns c.loop-listed.invariant.on single_record (ap without_sections c.in-Some.ensures.steps)
    (record_is c.owner.ensures c.class-class.ensures c.ttl-ttl.ensures c.data-data.ensures.rdata)
    c.in_err-compose_record.ensures.turns

pub returns-then-not-is_movable-clause-immovable : goal.returns-then-not-is_movable-clause-immovable
returns-then-not-is_movable-clause-immovable g c none all =
    let every = subst (λ q. CanMove q ↔ CanMove (records_of c.args.source.now))
    (ap without_sections c.in-Some.ensures.steps) c.loop-listed.invariant.movable in
    let moves = c.is_movable.ensures.1 (every.1 all).0 in
    absurd (search rules)

pub returns-then-not-is_movable-clause-turns : goal.returns-then-not-is_movable-clause-turns
returns-then-not-is_movable-clause-turns g c = onward_fewer c.loop-listed.invariant.on

pub returns-clause-appended : goal.returns-clause-appended
returns-clause-appended g c =
    onward_none c.loop-listed.invariant.on (ap without_sections c.in-None.ensures.steps.0)

pub returns-clause-turns : goal.returns-clause-turns
returns-clause-turns g c = onward_fewer c.loop-listed.invariant.on

pub returns-clause-opt : goal.returns-clause-opt
returns-clause-opt g c =
    sym (c.loop-listed.invariant.opt ∙ ap (λ q. c.loop-listed.has_opt || any_opt (without_sections q))
    c.in-None.ensures.steps.0 ∙ or-false c.loop-listed.has_opt)

pub returns-clause-movable : goal.returns-clause-movable
returns-clause-movable g c =
    c.loop-listed.invariant.movable.0
    (subst (λ q. CanMove (without_sections q)) (sym c.in-None.ensures.steps.0) tt)
