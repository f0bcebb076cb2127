use Rattle.std.proofs.Common.{◌+◌, ◌≤◌, inr, length, sym, ap, subst, refl, arith, rules}
use Rattle.octseq_dns_message.specs.AliasTurns.{alias_turns}
use Rattle.octseq_dns_message.specs.Canonical.{IsAliasOf}
use Rattle.octseq_dns_message.specs.Said.{record_of}
use Rattle.octseq_dns_message.specs.Walk.{records_left}
use Rattle.octseq_dns_message.proofs.Aliases.{passed_over, found_first, found_later, same_alias_turns}
use Rattle.octseq_dns_name.specs.Name.{Name}
use Rattle.octseq_dns_name.specs.Read.{name_of}
use Rattle.octseq_dns_message.proofs.message.canonical.alias_target.Goals as goal

pub loop-entry-init : goal.loop-entry-init
loop-entry-init g c =
    let gives = c.into_iter-entry-iterator.ensures.into_iter_gives in
    let class = c.args.class in
    let name = name_of c.args.name.now in
    let all = records_left c.args.records in
    let same = ap (λ walk. length (records_left walk)) gives in
    record {
      ready = search rules;
      finite = search rules;
      on = λ target leads. subst (λ walk. IsAliasOf class (records_left walk) name target) gives leads;
      back = λ target leads. subst (λ walk. IsAliasOf class (records_left walk) name target) (sym gives) leads;
      some = omega arith;
      least = subst (λ walk. (target : Name) (left : IsAliasOf class (records_left walk) name target)
          (whole : IsAliasOf class all name target) → c.args.turns.now + alias_turns class all name target whole
          ≤ c.args.turns.now + alias_turns class (records_left walk) name target left) (sym gives)
          (λ target left whole.
          let same = same_alias_turns class all name target target whole left in omega (arith, same));
      all = omega (arith, same);
      turns = omega (arith, same);
    }

pub loop-entry-preserved : goal.loop-entry-preserved
loop-entry-preserved g c =
    let so_far = c.loop-entry.invariant in
    let name = name_of c.args.name.now in
    let none = c.in_default.ensures.none refl in
    let steps = c.in-Some.ensures.steps in
    let fewer = ap length steps in
    let tick = c.tick.ensures in
    let some = c.target_in.ensures.some in
    record {
      ready = so_far.ready;
      finite = so_far.finite;
      on = λ target leads. so_far.on target (subst (λ records. IsAliasOf c.args.class records name target) (sym steps)
          (inr (none, leads)));
      back = λ target leads. passed_over c.args.class (record_of c.in-Some.entry) (records_left c.next.new.self) name
          target none
          (subst (λ records. IsAliasOf c.args.class records name target) steps (so_far.back target leads));
      some = let before = so_far.some in omega (arith, before, tick, some);
      least = λ target left whole.
          let one = found_later c.args.class (record_of c.in-Some.entry) (records_left c.loop-entry.entry-iterator)
          (records_left c.next.new.self) name target steps none left in
          let before = so_far.least target one.0 whole in
          omega (arith, before, one.1, tick, some);
      all = let before = so_far.all in omega (arith, before, fewer, tick, some);
      turns = let before = so_far.turns in
          let more = c.target_in.ensures.turns in
          omega (arith, before, fewer, tick, more);
    }

pub returns-in-Some-target_in-clause-least : goal.returns-in-Some-target_in-clause-least
returns-in-Some-target_in-clause-least g c = λ whole.
    let target = name_of c.in-Some-target_in.target in
    let one = found_first c.args.class (record_of c.in-Some.entry) (records_left c.loop-entry.entry-iterator)
    (records_left c.next.new.self) (name_of c.args.name.now) target c.in-Some.ensures.steps
    c.in-Some-target_in.ensures.alias in
    let before = c.loop-entry.invariant.least target one.0 whole in
    let tick = c.tick.ensures in
    let more = c.in-Some-target_in.ensures.least in
    omega (arith, before, one.1, tick, more)
