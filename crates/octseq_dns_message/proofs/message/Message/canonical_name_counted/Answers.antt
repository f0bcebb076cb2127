use Rattle.std.proofs.Common.{ℕ, suc, ◌≡◌, ◌+◌, ◌*◌, ◌≤◌, length, sym, ap, subst, refl, arith, rules}
use Rattle.octseq_dns_message.specs.AliasTurns.{alias_turns, chain_turns}
use Rattle.octseq_dns_message.specs.Canonical.{Chain, IsAliasOf}
use Rattle.octseq_dns_message.specs.Parsed.{questions_of, answers_of}
use Rattle.octseq_dns_message.specs.Said.{question_of}
use Rattle.octseq_dns_message.proofs.Aliases.{alias_takes, canonical_of, canonical_takes, chain_more, more_turns}
use Rattle.octseq_dns_message.proofs.Aliases.{same_chain_turns}
use Rattle.octseq_dns_name.specs.Read.{name_of}
use Rattle.octseq_dns_message.proofs.message.Message.canonical_name_counted.Goals as goal

pub returns-in-None-clause-canonical : goal.returns-in-None-clause-canonical
returns-in-None-clause-canonical g c =
    let so_far = c.loop-followed.invariant in
    let answers = answers_of c.args.self.now in
    let question = question_of c.in_ok-question.question in
    let last = name_of c.loop-followed.name in
    let end : (target : _) → IsAliasOf c.qclass-class.result answers last target → ⊥ =
    λ target leads. c.in-None.ensures.none refl target
    (subst (λ records. IsAliasOf c.qclass-class.result records last target) (sym c.answers.ensures) leads) in
    let chain = so_far.on 0 last (refl, end) in
    let named = subst (λ name. Chain c.qclass-class.result answers (c.loop-followed.followed + 0) name last)
    c.qname-name.ensures chain in
    let classed = subst (λ class. Chain class answers (c.loop-followed.followed + 0) question.qname last)
    c.qclass-class.ensures named in
    canonical_of (questions_of c.args.self.now) answers question (c.loop-followed.followed + 0) last (search rules)
    (omega arith) classed

pub returns-in-None-clause-least : goal.returns-in-None-clause-least
returns-in-None-clause-least g c =
    let so_far = c.loop-followed.invariant in
    let answers = answers_of c.args.self.now in
    let class = c.qclass-class.result in
    let question = question_of c.in_ok-question.question in
    let last = name_of c.loop-followed.name in
    let old = c.args.turns.now in
    let now = c.alias_target.new.turns in
    let end : (target : _) → IsAliasOf class answers last target → ⊥ =
    λ target leads. c.in-None.ensures.none refl target
    (subst (λ records. IsAliasOf class records last target) (sym c.answers.ensures) leads) in
    let passed = c.in-None.ensures.all refl in
    let same = ap length c.answers.ensures in
    let took : (m : ℕ) (is : Chain class answers m (name_of c.qname-name.result) last)
    → old + chain_turns class answers m (name_of c.qname-name.result) last is ≤ now =
    λ m is. let before = so_far.least 0 m last (refl, end) is in omega (arith, before, passed, same) in
    let named = subst (λ name. (m : ℕ) (is : Chain class answers m name last)
    → old + chain_turns class answers m name last is ≤ now)
    c.qname-name.ensures took in
    let classed = subst (λ class. (m : ℕ) (is : Chain class answers m question.qname last)
    → old + chain_turns class answers m question.qname last is ≤ now)
    c.qclass-class.ensures named in
    canonical_takes (questions_of c.args.self.now) answers question last old now (search rules) classed

pub loop-followed-init : goal.loop-followed-init
loop-followed-init g c =
    let class = c.qclass-class.result in
    let answers = answers_of c.args.self.now in
    let name = name_of c.qname-name.result in
    record {
      on = λ n last is.
          let same : n ≡ 0 + n = omega arith in subst (λ n. Chain class answers n name last) same is;
      back = λ n last is. (n, omega arith, is);
      least = λ n m last left whole.
          let same = same_chain_turns class answers n m name last last left whole in omega (arith, same);
      each = omega arith;
      turns = omega arith;
    }

pub loop-followed-preserved : goal.loop-followed-preserved
loop-followed-preserved g c =
    let so_far = c.loop-followed.invariant in
    let answers = answers_of c.args.self.now in
    let class = c.qclass-class.result in
    let name = name_of c.loop-followed.name in
    let target = name_of c.in-Some.target in
    let leads : IsAliasOf class answers name target =
    subst (λ records. IsAliasOf class records name target) c.answers.ensures c.in-Some.ensures.target in
    let took = subst (λ records. (is : IsAliasOf class records name target)
    → c.loop-followed.turns + alias_turns class records name target is ≤ c.alias_target.new.turns)
    c.answers.ensures c.in-Some.ensures.least leads in
    record {
      on = λ n last is.
          let one : c.loop-followed.followed + suc n ≡ c.loop-followed.followed + 1 + n = omega arith in
          subst (λ n. Chain class answers n (name_of c.qname-name.result) last) one
          (so_far.on (suc n) last (target, leads, is));
      back = λ n last is.
          let ahead = so_far.back n last is in
          let more = chain_more class answers ahead.0 name target last leads ahead.2 in
          let here = ahead.1 in
          let there = more.1 in
          (more.0, omega (arith, here, there), more.2);
      least = λ n m last left whole.
          let before = so_far.least (suc n) m last (target, leads, left) whole in omega (arith, before, took);
      each = let before = so_far.each in let two = alias_takes class answers name target leads in
          omega (arith, before, took, two);
      turns = let each = c.alias_target.ensures.turns in
          let same = ap length c.answers.ensures in
          more_turns c.loop-followed.followed (511 * length answers) c.args.turns.now c.loop-followed.turns
          c.alias_target.new.turns so_far.turns (omega (arith, each, same));
    }
