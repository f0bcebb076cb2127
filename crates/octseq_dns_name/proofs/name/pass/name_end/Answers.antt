use Rattle.std.proofs.Common.{◌+◌, ◌-◌, refl, subst}
use Rattle.octseq_dns_name.specs.Pass.{place_in, window_at, NoRest, Rests}
use Rattle.octseq_dns_name.proofs.Passes.{ends_plain, no_pointer, ends_pointed, no_end}
use Rattle.octseq_dns_name.proofs.name.pass.name_end.Goals as goal

pub returns-in_err-at-clause-none : goal.returns-in_err-at-clause-none
returns-in_err-at-clause-none c = λ _. c.in_err-at.ensures.none refl

pub returns-then-octets-at-eq0-clause-some : goal.returns-then-octets-at-eq0-clause-some
returns-then-octets-at-eq0-clause-some c =
    ends_plain c.args.octets.now c.args.place c.args.end c.in_ok-at.at c.args.turns.now c.tick.new.self
    c.skip_labels.new.turns c.requires.within c.in_ok-at.ensures.some c.tick.ensures c.if-octets-at-eq0.true

pub returns-then-not-points_before-clause-none : goal.returns-then-not-points_before-clause-none
returns-then-not-points_before-clause-none c = λ _.
    no_pointer c.args.octets.now c.args.place c.args.end c.in_ok-at.at c.args.turns.now c.tick.new.self
    c.skip_labels.new.turns c.requires.within c.in_ok-at.ensures.some c.tick.ensures c.if-octets-at-eq0.false
    (c.points_before.ensures.none c.if-not-points_before.true)

pub returns-in_err-len-clause-none : goal.returns-in_err-len-clause-none
returns-in_err-len-clause-none c = λ _.
    let octets = c.args.octets.now in
    let at = c.in_ok-at.at in
    let rest = subst (λ to. NoRest (window_at octets to c.args.end) (at - c.args.place + 1)) c.pointer_target-to.ensures
    (c.in_err-len.ensures.none refl) in
    no_end octets c.args.place c.args.end at c.args.turns.now c.tick.new.self c.skip_labels.new.turns c.requires.within
    c.in_ok-at.ensures.some c.tick.ensures (place_in octets at) c.tick-2.new.self c.tick-2.ensures
    (c.points_before.ensures.some c.if-not-points_before.false) rest

pub returns-clause-some : goal.returns-clause-some
returns-clause-some c =
    let octets = c.args.octets.now in
    let at = c.in_ok-at.at in
    let rest = subst (λ to. Rests (window_at octets to c.args.end) (at - c.args.place + 1) c.in_ok-len.len
    c.tick-2.new.self c.skip_rest.new.turns) c.pointer_target-to.ensures c.in_ok-len.ensures.some in
    ends_pointed octets c.args.place c.args.end at c.args.turns.now c.tick.new.self c.skip_labels.new.turns
    c.requires.within c.in_ok-at.ensures.some c.tick.ensures (place_in octets at) c.tick-2.new.self c.tick-2.ensures
    (c.points_before.ensures.some c.if-not-points_before.false) c.in_ok-len.len c.skip_rest.new.turns rest
