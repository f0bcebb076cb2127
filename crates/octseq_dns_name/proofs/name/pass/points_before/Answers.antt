use Rattle.std.proofs.Common.{◌<◌, ◌≤◌, refl, rules, arith}
use Rattle.octseq_dns_name.specs.Pass.{place_in}
use Rattle.octseq_dns_name.proofs.Passes.{pointer_there, none_marked, none_paired, none_before}
use Rattle.octseq_dns_name.proofs.name.pass.points_before.Goals as goal

pub returns-then-octets-at-lt192-clause-none : goal.returns-then-octets-at-lt192-clause-none
returns-then-octets-at-lt192-clause-none c = λ _.
    none_marked c.args.octets.now c.args.at c.args.end c.args.start c.requires.within c.requires.ordered
    c.if-octets-at-lt192.true

pub returns-then-end-at-lt2-clause-none : goal.returns-then-end-at-lt2-clause-none
returns-then-end-at-lt2-clause-none c = λ _.
    none_paired c.args.octets.now c.args.at c.args.end c.args.start c.requires.within c.requires.ordered
    c.if-end-at-lt2.true

pub returns-clause-none : goal.returns-clause-none
returns-clause-none c = λ no.
    none_before c.args.octets.now c.args.at c.args.end c.args.start c.requires.within c.requires.ordered
    c.pointer_target.result c.if-end-at-lt2.false c.pointer_target.ensures
    (let late : c.args.start ≤ c.pointer_target.result = search rules in late)

pub returns-clause-some : goal.returns-clause-some
returns-clause-some c = λ yes.
    let whole = c.if-end-at-lt2.false in
    let same = c.pointer_target.ensures in
    let before : c.pointer_target.result < c.args.start = search rules in
    pointer_there c.args.octets.now c.args.at c.args.end c.args.start c.requires.within c.requires.ordered
    (place_in c.args.octets.now c.args.at) (omega (arith, whole)) c.if-octets-at-lt192.false refl
    (omega (arith, same, before))
