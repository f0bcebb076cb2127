use Rattle.std.proofs.Common.{length, refl, ap, subst, arith}
use Rattle.octseq.specs.Parser.{window}
use Rattle.octseq_bgp.specs.EndOfRib.{UnreachesNone}
use Rattle.octseq_bgp.specs.Value.{Unreach}
use Rattle.octseq_bgp.specs.ValueOf.{unreach_of}
use Rattle.octseq_bgp.proofs.Values.{one_unreach}
use Rattle.octseq_bgp.proofs.message.end_of_rib.unreaches_none.Goals as goal

pub returns-in_default-parse_counted-clause-none : goal.returns-in_default-parse_counted-clause-none
returns-in_default-parse_counted-clause-none g c = λ _ family is.
    let alone = subst (λ row. UnreachesNone c.args.session.now row family) c.in-Some.ensures.steps.0 is in
    c.in_default-parse_counted.ensures.malformed refl alone.2 alone.3

pub returns-then-len-gt0-2-clause-none : goal.returns-then-len-gt0-2-clause-none
returns-then-len-gt0-2-clause-none g c = λ _ family is.
    let alone = subst (λ row. UnreachesNone c.args.session.now row family) c.in-Some.ensures.steps.0 is in
    let same = one_unreach c.args.session.now (window c.in-Some.first.value) (unreach_of c.in-Ok.unreach) alone.2
    c.in-Ok.ensures.unreach alone.3 in
    let lengths = ap (λ (r : Unreach). length r.prefixes) same in
    let none = alone.4 in
    let some = c.if-len-gt0-2.true in
    let len = c.len-2.ensures in
    omega (arith, lengths, none, some, len)
