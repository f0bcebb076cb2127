use Rattle.std.proofs.Common.{◌≡◌, true, false, refl, subst, sym}
use Rattle.octseq_bgp.specs.OneOpen.{same_open}
use Rattle.octseq_bgp.specs.WrittenOpen.{CanFollow, HoldsOpen, IsOpenWritten, with_parameter}
use Rattle.octseq_bgp.proofs.WrittenOpens.{can_follow, extended_within, open_body, open_more, open_within, pushed}
use Rattle.octseq_bgp.proofs.WrittenOpens.{written_more}
use Rattle.octseq_bgp.proofs.message.open_builder.append_parameter.Goals as goal

pub returns-in_default-clause-pushes : goal.returns-in_default-clause-pushes
returns-in_default-clause-pushes g c o now was is =
    let p = g.P.ComposeParameter.says c.args.parameter.now in
    let follows = can_follow c.args.long _ o p c.has_none-is_first.result was c.has_none-is_first.ensures in
    let cannot = λ (can : g.P.ComposeParameter.has c.args.parameter.now × CanFollow o p).
    let fits = follows.0 can.1 in
    let some : false ≡ true = c.in_default.ensures.fit.1 (can.0, fits.0, fits.1) in
    absurd (cc) in
    record {
      ok = tt;
      err = same_open c.args.long _ now o is was;
      malformed = (λ _. cannot, λ _. tt);
      short = (λ none. absurd none, λ has. absurd (cannot has.0));
      memory = λ none. absurd none;
    }

pub write-requires-clause-some : goal.write-requires-clause-some
write-requires-clause-some g c = (open_within c.args.long c.requires.0 c.requires.1).0

pub write-requires-clause-now : goal.write-requires-clause-now
write-requires-clause-now g c = rw c.open_max.ensures (open_within c.args.long c.requires.0 c.requires.1).2

pub returns-in-Err-clause-holds : goal.returns-in-Err-clause-holds
returns-in-Err-clause-holds g c =
    let done = c.in-Err.ensures.extends 1 (open_body c.requires.0) c.requires.1.are in
    subst (HoldsOpen c.args.long) (sym done.err) c.requires

pub returns-in-Err-clause-pushes : goal.returns-in-Err-clause-pushes
returns-in-Err-clause-pushes g c o now was is =
    let p = g.P.ComposeParameter.says c.args.parameter.now in
    let fit = c.in-Some.ensures.fit.0 refl in
    let follows = can_follow c.args.long _ o p c.has_none-is_first.result was c.has_none-is_first.ensures in
    let can = follows.1 (fit.1, fit.2) in
    let done = (rw c.open_max.ensures at c.in-Err.ensures.extends) 1 (open_body o) was.are in
    pushed c.args.long o p was g.B.AsOctets.limit done now (fit.0, can) tt
    (same_open c.args.long _ now o is (subst (λ x. IsOpenWritten c.args.long x o) (sym done.err) was))

pub count_parameters-requires-clause-some : goal.count_parameters-requires-clause-some
count_parameters-requires-clause-some g c =
    let p = g.P.ComposeParameter.says c.args.parameter.now in
    let (o, was) = c.requires in
    let done = (rw c.open_max.ensures at c.in_default-write.ensures.extends) 1 (open_body o) was.are in
    (extended_within c.args.long o p was g.B.AsOctets.limit done.ok done.short.1).0

pub count_parameters-requires-clause-few : goal.count_parameters-requires-clause-few
count_parameters-requires-clause-few g c =
    let p = g.P.ComposeParameter.says c.args.parameter.now in
    let (o, was) = c.requires in
    let done = (rw c.open_max.ensures at c.in_default-write.ensures.extends) 1 (open_body o) was.are in
    (extended_within c.args.long o p was g.B.AsOctets.limit done.ok done.short.1).1

pub returns-clause-holds : goal.returns-clause-holds
returns-clause-holds g c =
    let p = g.P.ComposeParameter.says c.args.parameter.now in
    let (o, was) = c.requires in
    let fit = c.in-Some.ensures.fit.0 refl in
    let follows = can_follow c.args.long _ o p c.has_none-is_first.result was c.has_none-is_first.ensures in
    let can = follows.1 (fit.1, fit.2) in
    let extends = rw c.open_max.ensures at c.in_default-write.ensures.extends in
    let more = open_more c.args.long o p was (λ kind body is. (extends kind body is).ok)
    c.count_parameters.ensures.content in
    let done = extends 1 (open_body o) was.are in
    (with_parameter o p, written_more c.args.long o p was g.B.AsOctets.limit can done.short.1 more)

pub returns-clause-pushes : goal.returns-clause-pushes
returns-clause-pushes g c o now was is =
    let p = g.P.ComposeParameter.says c.args.parameter.now in
    let fit = c.in-Some.ensures.fit.0 refl in
    let follows = can_follow c.args.long _ o p c.has_none-is_first.result was c.has_none-is_first.ensures in
    let can = follows.1 (fit.1, fit.2) in
    let extends = rw c.open_max.ensures at c.in_default-write.ensures.extends in
    let done = extends 1 (open_body o) was.are in
    let more = open_more c.args.long o p was (λ kind body is. (extends kind body is).ok)
    c.count_parameters.ensures.content in
    pushed c.args.long o p was g.B.AsOctets.limit done now (fit.0, can)
    (same_open c.args.long _ now (with_parameter o p) is
    (written_more c.args.long o p was g.B.AsOctets.limit can done.short.1 more)) tt
