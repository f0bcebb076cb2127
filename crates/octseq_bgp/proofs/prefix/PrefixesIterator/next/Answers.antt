use Rattle.std.proofs.Common.{refl}
use Rattle.octseq.specs.Parser.{window}
use Rattle.octseq_format.proofs.RowSteps.{fewer}
use Rattle.octseq_bgp.specs.Lists.{prefixes_left}
use Rattle.octseq_bgp.proofs.NlriLists.{first_plain, first_with_path, none_plain, none_with_paths}
use Rattle.octseq_bgp.proofs.prefix.PrefixesIterator.next.Goals as goal

pub returns-in_default-clause-steps : goal.returns-in_default-clause-steps
returns-in_default-clause-steps g c =
    let p = c.args.self.now in
    let none = none_with_paths p.paths p.afi (window p.parser) p.left c.if-paths.true
    (c.in_default.ensures.none refl) p.ahead in
    (none, none)

pub returns-then-paths-clause-steps : goal.returns-then-paths-clause-steps
returns-then-paths-clause-steps g c =
    let p = c.args.self.now in
    first_with_path p.paths p.afi (window p.parser) (window c.in-Some.first.1) p.left _ c.if-paths.true
    c.in-Some.ensures.first p.ahead c.self-1.given.0

pub returns-then-paths-clause-goes : goal.returns-then-paths-clause-goes
returns-then-paths-clause-goes g c =
    let less = fewer _ (prefixes_left c.args.self.now) _ (returns-then-paths-clause-steps g c) in
    record { on = λ finite. (tt, finite, less); keeps = tt; rests = λ _. tt }

pub returns-in_default-take_plain-clause-steps : goal.returns-in_default-take_plain-clause-steps
returns-in_default-take_plain-clause-steps g c =
    let p = c.args.self.now in
    let none = none_plain p.paths p.afi (window p.parser) p.left c.if-paths.false
    (c.in_default-take_plain.ensures.none refl) p.ahead in
    (none, none)

pub returns-clause-steps : goal.returns-clause-steps
returns-clause-steps g c =
    let p = c.args.self.now in
    first_plain p.paths p.afi (window p.parser) (window c.in-Some-take_plain.first.1) p.left _ c.if-paths.false
    c.in-Some-take_plain.ensures.first p.ahead c.self-2-1.given.0

pub returns-clause-goes : goal.returns-clause-goes
returns-clause-goes g c =
    let less = fewer _ (prefixes_left c.args.self.now) _ (returns-clause-steps g c) in
    record { on = λ finite. (tt, finite, less); keeps = tt; rests = λ _. tt }
