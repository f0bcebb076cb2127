use Rattle.std.proofs.Common.{◌≡◌, ◌∷◌, refl, sym, subst, arith}
use Rattle.octseq.specs.Parser.{window}
use Rattle.octseq_format.proofs.RowSteps.{fewer}
use Rattle.octseq_bgp.specs.Parts.{IsAttribute}
use Rattle.octseq_bgp.specs.Fills.{Fills}
use Rattle.octseq_mrt.specs.Listed.{entries_listed}
use Rattle.octseq_mrt.specs.OneListed.{entry_from}
use Rattle.octseq_mrt.proofs.Filled.{ahead_none, ahead_not, no_entry, attributes_ahead, entries_more, entries_then}
use Rattle.octseq_mrt.proofs.rib.RibEntriesIterator.next.Goals as goal

pub returns-then-remaining-eq0-clause-steps : goal.returns-then-remaining-eq0-clause-steps
returns-then-remaining-eq0-clause-steps g c =
    let self = c.args.self.now in
    let none = ahead_none (entries_listed self.paths) (window self.parser) self.ahead
    (omega (arith, c.remaining.ensures.left, c.if-remaining-eq0.true)) in
    (none, none)

pub unreachable-requires : goal.unreachable-requires
unreachable-requires g c =
    let self = c.args.self.now in
    ahead_not (entries_listed self.paths) (window self.parser) self.ahead
    (omega (arith, c.remaining.ensures.left, c.if-remaining-eq0.false))
    (no_entry self.paths (window self.parser) (c.in-Err.ensures.malformed refl))

pub at-attributes-requires : goal.at-attributes-requires
at-attributes-requires g c =
    let self = c.args.self.now in
    let p = c.in-Ok.parts in
    attributes_ahead self.paths (window self.parser) (window c.parse.new.parser)
    (p.peer_index, (p.originated_time, (p.path_id, window p.octets))) self.ahead
    (omega (arith, c.remaining.ensures.left, c.if-remaining-eq0.false)) c.in-Ok.ensures.parts

pub invariant_of-self : goal.invariant_of-self
invariant_of-self g c =
    let self = c.args.self.now in
    let p = c.in-Ok.parts in
    let row = c.at-attributes.result.ahead in
    let more = entries_more self.paths (window self.parser) (window c.parse.new.parser)
    (p.peer_index, (p.originated_time, (p.path_id, window p.octets))) row.0 self.ahead c.in-Ok.ensures.parts
    (subst (λ w. ∥ Fills IsAttribute w row.0 ∥₁) c.at-attributes.ensures row.1) in
    record { ahead = more }

pub returns-clause-steps : goal.returns-clause-steps
returns-clause-steps g c =
    let self = c.args.self.now in
    let p = c.in-Ok.parts in
    let row = c.at-attributes.result.ahead in
    subst (λ id. self.ahead.0 ≡ entry_from (p.peer_index, (p.originated_time, (id, window p.octets))) row.0
    ∷ c.self-1.given.0.0) (sym c.path_id.ensures)
    (entries_then self.paths (window self.parser) (window c.parse.new.parser)
    (p.peer_index, (p.originated_time, (p.path_id, window p.octets))) row.0 self.ahead c.in-Ok.ensures.parts
    (subst (λ w. ∥ Fills IsAttribute w row.0 ∥₁) c.at-attributes.ensures row.1) c.self-1.given.0)

pub returns-clause-goes : goal.returns-clause-goes
returns-clause-goes g c =
    let less = fewer _ c.args.self.now.ahead.0 c.self-1.given.0.0 (returns-clause-steps g c) in
    record { on = λ finite. (tt, finite, less); keeps = tt; rests = λ _. tt }
