use Rattle.octseq_utf8.proofs.Bridge.{well_formed_from_utf8}
use Rattle.octseq_text.proofs.CharacterAppends.{appends, well_formed-appended}
use Rattle.octseq_text.proofs.str.builder.StrBuilder.try_push_str.Goals as goal

pub invariant_of-self : goal.invariant_of-self
invariant_of-self g c =
    let e = c.append_few.ensures.appended in
    well_formed-appended c.append_few.result _ _ _ e.ok e.err c.self.invariant
    (well_formed_from_utf8 _ c.as_bytes.ensures.utf8)

pub returns-clause-step : goal.returns-clause-step
returns-clause-step g c =
    let e = c.append_few.ensures.appended in
    rw (← c.self.view_is, ← c.as_bytes.ensures.value)
    (appends g.Octets.AsOctets.limit g.Octets.AsOctets.asks c.append_few.result _ _ _ e.ok e.err e.short e.memory
    c.self.invariant (well_formed_from_utf8 _ c.as_bytes.ensures.utf8))
