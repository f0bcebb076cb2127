use Rattle.std.proofs.Common.{ap, arith}
use Rattle.octseq_bgp.specs.PartOctets.{PartOctets}
use Rattle.octseq_bgp.proofs.UpdateParts.{arranged, arranged_long, found, known}
use Rattle.octseq_bgp.proofs.message.update_builder.octets.UpdateOctets.arrange.Goals as goal

pub replace_over-requires-clause-old : goal.replace_over-requires-clause-old
replace_over-requires-clause-old g c =
    let (w, a, n, is) = rw (← c.self.view_is) at c.requires in
    (arranged_long _ _ _ w a n is).1

pub replace_over-requires-clause-inside : goal.replace_over-requires-clause-inside
replace_over-requires-clause-inside g c =
    let (w, a, n, is) = rw (← c.self.view_is) at c.requires in
    omega (
      arith,
      (arranged_long _ _ _ w a n is).2,
      c.self.invariant.long,
      c.self.invariant.withdrawn_is,
      c.self.invariant.attributes_is,
    )

pub put_lengths-requires-clause-inside : goal.put_lengths-requires-clause-inside
put_lengths-requires-clause-inside g c =
    let (w, a, n, is) = rw (← c.self.view_is) at c.requires in
    omega (
      arith,
      (arranged_long _ _ _ w a n is).0,
      is.withdrawn_is,
      is.attributes_is,
      c.replace_over.ensures.len,
      c.self.invariant.long,
      c.self.invariant.withdrawn_is,
      c.self.invariant.attributes_is,
    )

pub invariant_of-self : goal.invariant_of-self
invariant_of-self g c =
    let (w, a, n, is) = rw (← c.self.view_is) at c.requires in
    known c.put_lengths.new.octets w a n (arranged _ _ _ w a n c.self.invariant.is is c.replace_over.ensures.content
    c.put_lengths.ensures.content) is.withdrawn_is is.attributes_is
    (omega (arith, c.put_lengths.ensures.len, c.replace_over.ensures.len, c.self.invariant.most))

pub returns-clause-arranged : goal.returns-clause-arranged
returns-clause-arranged g c w a n arranges =
    let is = rw (← c.self.view_is) at arranges in
    let made = found c.put_lengths.new.octets w a n (arranged _ _ _ w a n c.self.invariant.is is
    c.replace_over.ensures.content c.put_lengths.ensures.content) is.withdrawn_is is.attributes_is in (
      ap (λ (p : PartOctets g.row.B.Denot). p.withdrawn) made,
      ap (λ (p : PartOctets g.row.B.Denot). p.attributes) made,
      ap (λ (p : PartOctets g.row.B.Denot). p.announced) made,
    )
