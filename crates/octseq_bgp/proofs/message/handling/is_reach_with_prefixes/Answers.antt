use Rattle.std.proofs.Common.{◌≡◌, true, false, length, refl, ap, arith}
use Rattle.octseq.specs.Parser.{window}
use Rattle.octseq_bgp.specs.Value.{Reach}
use Rattle.octseq_bgp.specs.ValueOf.{reach_of}
use Rattle.octseq_bgp.proofs.Values.{one_reach}
use Rattle.octseq_bgp.proofs.message.handling.is_reach_with_prefixes.Goals as goal

pub returns : goal.returns
returns g c = (
  λ is. let no : false ≡ true = is in absurd (cc),
  λ it. absurd (c.in-Err.ensures.malformed refl it.1 it.2),
)

pub returns-then-len-eq0 : goal.returns-then-len-eq0
returns-then-len-eq0 g c = (
  λ is. let no : false ≡ true = is in absurd (cc),
  λ it.
      let same = one_reach c.args.session.now (window c.args.attribute.now.value) (reach_of c.in-Ok.reach) it.1
      c.in-Ok.ensures.reach it.2 in
      let lengths = ap (λ (r : Reach). length r.prefixes) same in
      let some = it.3 in
      let none = c.if-len-eq0.true in
      let len = c.len.ensures in
      absurd (omega (arith, lengths, some, none, len)),
)

pub returns-in-Ok : goal.returns-in-Ok
returns-in-Ok g c = (
  λ _.
      let kind = c.if-attribute-ne14.false in
      let none = c.if-len-eq0.false in
      let len = c.len.ensures in
      (omega (arith, kind), reach_of c.in-Ok.reach, c.in-Ok.ensures.reach, omega (arith, none, len)),
  λ _. refl,
)
