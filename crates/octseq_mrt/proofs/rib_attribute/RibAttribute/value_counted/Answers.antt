use Rattle.std.proofs.Common.{refl, subst}
use Rattle.octseq.specs.Parser.{window}
use Rattle.octseq_bgp.specs.Value.{IsValue}
use Rattle.octseq_bgp.specs.ValueOf.{value_of}
use Rattle.octseq_mrt.proofs.rib_attribute.RibAttribute.value_counted.Goals as goal

pub returns-in-None-clause-value : goal.returns-in-None-clause-value
returns-in-None-clause-value g c = (
  subst (λ a. IsValue a.session a.type_code (window a.value) (value_of c.value_counted.result)) c.path_attribute.ensures
      c.value_counted.ensures.value,
  c.in-None.ensures.none refl,
)
