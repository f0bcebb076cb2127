use Rattle.octseq_bgp.specs.Handling.{IsRank}
use Rattle.octseq_bgp.proofs.message.handling.attribute_handling.Goals as goal

pub returns-in-Some : goal.returns-in-Some
returns-in-Some g c =
    IsRank.known (λ is. let not = c.if-again.false in cc) c.in-Some.kind c.in-Some.ensures.some c.is_typed-typed.result
    c.names_family-names.result c.is_typed-typed.ensures c.names_family-names.ensures c.type_handling.ensures
