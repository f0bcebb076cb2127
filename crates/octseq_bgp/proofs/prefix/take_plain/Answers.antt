use Rattle.std.proofs.Common.{sym, subst}
use Rattle.octseq.specs.Parser.{window}
use Rattle.octseq_format.specs.Row.{Holds}
use Rattle.octseq_bgp.specs.Fills.{TakesFirst}
use Rattle.octseq_bgp.specs.Parts.{IsPrefix}
use Rattle.octseq_bgp.specs.Prefix.{most_bits}
use Rattle.octseq_bgp.proofs.prefix.take_plain.Goals as goal

pub take_first-requires : goal.take_first-requires
take_first-requires g c =
    subst (λ a. Holds (IsPrefix (most_bits a)) (window c.args.parser) c.args.left) c.in-Ipv4.is c.requires

pub take_first-requires-in-Ipv6 : goal.take_first-requires-in-Ipv6
take_first-requires-in-Ipv6 g c =
    subst (λ a. Holds (IsPrefix (most_bits a)) (window c.args.parser) c.args.left) c.in-Ipv6.is c.requires

pub returns-in-Ipv4 : goal.returns-in-Ipv4
returns-in-Ipv4 g c =
    subst (λ a. TakesFirst (IsPrefix (most_bits a)) (λ it. (it.0, window it.1)) (λ after. window after)
    (window c.args.parser) c.args.left
    c.take_first.result) (sym c.in-Ipv4.is) c.take_first.ensures

pub returns-in-Ipv6 : goal.returns-in-Ipv6
returns-in-Ipv6 g c =
    subst (λ a. TakesFirst (IsPrefix (most_bits a)) (λ it. (it.0, window it.1)) (λ after. window after)
    (window c.args.parser) c.args.left
    c.take_first-in-Ipv6.result) (sym c.in-Ipv6.is) c.take_first-in-Ipv6.ensures
