use Rattle.std.proofs.Common.{◌≡◌, take, sym, subst, arith}
use Rattle.std.proofs.lemmas.List.{take_all}
use Rattle.std.specs.List.{All}
use Rattle.octseq_bgp.proofs.message.reader.is_marked.Goals as goal

pub returns-then-octets-lt-MARKER : goal.returns-then-octets-lt-MARKER
returns-then-octets-lt-MARKER c =
    let octets = c.args.octets.now in
    let few = c.if-octets-lt-MARKER.true in
    let same : take 16 octets ≡ octets = take_all 16 octets (omega (arith, few)) in (
      λ is. subst (All (λ octet. octet ≡ 255)) (sym same) (c.are_255.ensures.0 is),
      λ marked. c.are_255.ensures.1 (subst (All (λ octet. octet ≡ 255)) same marked),
    )
