use Rattle.std.proofs.Common.{rules, ℕ, List, ◌++◌, ap, sym, ◌∙◌, append_assoc}
use Rattle.std.proofs.Output.{has_written_append}
use Rattle.std.specs.List.{flat_map}
use Rattle.std.specs.Fmt.{decimal}
use Rattle.octseq_bgp.specs.OctetsText.{spaced}
use Rattle.octseq_bgp.specs.PathOf.{asns_left}
use Rattle.octseq_bgp.proofs.text.value.write_asns.Goals as goal

pub loop-asn-preserved : goal.loop-asn-preserved
loop-asn-preserved g c = λ plain.
    let so_far = c.loop-asn.invariant plain in
    let more = asns_left c.next.new.self in
    let text : List ℕ = spaced (decimal c.in-Some.asn.0) in (
      so_far.0 ++ text,
      has_written_append _ _ _ _ _ _ so_far.1 (search rules),
      append_assoc so_far.0 text (flat_map (λ n. spaced (decimal n)) more)
          ∙ ap (λ row. so_far.0 ++ flat_map (λ n. spaced (decimal n)) row) (sym c.in-Some.ensures.steps) ∙ so_far.2,
    )
