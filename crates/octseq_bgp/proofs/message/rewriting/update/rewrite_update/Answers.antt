use Rattle.std.proofs.Common.{refl, sym, ◌∙◌}
use Rattle.std.proofs.Math.Bool.{true≢false}
use Rattle.octseq_bgp.specs.Parsed.{update_of}
use Rattle.octseq_bgp.proofs.Appending.{is_short, not_short}
use Rattle.octseq_bgp.proofs.Rewriting.{update_anew_long, update_ready}
use Rattle.octseq_bgp.proofs.message.rewriting.update.rewrite_update.Goals as goal

pub sizes_of-sizes-requires : goal.sizes_of-sizes-requires
sizes_of-sizes-requires g c =
    (update_ready c.requires.0 c.requires.1 (update_of c.args.update.now) c.requires.2 c.requires.3 c.requires.4).size

pub put_update-requires-clause-ready : goal.put_update-requires-clause-ready
put_update-requires-clause-ready g c =
    update_ready c.requires.0 c.requires.1 (update_of c.args.update.now) c.requires.2 c.requires.3 c.requires.4

pub returns-then-is_past-clause-short : goal.returns-then-is_past-clause-short
returns-then-is_past-clause-short g c =
    let u = update_of c.args.update.now in
    let ready = update_ready c.requires.0 c.requires.1 u c.requires.2 c.requires.3 c.requires.4 in
    let row = c.read_values.ensures in (
      (λ _. is_short g.B.AsOctets.limit c.sizes_of-sizes.result.total
          (λ out is. update_anew_long u out ready is ∙ sym c.sizes_of-sizes.ensures.total)
          (c.if-is_past.ensures.0 refl) _
          (row.0, row.1, refl)),
      (λ _. tt),
    )

pub returns-in-Ok-clause-short : goal.returns-in-Ok-clause-short
returns-in-Ok-clause-short g c =
    let u = update_of c.args.update.now in
    let ready = update_ready c.requires.0 c.requires.1 u c.requires.2 c.requires.3 c.requires.4 in
    not_short g.B.AsOctets.limit c.sizes_of-sizes.result.total
    (λ out is. update_anew_long u out ready is ∙ sym c.sizes_of-sizes.ensures.total)
    (λ past. true≢false (sym (c.if-is_past.ensures.1 past)))

pub returns-in-Err-clause-short : goal.returns-in-Err-clause-short
returns-in-Err-clause-short g c =
    let u = update_of c.args.update.now in
    let ready = update_ready c.requires.0 c.requires.1 u c.requires.2 c.requires.3 c.requires.4 in
    not_short g.B.AsOctets.limit c.sizes_of-sizes.result.total
    (λ out is. update_anew_long u out ready is ∙ sym c.sizes_of-sizes.ensures.total)
    (λ past. true≢false (sym (c.if-is_past.ensures.1 past)))
