use Rattle.std.proofs.Common.{◌^◌, refl, sym, ap, ◌∙◌, subst}
use Rattle.std.specs.Prelude.{◌<◌}
use Rattle.octseq.specs.Integer.{octets_be}
use Rattle.octseq_bgp.specs.Lists.{parameter_of}
use Rattle.octseq_bgp.specs.OneOpen.{says_parameter}
use Rattle.octseq_bgp.specs.Open.{length_octets}
use Rattle.octseq_bgp.proofs.AnewOpens.{parameter_kept}
use Rattle.octseq_bgp.proofs.Appending.{if_ok}
use Rattle.octseq_bgp.proofs.RewrittenOpens.{both_put, head_within, inside_within}
use Rattle.octseq_bgp.proofs.message.rewriting.open.put_parameter.Goals as goal

pub put_head-requires-clause-fit : goal.put_head-requires-clause-fit
put_head-requires-clause-fit g c =
    subst (λ n. n < 256 ^ length_octets c.args.long) (sym c.remaining-len.ensures.rest) c.requires.fit

pub put_head-requires-clause-within : goal.put_head-requires-clause-within
put_head-requires-clause-within g c =
    head_within g.B.AsOctets.limit c.args.long _ (says_parameter (parameter_of c.args.parameter.now)) _ _
    c.requires.within

pub put_inside-requires-clause-within : goal.put_inside-requires-clause-within
put_inside-requires-clause-within g c =
    inside_within g.B.AsOctets.limit c.args.long _ _ (says_parameter (parameter_of c.args.parameter.now)) _ _
    c.requires.within c.in_ok-put_head.ensures.puts.ok

pub returns-clause-ok : goal.returns-clause-ok
returns-clause-ok g c = if_ok c.put_inside.result (λ put.
    let kept = parameter_kept (parameter_of c.args.parameter.now) put.0 c.requires.sound put.1 in (
      put.0,
      put.1,
      both_put c.args.long _ _ _ put.0 c.args.parameter.now.kind _ _ c.in_ok-put_head.ensures.puts.ok put.2
          (sym kept.kind) (ap (octets_be (length_octets c.args.long)) (c.remaining-len.ensures.rest
          ∙ sym kept.octets.long))
          refl,
    )) c.put_inside.ensures.ok
