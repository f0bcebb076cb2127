use Rattle.std.proofs.Common.{◌∙◌, ap}
use Rattle.octseq_bgp.specs.Composed.{message_octets}
use Rattle.octseq_bgp.proofs.Updates.{held_fits, held_octets}
use Rattle.octseq_bgp.proofs.message.update_builder.UpdateBuilder.finish.Goals as goal

pub returns-clause-octets : goal.returns-clause-octets
returns-clause-octets g c =
    rw (← c.self.view_is) (c.finish.ensures.octets ∙ ap (message_octets 2) (held_octets c.self.inside.held))

pub returns-clause-fits : goal.returns-clause-fits
returns-clause-fits g c = rw (← c.self.view_is) (held_fits c.self.inside.held)
