use Rattle.octseq_bgp.proofs.message.open_builder.OpenBuilder.push.Goals as goal

pub returns-clause-pushes : goal.returns-clause-pushes
returns-clause-pushes g c =
    let was = c.self.inside.is_open in
    let now = c.self-1.given.0 in
    rw (← c.self.view_is) (c.append_parameter.ensures.pushes was.0 now.0 was.1 now.1)
