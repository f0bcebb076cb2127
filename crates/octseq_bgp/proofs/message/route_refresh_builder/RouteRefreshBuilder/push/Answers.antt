use Rattle.octseq_bgp.proofs.WrittenMessages.{route_refresh_grows, pushed, some_old}
use Rattle.octseq_bgp.proofs.message.route_refresh_builder.RouteRefreshBuilder.push.Goals as goal

pub extend-requires-clause-some : goal.extend-requires-clause-some
extend-requires-clause-some g c = some_old route_refresh_grows c.self.invariant

pub invariant_of-self : goal.invariant_of-self
invariant_of-self g c = (pushed route_refresh_grows c.self.invariant c.extend.ensures.extends).now

pub returns-clause-ok : goal.returns-clause-ok
returns-clause-ok g c =
    rw (← c.self.view_is) (pushed route_refresh_grows c.self.invariant c.extend.ensures.extends).ok

pub returns-clause-err : goal.returns-clause-err
returns-clause-err g c =
    rw (← c.self.view_is) (pushed route_refresh_grows c.self.invariant c.extend.ensures.extends).err

pub returns-clause-short : goal.returns-clause-short
returns-clause-short g c =
    rw (← c.self.view_is) (pushed route_refresh_grows c.self.invariant c.extend.ensures.extends).short

pub returns-clause-memory : goal.returns-clause-memory
returns-clause-memory g c =
    (pushed route_refresh_grows c.self.invariant c.extend.ensures.extends).memory
