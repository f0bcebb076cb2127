use Rattle.std.proofs.Common.{refl}
use Rattle.octseq_mrt.specs.Building.{pushed_route, same_rib}
use Rattle.octseq_mrt.proofs.Listing.{listed_long, listed_place, refused_by, rib_more}
use Rattle.octseq_mrt.proofs.builder.rib.RibBuilder.push_parts.Goals as goal

pub push_item-requires-clause-offset : goal.push_item-requires-clause-offset
push_item-requires-clause-offset g c = listed_place c.args.self.now.rib.1

pub invariant_of-self : goal.invariant_of-self
invariant_of-self g c =
    let a = c.args in
    let done = c.in-Ok.ensures in
    let e = pushed_route a.peer_index a.originated_time a.path_id a.attributes.now in
    record { rib = rib_more a.self.now.rib e c.requires.fits c.requires.octets done.count done.within done.ok }

pub returns-in-Ok-clause-ok : goal.returns-in-Ok-clause-ok
returns-in-Ok-clause-ok g c =
    let a = c.args in
    let done = c.in-Ok.ensures in
    let e = pushed_route a.peer_index a.originated_time a.path_id a.attributes.now in
    same_rib c.self-1.given.0 (rib_more a.self.now.rib e c.requires.fits c.requires.octets done.count done.within
    done.ok) refl

pub returns-in-Ok-clause-short : goal.returns-in-Ok-clause-short
returns-in-Ok-clause-short g c =
    let a = c.args in
    let is = a.self.now.rib.1 in
    let e = pushed_route a.peer_index a.originated_time a.path_id a.attributes.now in
    refused_by _ is.many (listed_long e is c.requires.octets) c.in-Ok.ensures.short

pub returns-in-Err-clause-err : goal.returns-in-Err-clause-err
returns-in-Err-clause-err g c = same_rib c.in-Err.self-in-Err-1-own.given.0 c.args.self.now.rib c.in-Err.ensures.err

pub returns-in-Err-clause-short : goal.returns-in-Err-clause-short
returns-in-Err-clause-short g c =
    let a = c.args in
    let is = a.self.now.rib.1 in
    let e = pushed_route a.peer_index a.originated_time a.path_id a.attributes.now in
    refused_by _ is.many (listed_long e is c.requires.octets) c.in-Err.ensures.short
