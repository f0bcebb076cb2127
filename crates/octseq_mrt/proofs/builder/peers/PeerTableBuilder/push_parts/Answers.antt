use Rattle.std.proofs.Common.{refl}
use Rattle.octseq_mrt.specs.Building.{same_table}
use Rattle.octseq_mrt.specs.Parsed.{peer_of}
use Rattle.octseq_mrt.proofs.Listing.{listed_long, listed_place, refused_by, table_more}
use Rattle.octseq_mrt.proofs.builder.peers.PeerTableBuilder.push_parts.Goals as goal

pub push_item-requires-clause-offset : goal.push_item-requires-clause-offset
push_item-requires-clause-offset g c = listed_place c.args.self.now.table.1

pub invariant_of-self : goal.invariant_of-self
invariant_of-self g c =
    let done = c.in-Ok.ensures in
    let more = table_more c.args.self.now.table (peer_of c.args.peer.now) c.requires.fits c.requires.octets done.count
    done.within done.ok in
    record { table = more }

pub returns-in-Ok-clause-ok : goal.returns-in-Ok-clause-ok
returns-in-Ok-clause-ok g c =
    let done = c.in-Ok.ensures in
    same_table c.self-1.given.0 (table_more c.args.self.now.table (peer_of c.args.peer.now) c.requires.fits
    c.requires.octets done.count done.within done.ok) refl

pub returns-in-Ok-clause-short : goal.returns-in-Ok-clause-short
returns-in-Ok-clause-short g c =
    let is = c.args.self.now.table.1 in
    refused_by _ is.many (listed_long (peer_of c.args.peer.now) is c.requires.octets) c.in-Ok.ensures.short

pub returns-in-Err-clause-err : goal.returns-in-Err-clause-err
returns-in-Err-clause-err g c = same_table c.in-Err.self-in-Err-1-own.given.0 c.args.self.now.table c.in-Err.ensures.err

pub returns-in-Err-clause-short : goal.returns-in-Err-clause-short
returns-in-Err-clause-short g c =
    let is = c.args.self.now.table.1 in
    refused_by _ is.many (listed_long (peer_of c.args.peer.now) is c.requires.octets) c.in-Err.ensures.short
