-- What contracts see of messages that were read.
use Rattle.octseq.specs.declared.AsOctets.{Ghosts}
use Rattle.octseq.specs.Parser.{window}
use Rattle.octseq.specs.Window.{Window}
use Rattle.octseq_bgp.specs.Lists.{attributes_left, attributes_session, parameters_left, prefixes_left}
use Rattle.octseq_bgp.specs.Message as said
use Rattle.octseq_bgp.specs.Open.{Open}
use Rattle.octseq_bgp.specs.Update.{Update}
use Rattle.octseq_bgp.specs.declared.message.Message.{Message}
use Rattle.octseq_bgp.specs.declared.message.Message.TheVariants as kind
use Rattle.octseq_bgp.specs.declared.message.open.OpenMessage.{OpenMessage}
use Rattle.octseq_bgp.specs.declared.message.update.UpdateMessage.{UpdateMessage}
use Rattle.octseq_bgp.specs.declared.message.update.UpdateParts.{UpdateParts}

-- the three parts of an UPDATE
abbrev pub update_parts_of : {R : Type 0} {g : Ghosts R} → UpdateParts R g → Window × (Window × Window)
update_parts_of p = (window p.withdrawn, (window p.path_attributes, window p.announced))

-- an UPDATE
abbrev pub update_of : {R : Type 0} {g : Ghosts R} → UpdateMessage R g → Update
update_of u = record {
  session = attributes_session u.path_attributes;
  withdrawn = prefixes_left u.withdrawn;
  attributes = attributes_left u.path_attributes;
  announced = prefixes_left u.announced;
}

-- an OPEN
abbrev pub open_of : {R : Type 0} {g : Ghosts R} → OpenMessage R g → Open
open_of o = record {
  version = o.version;
  my_asn = o.my_asn;
  holdtime = o.holdtime;
  identifier = o.identifier;
  parameters = parameters_left o.parameters;
}

-- a message
abbrev pub message_of : {R : Type 0} {g : Ghosts R} → Message R g → said.Message
message_of (kind.Open o) = said.Message.opens (open_of o)
message_of (kind.Update u) = said.Message.update (update_of u)
message_of (kind.Notification n) = said.Message.notification (n.code, (n.subcode, window n.«data»))
message_of kind.Keepalive = said.Message.keepalive
message_of (kind.RouteRefresh r) = said.Message.route_refresh (r.afi, (r.subtype, (r.safi, window r.orf)))
