use Rattle.std.proofs.Common.{subst}
use Rattle.octseq_bgp.specs.Message.{IsMessage}
use Rattle.octseq_bgp.specs.Parsed.{message_of, open_of, update_of}
use Rattle.octseq_bgp.proofs.Rewriting.{open_in, update_in}
use Rattle.octseq_bgp.proofs.message.rewriting.rewrite_message.Goals as goal

pub rewrite_open-requires : goal.rewrite_open-requires
rewrite_open-requires g c =
    let s = c.args.session.now in
    let octets = c.args.octets.now in
    open_in s octets (open_of c.in-Open.it) c.are_octets.ensures
    (subst (λ m. IsMessage s octets (message_of m)) c.in-Open.is c.requires)

pub rewrite_update-requires : goal.rewrite_update-requires
rewrite_update-requires g c =
    let s = c.args.session.now in
    let octets = c.args.octets.now in
    update_in s octets (update_of c.in-Update.it) c.are_octets.ensures
    (subst (λ m. IsMessage s octets (message_of m)) c.in-Update.is c.requires)
