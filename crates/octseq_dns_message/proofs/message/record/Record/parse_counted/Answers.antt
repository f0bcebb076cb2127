use Rattle.std.proofs.Common.{refl}
use Rattle.octseq.specs.Parser.{window}
use Rattle.octseq_dns_message.specs.Entry.{IsAfterOwner, Record}
use Rattle.octseq_dns_name.specs.Read.{labels_of, name_of}
use Rattle.octseq_dns_message.proofs.Formats.{none_after_name}
use Rattle.octseq_dns_message.proofs.Offsets.{record_of_window}
use Rattle.octseq_dns_message.proofs.message.record.Record.parse_counted.Goals as goal

pub returns-in_err-owner-clause-malformed : goal.returns-in_err-owner-clause-malformed
returns-in_err-owner-clause-malformed g c = λ _ r v is.
    c.in_err-owner.ensures.malformed refl r.owner.labels is.0 is.1.1

pub returns-in_err-rtype-clause-malformed : goal.returns-in_err-rtype-clause-malformed
returns-in_err-rtype-clause-malformed g c = λ _ r v is.
    none_after_name IsAfterOwner (window c.args.parser.now) (window c.parse_counted.new.parser)
    (labels_of c.in_ok-owner.owner) c.in_ok-owner.ensures.name (c.in_err-rtype.ensures.malformed refl)
    (r.owner, (r.rtype, (r.class, (r.ttl, r.rdata)))) v is

pub invariant_of-result : goal.invariant_of-result
invariant_of-result g c =
    let entry : Record = record {
      owner = name_of c.in_ok-owner.owner;
      rtype = c.in_ok-rtype.rtype;
      class = c.in_ok-rtype.class;
      ttl = c.in_ok-rtype.ttl;
      rdata = window c.in_ok-rtype.rdata;
    } in
    let within = record_of_window (window c.args.parser.now) (window c.parse_after_owner.new.parser) entry (
      window c.parse_counted.new.parser,
      (c.in_ok-owner.ensures.place, c.in_ok-owner.ensures.name),
      c.in_ok-rtype.ensures.value,
    ) in
    record { octets = within.0; within = within.1 }
