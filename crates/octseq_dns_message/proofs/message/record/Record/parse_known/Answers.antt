use Rattle.std.proofs.Common.{◌≡◌, ◌≤◌}
use Rattle.std.proofs.Math.Logic.{∥∥₁_prop, ∥∥₁_elim}
use Rattle.std.specs.Coded.{Coded-set, coded_list, coded_ℕ, le_prop}
use Rattle.octseq.specs.Parser.{window}
use Rattle.octseq_dns_message.specs.Entry.{IsAfterOwner, Record}
use Rattle.octseq_dns_message.specs.OneEntry.{record_parts}
use Rattle.octseq_dns_name.proofs.Known.{ok_unless}
use Rattle.octseq_dns_name.specs.Name.{IsName}
use Rattle.octseq_dns_name.specs.Read.{labels_of, name_of}
use Rattle.octseq_dns_message.proofs.Known.{known_name, known_after}
use Rattle.octseq_dns_message.proofs.Offsets.{record_of_window}
use Rattle.octseq_dns_message.proofs.message.record.Record.parse_known.Goals as goal

pub parse_known-owner-requires : goal.parse_known-owner-requires
parse_known-owner-requires g c = known_name record_parts IsAfterOwner (window c.args.parser.now) c.requires

pub infallible-rtype-requires : goal.infallible-rtype-requires
infallible-rtype-requires g c = ok_unless c.parse_after_owner.result (λ refused.
    known_after record_parts IsAfterOwner (window c.args.parser.now) (window c.parse_known-owner.new.parser)
    (labels_of c.parse_known-owner.result) c.requires c.parse_known-owner.ensures.name
    (c.parse_after_owner.ensures.malformed refused))

pub invariant_of-result : goal.invariant_of-result
invariant_of-result g c =
    let entry : Record = record {
      owner = name_of c.parse_known-owner.result;
      rtype = c.infallible-rtype.result.0;
      class = c.infallible-rtype.result.1;
      ttl = c.infallible-rtype.result.2;
      rdata = window c.infallible-rtype.result.3;
    } in
    let after = rw c.infallible-rtype.ensures at c.parse_after_owner.ensures.value in
    let u = window c.parse_known-owner.new.parser in
    let inside : IsName (window c.args.parser.now) entry.owner.labels u
    → (entry.rdata.octets ≡ entry.owner.place.octets) × (entry.rdata.end ≤ entry.owner.place.end) =
    λ name. record_of_window (window c.args.parser.now) (window c.parse_after_owner.new.parser) entry
    (u, (c.parse_known-owner.ensures.place, name), after) in
    record {
      octets = ∥∥₁_elim c.parse_known-owner.ensures.name (Coded-set (coded_list coded_ℕ) _ _) (λ name. (inside name).0);
      within = ∥∥₁_elim c.parse_known-owner.ensures.name le_prop (λ name. (inside name).1);
    }

pub returns : goal.returns
returns g c =
    let after = rw c.infallible-rtype.ensures at c.parse_after_owner.ensures.value in
    record {
      entry = ∥∥₁_elim c.parse_known-owner.ensures.name ∥∥₁_prop
          (λ name. ∣ (window c.parse_known-owner.new.parser, (c.parse_known-owner.ensures.place, name), after) ∣₁);
    }
