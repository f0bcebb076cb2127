-- The record that is pushed, or refused.
use Rattle.std.proofs.Common.{rules}
use Rattle.octseq_dns.proofs.LeastLimit.{within_second}
use Rattle.octseq_dns.specs.Pushed.{pushed_record}
use Rattle.octseq_dns.specs.Rdata.{bare_rdata, rdata_fields, rtype_of}
use Rattle.octseq_dns.specs.Writes.{least_limit}
use Rattle.octseq_dns_compress.specs.Composed.{message_limit}
use Rattle.octseq_dns_data.specs.Typed.{rdata_of}
use Rattle.octseq_dns_name.specs.Read.{labels_of}
use Rattle.octseq_dns_compose.specs.MessageText.{RecordLine}
use Rattle.octseq_dns_compose.specs.Read.{head_of}
use Rattle.octseq_dns_compose.proofs.MessageTexts.{on_ok, record_said}
use Rattle.octseq_dns_compose.proofs.Overrun.{push_exceeds}
use Rattle.octseq_dns_compose.proofs.message.push_record.Goals as goal

pub returns : goal.returns
returns g c =
    let head = c.args.head.now in
    let said : RecordLine = record { head = head_of head; octets = c.args.octets.now } in
    let parsed = rdata_of c.data_of-said.result in
    let bare = bare_rdata parsed in
    let r = pushed_record c.parsed-owner.result (rtype_of bare) head.class head.ttl (rdata_fields bare) in
    let alone = c.data_of-said.ensures in
    let is = record_said said (labels_of c.parsed-owner.result) parsed c.parsed-owner.ensures alone.rtype alone.says in
    let message = c.args.message.now in
    let limit = message_limit g.B.AsOctets.limit in
    let pushed = c.push_record.ensures in
    record {
      written = on_ok c.push_record.result _ _ (λ written. (r, is, written)) pushed.written;
      within = on_ok c.push_record.result _ _ (within_second message.push_limit limit _) pushed.within;
      short = λ short. (
        r,
        is,
        push_exceeds g.met.S.RecordSection.takes_records g.T.Compressor.most (least_limit message.push_limit limit) r
            message.state message.header message.counts pushed.reaches (pushed.pushed.short short),
      );
      memory = search rules;
      push_limit = search rules;
      borrows = search rules;
    }
