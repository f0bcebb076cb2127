use Rattle.std.proofs.Common.{◌+◌, length, sym, subst}
use Rattle.std.proofs.Math.Logic.{∥∥₁_map}
use Rattle.octseq.specs.Limit.{IsWithin}
use Rattle.octseq_dns_compress.specs.Composed.{message_limit}
use Rattle.octseq_dns.specs.Contents.{record_entry}
use Rattle.octseq_dns.specs.Pushed.{pushed_record}
use Rattle.octseq_dns.specs.Writes.{IsBuilt, ComposesMessage, least_limit}
use Rattle.octseq_dns.proofs.Pushed.{pushed, pushed_within}
use Rattle.octseq_dns.proofs.builder.SectionBuilder.push_record_counted.Goals as goal

pub invariant_of-self : goal.invariant_of-self
invariant_of-self g c =
    let in' = c.self.inside in
    subst (λ s. IsBuilt g.T.Compressor.most s in'.header in'.counts g.S.Section.reaches)
    (sym c.in_err-append_record.ensures.appended.err) c.self.invariant

pub invariant_of-self-2 : goal.invariant_of-self-2
invariant_of-self-2 g c =
    let in' = c.self.inside in
    let one = pushed_record c.args.owner.now (g.D.ComposeRecordData.rtype_of c.args.rdata.now) c.args.class c.args.ttl
    (g.D.ComposeRecordData.fields c.args.rdata.now) in (
      ∥∥₁_map c.self.invariant.0 (λ w. (
        g.S.RecordSection.more w.0 one,
        pushed g.met.S.RecordSection.takes_records g.T.Compressor.most w.0 one in'.message.state
            c.append_record.new.message.state
            c.put_header.new.self.state in'.header in'.counts _ c.octets_of.result w.1 c.self.invariant.1
            c.in_ok-append_record.ensures.fits c.in-Some.ensures.some.1 c.in-Some.ensures.some.0
            c.in_ok-append_record.ensures.appended.ok
            c.octets_of.ensures.octets c.put_header.ensures.state,
      )),
      subst g.S.Section.reaches (sym c.in-Some.ensures.some.0)
          (g.met.S.RecordSection.takes_records.reaches in'.counts (g.S.RecordSection.count in'.counts + 1)
          c.self.invariant.1),
    )

pub returns-clause-written : goal.returns-clause-written
returns-clause-written g c m is =
    let in' = c.self.inside in
    let one = pushed_record c.args.owner.now (g.D.ComposeRecordData.rtype_of c.args.rdata.now) c.args.class c.args.ttl
    (g.D.ComposeRecordData.fields c.args.rdata.now) in
    pushed g.met.S.RecordSection.takes_records g.T.Compressor.most m one in'.message.state
    c.append_record.new.message.state
    c.put_header.new.self.state in'.header in'.counts _ c.octets_of.result
    (subst (λ v. ComposesMessage g.T.Compressor.most m v.state v.header v.counts)
    (sym c.self.view_is) is) c.self.invariant.1
    c.in_ok-append_record.ensures.fits c.in-Some.ensures.some.1 c.in-Some.ensures.some.0
    c.in_ok-append_record.ensures.appended.ok
    c.octets_of.ensures.octets c.put_header.ensures.state

pub returns-clause-within : goal.returns-clause-within
returns-clause-within g c =
    let in' = c.self.inside in
    let one = pushed_record c.args.owner.now (g.D.ComposeRecordData.rtype_of c.args.rdata.now) c.args.class c.args.ttl
    (g.D.ComposeRecordData.fields c.args.rdata.now) in
    let limit = message_limit g.B.AsOctets.limit in
    subst (λ v. IsWithin (least_limit v.push_limit limit) (length c.put_header.new.self.state.octets)) c.self.view_is
    (pushed_within (least_limit in'.push_limit limit) g.T.Compressor.most in'.message.state
    c.append_record.new.message.state c.put_header.new.self.state in'.header in'.counts (c.in-Some.counts)
    g.S.Section.reaches c.octets_of.result (record_entry one) c.self.invariant
    c.in_ok-append_record.ensures.appended.within
    c.in_ok-append_record.ensures.appended.ok c.octets_of.ensures.octets c.put_header.ensures.state)
