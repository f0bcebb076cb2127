use Rattle.std.proofs.Common.{◌≡◌, inl, inr, ◌∙◌}
use Rattle.octseq.specs.Window.{at, nested, whole}
use Rattle.octseq_dns.specs.Pushed.{pushed_record}
use Rattle.octseq_dns.specs.Rdata.{bare_rdata, rdata_fields, rtype_of}
use Rattle.octseq_dns.specs.Read.{labels_of}
use Rattle.octseq_dns.specs.Typed.{rdata_of}
use Rattle.octseq_dns.proofs.RdataRead.{bare_rtype}
use Rattle.octseq_dns_data.proofs.Rdata.{said_rtype}
use Rattle.octseq_c.proofs.AnswerBegun.{past_unlimited, short_alone}
use Rattle.octseq_c.proofs.answer.push_row.Goals as goal

pub unreachable-requires : goal.unreachable-requires
unreachable-requires g c =
    c.in_default.ensures.malformed c.requires.row.labels c.requires.row.name

pub returns-clause-pushed : goal.returns-clause-pushed
returns-clause-pushed g c =
    let row = c.args.row.now in
    let owner = c.in-Ok.owner in
    let is = c.in-Some.ensures.some in
    let parsed = rdata_of c.in-Some.found in
    let fields = rdata_fields (bare_rdata parsed) in
    let inside = at row.data_at (whole c.args.source.now) in
    let rtypes : rtype_of (bare_rdata parsed) ≡ row.rtype = bare_rtype parsed
    ∙ said_rtype row.rtype row.class inside (nested row.data_len inside) parsed is.says in
    let went = c.push_record.ensures.pushed in (
      pushed_record owner (rtype_of (bare_rdata parsed)) c.from_int-class.result c.from_secs-ttl.result fields,
      record {
        labels = labels_of owner;
        name = c.in-Ok.ensures.name;
        rdata = parsed;
        data_is = is;
        is = λ i. record {
          labels = labels_of owner;
          rtype = rtypes i;
          class = c.from_int-class.ensures i;
          ttl = c.from_secs-ttl.ensures i;
          fields = fields;
        };
      },
      c.push_record.ensures.written,
      λ err. elim (went.short (short_alone c.push_record.result err went.memory)) [
        | inl past ↦ inl (past_unlimited _ _ _ c.requires.unlimited c.requires.most past)
        | inr full ↦ inr full
      ],
    )
