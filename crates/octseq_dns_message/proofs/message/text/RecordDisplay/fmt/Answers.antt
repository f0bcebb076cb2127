use Rattle.std.proofs.Common.{subst}
use Rattle.std.specs.Fmt.{WritesOnOk}
use Rattle.octseq_dns_message.specs.MessageText.{record_text}
use Rattle.octseq_dns_message.specs.Said.{record_of}
use Rattle.octseq_dns_data.specs.Typed.{rdata_of}
use Rattle.octseq_dns_message.proofs.RecordData.{one_said}
use Rattle.octseq_dns_message.proofs.message.text.RecordDisplay.fmt.Goals as goal

pub returns : goal.returns
returns g c = record {
  shown = λ rdata is.
      let entry = record_of c.args.self.now in
      subst (λ said. WritesOnOk g.W.Write.write_str_gives c.args.f.now c.write_record.result (record_text entry said)
      c.write_record.new.f) (one_said entry (rdata_of c.data-rdata.result) rdata c.data-rdata.ensures.rdata is)
      c.write_record.ensures;
}
