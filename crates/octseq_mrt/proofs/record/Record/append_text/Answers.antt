use Rattle.octseq_mrt.specs.Parsed.{record_of}
use Rattle.octseq_mrt.proofs.Texts.{one_record_text}
use Rattle.octseq_mrt.proofs.record.Record.append_text.Goals as goal

pub append_lines-requires : goal.append_lines-requires
append_lines-requires g c = one_record_text (record_of c.args.self.now)
