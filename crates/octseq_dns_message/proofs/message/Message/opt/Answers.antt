use Rattle.std.proofs.Common.{refl, sym, ap, ◌∙◌}
use Rattle.octseq_dns_message.specs.Limited.{limited_left}
use Rattle.octseq_dns_message.specs.OfType.{of_type}
use Rattle.octseq_dns_message.specs.Parsed.{additionals_of}
use Rattle.octseq_dns_message.specs.Said.{record_of}
use Rattle.octseq_dns_message.proofs.Edns.{no_opt}
use Rattle.octseq_dns_message.proofs.message.Message.opt.Goals as goal

pub returns-in_err-from_record-clause-malformed : goal.returns-in_err-from_record-clause-malformed
returns-in_err-from_record-clause-malformed g c = λ _.
    no_opt (additionals_of c.args.self.now) (limited_left c.next.new.self) (record_of c.in-Some.entry)
    (ap (of_type 41) (sym c.additionals.ensures) ∙ sym c.limit_to-records.ensures ∙ c.in-Some.ensures.steps)
    (c.in_err-from_record.ensures.malformed refl)
