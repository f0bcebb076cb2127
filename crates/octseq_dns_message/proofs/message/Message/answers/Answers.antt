use Rattle.std.proofs.Common.{◌≡◌, subst, sym}
use Rattle.octseq_dns_message.specs.Entry.{IsRecord}
use Rattle.octseq_dns_message.specs.Walk.{records_left}
use Rattle.octseq_format.specs.Row.{Holds}
use Rattle.octseq_dns_message.proofs.message.Message.answers.Goals as goal

pub at-requires : goal.at-requires
at-requires g c =
    let self = c.args.self.now in
    subst (λ w. Holds IsRecord w self.header.counts.ancount) (sym c.parser_at.ensures) self.answered

pub returns : goal.returns
returns g c =
    let self = c.args.self.now in
    subst (λ w. (held : Holds IsRecord w self.header.counts.ancount)
    → records_left c.at.result ≡ held.0) c.parser_at.ensures
    c.at.ensures self.answered
