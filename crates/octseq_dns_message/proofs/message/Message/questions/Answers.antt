use Rattle.std.proofs.Common.{◌≡◌, subst, sym}
use Rattle.octseq_dns_message.specs.Entry.{IsQuestion}
use Rattle.octseq_dns_message.specs.Walk.{questions_left}
use Rattle.octseq_format.specs.Row.{Holds}
use Rattle.octseq_dns_message.proofs.message.Message.questions.Goals as goal

pub at-requires : goal.at-requires
at-requires g c =
    let self = c.args.self.now in
    subst (λ w. Holds IsQuestion w self.header.counts.qdcount) (sym c.parser_at.ensures) self.asked

pub returns : goal.returns
returns g c =
    let self = c.args.self.now in
    subst (λ w. (held : Holds IsQuestion w self.header.counts.qdcount)
    → questions_left c.at.result ≡ held.0) c.parser_at.ensures
    c.at.ensures self.asked
