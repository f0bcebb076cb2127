use Rattle.std.proofs.Common.{ap}
use Rattle.octseq.specs.Parser.{window}
use Rattle.octseq_dns_message.specs.OneOption.{options_once}
use Rattle.octseq_dns_message.proofs.opt.Opt.options.Goals as goal

pub returns : goal.returns
returns g c =
    let self = c.args.self.now in
    ap (λ held. held.0) (options_once (window self.parser) c.result-2-1.given.0 self.row)
