use Rattle.std.proofs.Common.{refl}
use Rattle.octseq_dns_message.specs.Edns.{option_of}
use Rattle.octseq_dns_message.proofs.OptionData.{no_subnet, no_cookie, no_error}
use Rattle.octseq_dns_message.proofs.opt.EdnsOption.typed.Goals as goal

pub returns-in_err-read-in-8-clause-none : goal.returns-in_err-read-in-8-clause-none
returns-in_err-read-in-8-clause-none g c = λ _.
    no_subnet (option_of c.args.self.now) c.in-8.is (c.in_err-read-in-8.ensures.none refl)

pub returns-in_err-read-in-10-clause-none : goal.returns-in_err-read-in-10-clause-none
returns-in_err-read-in-10-clause-none g c = λ _.
    no_cookie (option_of c.args.self.now) c.in-10.is (c.in_err-read-in-10.ensures.none refl)

pub returns-in_err-read-in-15-clause-none : goal.returns-in_err-read-in-15-clause-none
returns-in_err-read-in-15-clause-none g c = λ _.
    no_error (option_of c.args.self.now) c.in-15.is (c.in_err-read-in-15.ensures.none refl)
