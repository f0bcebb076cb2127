use Rattle.std.proofs.Common.{rules, arith}
use Rattle.octseq_format.proofs.Quics.{short, leads, leads_1}
use Rattle.octseq_format.proofs.quic.leading.Goals as goal

pub returns-in_err-first-clause-none : goal.returns-in_err-first-clause-none
returns-in_err-first-clause-none c = λ _. short 0 c.args.octets.now (search rules) (search rules)

pub returns-in-0-clause-some : goal.returns-in-0-clause-some
returns-in-0-clause-some c = leads_1 c.args.octets.now _ (search rules) (search rules) (search rules)

pub returns-in_err-get-in-1-clause-none : goal.returns-in_err-get-in-1-clause-none
returns-in_err-get-in-1-clause-none c = λ _. short 1 c.args.octets.now (search rules) (search rules)

pub returns-in_ok-get-in-1-clause-some : goal.returns-in_ok-get-in-1-clause-some
returns-in_ok-get-in-1-clause-some c =
    leads 1 c.args.octets.now (search rules) (search rules) _ (search rules)

pub returns-in_err-get-in-2-clause-none : goal.returns-in_err-get-in-2-clause-none
returns-in_err-get-in-2-clause-none c = λ _. short 2 c.args.octets.now (search rules) (search rules)

pub returns-in_ok-get-in-2-clause-some : goal.returns-in_ok-get-in-2-clause-some
returns-in_ok-get-in-2-clause-some c =
    leads 2 c.args.octets.now (search rules) (search rules) _ (search rules)

pub returns-in_err-get-in_default-clause-none : goal.returns-in_err-get-in_default-clause-none
returns-in_err-get-in_default-clause-none c = λ _. short 3 c.args.octets.now (search rules) (search rules)

pub returns-in_ok-get-in_default-clause-some : goal.returns-in_ok-get-in_default-clause-some
returns-in_ok-get-in_default-clause-some c =
    leads 3 c.args.octets.now (search rules) (search rules) _ (search rules)
