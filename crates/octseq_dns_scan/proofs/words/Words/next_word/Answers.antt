use Rattle.std.proofs.Common.{rules}
use Rattle.octseq_dns_scan.proofs.Taken.{not_taken, none_taken}
use Rattle.octseq_dns_scan.proofs.words.Words.next_word.Goals as goal

pub returns-in_err-rest-clause-none : goal.returns-in_err-rest-clause-none
returns-in_err-rest-clause-none c = λ _. not_taken _ (c.in_err-rest.ensures.none (search rules))

pub returns-then-len-eq0-clause-none : goal.returns-then-len-eq0-clause-none
returns-then-len-eq0-clause-none c = λ _.
    none_taken c.args.self.now.ahead.now c.in_ok-rest.rest.now c.in_ok-rest.ensures.some c.if-len-eq0.true
