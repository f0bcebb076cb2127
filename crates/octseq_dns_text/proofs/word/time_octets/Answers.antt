use Rattle.std.proofs.Common.{rules}
use Rattle.octseq_dns_text.proofs.word.time_octets.Goals as goal

pub returns-in_err-time-clause-none : goal.returns-in_err-time-clause-none
returns-in_err-time-clause-none c = λ none octets (time, is, same). c.in_err-time.ensures.none (search rules) time is
