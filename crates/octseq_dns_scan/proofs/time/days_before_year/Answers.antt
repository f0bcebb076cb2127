use Rattle.std.proofs.Common.{◌-◌, sym}
use Rattle.octseq_dns_scan.proofs.Calendar.{years_counted}
use Rattle.octseq_dns_scan.proofs.time.days_before_year.Goals as goal

pub returns-clause-days : goal.returns-clause-days
returns-clause-days c = sym (years_counted (c.args.year - 1970))
