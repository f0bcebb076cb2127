-- The days of the months so far are added.
use Rattle.std.proofs.Common.{◌≡◌, ◌-◌, ◌*◌, ◌≤◌}
use Rattle.octseq_dns_scan.specs.Time.{days_of_months}
use Rattle.octseq_dns_scan.proofs.time.days_before_month.Given as goal

abbrev pub invariant-loop-earlier : goal.invariant-loop-earlier
invariant-loop-earlier l = record {
  days : l.days ≡ days_of_months l.leap (l.earlier - 1);
  most : l.days ≤ 31 * (l.earlier - 1);
}
