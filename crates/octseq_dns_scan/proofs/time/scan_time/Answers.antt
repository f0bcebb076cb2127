use Rattle.std.proofs.Common.{◌≡◌, length, rules}
use Rattle.octseq_dns_scan.proofs.Calendar.{no_moment}
use Rattle.octseq_dns_scan.proofs.time.scan_time.Goals as goal

pub returns-in_err-scan_digits-clause-none : goal.returns-in_err-scan_digits-clause-none
returns-in_err-scan_digits-clause-none c = λ _ time.
    let long : length c.args.word.now ≡ 14 = search rules in
    no_moment c.args.word.now time long (c.in_err-scan_digits.ensures)
