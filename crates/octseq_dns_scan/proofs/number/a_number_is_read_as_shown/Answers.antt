use Rattle.octseq_dns_scan.proofs.Numerals.{shown_digits, shown_value, shown_word, shown_short}
use Rattle.octseq_dns_scan.proofs.number.a_number_is_read_as_shown.Goals as goal

pub returns : goal.returns
returns c = record { digits = shown_digits; value = shown_value; word = shown_word; ttl = shown_short }
