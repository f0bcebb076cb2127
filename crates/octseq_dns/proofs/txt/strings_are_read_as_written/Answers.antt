use Rattle.octseq_dns.proofs.Spelled.{strings_are_read}
use Rattle.octseq_dns.proofs.txt.strings_are_read_as_written.Goals as goal

pub returns : goal.returns
returns c strings are = strings_are_read strings are
