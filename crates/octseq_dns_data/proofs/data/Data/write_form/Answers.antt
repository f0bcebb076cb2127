use Rattle.std.proofs.Common.{subst}
use Rattle.octseq_dns_data.specs.Data.{FitsForm}
use Rattle.octseq_dns_data.specs.Typed.{rdata_of}
use Rattle.octseq_dns_data.proofs.data.Data.write_form.Goals as goal

pub write-requires-in-Rrsig : goal.write-requires-in-Rrsig
write-requires-in-Rrsig g c = subst (λ found. FitsForm (rdata_of found)) c.in-Rrsig.is c.has_octets.ensures

pub returns-in-Rrsig : goal.returns-in-Rrsig
returns-in-Rrsig g c = rw c.in-Rrsig.is c.write-in-Rrsig.ensures
