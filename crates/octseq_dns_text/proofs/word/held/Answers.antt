use Rattle.std.proofs.Common.{◌≡◌, sym, subst, rules}
use Rattle.octseq.proofs.WrittenBack.{AreOctets}
use Rattle.octseq_dns_text.proofs.WordTexts.{octets_fit}
use Rattle.octseq_dns_text.proofs.word.held.Goals as goal

pub returns-clause-octets : goal.returns-clause-octets
returns-clause-octets c =
    let same : c.append_slice.new.self.content ≡ c.args.octets.now = search rules in
    subst AreOctets (sym same) (octets_fit c.args.octets.now c.type_inv.octets)
