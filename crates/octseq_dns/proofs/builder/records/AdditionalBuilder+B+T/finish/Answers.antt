use Rattle.std.proofs.Common.{subst}
use Rattle.octseq_dns.specs.Writes.{IsBuilt, UpToAdditionals}
use Rattle.octseq_dns.proofs.builder.records.AdditionalBuilder+B+T.finish.Goals as goal

pub returns-clause-message : goal.returns-clause-message
returns-clause-message g c =
    subst (λ v. IsBuilt g.T.Compressor.most v.state v.header v.counts UpToAdditionals) c.self.view_is c.self.invariant
