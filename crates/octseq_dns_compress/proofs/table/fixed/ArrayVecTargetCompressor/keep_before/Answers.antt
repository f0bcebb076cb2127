use Rattle.std.proofs.Common.{rules}
use Rattle.arrayvec.proofs.ArrayVecLemmas.{filter-from_retain}
use Rattle.octseq_dns_compress.proofs.table.fixed.ArrayVecTargetCompressor.keep_before.Goals as goal

pub returns : goal.returns
returns g c = filter-from_retain _ _ _ (λ x b f' y k. search rules) _ _ c.retain.ensures.filtered
