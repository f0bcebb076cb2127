use Rattle.octseq_utf8.specs.Reading.{parts_of}
use Rattle.octseq_utf8.proofs.LossyTexts.{splits_fault}
use Rattle.octseq_utf8.proofs.Splitting as Splitting
use Rattle.octseq_utf8.proofs.laws.one_splitting.Goals as goal

pub returns : goal.returns
returns c = record {
  exists = λ octets. (parts_of octets, Splitting.splits octets);
  only = λ octets parts others s t. Splitting.one_splitting s t;
  joined = splits_fault;
}
