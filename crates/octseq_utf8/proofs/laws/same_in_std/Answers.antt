use Rattle.octseq_utf8.proofs.Bridge.{utf8_from_well_formed, well_formed_from_utf8, encode-is}
use Rattle.octseq_utf8.proofs.laws.same_in_std.Goals as goal

pub returns : goal.returns
returns c = record {
  well_formed = λ octets. (utf8_from_well_formed octets, well_formed_from_utf8 octets);
  encoding = encode-is;
}
