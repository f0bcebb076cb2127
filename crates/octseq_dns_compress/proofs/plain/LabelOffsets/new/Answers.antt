use Rattle.std.proofs.Common.{ap, sym, ◌∙◌, length, arith, subst}
use Rattle.octseq_dns_name.specs.Read.{labels_of}
use Rattle.octseq_dns_compress.proofs.Words.{labels_wire, AreWhole, labels_at}
use Rattle.octseq_dns_compress.proofs.PlainLabels.{wire_of_unrooted}
use Rattle.octseq_dns_compress.proofs.plain.LabelOffsets.new.Goals as goal

pub invariant_of-result : goal.invariant_of-result
invariant_of-result g c =
    let same = ap (λ o. labels_at o c.args.starts.now) c.requires.source ∙ c.requires.labels in
    let wire = wire_of_unrooted (labels_of c.args.name.now) in
    record {
      whole = subst (λ o. AreWhole o c.args.starts.now) (sym c.requires.source) c.requires.whole;
      measured = omega (arith, c.requires.len, wire, ap (λ labels. length (labels_wire labels)) same);
      short = omega (arith, c.if-len-gt-UNROOTED_MAX.false);
    }

pub returns : goal.returns
returns g c = ap (λ o. labels_at o c.args.starts.now) c.requires.source ∙ c.requires.labels

pub unreachable-requires : goal.unreachable-requires
unreachable-requires g c =
    absurd (omega (arith, c.if-len-gt-UNROOTED_MAX.true, c.requires.len, c.len-len.ensures.len, c.len-len.ensures.most))
