use Rattle.std.proofs.Common.{◌/◌, ◌%◌, ◌^◌, ◌∙◌, refl, sym, ap}
use Rattle.octseq_format.specs.Bits.{upper_of, lowest_of}
use Rattle.octseq_format.proofs.bits.Tuple2BitFields.split.Goals as goal

pub returns-in_err-split-clause-none : goal.returns-in_err-split-clause-none
returns-in_err-split-clause-none g c = λ _ other fits same.
    let a = g.A.BitFields in
    let b = g.B.BitFields in
    let upper = upper_of a.number b.number b.bits b.few other fits.second in
    c.in_err-split.ensures.none refl other.0 fits.first
    (sym upper ∙ ap (λ n. n / 2 ^ b.bits) same ∙ sym c.parted-high.ensures.high)

pub returns-in_err-split-2-clause-none : goal.returns-in_err-split-2-clause-none
returns-in_err-split-2-clause-none g c = λ _ other fits same.
    let a = g.A.BitFields in
    let b = g.B.BitFields in
    let lowest = lowest_of a.number b.number b.bits b.few other fits.second in
    c.in_err-split-2.ensures.none refl other.1 fits.second
    (sym lowest ∙ ap (λ n. n % 2 ^ b.bits) same ∙ sym c.parted-high.ensures.low)
