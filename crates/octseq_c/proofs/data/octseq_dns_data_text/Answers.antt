use Rattle.std.proofs.Common.{refl, subst}
use Rattle.octseq.specs.Text.{IsWellFormed}
use Rattle.octseq_dns_data.specs.RdataText.{rdata_text}
use Rattle.octseq_dns_data.specs.Typed.{rdata_of}
use Rattle.octseq_c.specs.Texts.{IsDataTextAt}
use Rattle.octseq_c.proofs.OneTexts.{one_data_text}
use Rattle.octseq_c.proofs.Puts.{puts_as}
use Rattle.octseq_c.proofs.data.octseq_dns_data_text.Goals as goal

pub returns-in-Some-clause-puts : goal.returns-in-Some-clause-puts
returns-in-Some-clause-puts c =
    puts_as (λ text is. (rdata_of c.in-Some.found, c.in-Some.ensures.some, is))
    (one_data_text c.args.octets.now c.args.data_at c.args.data_len c.args.rtype c.args.class) c.show.ensures.puts

pub returns-in-Some-clause-utf8 : goal.returns-in-Some-clause-utf8
returns-in-Some-clause-utf8 c = λ ok text is.
    let one = one_data_text c.args.octets.now c.args.data_at c.args.data_len c.args.rtype c.args.class in
    let shown = rdata_text (rdata_of c.in-Some.found) in
    let here : IsDataTextAt c.args.octets.now c.args.data_at c.args.data_len c.args.rtype c.args.class shown =
    (rdata_of c.in-Some.found, c.in-Some.ensures.some, refl) in
    subst IsWellFormed (one shown text here is) (c.show.ensures.utf8 ok)
