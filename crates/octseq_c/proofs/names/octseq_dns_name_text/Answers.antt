use Rattle.std.proofs.Common.{arith, refl, subst}
use Rattle.octseq.specs.Text.{IsWellFormed}
use Rattle.octseq_dns_name.specs.Read.{labels_of}
use Rattle.octseq_dns_name.specs.Text.{name_text}
use Rattle.octseq_c.specs.Texts.{IsNameText}
use Rattle.octseq_c.proofs.OneTexts.{one_name_text}
use Rattle.octseq_c.proofs.Puts.{puts_as, puts_none}
use Rattle.octseq_c.proofs.names.octseq_dns_name_text.Goals as goal

pub returns-in-Ok-clause-puts : goal.returns-in-Ok-clause-puts
returns-in-Ok-clause-puts c =
    puts_as (λ text is. (labels_of c.in-Ok.name, c.in-Ok.ensures.name, is))
    (one_name_text c.args.octets.now c.args.offset) c.show.ensures.puts

pub returns-in-Ok-clause-utf8 : goal.returns-in-Ok-clause-utf8
returns-in-Ok-clause-utf8 c = λ ok text is.
    let here : IsNameText c.args.octets.now c.args.offset (name_text (labels_of c.in-Ok.name)) =
    (labels_of c.in-Ok.name, c.in-Ok.ensures.name, refl) in
    subst IsWellFormed (one_name_text c.args.octets.now c.args.offset (name_text (labels_of c.in-Ok.name)) text here is)
    (c.show.ensures.utf8 ok)

pub returns-in-Err-clause-puts : goal.returns-in-Err-clause-puts
returns-in-Err-clause-puts c = puts_none 2 (omega arith) (one_name_text c.args.octets.now c.args.offset)
