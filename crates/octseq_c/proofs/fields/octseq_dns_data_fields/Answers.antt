use Rattle.std.proofs.Common.{subst}
use Rattle.octseq.specs.Parser.{window}
use Rattle.octseq.specs.Window.{at, whole}
use Rattle.octseq_c.proofs.OneFields.{one_fields_of}
use Rattle.octseq_c.proofs.Puts.{puts_copies}
use Rattle.octseq_c.specs.Fields.{AreFieldsIn}
use Rattle.octseq_c.proofs.fields.octseq_dns_data_fields.Goals as goal

pub returns-in-Some-clause-puts : goal.returns-in-Some-clause-puts
returns-in-Some-clause-puts c =
    let (rows, are, copied) = c.put_fields.ensures in
    let (within, message, inside) = c.in-Some.ensures.some in
    let offset = at c.args.data_at (whole c.args.octets.now) in
    let moved = subst (λ w. AreFieldsIn offset w c.args.rtype c.args.class rows) inside
    (subst (λ w. AreFieldsIn w (window c.in-Some.inside) c.args.rtype c.args.class rows) message are) in
    puts_copies (one_fields_of c.args.octets.now c.args.data_at c.args.data_len c.args.rtype c.args.class) rows
    (record { within = within; fields = moved }) copied
