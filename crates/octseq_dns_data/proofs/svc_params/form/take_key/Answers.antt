use Rattle.std.proofs.Common.{refl}
use Rattle.octseq.specs.Parser.{window}
use Rattle.octseq_dns_data.proofs.Windows.{long_rest, number_at}
use Rattle.octseq_dns_data.proofs.svc_params.form.take_key.Goals as goal

pub returns-clause-key : goal.returns-clause-key
returns-clause-key g c =
    let w = window c.args.parser.now in
    let long = long_rest w c.args.parser.now.ordered c.args.parser.now.within in
    number_at 2 w (window c.parse_u16_be.new.self) c.in_ok-parse_u16_be.field-0 long
    (c.in_ok-parse_u16_be.ensures.taken.variant.0 refl) c.in_ok-parse_u16_be.ensures.value
    c.in_ok-parse_u16_be.ensures.taken.ok
