use Rattle.std.proofs.Common.{refl}
use Rattle.octseq.specs.Parser.{window}
use Rattle.octseq_dns_data.proofs.Windows.{long_rest, part_at}
use Rattle.octseq_dns_data.proofs.svc_params.form.take_id.Goals as goal

pub returns-clause-id : goal.returns-clause-id
returns-clause-id g c =
    let w = window c.args.parser.now in
    let long = long_rest w c.args.parser.now.ordered c.args.parser.now.within in
    part_at 1 w (window c.in_ok-parse_part_u8.field-0) (window c.parse_part_u8.new.self) long
    (c.in_ok-parse_part_u8.ensures.taken.variant.0 refl) c.in_ok-parse_part_u8.ensures.window
    c.in_ok-parse_part_u8.ensures.taken.ok
