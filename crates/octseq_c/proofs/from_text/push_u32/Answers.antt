use Rattle.std.proofs.Common.{arith}
use Rattle.octseq.specs.Integer.{octets_be}
use Rattle.octseq_c.proofs.Appended.{append_done, append_fits, longer}
use Rattle.octseq_c.proofs.TextRecords.{four_long}
use Rattle.octseq_c.proofs.from_text.push_u32.Goals as goal

pub infallible-requires : goal.infallible-requires
infallible-requires g c =
    append_fits c.append_u32_be.result c.append_u32_be.ensures.appended
    (omega (arith, four_long c.args.number, c.requires))

pub returns-clause-content : goal.returns-clause-content
returns-clause-content g c = append_done c.infallible.ensures c.append_u32_be.ensures.appended

pub returns-clause-len : goal.returns-clause-len
returns-clause-len g c =
    let more = longer c.args.made.now.content c.append_u32_be.new.builder.content (octets_be 4 c.args.number)
    (append_done c.infallible.ensures c.append_u32_be.ensures.appended) in
    omega (arith, four_long c.args.number, more)
