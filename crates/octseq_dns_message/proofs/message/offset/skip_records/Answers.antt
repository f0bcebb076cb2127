use Rattle.std.proofs.Common.{◌≡◌, ◌-◌, suc, refl, sym, ap, subst, arith}
use Rattle.octseq.specs.Parser.{window}
use Rattle.octseq_dns_message.specs.Stop.{RecordsStop}
use Rattle.octseq_dns_message.proofs.Stops.{record_step, record_stop}
use Rattle.octseq_dns_message.proofs.message.offset.skip_records.Goals as goal

pub returns-in-Err : goal.returns-in-Err
returns-in-Err c =
    let w = window c.loop-left.parser in
    let left = c.loop-left.left in
    let more = c.loop-left-test.true in
    let one : left ≡ suc (left - 1) = omega arith in
    let stop : RecordsStop left w w.position =
    record_stop left (left - 1) w one (c.in-Err.ensures.malformed refl) in
    subst (RecordsStop c.args.count (window c.args.parser.now)) (sym (ap (λ w. w.position) c.in-Err.ensures.kept))
    (c.loop-left.invariant w.position stop)

pub loop-left-preserved : goal.loop-left-preserved
loop-left-preserved c = λ offset stop.
    let left = c.loop-left.left in
    let more = c.loop-left-test.true in
    let one : left ≡ suc (left - 1) = omega arith in
    c.loop-left.invariant offset
    (record_step left (left - 1) offset (window c.loop-left.parser) (window c.parse.new.parser) _ one
    c.in-Ok.ensures.entry stop)
