use Rattle.std.proofs.Common.{◌≡◌, rules, length}
use Rattle.octseq_dns_text.proofs.TakeTexts.{hex_refused}
use Rattle.octseq_dns_text.proofs.runs.HexReaderRunReader.take.Goals as goal

pub returns-in-Ok-clause-some : goal.returns-in-Ok-clause-some
returns-in-Ok-clause-some c = λ start text octets read.
    let fed = c.in-Ok.ensures.ok in
    let same : c.feed.new.target.content ≡ fed.0 = search rules in
    rw same (fed.2 text octets read)

pub returns-in-Err-clause-none : goal.returns-in-Err-clause-none
returns-in-Err-clause-none c = λ none start.
    let empty : length c.new-made.result.content ≡ 0 = search rules in
    hex_refused c.args.self c.args.octet c.new-made.result.content c.feed.new.target.content empty c.in-Err.field-0
    c.in-Err.ensures
