use Rattle.std.proofs.Common.{◌≡◌, rules, length}
use Rattle.octseq_dns_text.proofs.TakeTexts.{base64_refused}
use Rattle.octseq_dns_text.proofs.runs.Base64ReaderRunReader.take.Goals as goal

pub returns-in-Err-clause-none : goal.returns-in-Err-clause-none
returns-in-Err-clause-none c = λ none start.
    let empty : length c.new-made.result.content ≡ 0 = search rules in
    base64_refused c.args.self c.args.octet c.new-made.result.content c.feed.new.target.content empty c.in-Err.field-0
    c.in-Err.ensures
