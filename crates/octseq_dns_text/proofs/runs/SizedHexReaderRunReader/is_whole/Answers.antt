use Rattle.std.proofs.Common.{◌≡◌, ℕ, arith, length, ◌∙◌, rules}
use Rattle.octseq_dns_text.proofs.TakeTexts.{hex_whole}
use Rattle.octseq_dns_text.proofs.runs.SizedHexReaderRunReader.is_whole.Goals as goal

pub returns-clause-whole : goal.returns-clause-whole
returns-clause-whole c = λ none start text octets read.
    let zero : c.args.self.digits ≡ 0 = search rules in
    let all : length text ≡ start.digits = omega (arith, zero, read.left) in
    (hex_whole c.args.self.reader.high read.half text octets read.read.same (all ∙ read.even), all)
