use Rattle.std.proofs.Common.{◌≡◌, ◌-◌, ◌∷◌, [], arith, length-append, rules}
use Rattle.octseq_dns_text.proofs.runs.SizedHexReaderRunReader.take.Goals as goal

pub returns-in_err-reader-clause-none : goal.returns-in_err-reader-clause-none
returns-in_err-reader-clause-none c = λ none start text octets read other more are is.
    c.in_err-reader.ensures.none (search rules) c.args.self.reader text octets read.read other more are is.0

pub returns-clause-some : goal.returns-clause-some
returns-clause-some c = λ start text octets read. record {
  half = read.half;
  even = read.even;
  left = omega (arith, read.left, c.if-self-eq0.false, length-append text (c.args.octet ∷ []));
  read = c.in_ok-reader.ensures.some c.args.self.reader text octets read.read;
}
