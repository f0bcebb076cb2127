use Rattle.std.proofs.Common.{◌≡◌, sym, subst, rules}
use Rattle.octseq_dns_scan.specs.Word.{TakesWord}
use Rattle.octseq_dns_scan.specs.Words.{ahead_of}
use Rattle.octseq_dns_compose.specs.HeaderLine.{IsNoField}
use Rattle.octseq_dns_compose.proofs.header.take_field.Goals as goal

pub returns-in_default-clause-taken : goal.returns-in_default-clause-taken
returns-in_default-clause-taken c =
    let name : TakesWord c.args.name.now (ahead_of c.args.words.now) (ahead_of c.take_word.new.words) = search rules in
    let kept : ahead_of c.take_number.new.words ≡ ahead_of c.take_word.new.words = search rules in
    let none = c.in_default.ensures.taken.none (search rules) in
    record {
      some = tt;
      none = λ _. IsNoField.no_number (subst (TakesWord c.args.name.now (ahead_of c.args.words.now)) (sym kept) name)
          (λ word rest number taken. none word rest number (subst (λ t. TakesWord word t rest) kept taken));
    }
