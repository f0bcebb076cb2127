use Rattle.std.proofs.Common.{◌↔◌, IsTrue, Result, Ok, Err, IfOk, IsErr, refl, sym, subst, rules}
use Rattle.std.specs.Result.{is_ok}
use Rattle.octseq.specs.Parser.{window}
use Rattle.octseq_dns_data.specs.UncompressedName.{IsUncompressedName}
use Rattle.octseq_dns_name.specs.Read.{labels_of, name_of, place_of}
use Rattle.octseq_dns_compose.specs.Alone.{IsPlain}
use Rattle.octseq_dns_compose.proofs.PlainNames.{plain_there}
use Rattle.octseq_dns_compose.proofs.alone.is_plain.Goals as goal

-- a value is read exactly if a fact holds
read_if : {V E : Type 0} (r : Result V E) (P : Type 0) (Q : V → Type 0) → ((value : V) → Q value → P) → IfOk r Q
    → (IsErr r → ¬ P) → IsTrue (is_ok r) ↔ P
read_if (Ok value) P Q to is none = (λ _. to value is, λ _. search rules)
read_if (Err e) P Q to is none = (λ never. absurd (search (rules, never)), λ p. absurd (none refl p))

pub returns : goal.returns
returns c =
    let name = c.args.name.now in
    let here = c.parser-parser.ensures in
    subst (λ b. IsTrue b ↔ IsPlain (name_of name)) (sym c.is_ok.ensures.value)
    (read_if c.parse_counted.result (IsPlain (name_of name)) _
    (λ found is. (
      window c.parse_counted.new.parser,
      plain_there (place_of name) (window c.parser-parser.result) _ (labels_of name) _ here name.named.1 is.1,
    )) c.parse_counted.ensures.value
    (λ err plain. c.parse_counted.ensures.malformed err (name_of name) plain.0
    (sym here, subst (λ w. IsUncompressedName w (labels_of name) plain.0) (sym here) plain.1)))
