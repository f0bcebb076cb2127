use Rattle.std.proofs.Common.{◌≡◌, ◌-◌, refl, arith}
use Rattle.octseq.specs.Parser.{window}
use Rattle.octseq.specs.Window.{left}
use Rattle.octseq_dns_name.specs.NameFormat.{onward_name}
use Rattle.octseq_dns_name.specs.Read.{name_of}
use Rattle.octseq_c.proofs.fields.take_name.Goals as goal

pub returns-in_err-_name-clause-malformed : goal.returns-in_err-_name-clause-malformed
returns-in_err-_name-clause-malformed g c = λ _ row end (name, is, shown).
    c.in_err-_name.ensures.malformed refl name end is

pub overflow_sub-result : goal.overflow_sub-result
overflow_sub-result g c = let less = onward_name.less _ _ _ c.in_ok-_name.ensures.value in omega (arith, less)

pub returns-clause-ok : goal.returns-clause-ok
returns-clause-ok g c =
    let at : c.pos.result ≡ (window c.args.parser.now).position = c.pos.ensures.position in
    let before : c.remaining.result ≡ left (window c.args.parser.now) = c.remaining.ensures.left in
    let after : c.remaining-2.result ≡ left (window c.parse.new.parser) = c.remaining-2.ensures.left in (
      name_of c.in_ok-_name._name,
      c.in_ok-_name.ensures.value,
      λ i. record { at = at i; len = before i - after i; number = 0; kind = 1 },
    )

pub returns-clause-onward : goal.returns-clause-onward
returns-clause-onward g c = let less = onward_name.less _ _ _ c.in_ok-_name.ensures.value in omega (arith, less)
