use Rattle.std.proofs.Common.{◌++◌, map, take, sym, ap, ◌∙◌, append_assoc, arith, rules}
use Rattle.std.proofs.Output.{has_written_append, has_written_of_eq}
use Rattle.octseq_dns_scan.specs.Base64.{sextets, base64_digit, base64_text}
use Rattle.octseq_dns_scan.proofs.Base64Texts.{base64_group}
use Rattle.octseq_dns_scan.proofs.base64.write_base64.Goals as goal

pub loop-group-preserved : goal.loop-group-preserved
loop-group-preserved g c = λ plain.
    let so_far = c.loop-group.invariant plain in
    let rest = c.loop-group.rest.now in
    let text = map base64_digit (sextets (take 3 rest)) in (
      so_far.0 ++ text,
      has_written_append _ _ _ _ _ _ so_far.1 (search rules),
      append_assoc so_far.0 text (base64_text c.in-Some.more.now)
          ∙ ap (λ ahead. so_far.0 ++ ahead)
          (search (rules, sym (base64_group rest (omega (arith, c.in-Some.ensures)))))
          ∙ so_far.2,
    )

pub returns : goal.returns
returns g c = λ plain ok.
    let so_far = c.loop-group.invariant plain in
    has_written_of_eq _ _ _ _ _ so_far.2 (has_written_append _ _ _ _ _ _ so_far.1 (search rules))
