use Rattle.std.proofs.Common.{◌≡◌, ℕ, ◌-◌, ◌^◌, false, [], ◌++◌, length, ap, ◌∙◌, append-nil, arith, rules}
use Rattle.std.specs.Prelude.{replicate}
use Rattle.std.proofs.Output.{has_written_of_eq}
use Rattle.std.specs.Fmt.{decimal, padded_integral, format_spec, char_count}
use Rattle.octseq_mrt.specs.RecordText.{six_digits}
use Rattle.octseq_mrt.proofs.text.lines.write_six_digits.Goals as goal

padded_to_six : (n : ℕ) → padded_integral (format_spec 32 0 4 6 (2 ^ 64 - 1)) false [] (decimal n) ≡ six_digits n
unfolding padded_integral char_count
padded_to_six n =
    let len = length (decimal n) in
    let same : 6 - len - 0 - 0 ≡ 6 - len = omega arith in
    ap (λ k. replicate k 48 ++ (decimal n ++ [])) same
    ∙ ap (λ text. replicate (6 - len) 48 ++ text) (append-nil (decimal n))

pub returns : goal.returns
returns g c = λ plain ok. has_written_of_eq _ _ _ _ _ (padded_to_six c.args.number) (search rules)
