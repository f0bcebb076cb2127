-- Octets after their length, as `Counted<L, Rest, 0>` finds them, are a part.
use Rattle.std.proofs.Common.{◌≡◌, ℕ, ◌-◌, ap, ◌∙◌, sym, arith, refl}
use Rattle.octseq.specs.Integer.{be}
use Rattle.octseq.specs.Window.{Window, next, past, nested, left}
use Rattle.octseq_format.specs.Counted.{Counted}
use Rattle.octseq_format.specs.Part.{IsPart}
use Rattle.octseq_format.specs.Rest.{IsRest}

pub part_of_counted : (k : ℕ) (w inside v : Window) → Counted k 0 IsRest w inside v → IsPart k w inside v
part_of_counted k w inside v is =
    let u = is.1 in
    let number = is.2 in
    let value = number.1 in
    let sized = is.3 in
    let all = be (next k w) in
    let same : is.0 - 0 ≡ all = omega (arith, value) in
    let here = ap left number.2 in
    let few = sized.1 in (
      (number.0, omega (arith, few, same, here)),
      sized.2.0 ∙ ap (λ n. nested n u) same ∙ ap (nested all) number.2,
      sized.3 ∙ ap (λ n. past n u) same ∙ ap (past all) number.2,
    )

pub counted_of_part : (k : ℕ) (w inside v : Window) → IsPart k w inside v → Counted k 0 IsRest w inside v
counted_of_part k w inside v is =
    let all = be (next k w) in
    let room = is.0.1 in
    let same : all - 0 ≡ all = omega arith in
    let whole : left (nested (all - 0) (past k w)) ≡ all - 0 = omega arith in (
      all,
      past k w,
      (is.0.0, refl, refl),
      (
        omega arith,
        omega (arith, room),
        (
          is.1 ∙ ap (λ n. nested n (past k w)) (sym same),
          ap (λ n. past n (nested (all - 0) (past k w))) (sym whole),
        ),
        is.2 ∙ ap (λ n. past n (past k w)) (sym same),
      ),
    )
