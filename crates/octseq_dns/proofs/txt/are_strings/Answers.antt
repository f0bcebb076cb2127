use Rattle.std.proofs.Common.{◌≤◌, Bor, ℕ, List, [], length, sym, subst, arith}
use Rattle.std.proofs.Common.{refl, rules}
use Rattle.std.proofs.lemmas.List.{length-map}
use Rattle.octseq_dns.proofs.Spelled.{each_short, more_short, one_short}
use Rattle.octseq_dns.proofs.txt.are_strings.Goals as goal

pub returns-then-string-gt-STRING_MAX : goal.returns-then-string-gt-STRING_MAX
returns-then-string-gt-STRING_MAX c =
    let default : Bor (List ℕ) = record { ref_ptr = (0, 0); now = [] } in
    let strings = c.args.strings.now in
    let i = c.loop-string.string-index in
    let long = c.if-string-gt-STRING_MAX.true in (
      λ no. search rules,
      λ are.
          let short = one_short strings i default c.loop-string-test.true are in
          absurd (omega (arith, long, short)),
    )

pub loop-string-preserved : goal.loop-string-preserved
loop-string-preserved c =
    let default : Bor (List ℕ) = record { ref_ptr = (0, 0); now = [] } in
    more_short c.args.strings.now c.loop-string.string-index default c.loop-string-test.true c.loop-string.invariant
    c.if-string-gt-STRING_MAX.false

pub returns : goal.returns
returns c =
    let strings = c.args.strings.now in
    let all = each_short strings c.loop-string.string-index c.loop-string-test.false c.loop-string.invariant in
    let some : 1 ≤ length c.args.strings.now = search rules in
    let many = length-map strings (λ (s : Bor (List ℕ)). s.now) in
    (λ yes. (subst (λ n. 1 ≤ n) (sym many) some, all), λ are. refl)
