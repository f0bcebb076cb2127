use Rattle.std.proofs.Common.{rules, refl, arith}
use Rattle.octseq_format.specs.CompactSize.{compact_long}
use Rattle.octseq_format.proofs.CompactSizes.{short, after_first, first_itself}
use Rattle.octseq_format.proofs.compact_size.leading.Goals as goal

pub returns-in_err-first-clause-none : goal.returns-in_err-first-clause-none
unfolding compact_long
returns-in_err-first-clause-none c = λ _. short 0 1 refl c.args.octets.now (search rules) (search rules)

pub returns-in_err-get-in-253-clause-none : goal.returns-in_err-get-in-253-clause-none
unfolding compact_long
returns-in_err-get-in-253-clause-none c = λ _. short 253 3 refl c.args.octets.now (search rules) (search rules)

pub returns-in_ok-get-in-253-clause-some : goal.returns-in_ok-get-in-253-clause-some
unfolding compact_long
returns-in_ok-get-in-253-clause-some c =
    after_first 253 2 (omega arith) refl c.args.octets.now (search rules) (search rules) _ (search rules)

pub returns-in_err-get-in-254-clause-none : goal.returns-in_err-get-in-254-clause-none
unfolding compact_long
returns-in_err-get-in-254-clause-none c = λ _. short 254 5 refl c.args.octets.now (search rules) (search rules)

pub returns-in_ok-get-in-254-clause-some : goal.returns-in_ok-get-in-254-clause-some
unfolding compact_long
returns-in_ok-get-in-254-clause-some c =
    after_first 254 4 (omega arith) refl c.args.octets.now (search rules) (search rules) _ (search rules)

pub returns-in_err-get-in-255-clause-none : goal.returns-in_err-get-in-255-clause-none
unfolding compact_long
returns-in_err-get-in-255-clause-none c = λ _. short 255 9 refl c.args.octets.now (search rules) (search rules)

pub returns-in_ok-get-in-255-clause-some : goal.returns-in_ok-get-in-255-clause-some
unfolding compact_long
returns-in_ok-get-in-255-clause-some c =
    after_first 255 8 (omega arith) refl c.args.octets.now (search rules) (search rules) _ (search rules)

pub returns-in_default-clause-some : goal.returns-in_default-clause-some
returns-in_default-clause-some c = first_itself _ (search rules) c.args.octets.now (search rules) (search rules)
