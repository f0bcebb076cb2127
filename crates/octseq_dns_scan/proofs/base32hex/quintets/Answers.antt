use Rattle.std.proofs.Common.{ℕ, ◌+◌, ◌*◌, ◌/◌, ◌%◌, ◌<◌, List, [], ◌∷◌, All, arith}
use Rattle.std.proofs.lemmas.List.Elements.{All-cons, All-nil}
use Rattle.octseq_dns_scan.specs.Base32hex.{quintets}
use Rattle.octseq_dns_scan.proofs.base32hex.quintets.Goals as goal

AreSmall : List ℕ → Type 0
AreSmall = All (λ v. v < 32)

one_more : (value : ℕ) (values : List ℕ) → value < 32 → AreSmall values → AreSmall (value ∷ values)
unfolding AreSmall
one_more = All-cons (λ v. v < 32)

none : AreSmall []
unfolding AreSmall
none = All-nil (λ v. v < 32)

quintets_small : (a b c d e : ℕ) → a < 256 → b < 256 → c < 256 → d < 256 → e < 256
    → AreSmall (quintets (a ∷ b ∷ c ∷ d ∷ e ∷ []))
quintets_small a b c d e small_a small_b small_c small_d small_e =
    one_more (a / 8) _ (omega arith) (one_more (a % 8 * 4 + b / 64) _ (omega arith)
    (one_more (b / 2 % 32) _ (omega arith) (one_more (b % 2 * 16 + c / 16) _ (omega arith)
    (one_more (c % 16 * 2 + d / 128) _ (omega arith) (one_more (d / 4 % 32) _ (omega arith)
    (one_more (d % 4 * 8 + e / 32) _ (omega arith) (one_more (e % 32) _ (omega arith) none)))))))

pub returns-clause-small : goal.returns-clause-small
unfolding AreSmall
returns-clause-small c =
    quintets_small _ _ _ _ _ (omega (arith, c.element_fits.fits)) (omega (arith, c.element_fits2.fits))
    (omega (arith, c.element_fits3.fits)) (omega (arith, c.element_fits4.fits)) (omega (arith, c.element_fits5.fits))
