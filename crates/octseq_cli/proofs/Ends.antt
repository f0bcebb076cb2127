-- Rests of streams that are empty, or a part of a frame.
use Rattle.std.proofs.Common.{◌≡◌, ◌<◌, ◌∙◌, ℕ, Bool, true, false, List, [], length, refl, sym, ap, subst, arith}
use Rattle.std.proofs.Common.{Result, Ok}
use Rattle.octseq.specs.Code.{HasFront}
use Rattle.octseq_cli.specs.Frames.{IsPlainEnd}
use Rattle.octseq_cli.specs.declared.frames.Ending.{Ending}
use Rattle.octseq_cli.specs.declared.frames.Ending.TheVariants.{Whole}
use Rattle.octseq_cli.specs.declared.frames.Next.{Next}

-- the ending of a stream whose end was reported
abbrev ending_in : {E : Type 0} → Result Next E → Ending
ending_in (Ok (Next.End ending)) = ending
ending_in _ = Whole

-- what holds of the ending of a stream holds of the one that was reported
pub ends_so : {E : Type 0} (P : Ending → Type 0) (a : Ending) → P a → (b : Ending)
    → ◌≡◌ {A = Result Next E} (Ok (Next.End a)) (Ok (Next.End b)) → P b
ends_so P a p b e = subst P (ap ending_in e) p

module _ (IsCut : List ℕ → Type 0) where
  -- a part of a frame has octets
  module _ (some : (octets : List ℕ) → IsCut octets → 0 < length octets) where
    not_both : {P : Type 0} (rest : List ℕ) → rest ≡ [] → IsCut rest → P
    not_both rest none cut = let here = some rest cut in let same = ap length none in absurd (omega (arith, here, same))

    -- a rest makes one piece
    pub one_plain_end : (text rest x y e f : List ℕ) (a b : Bool) → IsPlainEnd IsCut text rest a x e
        → IsPlainEnd IsCut text rest b y f → (a ≡ b) × (x ≡ y) × (e ≡ f)
    one_plain_end text rest x y e f true true (none, o, n) (also, p, m) = (refl, o ∙ sym p, n ∙ sym m)
    one_plain_end text rest x y e f false false (cut, o, n) (also, p, m) = (refl, o ∙ sym p, n ∙ sym m)
    one_plain_end text rest x y e f true false (none, o, n) (cut, p, m) = not_both rest none cut
    one_plain_end text rest x y e f false true (cut, o, n) (none, p, m) = not_both rest none cut

  -- no frame is at the front of a rest
  pub none_at_plain : (Fits : List ℕ → Type 0) (code : List ℕ → List ℕ) → ¬ HasFront Fits code []
      → ((octets : List ℕ) → IsCut octets → ¬ HasFront Fits code octets)
      → (text rest ending note : List ℕ) (is_fine : Bool) → IsPlainEnd IsCut text rest is_fine ending note
      → ¬ HasFront Fits code rest
  none_at_plain Fits code nothing none text rest ending note true (e, o, n) =
      subst (λ rest. ¬ HasFront Fits code rest) (sym e) nothing
  none_at_plain Fits code nothing none text rest ending note false (cut, o, n) = none rest cut
