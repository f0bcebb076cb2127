-- All the octets that say a value.
use Rattle.std.proofs.Common.{◌≡◌, ℕ, List, length, ◌-◌, take, sym, ap, ◌∙◌, subst, arith}
use Rattle.std.proofs.Math.Seq.{take-length}
use Rattle.octseq.specs.Window.{whole}
use Rattle.octseq_format.specs.Laws.{Relation, TakesOctets, IsReadBack}

-- they are read as a value that says it
pub whole_taken : {A S : Type 0} {Is : Relation A} {says : A → S} {octets : S → List ℕ} {Fits : S → Type 0}
    → IsReadBack Is says octets Fits → (said : S) → Fits said
    → TakesOctets Is says (whole (octets said)) said (length (octets said))
whole_taken {octets = octets} back said fits =
    let o = octets said in
    let all : length o - 0 ≡ length o = omega arith in
    back.back (whole o) said fits (ap (λ n. take n o) all ∙ take-length o) (omega arith)

-- for any octets equal to them
pub content_taken : {A S : Type 0} {Is : Relation A} {says : A → S} {octets : S → List ℕ} {Fits : S → Type 0}
    → IsReadBack Is says octets Fits → (said : S) → Fits said → (content : List ℕ) → content ≡ octets said
    → TakesOctets Is says (whole content) said (length content)
content_taken {Is = Is} {says = says} back said fits content same =
    subst (λ o. TakesOctets Is says (whole o) said (length o)) (sym same) (whole_taken back said fits)
