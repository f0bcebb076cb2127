-- The faults of attributes, and the worst of them.
use Rattle.std.proofs.Common.{◌≡◌, ◌≢◌, ℕ, List, [], ◌∷◌, Bool, true, false, if◌then◌else◌, nat_eq, refl, sym, ap}
use Rattle.std.proofs.Common.{◌∙◌, subst, arith, ◌<◌, get_or}
use Rattle.std.specs.Prelude.{◌⊎◌, max, Option, Some, None}
use Rattle.std.proofs.lemmas.Bool.{ne_eqb}
use Rattle.std.proofs.lemmas.Bool.Decides.{eqb_tells}
use mathlib.Core.Logic.{inl, inr}
use Rattle.octseq_bgp.specs.Fault.{AttributeFault, fault_before, AreFaults, AreFaultsOf, Marks, worst_of}
use Rattle.octseq_bgp.specs.Handling.{HasType, IsRank, IsWorst, IsHandling}
use Rattle.octseq_bgp.specs.Parts.{Attribute, type_of}
use Rattle.octseq_bgp.specs.Update.{Update}
use Rattle.octseq_bgp.specs.declared.session.SessionConfig.{SessionConfig}

-- what is accepted isn't a fault
pub none_before : (attribute : Option Attribute) (n : ℕ) (row : List AttributeFault) → n ≡ 0
    → row ≡ fault_before attribute n row
none_before attribute n row zero = ap (λ n. fault_before attribute n row) (sym zero)

-- and what isn't accepted is one
pub some_before : (attribute : Option Attribute) (n : ℕ) (row : List AttributeFault) → n ≢ 0
    → record { attribute = attribute; rank = n } ∷ row ≡ fault_before attribute n row
some_before attribute n row not =
    ap (λ b. if b then row else record { attribute = attribute; rank = n } ∷ row) (sym (ne_eqb n 0 not))

-- the worst fault, with one more
worst_cases : (attribute : Option Attribute) (n : ℕ) (row : List AttributeFault)
    → ((nat_eq n 0 ≡ true) × (n ≡ 0)) ⊎ ((nat_eq n 0 ≡ false) × (n ≢ 0))
    → worst_of (fault_before attribute n row) ≡ max n (worst_of row)
worst_cases attribute n row (inl is) =
    let zero = is.1 in
    let same : worst_of row ≡ max n (worst_of row) = omega (arith, zero) in
    ap (λ b. worst_of (if b then row else record { attribute = attribute; rank = n } ∷ row)) is.0 ∙ same
worst_cases attribute n row (inr is) = ap
    (λ b. worst_of (if b then row else record { attribute = attribute; rank = n } ∷ row)) is.0

worst_before : (attribute : Option Attribute) (n : ℕ) (row : List AttributeFault)
    → worst_of (fault_before attribute n row) ≡ max n (worst_of row)
worst_before attribute n row = worst_cases attribute n row (eqb_tells n 0)

-- the worst fault of a list is the worst handling of its attributes and of a missing one
pub worst_is : (s : SessionConfig) (external : Bool) (before row : List Attribute) (missing : ℕ)
    (faults : List AttributeFault)
    → AreFaults s external before row missing faults
    → (n : ℕ) × IsWorst s external before row n × (worst_of faults ≡ max n missing)
worst_is s external before [] missing faults are =
    let worst = ap worst_of are ∙ worst_before None missing [] in
    (0, refl, omega (arith, worst))
worst_is s external before (e ∷ more) missing faults are =
    let rest = worst_is s external (e ∷ before) more missing are.4 are.5 in
    let n = are.2 in
    let worst = ap worst_of are.6 ∙ worst_before (Some e) n are.4 in
    let same = rest.2 in
    (max n rest.0, (are.0, are.1, n, are.3, rest.0, rest.1, refl), omega (arith, worst, same))

pub handling_is : (external : Bool) (u : Update) (faults : List AttributeFault) → AreFaultsOf external u faults
    → IsHandling external u (worst_of faults)
handling_is external u faults are =
    let worst = worst_is u.session external [] u.attributes (if are.lacks_mandatory then 2 else 0) faults are.are in
    record {
      worst = worst.0;
      is_worst = worst.1;
      lacks_mandatory = are.lacks_mandatory;
      is_missing = are.is_missing;
      is = worst.2;
    }

-- an attribute, and the faults of those after it
pub one_more : (s t : SessionConfig) (external : Bool) (before all more : List Attribute) (e : Attribute) (missing : ℕ)
    (seen : List Bool) (code n : ℕ) (faults row : List AttributeFault) → code ≡ type_of e → code < 256
    → IsRank s external (get_or seen code false) e n → all ≡ e ∷ more → t ≡ s → Marks seen before
    → AreFaults t external (e ∷ before) more missing row → faults ≡ fault_before (Some e) n row
    → AreFaults s external before all missing faults
one_more s t external before all more e missing seen code n faults row same bound is steps session marks are row_is =
    let mark = marks code bound in
    let rest = subst (λ s. AreFaults s external (e ∷ before) more missing row) session are in
    subst (λ all. AreFaults s external before all missing faults) (sym steps) (
      get_or seen code false,
      (λ true. subst (HasType before) same (mark.0 true), λ has. mark.1 (subst (HasType before) (sym same) has)),
      n,
      is,
      row,
      rest,
      row_is,
    )
