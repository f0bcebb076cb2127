-- A call that was refused for a reason was refused for no other.
use Rattle.std.proofs.Common.{◌≡◌, ◌↔◌, Result, Ok, Err, IsErrOf, sym, ap, ◌∙◌, subst}

pub reported : {T E : Type 0} (result : Result T E) (fault : E) (Is : E → Type 0) → result ≡ Err fault → Is fault
    → ((other : E) → Is other → fault ≡ other) → (other : E) → IsErrOf result other ↔ Is other
reported result fault Is is holds once other = (
  λ also. let same : fault ≡ other = let e = sym is ∙ also in cc in subst Is same holds,
  λ also. is ∙ ap Err (once other also),
)

-- a call that returned a value was refused for none
pub none_reported : {T E : Type 0} (result : Result T E) (value : T) (Is : E → Type 0) → result ≡ Ok value
    → ((other : E) → ¬ Is other) → (other : E) → IsErrOf result other ↔ Is other
none_reported result value Is is none other = (λ also. let e = sym is ∙ also in cc, λ also. absurd (none other also))
