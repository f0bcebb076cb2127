-- The places of faults.
use Rattle.std.proofs.Common.{◌≡◌, ℕ, Result, Err, sym, ap, ◌∙◌}
use Rattle.octseq_dns_compose.specs.declared.error.ComposeError.{ComposeError}
use Rattle.octseq_dns_compose.specs.declared.error.Place.{Place}

place_of : Place → ComposeError → Place
place_of other (ComposeError.Malformed place) = place
place_of other ComposeError.Short = other
place_of other ComposeError.Memory = other

-- the place in an error
pub malformed_at : {T : Type 0} (number offset : ℕ) (place : Place) (error : ComposeError)
    → error ≡ ComposeError.Malformed (record { line = number; offset = offset })
    → ◌≡◌ {A = Result T ComposeError} (Err error) (Err (ComposeError.Malformed place))
    → (place.line ≡ number) × (place.offset ≡ offset)
unfolding place_of
malformed_at number offset place error is same =
    let inner : error ≡ ComposeError.Malformed place = cc in
    let whole : ComposeError.Malformed place ≡ ComposeError.Malformed (record { line = number; offset = offset }) =
    sym inner ∙ is in
    (ap (λ e. (place_of place e).line) whole, ap (λ e. (place_of place e).offset) whole)
