-- Octets that come after others.
use Rattle.std.proofs.Common.{◌≡◌, ℕ, ◌≤◌, Bool, Option, Ok, Err, List, [], ◌++◌, length, length-append, sym, ap, ◌∙◌}
use Rattle.std.proofs.Common.{arith, append-nil, Result}
use Rattle.octseq.specs.Appends.{Appends}
use Rattle.octseq.specs.declared.AppendError.{AppendError}

-- octets come after others
abbrev pub Grows : List ℕ → List ℕ → Type 0
Grows old new = (more : List ℕ) × (new ≡ old ++ more)

-- as after an append, whatever it returns
pub appended_grows : {limit : Option ℕ} {asks : Bool} {octets old new : List ℕ} (result : Result (Unit {0}) AppendError)
    → Appends limit asks result octets old new → Grows old new
appended_grows {octets = octets} (Ok _) appends = (octets, appends.ok)
appended_grows {old = old} (Err e) appends = ([], appends.err ∙ sym (append-nil old))

pub grown_length : (old new : List ℕ) → Grows old new → length old ≤ length new
grown_length old new grows =
    omega (arith, ap length grows.1 ∙ length-append old grows.0)
