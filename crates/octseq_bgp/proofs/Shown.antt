-- What is written of one text is written of some text.
use Rattle.std.proofs.Common.{ℕ, List, Result, Ok, Err, IsOk, OnOk, refl}

pub shown_of : {A E : Type 0} (result : Result A E) (Is : List ℕ → Type 0) (Plain : Type 0) (Wrote : List ℕ → Type 0)
    (text : List ℕ) → Is text → (Plain → IsOk result → Wrote text)
    → OnOk result ((lines : List ℕ) × Is lines × (Plain → Wrote lines))
shown_of (Ok u) Is Plain Wrote text is wrote = (text, is, λ plain. wrote plain refl)
shown_of (Err e) Is Plain Wrote text is wrote = tt
