-- What is written after a line.
use Rattle.std.proofs.Common.{ℕ, List, ◌++◌, Result, OnOk}
use Rattle.std.proofs.Output.{has_written_append}
use Rattle.std.proofs.lemmas.Result.{on_ok_weaker}
use Rattle.std.specs.Fmt.{HasWritten, IsPlainFormatter}
use Rattle.std.specs.declared.fmt.Formatter.{Formatter}

pub after_line : {W E : Type 0} {took : W → List ℕ → W → Type 0} {f g : Formatter W} {Is : List ℕ → Type 0}
    (h : Formatter W) (All : List ℕ → Type 0) (result : Result (Unit {0}) E) (head : List ℕ)
    → (IsPlainFormatter f → HasWritten took f head g) → ((more : List ℕ) → Is more → All (head ++ more))
    → OnOk result ((more : List ℕ) × Is more × (IsPlainFormatter g → HasWritten took g more h))
    → OnOk result ((lines : List ℕ) × All lines × (IsPlainFormatter f → HasWritten took f lines h))
after_line {f = f} h All result head first all rest = on_ok_weaker result (λ more.
    let written = λ (plain : IsPlainFormatter f).
    let one = first plain in has_written_append _ _ _ _ _ _ one (more.2 one.plain) in
    (head ++ more.0, all more.0 more.1, written)) rest
