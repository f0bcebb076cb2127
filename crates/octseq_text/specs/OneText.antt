-- What holds of at most one text.
use Rattle.std.specs.Prelude.{◌≡◌, ℕ, List}

-- this holds of at most one text
abbrev pub OneAtMost : (List ℕ → Type 0) → Type 0
OneAtMost Is = (text other : List ℕ) → Is text → Is other → text ≡ other
