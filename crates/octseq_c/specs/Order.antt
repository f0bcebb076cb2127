-- An order as C sees it.
use Rattle.std.specs.Prelude.{◌≡◌, ℤ, pos, negsuc}
use Rattle.std.specs.declared.cmp.Ordering.{Ordering}
use Rattle.std.specs.declared.cmp.Ordering.TheVariants.{Less, Equal, Greater}

-- -1, 0 or 1
abbrev pub IsOrder : Ordering → ℤ → Type 0
IsOrder Less n = n ≡ negsuc 0
IsOrder Equal n = n ≡ pos 0
IsOrder Greater n = n ≡ pos 1
