-- The text of character strings (RFC 1035, 5.1) and of groups of an IPv6 address (RFC 5952, 4.2).
use Rattle.std.specs.Prelude.{◌≡◌, ℕ, ◌+◌, ◌≤◌, List, [], ◌∷◌, ◌++◌, take, drop, replicate, codes}
use Rattle.std.specs.List.{flat_map}
use Rattle.std.specs.Net.Text.{groups_text}
use Rattle.octseq.specs.OctetsText.{string_text}

-- `len` groups from `start` on are zero
abbrev pub AreZero : List ℕ → ℕ → ℕ → Type 0
AreZero groups start len = take len (drop start groups) ≡ replicate len 0

-- This is the longest run of zero groups, and the first of that length.
pub record IsFirstLongest (groups : List ℕ) (start len : ℕ) : Type 0 where
  pub zeros : AreZero groups start len
  pub longest : (other size : ℕ) → AreZero groups other size → size ≤ len
  pub first : (other : ℕ) → AreZero groups other len → start ≤ other

-- The text of groups: `::` for the first longest run, if it has two groups or more.
pub record IsGroupsText (groups text : List ℕ) : Type 0 where
  pub start : ℕ
  pub len : ℕ
  pub run : IsFirstLongest groups start len
  pub shortened : 2 ≤ len → text ≡ groups_text (take start groups) ++ codes "::"
      ++ groups_text (drop (start + len) groups)
  pub plain : len ≤ 1 → text ≡ groups_text groups

-- strings, each after a space (32)
abbrev pub strings_after : List (List ℕ) → List ℕ
strings_after = flat_map (λ string. 32 ∷ string_text string)

-- strings, separated by spaces
abbrev pub strings_text : List (List ℕ) → List ℕ
strings_text [] = []
strings_text (string ∷ strings) = string_text string ++ strings_after strings
