-- What contracts see of an `Array`: its content, and the octets that its length hides.
use Rattle.std.specs.Prelude.{ℕ, ◌-◌, List, [], ◌++◌, length, take, drop, replicate}

-- the content, and the hidden octets after it, up to the array's end
pub record ArrayOctets : Type 0 where
  pub content : List ℕ
  pub hidden : List ℕ

-- all octets, shown and hidden
abbrev pub all_octets : ArrayOctets → List ℕ
all_octets a = a.content ++ a.hidden

-- these octets, the first len of them as the content
abbrev pub cut_at : List ℕ → ℕ → ArrayOctets
cut_at octets len = record { content = take len octets; hidden = drop len octets }

-- n octets, all of them hidden and zero
abbrev pub blank : ℕ → ArrayOctets
blank n = record { content = []; hidden = replicate n 0 }

-- n octets with this content, followed by zeros
abbrev pub padded : ℕ → List ℕ → ArrayOctets
padded n octets = record { content = octets; hidden = replicate (n - length octets) 0 }

-- the array with its content replaced by other octets of the same length
abbrev pub with_content : ArrayOctets → List ℕ → ArrayOctets
with_content a octets = cut_at (octets ++ a.hidden) (length a.content)
