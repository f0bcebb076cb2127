-- The characters of well-formed octets.
use Rattle.std.proofs.Common.{◌≡◌, ℕ, List, [], ◌∷◌, ◌++◌, ap, sym, ◌∙◌, subst}
use Rattle.octseq_utf8.specs.Encoding.{IsCharacter, encoding_of}
use Rattle.octseq_utf8.specs.Text.{Spells, IsWellFormed, chars, octets_of}
use Rattle.octseq_utf8.proofs.Numbers.{encoding_is_of}
use Rattle.octseq_utf8.proofs.Spelling.{chars_of, octets_of_spelled, spells_chars, spells_one, spells-append}

-- well-formed octets spell their characters
pub spelled : (x : List ℕ) → IsWellFormed x → Spells x (chars x)
spelled x (cs, s) = spells_chars s

-- the characters of well-formed octets are encoded as those octets
pub octets_of-chars : (x : List ℕ) → IsWellFormed x → octets_of (chars x) ≡ x
octets_of-chars x w = octets_of_spelled (spelled x w)

-- a well-formed text followed by another is well formed
pub well_formed-append : (x y : List ℕ) → IsWellFormed x → IsWellFormed y → IsWellFormed (x ++ y)
well_formed-append x y (cs, s) (ds, t) = (cs ++ ds, spells-append s t)

-- the characters of two joined texts are those of the first followed by those of the second
pub chars-append : (x y : List ℕ) → IsWellFormed x → IsWellFormed y → chars (x ++ y) ≡ chars x ++ chars y
chars-append x y v w = chars_of (spells-append (spelled x v) (spelled y w))

-- the joined characters of two texts are encoded as the joined texts
pub octets_of-append : (x y : List ℕ) → IsWellFormed x → IsWellFormed y → octets_of (chars x ++ chars y) ≡ x ++ y
octets_of-append x y v w = octets_of_spelled (spells-append (spelled x v) (spelled y w))

-- texts with the same characters are the same
pub same_text : (x y : List ℕ) → IsWellFormed x → IsWellFormed y → chars x ≡ chars y → x ≡ y
same_text x y v w e = sym (octets_of-chars x v) ∙ ap octets_of e ∙ octets_of-chars y w

-- the encoding of a character spells it

spells_encoding : (c : ℕ) → IsCharacter c → Spells (encoding_of c) (c ∷ [])
spells_encoding c h = let e = encoding_is_of c h in subst (λ n. Spells (encoding_of c) (n ∷ [])) e.1 (spells_one e.0)

-- the encoding of a character is well formed
pub well_formed-encoding : (c : ℕ) → IsCharacter c → IsWellFormed (encoding_of c)
well_formed-encoding c h = (c ∷ [], spells_encoding c h)

-- the encoding of a character spells only that character
pub chars-encoding : (c : ℕ) → IsCharacter c → chars (encoding_of c) ≡ c ∷ []
chars-encoding c h = chars_of (spells_encoding c h)
