-- What a writer has written so far.
use Rattle.std.specs.Prelude.{◌≡◌, ℕ, List}
use Rattle.octseq_utf8.specs.Parts.{text}
use Rattle.octseq_utf8.specs.Reading.{parts_of}

-- octets that are their own lossy text, so they are well-formed
abbrev pub IsOwnText : List ℕ → Type 0
IsOwnText octets = text (parts_of octets) ≡ octets
