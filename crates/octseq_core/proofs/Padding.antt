-- An array made from a slice.
use Rattle.std.proofs.Common.{◌≡◌, ℕ, List, length, drop, replicate, ◌∙◌}
use Rattle.std.proofs.lemmas.List.{drop-replicate}
use Rattle.octseq_core.specs.ArrayOctets.{ArrayOctets, padded}

-- zeros after the content, as many as the array has room for
pub is_padded : (n : ℕ) (a : ArrayOctets) (octets : List ℕ) → a.content ≡ octets
    → a.hidden ≡ drop (length octets) (replicate n 0) → a ≡ padded n octets
is_padded n a octets content hidden =
    let zeros = hidden ∙ drop-replicate (length octets) n 0 in λ i. record { content = content i; hidden = zeros i }
