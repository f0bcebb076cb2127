-- Writers that count the octets written to them.
use Rattle.std.proofs.Common.{◌≡◌, ℕ, ◌+◌, List, [], ◌∷◌, length, ap, ◌∙◌, arith}
use Rattle.std.proofs.lemmas.List.{length-append}
use Rattle.std.specs.Fmt.{WritesInCalls}
use Rattle.std.specs.List.{concat, FoldsTo}

module _ {W : Type 0} (took : W → List ℕ → W → Type 0) (count : W → ℕ)
    (counts : (w : W) (octets : List ℕ) (v : W) → took w octets v → count v ≡ count w + length octets) where
  after_calls : (w : W) (parts : List (List ℕ)) (v : W) → FoldsTo took w parts v
      → count v ≡ count w + length (concat parts)
  after_calls w [] v same = let is = ap count same in omega (arith, is)
  after_calls w (part ∷ parts) v calls =
      let one = counts w part calls.0 calls.1 in
      let more = after_calls calls.0 parts v calls.2 in
      omega (arith, one, more, length-append part (concat parts))

  -- the octets written are counted, whatever the number of calls
  pub count_after_writes : (w : W) (octets : List ℕ) (v : W) → WritesInCalls took w octets v
      → count v ≡ count w + length octets
  count_after_writes w octets v writes =
      after_calls w writes.parts v writes.calls ∙ ap (λ l. count w + length l) writes.whole
