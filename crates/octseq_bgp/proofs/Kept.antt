-- The address of a prefix is kept when it is written.
use Rattle.std.proofs.Common.{◌≡◌, ℕ, zero, suc, ◌+◌, ◌*◌, ◌/◌, ◌^◌, ◌<◌, ◌≤◌, ◌⊎◌, inl, inr, List, [], ◌∷◌, get_or}
use Rattle.std.proofs.Common.{refl, sym, ap, ◌∙◌, arith}
use Rattle.std.proofs.Math.Nat.{mul-div_cancel, one-le-pow}
use Rattle.std.proofs.lemmas.List.{get_or_past}
use Rattle.octseq_format.specs.Canonical.{AreOctets}
use Rattle.octseq_bgp.specs.Parts.{octets_of_bits}
use Rattle.octseq_bgp.specs.PrefixValue.{address_from, prefix_address, bits_after, cleared}
use Rattle.octseq_bgp.proofs.Prefixes.{address_long}

octet_at : (octets : List ℕ) (k : ℕ) → AreOctets octets → get_or octets k 0 < 256
octet_at [] k each = omega arith
octet_at (x ∷ octets) zero each = each.0
octet_at (x ∷ octets) (suc k) each = octet_at octets k each.1

pub address_at : (n i bits : ℕ) (octets : List ℕ) (k : ℕ) → k < n
    → get_or (address_from n i bits octets) k 0 ≡ cleared (bits_after bits (i + k)) (get_or octets (i + k) 0)
address_at zero i bits octets k below = absurd (omega (arith, below))
address_at (suc n) i bits octets zero below =
    ap (λ j. cleared (bits_after bits j) (get_or octets j 0)) (omega arith)
address_at (suc n) i bits octets (suc k) below =
    let offset : i + 1 + k ≡ i + suc k = omega arith in
    address_at n (i + 1) bits octets k (omega (arith, below))
    ∙ ap (λ j. cleared (bits_after bits j) (get_or octets j 0)) offset

-- bits that are cleared stay so
pub cleared_twice : (z x : ℕ) → cleared z x ≡ cleared z (cleared z x)
cleared_twice z x = ap (λ q. q * 2 ^ z) (sym (mul-div_cancel (x / 2 ^ z) (one-le-pow z 2 (omega arith))))

kept_at : (bits k : ℕ) (octets : List ℕ) → AreOctets octets → (k < octets_of_bits bits) ⊎ (octets_of_bits bits ≤ k)
    → cleared (bits_after bits k) (get_or octets k 0)
    ≡ cleared (bits_after bits k) (get_or (address_from (octets_of_bits bits) 0 bits octets) k 0)
kept_at bits k octets each (inl below) =
    let z = bits_after bits k in
    let here : 0 + k ≡ k = omega arith in
    cleared_twice z (get_or octets k 0)
    ∙ ap (cleared z) (sym (address_at (octets_of_bits bits) 0 bits octets k below
    ∙ ap (λ j. cleared (bits_after bits j) (get_or octets j 0)) here))
kept_at bits k octets each (inr past) =
    let z = bits_after bits k in
    let all : z ≡ 8 = omega (arith, past) in
    let long = address_long (octets_of_bits bits) 0 bits octets in
    let small = octet_at octets k each in
    let none : cleared 8 (get_or octets k 0) ≡ 0 = omega (arith, small) in
    let nothing : cleared 8 0 ≡ 0 = omega arith in
    ap (λ z. cleared z (get_or octets k 0)) all ∙ none ∙ sym nothing ∙ ap (λ z. cleared z 0) (sym all)
    ∙ ap (cleared z) (sym
    (get_or_past (address_from (octets_of_bits bits) 0 bits octets) k 0 (omega (arith, long, past))))

-- an index is below another or not
below_or_not : (k n : ℕ) → (k < n) ⊎ (n ≤ k)
below_or_not k zero = inr (omega arith)
below_or_not zero (suc n) = inl (omega arith)
below_or_not (suc k) (suc n) = elim (below_or_not k n) [
  | inl below ↦ inl (omega (arith, below))
  | inr past ↦ inr (omega (arith, past))
]

-- octets that agree in the bits of an address have the same one
agree : (n i bits : ℕ) (xs ys : List ℕ)
    → ((k : ℕ) → cleared (bits_after bits k) (get_or xs k 0) ≡ cleared (bits_after bits k) (get_or ys k 0))
    → address_from n i bits xs ≡ address_from n i bits ys
agree zero i bits xs ys same = refl
agree (suc n) i bits xs ys same =
    ap (λ x. x ∷ address_from n (i + 1) bits xs) (same i)
    ∙ ap (λ more. cleared (bits_after bits i) (get_or ys i 0) ∷ more) (agree n (i + 1) bits xs ys same)

pub address_kept : (bits : ℕ) (address : List ℕ) → AreOctets address
    → prefix_address bits (address_from (octets_of_bits bits) 0 bits address) ≡ prefix_address bits address
address_kept bits address each =
    agree 16 0 bits (address_from (octets_of_bits bits) 0 bits address) address
    (λ k. sym (kept_at bits k address each (below_or_not k (octets_of_bits bits))))
