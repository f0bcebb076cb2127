-- Reading and writing QUIC's integers.
use Rattle.std.proofs.Common.{◌≡◌, ℕ, ◌+◌, ◌-◌, ◌*◌, ◌/◌, ◌%◌, ◌^◌, ◌<◌, ◌≤◌, List, [], ◌∷◌, length, take}
use Rattle.std.proofs.Common.{refl, sym, ap, ◌∙◌, arith, length-take-le, get_or-take}
use Rattle.std.specs.Int.{w8, w16, w32, w64, to_be_bytes}
use Rattle.std.specs.Prelude.{slice_index}
use Rattle.octseq.specs.Integer.{be, octets_be}
use Rattle.octseq.proofs.Values.{be_1}
use Rattle.octseq.proofs.Written.{made_be_2, made_be_4, made_be_8}
use Rattle.octseq_format.specs.Quic.{quic_long, quic_number, quic_octets, some_quic}
use Rattle.octseq_format.specs.Quic.{quic_octets_1, quic_octets_2, quic_octets_4, quic_octets_8}
use Rattle.octseq_format.specs.Varying.{IsAsLong, Leads, NoneLeads, long_leads, none_long}

-- fewer octets than the first two bits say
pub short : (power : ℕ) (xs : List ℕ) → slice_index xs 0 / 64 ≡ power → length xs < 2 ^ power
    → NoneLeads (IsAsLong quic_long) xs
unfolding quic_long
short power xs is few =
    let same = ap (λ p. 2 ^ p) is in
    none_long quic_long some_quic xs (omega (arith, same, few))

-- the number of as many as they say
pub leads : (power : ℕ) (xs : List ℕ) → slice_index xs 0 / 64 ≡ power → 2 ^ power ≤ length xs
    → (n : ℕ) → n ≡ be (take (2 ^ power) xs) % 2 ^ (8 * 2 ^ power - 2)
    → Leads (IsAsLong quic_long) quic_number xs n (2 ^ power)
unfolding quic_long quic_number
leads power xs is few n value =
    let k = 2 ^ power in
    record {
      few = few;
      whole = long_leads quic_long some_quic xs k few (ap (λ p. 2 ^ p) (sym is));
      value = value ∙ ap (λ j. be (take k xs) % 2 ^ (8 * j - 2)) (sym (length-take-le k xs few));
    }

-- one octet
pub leads_1 : (xs : List ℕ) (n : ℕ) → n ≡ slice_index xs 0 → n / 64 ≡ 0 → 0 < length xs
    → Leads (IsAsLong quic_long) quic_number xs n 1
leads_1 xs n first small some =
    let one = be_1 (take 1 xs) (length-take-le 1 xs some) in
    let head : slice_index (take 1 xs) 0 ≡ slice_index xs 0 = get_or-take 1 xs 0 0 (omega arith) in
    leads 0 xs (omega (arith, first, small)) some n (omega (arith, one, head, first, small))

-- ---- the octets of a number, by its size, as std makes them

pub made_1 : (n : ℕ) → n < 2 ^ 6 → quic_octets n ≡ to_be_bytes w8 n
unfolding octets_be
made_1 n few =
    let same : (0 + n) / 256 ^ 0 % 256 ≡ n % 256 = omega (arith, few) in
    quic_octets_1 n few ∙ ap (λ x. x ∷ []) same

pub made_2 : (n : ℕ) → 2 ^ 6 ≤ n → n < 2 ^ 14 → quic_octets n ≡ to_be_bytes w16 (2 ^ 14 + n)
made_2 n large few = quic_octets_2 n large few ∙ sym (made_be_2 (2 ^ 14 + n))

pub made_4 : (n : ℕ) → 2 ^ 14 ≤ n → n < 2 ^ 30 → quic_octets n ≡ to_be_bytes w32 (2 ^ 31 + n)
made_4 n large few = quic_octets_4 n large few ∙ sym (made_be_4 (2 ^ 31 + n))

pub made_8 : (n : ℕ) → 2 ^ 30 ≤ n → quic_octets n ≡ to_be_bytes w64 (3 * 2 ^ 62 + n)
made_8 n large = quic_octets_8 n large ∙ sym (made_be_8 (3 * 2 ^ 62 + n))

-- how QUIC's integers are written
pub ruleset quic_made = (made_1, made_2, made_4, made_8)
