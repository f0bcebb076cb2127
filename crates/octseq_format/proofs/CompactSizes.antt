-- Reading and writing a CompactSize.
use Rattle.std.proofs.Common.{◌≡◌, ℕ, suc, ◌-◌, ◌%◌, ◌^◌, ◌<◌, ◌≤◌, Bool, false, List, [], ◌∷◌, length, take, drop}
use Rattle.std.proofs.Common.{refl, sym, ap, ◌∙◌, arith, get_or-take}
use Rattle.std.proofs.lemmas.Bool.{lt-ltb}
use Rattle.std.specs.Prelude.{slice_index, slice_range, nat_lt, if◌then◌else◌}
use Rattle.octseq.specs.Integer.{le}
use Rattle.octseq_format.specs.CompactSize.{compact_long, compact_size, compact_octets, some_compact}
use Rattle.octseq_format.specs.CompactSize.{compact_alone, compact_itself, compact_followed, compact_octets_1}
use Rattle.octseq_format.specs.CompactSize.{compact_octets_3, compact_octets_5, compact_octets_9}
use Rattle.octseq.proofs.Written.{made_le_2, made_le_4, made_le_8}
use Rattle.std.specs.Int.{w8, w16, w32, w64, to_le_bytes}
use Rattle.octseq_format.specs.Varying.{IsAsLong, Leads, NoneLeads, long_leads, none_long, after_one}

-- fewer octets than the first one says
pub short : (first k : ℕ) → compact_long first ≡ k → (xs : List ℕ) → slice_index xs 0 ≡ first → length xs < k
    → NoneLeads (IsAsLong compact_long) xs
short first k long xs is few =
    let same = ap compact_long is in
    none_long compact_long some_compact xs (omega (arith, same, long, few))

-- a number after the first one
pub after_first : (first k : ℕ) → 253 ≤ first → compact_long first ≡ suc k → (xs : List ℕ)
    → slice_index xs 0 ≡ first → suc k ≤ length xs
    → (n : ℕ) → n ≡ le (slice_range xs 1 (suc k)) → Leads (IsAsLong compact_long) compact_size xs n (suc k)
after_first first k large long xs is few n value =
    let head : slice_index (take (suc k) xs) 0 ≡ first = get_or-take (suc k) xs 0 0 (omega arith) ∙ is in
    record {
      few = few;
      whole = long_leads compact_long some_compact xs (suc k) few (sym long ∙ ap compact_long (sym is));
      value = value ∙ ap le (sym (after_one xs k few))
          ∙ sym (compact_followed (take (suc k) xs) (omega (arith, large, head)));
    }

-- a number that is the first one
pub first_itself : (first : ℕ) → first < 253 → (xs : List ℕ) → slice_index xs 0 ≡ first → 0 < length xs
    → Leads (IsAsLong compact_long) compact_size xs first 1
first_itself first small xs is some =
    let head : slice_index (take 1 xs) 0 ≡ first = get_or-take 1 xs 0 0 (omega arith) ∙ is in
    record {
      few = some;
      whole = long_leads compact_long some_compact xs 1 some
          (sym (compact_alone first small) ∙ ap compact_long (sym is));
      value = sym head ∙ sym (compact_itself (take 1 xs) (omega (arith, head, small)));
    }

-- ---- the octets of a number, by its size, as std makes them

pub made_1 : (n : ℕ) → n < 253 → compact_octets n ≡ to_le_bytes w8 n
made_1 n few = compact_octets_1 n few ∙ (let same : n ≡ n % 256 = omega (arith, few) in ap (λ x. x ∷ []) same)

pub made_3 : (n : ℕ) → 253 ≤ n → n < 2 ^ 16 → compact_octets n ≡ 253 ∷ to_le_bytes w16 n
made_3 n large few = compact_octets_3 n large few ∙ ap (λ xs. 253 ∷ xs) (sym (made_le_2 n))

pub made_5 : (n : ℕ) → 2 ^ 16 ≤ n → n < 2 ^ 32 → compact_octets n ≡ 254 ∷ to_le_bytes w32 n
made_5 n large few = compact_octets_5 n large few ∙ ap (λ xs. 254 ∷ xs) (sym (made_le_4 n))

pub made_9 : (n : ℕ) → 2 ^ 32 ≤ n → compact_octets n ≡ 255 ∷ to_le_bytes w64 n
made_9 n large = compact_octets_9 n large ∙ ap (λ xs. 255 ∷ xs) (sym (made_le_8 n))

-- how a CompactSize is written
pub ruleset compact_made = (made_1, made_3, made_5, made_9)
