-- Parts that are appended, and the count of a list.
use Rattle.std.specs.Prelude.{◌≡◌, ℕ, ◌+◌, ◌<◌, ◌≤◌, ◌↔◌, ◌⊎◌, Bool, true, min, Option, Some, None, Result, OnOk, OnErr}
use Rattle.std.specs.Prelude.{List, ◌++◌, length, take, drop}
use Rattle.std.specs.Borrow.{Bor}
use Rattle.std.specs.List.{flat_map}
use Rattle.octseq.specs.Integer.{octets_be}
use Rattle.octseq.specs.Limit.{ExceedsLimit}
use Rattle.octseq.specs.Refusal.{IsShort, IsMemory, append_error}
use Rattle.octseq.specs.declared.AppendError.{AppendError}

-- parts, one after another
abbrev pub parts_joined : List (Bor (List ℕ)) → List ℕ
parts_joined parts = flat_map (λ part. part.now) parts

-- a number is written over the two octets at an offset
abbrev pub with_count : ℕ → ℕ → List ℕ → List ℕ
with_count at n content = take at content ++ (octets_be 2 n ++ drop (at + 2) content)

-- a limit, or the greatest number of octets after a header
abbrev pub body_limit : Option ℕ → Option ℕ
body_limit None = Some 4294967295
body_limit (Some limit) = Some (min limit 4294967295)

-- A call appends the octets after a header, or nothing. It is refused as short exactly if there are more than
-- 4,294,967,295, or the content would exceed its limit.
pub record AppendsBody (limit : Option ℕ) (asks : Bool) (result : Result (Unit {0}) AppendError)
    (octets old new : List ℕ) : Type 0 where
  pub ok : OnOk result (new ≡ old ++ octets)
  pub few : OnOk result (length octets ≤ 4294967295)
  pub err : OnErr result (new ≡ old)
  pub short : IsShort append_error result ↔ (4294967295 < length octets)
      ⊎ ExceedsLimit limit (length old + length octets)
  pub memory : IsMemory append_error result → asks ≡ true
