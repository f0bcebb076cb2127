-- Messages that are filled with prefixes, one after another.
use Rattle.std.specs.Prelude.{◌≡◌, ℕ, ◌+◌, ◌<◌, ◌≤◌, Bool, true, Option, List, [], ◌∷◌, ◌++◌, length, take, drop, map}
use Rattle.std.specs.Prelude.{Result, IfOk, IsErr, OnErr}
use Rattle.std.specs.List.{AllByRecursion, flat_map}
use Rattle.octseq.specs.Refusal.{IsMalformed, IsShort, IsMemory, write_error}
use Rattle.octseq.specs.declared.error.WriteError.{WriteError}
use Rattle.octseq_bgp.specs.Composed.{least}
use Rattle.octseq_bgp.specs.Writing.{Writing, more_in_last}
use Rattle.octseq_bgp.specs.Written.{WrittenPrefix, WrittenUpdate, longest, prefix_octets, prefixes_octets}
use Rattle.octseq_bgp.specs.Written.{update_octets, written_prefix}
use Rattle.octseq_bgp.specs.declared.attribute.attribute_type.AttributeType.{AttributeType}
use Rattle.octseq_bgp.specs.declared.prefix.PathId.{PathId}
use Rattle.octseq_bgp.specs.declared.prefix.Prefix.{Prefix}

-- ---- runs of a row

-- The most items from the front of a row that fit: none, or so many that do; and no more do.
pub record IsMost {A : Type 0} (Fits : List A → Type 0) (row : List A) (n : ℕ) : Type 0 where
  pub few : n ≤ length row
  pub fits : 1 ≤ n → Fits (take n row)
  pub most : (m : ℕ) → m ≤ length row → Fits (take m row) → m ≤ n

-- The numbers of items of runs that are filled one after another, each with the most that fit of what is left, until
-- none is left.
abbrev pub AreRunsFilled : {A : Type 0} → (List A → Type 0) → List A → List ℕ → Type 0
AreRunsFilled Fits row [] = row ≡ []
AreRunsFilled Fits row (n ∷ counts) = (1 ≤ length row) × IsMost Fits row n × AreRunsFilled Fits (drop n row) counts

-- A row is cut into runs, in order, each of which fits.
pub record AreRunsThatFit {A : Type 0} (Fits : List A → Type 0) (row : List A) (runs : List (List A)) : Type 0 where
  pub whole : flat_map (λ run. run) runs ≡ row
  pub fit : AllByRecursion Fits runs

-- ---- prefixes

-- a prefix that callers give, and its path id, if it has one
abbrev pub Given : Type 0
Given = Prefix × Option PathId

-- as it is written
abbrev pub given : Given → WrittenPrefix
given p = written_prefix p.0 p.1

-- its number of octets
abbrev pub given_long : Given → ℕ
given_long p = length (prefix_octets (given p))

-- an UPDATE with more withdrawn prefixes
abbrev pub with_withdrawn : WrittenUpdate → List Given → WrittenUpdate
with_withdrawn u row = record u { withdrawn = u.withdrawn ++ map given row }

-- with more announced prefixes
abbrev pub with_announced : WrittenUpdate → List Given → WrittenUpdate
with_announced u row = record u { announced = u.announced ++ map given row }

-- with more prefixes at the end of the last attribute, whose type this is; with none it stays as it is
abbrev pub with_in_last : AttributeType → WrittenUpdate → List Given → WrittenUpdate
with_in_last t u [] = u
with_in_last t u (p ∷ row) = more_in_last t u (prefixes_octets (map given (p ∷ row)))

-- ---- what a call that fills a message does

-- an UPDATE with more items has at most so many octets
abbrev pub FitWith : {A : Type 0} → ℕ → (List A → WrittenUpdate) → List A → Type 0
FitWith most more run = length (update_octets (more run)) ≤ most

-- The first items of a row, but not all, are good, and fit if there are any.
pub record ArePushed {A : Type 0} (Good : A → Type 0) (Fits : List A → Type 0) (row : List A) (n : ℕ) : Type 0 where
  pub few : n < length row
  pub good : AllByRecursion Good (take n row)
  pub fits : 1 ≤ n → Fits (take n row)

-- A call pushes items of a row, from its front, until the message is full, and says how many. Each of them is good, and
-- so is the one that doesn't fit. It is refused as malformed exactly if it comes to one that isn't good, and for lack
-- of memory only if the type requests memory. The items before the one that is refused stay pushed.
pub record FillsMessage {A B : Type 0} (limit : Option ℕ) (asks : Bool) (Good : A → Type 0)
    (more : List A → WrittenUpdate) (row : List A) (result : Result ℕ WriteError) (old new : Writing B) : Type 0 where
  pub ok : IfOk result (λ n. new.update ≡ more (take n row))
  pub most : IfOk result (λ n. IsMost (FitWith (least (longest old.session) limit) more) row n)
  pub good : IfOk result (λ n. AllByRecursion Good (take (n + 1) row))
  pub err : OnErr result ((n : ℕ) × ArePushed Good (FitWith (least (longest old.session) limit) more) row n
      × (new.update ≡ more (take n row)))
  pub malformed : IsMalformed write_error result → (n : ℕ)
      × ArePushed Good (FitWith (least (longest old.session) limit) more) row n
      × ¬ AllByRecursion Good (take (n + 1) row) × (new.update ≡ more (take n row))
  pub bad : (n : ℕ) → ArePushed Good (FitWith (least (longest old.session) limit) more) row n
      → ¬ AllByRecursion Good (take (n + 1) row) → IsErr result
  pub never_short : ¬ IsShort write_error result
  pub memory : IsMemory write_error result → asks ≡ true
  pub open_list : new.open_list ≡ old.open_list
  pub session : new.session ≡ old.session
