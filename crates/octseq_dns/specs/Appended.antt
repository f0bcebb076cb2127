-- Entries that were read, appended to a message.
use Rattle.std.specs.Prelude.{◌≡◌, ℕ, ◌+◌, ◌≤◌, List, length, map}
use Rattle.std.specs.List.{AllByRecursion, AllZip, sum_by}
use Rattle.octseq_dns_compress.specs.State.{State, Entry, with_entries}

-- Something is written for all entries that were read, and it was appended: `Of` says what is written for one, `entry`
-- as which entry. All of it fits. Each label took a turn or an octet.
pub record Appended {A I : Type 0} (Of : I → A → Type 0) (entry : A → Entry) (labels : A → ℕ) (FitsOne : A → Type 0)
    (most : ℕ) (all : List I) (old new : State) (from turns : ℕ) : Type 0 where
  pub exists : (written : List A) × AllZip Of all written
  pub is : (written : List A) → AllZip Of all written → new ≡ with_entries most old (map entry written)
  pub fits : (written : List A) → AllZip Of all written → AllByRecursion FitsOne written
  pub least : (written : List A) → AllZip Of all written
      → from + sum_by labels written + length old.octets ≤ turns + length new.octets
