-- Lists of protocol ids: RFC 9460, 7.1.1 and A.1.
use Rattle.std.specs.Prelude.{◌≡◌, ℕ, List, ◌++◌}
use Rattle.std.specs.List.{flat_map}
use Rattle.octseq_dns_data.specs.SvcParams.{AreIds}
use Rattle.octseq_dns_data.specs.SvcParamsText.{with_commas, listed_octet}

-- an id in a list: a comma and a backslash come after a backslash
abbrev pub listed_id : List ℕ → List ℕ
listed_id id = flat_map listed_octet id

-- ids with commas between them
abbrev pub listed_ids : List (List ℕ) → List ℕ
listed_ids ids = with_commas listed_id ids

-- no octet of an id comes next
abbrev pub IsStuck : List ℕ → Type 0
IsStuck rest = (octet : ℕ) (more : List ℕ) → ¬ (rest ≡ listed_octet octet ++ more)

-- The octets are ids in a list, one or more, none of them empty. The value has each after its length.
pub record IsIdsText (said value : List ℕ) : Type 0 where
  pub ids : List (List ℕ)
  pub spelled : said ≡ listed_ids ids
  pub are : AreIds value ids
