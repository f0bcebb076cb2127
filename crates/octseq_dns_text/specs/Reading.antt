-- What has been read of words and of lists.
use Rattle.std.specs.Prelude.{ℕ, ◌<◌, ◌≤◌, ◌^◌, List, map, Vec}
use Rattle.std.specs.BTreeMap.{BTreeMap}
use Rattle.std.specs.List.{All, AllZip}
use Rattle.std.specs.List.Sorted.{IsPermutation, IsStrictlyIncreasing}
use Rattle.octseq_dns_data.specs.SvcParams.{Param}
use Rattle.octseq_dns_text.specs.KeyText.{IsKeyText}
use Rattle.octseq_dns_text.specs.ParamText.{IsParamText}
use Rattle.octseq_dns_text.specs.Split.{items_of}

-- The items of a list are the names of these keys, in another order, in which they ascend. None is 0.
pub record AreReadKeys (said keys : List ℕ) : Type 0 where
  pub named : List ℕ
  pub each : AllZip IsKeyText (items_of said) named
  pub moved : IsPermutation named keys
  pub bits : All (λ key. (1 ≤ key) × (key < 2 ^ 16)) keys
  pub ascending : IsStrictlyIncreasing keys

-- an entry of a map, as a parameter
abbrev pub entry_param : {Z : Type 0} → ℕ × Vec ℕ Z → Param
entry_param entry = (entry.0, entry.1.items)

-- the parameters in a map, by their keys
abbrev pub params_in : {Z : Type 0} → BTreeMap ℕ (Vec ℕ Z) → List Param
params_in params = map entry_param params.entries

-- The words are these parameters, in another order.
pub record AreReadParams (words : List (List ℕ)) (params : List Param) : Type 0 where
  pub said : List Param
  pub each : AllZip IsParamText words said
  pub moved : IsPermutation said params
