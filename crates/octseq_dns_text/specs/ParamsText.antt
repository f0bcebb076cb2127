-- Service parameters, as words: RFC 9460, 2.1.
use Rattle.std.specs.Prelude.{ℕ, List}
use Rattle.std.specs.List.{AllZip}
use Rattle.std.specs.List.Sorted.{IsPermutation}
use Rattle.octseq_dns_data.specs.SvcParams.{AreParams, Param}
use Rattle.octseq_dns_text.specs.ParamText.{IsParamText}

-- The words are parameters in any order. The octets are those of the same parameters with ascending keys, so that each
-- key is there once.
pub record IsParamsText (words : List (List ℕ)) (octets : List ℕ) : Type 0 where
  pub said : List Param
  pub each : AllZip IsParamText words said
  pub sorted : List Param
  pub moved : IsPermutation said sorted
  pub are : AreParams octets sorted
