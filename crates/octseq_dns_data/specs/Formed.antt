-- All octets up to the end of a window, which have a form.
use Rattle.std.specs.Prelude.{ℕ, ◌≤◌, List, length}
use Rattle.octseq.specs.Window.{Window, rest}
use Rattle.octseq_format.specs.Laws.{Relation, IsOne, IsOnward, IsReadBack}
use Rattle.octseq_format.specs.Rest.{IsRest, one_rest, onward_rest, rest_read_back}
use Rattle.octseq_format.specs.Where.{IsWhere, WhereFits, one_where, onward_where, where_read_back}

-- the window of what is left, which has the form
abbrev pub IsFormed : (List ℕ → Type 0) → Relation Window
IsFormed HasForm = IsWhere IsRest rest HasForm

-- the octets have the form
abbrev pub FormedFits : (List ℕ → Type 0) → List ℕ → Type 0
FormedFits HasForm = WhereFits (λ _. Unit {0}) HasForm

-- at most as many octets as a length of one octet can say
abbrev pub IsString : List ℕ → Type 0
IsString octets = length octets ≤ 255

-- at least one octet
abbrev pub IsSome : List ℕ → Type 0
IsSome octets = 1 ≤ length octets

-- both
abbrev pub IsSomeString : List ℕ → Type 0
IsSomeString octets = IsSome octets × IsString octets

-- ---- lemmas: proved below this line, so what the words mean is read above it

module _ (HasForm : List ℕ → Type 0) where
  pub one_formed : IsOne (IsFormed HasForm)
  one_formed = one_where IsRest rest HasForm one_rest

  pub onward_formed : IsOnward 0 (IsFormed HasForm)
  onward_formed = onward_where IsRest rest HasForm onward_rest

  pub formed_read_back : IsReadBack (IsFormed HasForm) rest (λ octets. octets) (FormedFits HasForm)
  formed_read_back = where_read_back IsRest rest HasForm (λ octets. octets) (λ _. Unit {0}) rest_read_back
