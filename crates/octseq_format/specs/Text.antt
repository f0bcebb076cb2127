-- All octets up to the end of a window, which are well-formed UTF-8.
use Rattle.std.specs.Prelude.{ℕ, List}
use Rattle.octseq.specs.Text.{IsWellFormed}
use Rattle.octseq.specs.Window.{Window, rest}
use Rattle.octseq_format.specs.Laws.{Relation, IsOne, IsOnward, IsReadBack}
use Rattle.octseq_format.specs.Rest.{IsRest, one_rest, onward_rest, rest_read_back}
use Rattle.octseq_format.specs.Where.{IsWhere, WhereFits, one_where, onward_where, where_read_back}

-- the window of what is left, which is well-formed UTF-8
abbrev pub IsText : Relation Window
IsText = IsWhere IsRest rest IsWellFormed

-- the octets are well-formed UTF-8
abbrev pub TextFits : List ℕ → Type 0
TextFits = WhereFits (λ _. Unit {0}) IsWellFormed

-- ---- lemmas: proved below this line, so what the words mean is read above it

pub one_text : IsOne IsText
one_text = one_where IsRest rest IsWellFormed one_rest

pub onward_text : IsOnward 0 IsText
onward_text = onward_where IsRest rest IsWellFormed onward_rest

pub text_read_back : IsReadBack IsText rest (λ octets. octets) TextFits
text_read_back = where_read_back IsRest rest IsWellFormed (λ octets. octets) (λ _. Unit {0}) rest_read_back
