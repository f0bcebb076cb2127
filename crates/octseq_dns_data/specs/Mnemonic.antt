-- How named numbers are shown and read: by the mnemonics of the DNS parameters registry, otherwise by a word and the
-- number (RFC 3597, 5).
use Rattle.std.specs.Prelude.{◌≡◌, ℕ, ◌<◌, ◌⊎◌, nat_eq, if◌then◌else◌, List, [], ◌∷◌, ◌++◌, map, codes}
use Rattle.std.specs.Prelude.{Option, None, Some, unwrap_or}
use Rattle.std.specs.Char.{to_ascii_lowercase}
use Rattle.std.specs.Fmt.{decimal}
use Rattle.std.specs.List.{IsAmong}
use Rattle.std.specs.Str.{str_eq_ignore_ascii_case}
use Rattle.std.specs.Str.Parse.{IsNumeral, digits_value}
use Rattle.octseq_dns_data.specs.Rtype.{rtype_names}

-- numbers, each with its name
abbrev pub Mnemonics : Type 0
Mnemonics = List (ℕ × List ℕ)

-- the name of a number
abbrev pub name_in : Mnemonics → ℕ → Option (List ℕ)
name_in [] number = None
name_in (named ∷ more) number = if nat_eq named.0 number then Some named.1 else name_in more number

-- the name of a number, otherwise the word and the number
abbrev pub name_or : List ℕ → Mnemonics → ℕ → List ℕ
name_or word names number = unwrap_or (name_in names number) (word ++ decimal number)

-- the first number whose name a text is, in letters of either case
abbrev pub number_in : Mnemonics → List ℕ → Option ℕ
number_in [] text = None
number_in (named ∷ more) text = if str_eq_ignore_ascii_case text named.1 then Some named.0 else number_in more text

-- a text is a word, in letters of either case
abbrev pub SpellsWord : List ℕ → List ℕ → Type 0
SpellsWord text word = map to_ascii_lowercase text ≡ map to_ascii_lowercase word

-- a text is the name of a number
pub record IsNameOf (names : Mnemonics) (text : List ℕ) (number : ℕ) : Type 0 where
  pub name : List ℕ
  pub named : IsAmong names (number, name)
  pub spelled : SpellsWord text name

-- a text is a word and one or more decimal digits, of a number of 16 bits
pub record IsWordAndNumber (word text : List ℕ) (number : ℕ) : Type 0 where
  pub letters : List ℕ
  pub digits : List ℕ
  pub parts : text ≡ letters ++ digits
  pub spelled : SpellsWord letters word
  pub numeral : IsNumeral 10 digits
  pub value : digits_value 10 digits ≡ number
  pub bits : number < 65536

-- a text is the name of a number, otherwise the word and the number
abbrev pub IsMnemonicText : List ℕ → Mnemonics → List ℕ → ℕ → Type 0
IsMnemonicText word names text number = IsNameOf names text number ⊎ IsWordAndNumber word text number

abbrev pub class_names : Mnemonics
class_names = (1, codes "IN") ∷ (3, codes "CH") ∷ (4, codes "HS") ∷ (254, codes "NONE") ∷ (255, codes "ANY") ∷ []

-- the text of a class, and of a type
unfoldable pub class_text : ℕ → List ℕ
class_text = name_or (codes "CLASS") class_names

unfoldable pub rtype_text : ℕ → List ℕ
rtype_text = name_or (codes "TYPE") rtype_names

-- a text is the text of a class, or of a type, in letters of either case
unfoldable pub ReadsClass : List ℕ → ℕ → Type 0
ReadsClass = IsMnemonicText (codes "CLASS") class_names

unfoldable pub ReadsRtype : List ℕ → ℕ → Type 0
ReadsRtype = IsMnemonicText (codes "TYPE") rtype_names
