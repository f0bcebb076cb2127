-- What contracts see of character strings.
use Rattle.std.specs.Iterator.{YieldsFirstBy}
use Rattle.std.specs.Prelude.{◌≡◌, ℕ, List, Option, IfSome}
use Rattle.octseq.specs.declared.AsOctets.{Ghosts}
use Rattle.octseq.specs.Parser.{window}
use Rattle.octseq.specs.Part.{part, past_part}
use Rattle.octseq.specs.Window.{Window, rest}
use Rattle.octseq_dns_data.specs.declared.data.txt.CharStr.{CharStr}
use Rattle.octseq_dns_data.specs.declared.data.txt.Strings.{Strings}
use Rattle.octseq_dns_data.specs.declared.data.txt.Txt.{Txt}

-- the strings
abbrev pub strings_of : {R : Type 0} {g : Ghosts R} → Txt R g → List (List ℕ)
strings_of txt = txt.strings.0

-- the window at whose position they are
abbrev pub txt_place : {R : Type 0} {g : Ghosts R} → Txt R g → Window
txt_place txt = window txt.parser

-- the strings that an iterator has left
abbrev pub strings_left : {R : Type 0} {g : Ghosts R} → Strings R g → List (List ℕ)
strings_left strings = strings.ahead.0

-- the window at whose position they are
abbrev pub strings_ahead : {R : Type 0} {g : Ghosts R} → Strings R g → Window
strings_ahead strings = window strings.parser

-- the window of a string's octets
abbrev pub string_place : {R : Type 0} {g : Ghosts R} → CharStr R g → Window
string_place string = window string.parser

-- the octets of a string
abbrev pub string_octets : {R : Type 0} {g : Ghosts R} → CharStr R g → List ℕ
string_octets string = rest (string_place string)

-- an iterator steps over a string: its octets are where its length says, and the next one is after them
abbrev pub StepsOverString : {R : Type 0} {g : Ghosts R} → Strings R g → Window → Strings R g → Type 0
StepsOverString before place after =
    (place ≡ part 1 (strings_ahead before)) × (strings_ahead after ≡ past_part 1 (strings_ahead before))

-- what `next` returns: the first string that is left, at its place; or none if none is left
abbrev pub YieldsNextString : {R : Type 0} {g : Ghosts R} → Strings R g → Option (CharStr R g) → Strings R g → Type 0
YieldsNextString before given after = YieldsFirstBy string_octets strings_left before given after
    × IfSome given (λ string. StepsOverString before (string_place string) after)
