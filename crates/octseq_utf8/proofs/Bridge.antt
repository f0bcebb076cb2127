-- The same definitions in std: well formed is `IsUtf8`, a character is a scalar, and its encoding is `encode_utf8`.
use Rattle.std.proofs.Common.{◌≡◌, ℕ, Bool, true, ◌&&◌, List, [], ◌∷◌, ◌++◌, map, refl, arith, ap, sym, ◌∙◌, subst}
use Rattle.std.proofs.lemmas.Bool.Decides.{nat_tests}
use Rattle.std.specs.Str.{IsUtf8}
use Rattle.std.specs.List.{flat_map, AllByRecursion}
use lib.Utf8.{scalar, scalars, encode, encodes, scalar_cases}
use Rattle.octseq_utf8.specs.Encoding.{IsEncoding, IsCharacter, number_of, encoding_of}
use Rattle.octseq_utf8.specs.Text.{Spells, IsWellFormed}
use Rattle.octseq_utf8.proofs.Numbers.{number_is_character, encoding_is_of}
use Rattle.octseq_utf8.proofs.Spelling.{octets_of_spelled}

-- std encodes a number in the same octets as the definition here
pub encode-is : (c : ℕ) → encode c ≡ encoding_of c
unfolding encoding_of encode
encode-is c = refl

-- std encodes a list of numbers as their encodings, one after another
pub encodes-are : (cs : List ℕ) → encodes cs ≡ flat_map encoding_of cs
encodes-are [] = refl
encodes-are (c ∷ cs) = ap (λ y. y ++ encodes cs) (encode-is c) ∙ ap (λ y. encoding_of c ++ y) (encodes-are cs)

-- a character is a scalar of std
pub scalar_from : (c : ℕ) → IsCharacter c → scalar c ≡ true
scalar_from c h = grind (arith, nat_tests)

-- a scalar of std is a character
pub from_scalar : (c : ℕ) → scalar c ≡ true → IsCharacter c
from_scalar c h = grind (arith, nat_tests, scalar_cases c h)

scalars_from : (es : List (List ℕ)) → AllByRecursion IsEncoding es → scalars (map number_of es) ≡ true
scalars_from [] h = refl
scalars_from (e ∷ es) h =
    ap (λ b. b && scalars (map number_of es)) (scalar_from (number_of e) (number_is_character h.0))
    ∙ scalars_from es h.1

both : (a b : Bool) → a && b ≡ true → (a ≡ true) × (b ≡ true)
both a b h = grind (arith, nat_tests)

spells_all : (cs : List ℕ) → scalars cs ≡ true → Spells (flat_map encoding_of cs) cs
spells_all [] h = record { encodings = []; each = tt; joined = refl; numbers = refl }
spells_all (c ∷ cs) h =
    let each = both (scalar c) (scalars cs) h in
    let first = encoding_is_of c (from_scalar c each.0) in
    let rest = spells_all cs each.1 in
    record {
      encodings = encoding_of c ∷ rest.encodings;
      each = (first.0, rest.each);
      joined = ap (λ y. encoding_of c ++ y) rest.joined;
      numbers = ap (λ n. n ∷ map number_of rest.encodings) first.1 ∙ ap (λ ns. c ∷ ns) rest.numbers;
    }

-- well-formed octets are UTF-8 by std's definition
pub utf8_from_well_formed : (x : List ℕ) → IsWellFormed x → IsUtf8 x
utf8_from_well_formed x (cs, s) =
    (cs, (ap scalars (sym s.numbers) ∙ scalars_from s.encodings s.each, encodes-are cs ∙ octets_of_spelled s))

-- octets that are UTF-8 by std's definition are well formed
pub well_formed_from_utf8 : (x : List ℕ) → IsUtf8 x → IsWellFormed x
well_formed_from_utf8 x (cs, u) = (cs, subst (λ y. Spells y cs) (sym (encodes-are cs) ∙ u.1) (spells_all cs u.0))
