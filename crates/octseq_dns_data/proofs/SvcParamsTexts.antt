-- The text of service parameters, piece by piece.
use Rattle.std.proofs.Common.{◌≡◌, ℕ, ◌<◌, List, [], ◌∷◌, ◌++◌, length, Some, codes, refl, sym, ap, ◌∙◌, arith}
use Rattle.std.proofs.lemmas.Grind.{flat_map-append}
use Rattle.std.proofs.lemmas.List.Concat.{flat_map-cons}
use Rattle.std.specs.List.{flat_map}
use Rattle.octseq.specs.OctetsText.{string_octet_text}
use Rattle.octseq_dns_data.specs.Pieces.{Split, pieces}
use Rattle.octseq_dns_data.specs.SvcParamsText.{ids_text, listed_octet, value_after, value_text, with_commas}
use Rattle.octseq_dns_data.proofs.Pieces.{IsMoving, more_pieces}

-- the text of the pieces of octets, from the first one and those after it
pub first_text : {X : Type 0} (split : Split X) → IsMoving split → (text : X → List ℕ) (octets : List ℕ) (x : X)
    (more : List ℕ) → split octets ≡ Some (x, more)
    → text x ++ flat_map (λ y. 44 ∷ text y) (pieces split more) ≡ with_commas text (pieces split octets)
first_text split moving text octets x more found =
    ap (with_commas text) (sym (more_pieces split moving octets x more found))

pub more_text : {X : Type 0} (split : Split X) → IsMoving split → (text : X → List ℕ) (octets : List ℕ) (x : X)
    (more : List ℕ) → split octets ≡ Some (x, more)
    → text x ++ flat_map text (pieces split more) ≡ flat_map text (pieces split octets)
more_text split moving text octets x more found =
    sym (flat_map-cons text x (pieces split more))
    ∙ ap (flat_map text) (sym (more_pieces split moving octets x more found))

-- ---- commas are octets of a string as they are

after_commas : {X : Type 0} (text : X → List ℕ) (xs : List X)
    → flat_map string_octet_text (flat_map (λ x. 44 ∷ text x) xs)
    ≡ flat_map (λ x. 44 ∷ flat_map string_octet_text (text x)) xs
after_commas text [] = refl
after_commas text (x ∷ xs) =
    flat_map-append string_octet_text (44 ∷ text x) (flat_map (λ x. 44 ∷ text x) xs)
    ∙ ap (λ more. 44 ∷ flat_map string_octet_text (text x) ++ more) (after_commas text xs)

-- the text of an id of a list
abbrev pub id_text : List ℕ → List ℕ
id_text id = flat_map string_octet_text (flat_map listed_octet id)

pub ids_text_is : (ids : List (List ℕ)) → ids_text ids ≡ with_commas id_text ids
ids_text_is [] = refl
ids_text_is (id ∷ ids) =
    let listed = flat_map listed_octet in
    flat_map-append string_octet_text (listed id) (flat_map (λ id. 44 ∷ listed id) ids)
    ∙ ap (λ more. id_text id ++ more) (after_commas listed ids)

-- ---- a value that has octets

pub value_some : (key : ℕ) (octets : List ℕ) → 0 < length octets
    → codes "=\"" ++ (value_text key octets ++ 34 ∷ []) ≡ value_after key octets
value_some key [] some = absurd (omega (arith, some))
value_some key (octet ∷ octets) some = refl
