-- Things of one code, one after another, and a reader that takes one at a time. These are laws for callers who read
-- lists.
use Rattle.std.proofs.Common.{◌≡◌, ℕ, ◌+◌, ◌<◌, List, [], ◌∷◌, ◌++◌, length}
use Rattle.std.proofs.Common.{refl, sym, ap, ◌∙◌, append_assoc, subst, arith}
use Rattle.std.proofs.lemmas.Grind.{flat_map-append}
use Rattle.std.proofs.lemmas.List.{append-nil, length-append}
use Rattle.std.specs.List.{AllByRecursion, flat_map}
use Rattle.octseq.specs.Code.{HasFront, IsCode}

-- the octets are those of things that fit
abbrev pub IsWhole : {A : Type 0} → (A → Type 0) → (A → List ℕ) → List ℕ → Type 0
IsWhole {A} Fits code octets = (things : List A) × AllByRecursion Fits things × (octets ≡ flat_map code things)

-- every thing has at least one octet
abbrev pub HasOctets : {A : Type 0} → (A → List ℕ) → Type 0
HasOctets {A} code = (a : A) → 0 < length (code a)

none_of_some : {A : Type 0} (code : A → List ℕ) (a : A) (more : List ℕ) → HasOctets code → code a ++ more ≡ [] → ⊥
none_of_some code a more some e =
    let here = some a in
    let none : length (code a) + length more ≡ 0 = sym (length-append (code a) more) ∙ ap length e in
    omega arith

-- octets are the octets of at most one list of things
pub one_list : {A : Type 0} (Fits : A → Type 0) (code : A → List ℕ) → IsCode Fits code → HasOctets code
    → (things others : List A) → AllByRecursion Fits things → AllByRecursion Fits others
    → flat_map code things ≡ flat_map code others → things ≡ others
one_list Fits code reported some [] [] each all e = refl
one_list Fits code reported some [] (b ∷ others) each all e =
    absurd (none_of_some code b (flat_map code others) some (sym e))
one_list Fits code reported some (a ∷ things) [] each all e = absurd (none_of_some code a (flat_map code things) some e)
one_list Fits code reported some (a ∷ things) (b ∷ others) (fits, each) (also, all) e =
    let first = reported a b (flat_map code things) (flat_map code others) fits also e in
    ap (λ a. a ∷ things) first.0
    ∙ ap (λ things. b ∷ things) (one_list Fits code reported some things others each all first.1)

-- if all octets are whole, so is what is left after a thing
whole_after : {A : Type 0} (Fits : A → Type 0) (code : A → List ℕ) → IsCode Fits code → HasOctets code
    → (octets more : List ℕ) (a : A) → Fits a → octets ≡ code a ++ more → IsWhole Fits code octets
    → IsWhole Fits code more
whole_after Fits code reported some octets more a fits front ([], each, all) =
    absurd (none_of_some code a more some (sym front ∙ all))
whole_after Fits code reported some octets more a fits front ((b ∷ others), (here, each), all) =
    (others, each, (reported a b more (flat_map code others) fits here (sym front ∙ all)).1)

-- octets that are whole have a thing at their front
has_front : {A : Type 0} (Fits : A → Type 0) (code : A → List ℕ) (octets : List ℕ) → 0 < length octets
    → IsWhole Fits code octets → HasFront Fits code octets
has_front Fits code octets some ([], each, all) = let none : length octets ≡ 0 = ap length all in absurd (omega arith)
has_front Fits code octets some ((a ∷ others), (here, each), all) = (a, flat_map code others, here, all)

-- what holds for each thing still holds with one more
pub each_snoc : {A : Type 0} (Fits : A → Type 0) (things : List A) (a : A) → AllByRecursion Fits things → Fits a
    → AllByRecursion Fits (things ++ a ∷ [])
each_snoc Fits [] a each fits = (fits, tt)
each_snoc Fits (b ∷ things) a (first, each) fits = (first, each_snoc Fits things a each fits)

-- The octets were read as these things, up to this rest.
pub record IsReadTo {A : Type 0} (Fits : A → Type 0) (code : A → List ℕ) (octets rest : List ℕ) (things : List A) : Type
    0 where
  pub each : AllByRecursion Fits things
  pub front : octets ≡ flat_map code things ++ rest
  pub keeps_whole : IsWhole Fits code octets → IsWhole Fits code rest

-- before the first thing is read, all octets are left
pub read_none : {A : Type 0} (Fits : A → Type 0) (code : A → List ℕ) (octets : List ℕ)
    → IsReadTo Fits code octets octets []
read_none Fits code octets = record { each = tt; front = refl; keeps_whole = λ all. all }

-- one more thing was read, and what followed it is left
pub read_more : {A : Type 0} (Fits : A → Type 0) (code : A → List ℕ) → IsCode Fits code → HasOctets code
    → (octets before after : List ℕ) (things made : List A) (a : A) → IsReadTo Fits code octets before things → Fits a
    → before ≡ code a ++ after
    → made ≡ things ++ a ∷ [] → IsReadTo Fits code octets after made
read_more Fits code reported some octets before after things made a so_far fits front is =
    let joined : flat_map code made ≡ flat_map code things ++ code a =
    ap (flat_map code) is ∙ flat_map-append code things (a ∷ []) ∙ ap (λ x. flat_map code things ++ x)
    (append-nil (code a)) in
    record {
      each = subst (AllByRecursion Fits) (sym is) (each_snoc Fits things a so_far.each fits);
      front = so_far.front ∙ ap (λ x. flat_map code things ++ x) front
          ∙ sym (append_assoc (flat_map code things) (code a) after) ∙ ap (λ x. x ++ after) (sym joined);
      keeps_whole = λ all. whole_after Fits code reported some before after a fits front (so_far.keeps_whole all);
    }

-- all was read
pub read_all : {A : Type 0} (Fits : A → Type 0) (code : A → List ℕ) (octets rest : List ℕ) (things : List A)
    → IsReadTo Fits code octets rest things → length rest ≡ 0
    → AllByRecursion Fits things × (octets ≡ flat_map code things)
read_all Fits code octets [] things so_far none = (so_far.each, so_far.front ∙ append-nil (flat_map code things))
read_all Fits code octets (x ∷ rest) things so_far none = absurd (omega arith)

-- something is left, and there is no thing at its front
pub read_cut : {A : Type 0} (Fits : A → Type 0) (code : A → List ℕ) (octets rest : List ℕ) (things : List A)
    → IsReadTo Fits code octets rest things → 0 < length rest
    → ¬ HasFront Fits code rest → ¬ IsWhole Fits code octets
read_cut Fits code octets rest things so_far some cut all = cut (has_front Fits code rest some (so_far.keeps_whole all))
