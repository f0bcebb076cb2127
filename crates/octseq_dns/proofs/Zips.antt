-- Lists that belong together, place by place.
use Rattle.std.proofs.Common.{◌≡◌, ◌∙◌, List, [], ◌∷◌, ◌++◌, refl, ap}
use Rattle.std.specs.List.{AllByRecursion, AllZip}

-- two such pairs of lists, one after the other
pub zip_append : {A B : Type 0} (Of : A → B → Type 0) (xs more : List A) (ys others : List B) → AllZip Of xs ys
    → AllZip Of more others → AllZip Of (xs ++ more) (ys ++ others)
zip_append Of [] more [] others are rest = rest
zip_append Of [] more (y ∷ ys) others are rest = absurd are
zip_append Of (x ∷ xs) more [] others are rest = absurd are
zip_append Of (x ∷ xs) more (y ∷ ys) others are rest = (are.0, zip_append Of xs more ys others are.1 rest)

-- and such a pair, cut where the first list is
pub zip_cut : {A B : Type 0} (Of : A → B → Type 0) (xs more : List A) (all : List B) → AllZip Of (xs ++ more) all
    → (ys : List B) × (others : List B) × (all ≡ ys ++ others) × AllZip Of xs ys × AllZip Of more others
zip_cut Of [] more all are = ([], all, refl, tt, are)
zip_cut Of (x ∷ xs) more [] are = absurd are
zip_cut Of (x ∷ xs) more (y ∷ all) are =
    let cut = zip_cut Of xs more all are.1 in
    (y ∷ cut.0, cut.1, ap (λ l. y ∷ l) cut.2, (are.0, cut.3), cut.4)

-- at most one list belongs to another
pub zip_once : {A B : Type 0} (Of : A → B → Type 0) → ((a : A) (x y : B) → Of a x → Of a y → x ≡ y) → (all : List A)
    (xs ys : List B) → AllZip Of all xs → AllZip Of all ys → xs ≡ ys
zip_once Of single [] [] [] are others = refl
zip_once Of single [] (x ∷ xs) ys are others = absurd are
zip_once Of single [] [] (y ∷ ys) are others = absurd others
zip_once Of single (a ∷ all) [] ys are others = absurd are
zip_once Of single (a ∷ all) (x ∷ xs) [] are others = absurd others
zip_once Of single (a ∷ all) (x ∷ xs) (y ∷ ys) are others =
    ap (λ x. x ∷ xs) (single a x y are.0 others.0) ∙ ap (λ l. y ∷ l) (zip_once Of single all xs ys are.1 others.1)

-- what holds of all of a list holds of both its parts
pub all_cut : {A : Type 0} (P : A → Type 0) (xs more : List A) → AllByRecursion P (xs ++ more)
    → AllByRecursion P xs × AllByRecursion P more
all_cut P [] more all = (tt, all)
all_cut P (x ∷ xs) more (one, all) = let cut = all_cut P xs more all in ((one, cut.0), cut.1)
