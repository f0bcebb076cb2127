-- Service parameters, and the values that are lists.
use Rattle.std.proofs.Common.{◌≡◌, ℕ, zero, suc, ◌+◌, ◌^◌, ◌<◌, ◌≤◌, List, [], ◌∷◌, length, map, get_or, refl, sym, ap}
use Rattle.std.proofs.Common.{◌∙◌, subst, arith, Some}
use Rattle.std.proofs.lemmas.List.{length-append}
use Rattle.std.proofs.lemmas.List.Elements.{All-cons, All-get_or, All-head, All-nil, All-tail, All-weaker}
use Rattle.std.proofs.lemmas.List.Elements.{recursion_from_All}
use Rattle.std.proofs.lemmas.List.Sums.{sum_by-cons}
use Rattle.std.specs.List.{All, flat_map}
use Rattle.std.specs.List.Sorted.{IsStrictlyIncreasing}
use Rattle.octseq.proofs.Written.{length_be}
use Rattle.octseq.proofs.WrittenBack.{AreOctets}
use Rattle.octseq.specs.Integer.{octets_be}
use Rattle.octseq.specs.Part.{part_of}
use Rattle.octseq_dns_data.specs.Pieces.{Split, pieces, split_number, split_part}
use Rattle.octseq_dns_data.specs.SvcParams.{AreIds, AreKeys, AreParams, IsParam, IsSvcParams, IsValueOf, Param}
use Rattle.octseq_dns_data.specs.SvcParams.{ids_of, keys_of, param_octets, params_of, params_turns}
use Rattle.octseq_dns_data.specs.SvcParams.{split_param, value_turns}
use Rattle.octseq_dns_data.proofs.Pieces.{IsSplit, Passes, PassFrom, each_after, is_number, is_pair, is_part}
use Rattle.octseq_dns_data.proofs.Pieces.{more_pieces, pass_less, pass_more, pieces_of_all}
use Rattle.octseq_format.specs.Row.{row_turns}

-- ---- each kind of piece can be split

pub key_split : IsSplit (split_number 2) (octets_be 2) (λ key. key < 256 ^ 2)
key_split = is_number 2 (omega arith)

pub id_split : IsSplit (split_part 1) (part_of 1) (λ id. length id < 256 ^ 1)
id_split = is_part 1 (omega arith)

pub param_split : IsSplit split_param param_octets
    (λ param. (param.0 < 256 ^ 2) × (length param.1 < 256 ^ 2))
param_split = is_pair (is_number 2 (omega arith)) (is_part 2 (omega arith))

-- ---- lists are split in one way

pub one_keys : (value keys : List ℕ) → AreKeys value keys → keys ≡ keys_of value
one_keys value keys are =
    let small = All-weaker (λ key. (1 ≤ key) × (key < 2 ^ 16)) (λ key. key < 256 ^ 2)
    (λ key is. omega (arith, is.1)) keys are.each in
    sym (pieces_of_all key_split keys (recursion_from_All (λ key. key < 256 ^ 2) keys small))
    ∙ ap keys_of (sym are.spelled)

pub one_ids : (value : List ℕ) (ids : List (List ℕ)) → AreIds value ids → ids ≡ ids_of value
one_ids value ids are =
    let small = All-weaker (λ id. (1 ≤ length id) × (length id < 2 ^ 8)) (λ id. length id < 256 ^ 1)
    (λ id is. omega (arith, is.1)) ids are.each in
    sym (pieces_of_all id_split ids (recursion_from_All (λ id. length id < 256 ^ 1) ids small))
    ∙ ap ids_of (sym are.spelled)

pub one_params : (octets : List ℕ) (params : List Param) → AreParams octets params → params ≡ params_of octets
one_params octets params are =
    let fits : Param → Type 0 = λ param. (param.0 < 256 ^ 2) × (length param.1 < 256 ^ 2) in
    let small = All-weaker IsParam fits (λ param is. (omega (arith, is.key), omega (arith, is.few))) params are.each in
    sym (pieces_of_all param_split params (recursion_from_All fits params small)) ∙ ap params_of (sym are.spelled)

-- ---- numbers that ascend, from a least one on

-- each is at least `least`, and greater than the one before it
abbrev pub Ascends : ℕ → List ℕ → Type 0
Ascends least [] = Unit {0}
Ascends least (x ∷ xs) = (least ≤ x) × Ascends (x + 1) xs

next_index : (x : ℕ) (xs : List ℕ) (k : ℕ) → get_or (x ∷ xs) (k + 1) 0 ≡ get_or xs k 0
next_index x xs k = let one : k + 1 ≡ suc k = omega arith in ap (λ k. get_or (x ∷ xs) k 0) one

increasing_after : (x : ℕ) (xs : List ℕ) → IsStrictlyIncreasing (x ∷ xs) → IsStrictlyIncreasing xs
increasing_after x xs is = λ k within.
    let first = next_index x xs k in
    let second = next_index x xs (k + 1) in
    let less = is (k + 1) (omega (arith, within)) in
    omega (arith, first, second, less)

-- they ascend from a least number, if the first is at least that
pub ascends : (least : ℕ) (xs : List ℕ) → (0 < length xs → least ≤ get_or xs 0 0) → IsStrictlyIncreasing xs
    → Ascends least xs
ascends least [] first is = tt
ascends least (x ∷ xs) first is = (
  first (omega arith),
  ascends (x + 1) xs (λ some. let less = is 0 (omega (arith, some)) in let next = next_index x xs 0 in
      omega (arith, less, next)) (increasing_after x xs is),
)

first_of : (least : ℕ) (xs : List ℕ) → Ascends least xs → 0 < length xs → least ≤ get_or xs 0 0
first_of least [] is some = absurd (omega (arith, some))
first_of least (x ∷ xs) is some = is.0

increasing_from : (x : ℕ) (xs : List ℕ) → Ascends (x + 1) xs → IsStrictlyIncreasing xs → IsStrictlyIncreasing (x ∷ xs)
increasing_from x xs is more zero within =
    let first = first_of (x + 1) xs is (omega (arith, within)) in
    omega (arith, first)
increasing_from x xs is more (suc k) within =
    let one : suc k + 1 ≡ suc (k + 1) = omega arith in
    let less = more k (omega (arith, within)) in
    subst (λ n. get_or xs k 0 < get_or (x ∷ xs) n 0) (sym one) less

pub increasing : (least : ℕ) (xs : List ℕ) → Ascends least xs → IsStrictlyIncreasing xs
increasing least [] is = λ k within. absurd (omega (arith, within))
increasing least (x ∷ xs) is = increasing_from x xs is.1 (increasing (x + 1) xs is.1)

-- ---- the test of each piece

-- a key is at least `least`
abbrev pub KeyPasses : ℕ → ℕ → Type 0
KeyPasses least key = (least ≤ key) × (key < 2 ^ 16)

-- an id has at least one octet
abbrev pub IdPasses : Unit {0} → List ℕ → Type 0
IdPasses _ id = (1 ≤ length id) × (length id < 2 ^ 8)

-- a parameter is valid, and its key is at least `least`
abbrev pub ParamPasses : ℕ → Param → Type 0
ParamPasses least param = (least ≤ param.0) × IsParam param

abbrev pub KeysFrom : ℕ → List ℕ → Type 0
KeysFrom = PassFrom (split_number 2) (octets_be 2) KeyPasses (λ key. key + 1)

abbrev pub IdsFrom : Unit {0} → List ℕ → Type 0
IdsFrom = PassFrom (split_part 1) (part_of 1) IdPasses (λ _. tt)

abbrev pub ParamsFrom : ℕ → List ℕ → Type 0
ParamsFrom = PassFrom split_param param_octets ParamPasses (λ param. param.0 + 1)

-- ---- keys

keys_pass : (least : ℕ) (keys : List ℕ) → All (λ key. (1 ≤ key) × (key < 2 ^ 16)) keys → Ascends least keys
    → Passes KeyPasses (λ key. key + 1) least keys
keys_pass least [] each is = tt
keys_pass least (key ∷ keys) each is =
    let P : ℕ → Type 0 = λ key. (1 ≤ key) × (key < 2 ^ 16) in
    ((is.0, (All-head P key keys each).1), keys_pass (key + 1) keys (All-tail P key keys each) is.1)

keys_are : (least : ℕ) (keys : List ℕ) → 1 ≤ least → Passes KeyPasses (λ key. key + 1) least keys
    → All (λ key. (1 ≤ key) × (key < 2 ^ 16)) keys × Ascends least keys
keys_are least [] some pass = (All-nil (λ key. (1 ≤ key) × (key < 2 ^ 16)), tt)
keys_are least (key ∷ keys) some pass =
    let more = keys_are (key + 1) keys (omega arith) pass.1 in (
      All-cons (λ key. (1 ≤ key) × (key < 2 ^ 16)) key keys (omega (arith, pass.0.0, some), pass.0.1) more.0,
      (pass.0.0, more.1),
    )

some_item : {X : Type 0} (octets_of : X → List ℕ) (octets : List ℕ) (xs : List X) → octets ≡ flat_map octets_of xs
    → 0 < length octets → 1 ≤ length xs
some_item octets_of octets [] is some = let none = ap length is in absurd (omega (arith, none, some))
some_item octets_of octets (x ∷ xs) is some = omega arith

some_octet : {X : Type 0} (split : Split X) (octets : List ℕ) → 1 ≤ length (pieces split octets) → 0 < length octets
some_octet split [] some = absurd (omega (arith, some))
some_octet split (o ∷ octets) some = omega arith

pub are_keys : (value : List ℕ) → 0 < length value → KeysFrom 1 value → AreKeys value (keys_of value)
are_keys value some pass =
    let is = keys_are 1 (keys_of value) (omega arith) pass.1 in
    record {
      spelled = pass.0;
      some = some_item (octets_be 2) value (keys_of value) pass.0 some;
      each = is.0;
      ascending = increasing 1 (keys_of value) is.1;
    }

pub keys_from : (value : List ℕ) → AreKeys value (keys_of value) → (0 < length value) × KeysFrom 1 value
keys_from value are =
    let keys = keys_of value in
    let P : ℕ → Type 0 = λ key. (1 ≤ key) × (key < 2 ^ 16) in
    let first : 0 < length keys → 1 ≤ get_or keys 0 0 = λ some. (All-get_or P keys 0 0 some are.each).0 in (
      some_octet (split_number 2) value are.some,
      (are.spelled, keys_pass 1 keys are.each (ascends 1 keys first are.ascending)),
    )

-- ---- ids

ids_pass : (ids : List (List ℕ)) → All (λ id. (1 ≤ length id) × (length id < 2 ^ 8)) ids
    → Passes IdPasses (λ _. tt) tt ids
ids_pass [] each = tt
ids_pass (id ∷ ids) each =
    let P : List ℕ → Type 0 = λ id. (1 ≤ length id) × (length id < 2 ^ 8) in
    (All-head P id ids each, ids_pass ids (All-tail P id ids each))

ids_are : (ids : List (List ℕ)) → Passes IdPasses (λ _. tt) tt ids
    → All (λ id. (1 ≤ length id) × (length id < 2 ^ 8)) ids
ids_are [] pass = All-nil (λ id. (1 ≤ length id) × (length id < 2 ^ 8))
ids_are (id ∷ ids) pass = All-cons (λ id. (1 ≤ length id) × (length id < 2 ^ 8)) id ids pass.0 (ids_are ids pass.1)

pub are_ids : (value : List ℕ) → 0 < length value → IdsFrom tt value → AreIds value (ids_of value)
are_ids value some pass = record {
  spelled = pass.0;
  some = some_item (part_of 1) value (ids_of value) pass.0 some;
  each = ids_are (ids_of value) pass.1;
}

pub ids_from : (value : List ℕ) → AreIds value (ids_of value) → (0 < length value) × IdsFrom tt value
ids_from value are = (some_octet (split_part 1) value are.some, (are.spelled, ids_pass (ids_of value) are.each))

-- ---- parameters

params_pass : (least : ℕ) (params : List Param) → All IsParam params → Ascends least (map (λ param. param.0) params)
    → Passes ParamPasses (λ param. param.0 + 1) least params
params_pass least [] each is = tt
params_pass least (param ∷ params) each is = (
  (is.0, All-head IsParam param params each),
  params_pass (param.0 + 1) params (All-tail IsParam param params each) is.1,
)

params_are : (least : ℕ) (params : List Param) → Passes ParamPasses (λ param. param.0 + 1) least params
    → All IsParam params × Ascends least (map (λ param. param.0) params)
params_are least [] pass = (All-nil IsParam, tt)
params_are least (param ∷ params) pass =
    let more = params_are (param.0 + 1) params pass.1 in
    (All-cons IsParam param params pass.0.1 more.0, (pass.0.0, more.1))

pub are_params : (least : ℕ) (octets : List ℕ) → ParamsFrom least octets → IsSvcParams octets
are_params least octets pass =
    let is = params_are least (params_of octets) pass.1 in
    record {
      spelled = pass.0;
      each = is.0;
      ascending = increasing least (map (λ param. param.0) (params_of octets)) is.1;
    }

pub params_from : (octets : List ℕ) → IsSvcParams octets → ParamsFrom 0 octets
params_from octets are =
    let keys = map (λ (param : Param). param.0) (params_of octets) in
    (are.spelled, params_pass 0 (params_of octets) are.each (ascends 0 keys (λ _. omega arith) are.ascending))

-- ---- a piece and the octets after it pass exactly if all octets do

-- one holds exactly if the other does
pub record Same (A B : Type 0) : Type 0 where
  pub yes : A → B
  pub no : B → A

pub same_as : {A B C : Type 0} → Same A B → Same B C → Same A C
same_as first second = record { yes = λ a. second.yes (first.yes a); no = λ c. first.no (second.no c) }

pub key_step : (least : ℕ) (octets : List ℕ) (key : ℕ) (more : List ℕ) → AreOctets octets
    → split_number 2 octets ≡ Some (key, more) → least ≤ key → Same (KeysFrom (key + 1) more) (KeysFrom least octets)
key_step least octets key more each found least_is = let back = key_split.back octets (key, more) each found in record {
  yes = pass_more (split_number 2) (octets_be 2) KeyPasses (λ key. key + 1) key_split least octets key more each found
      (least_is, omega (arith, back.1));
  no = λ pass. (pass_less (split_number 2) (octets_be 2) KeyPasses (λ key. key + 1) key_split least octets key more each
      found pass).1;
}

pub key_less : (least : ℕ) (octets : List ℕ) (key : ℕ) (more : List ℕ) → AreOctets octets
    → split_number 2 octets ≡ Some (key, more) → KeysFrom least octets → least ≤ key
key_less least octets key more each found pass =
    (pass_less (split_number 2) (octets_be 2) KeyPasses (λ key. key + 1) key_split least octets key more each found
    pass).0.0

pub id_step : (octets id more : List ℕ) → AreOctets octets → split_part 1 octets ≡ Some (id, more) → 1 ≤ length id
    → Same (IdsFrom tt more) (IdsFrom tt octets)
id_step octets id more each found some = let back = id_split.back octets (id, more) each found in record {
  yes = pass_more (split_part 1) (part_of 1) IdPasses (λ _. tt) id_split tt octets id more each found
      (some, omega (arith, back.1));
  no = λ pass. (pass_less (split_part 1) (part_of 1) IdPasses (λ _. tt) id_split tt octets id more each found pass).1;
}

pub id_some : (octets id more : List ℕ) → AreOctets octets → split_part 1 octets ≡ Some (id, more) → IdsFrom tt octets
    → 1 ≤ length id
id_some octets id more each found pass =
    (pass_less (split_part 1) (part_of 1) IdPasses (λ _. tt) id_split tt octets id more each found pass).0.0

pub param_step : (least : ℕ) (octets : List ℕ) (param : Param) (more : List ℕ) → AreOctets octets
    → split_param octets ≡ Some (param, more) → least ≤ param.0
    → IsValueOf param.0 param.1 → Same (ParamsFrom (param.0 + 1) more) (ParamsFrom least octets)
param_step least octets param more each found least_is value =
    let back = param_split.back octets (param, more) each found in
    let is : IsParam param =
    record { key = omega (arith, back.1.0); few = omega (arith, back.1.1); value = value } in
    let after : Param → ℕ = λ param. param.0 + 1 in
    record {
      yes = pass_more split_param param_octets ParamPasses after param_split least octets param more each found
          (least_is, is);
      no = λ pass. (pass_less split_param param_octets ParamPasses after param_split least octets param more each found
          pass).1;
    }

pub param_less : (least : ℕ) (octets : List ℕ) (param : Param) (more : List ℕ) → AreOctets octets
    → split_param octets ≡ Some (param, more) → ParamsFrom least octets
    → (least ≤ param.0) × IsValueOf param.0 param.1
param_less least octets param more each found pass =
    let first = (pass_less split_param param_octets ParamPasses (λ param. param.0 + 1) param_split least octets param
    more each found pass).0 in
    (first.0, first.1.value)

-- ---- the turns of a piece, and of those after it

-- one more piece
pub piece_more : {X : Type 0} {split : Split X} {octets_of : X → List ℕ} {Fits : X → Type 0}
    → IsSplit split octets_of Fits → (octets : List ℕ) (x : X) (more : List ℕ) → split octets ≡ Some (x, more)
    → length (pieces split octets) ≡ 1 + length (pieces split more)
piece_more {split = split} is octets x more found =
    let long = ap length (more_pieces split is.moving octets x more found) in
    omega (arith, long)

-- the turns of one more parameter
pub param_more : (octets : List ℕ) (param : Param) (more : List ℕ) → split_param octets ≡ Some (param, more)
    → params_turns octets ≡ 1 + value_turns param + params_turns more
param_more octets param more found =
    ap (row_turns value_turns) (more_pieces split_param param_split.moving octets param more found)
    ∙ sum_by-cons (λ param. 1 + value_turns param) param (params_of more)

-- none, if no octet is left
pub no_params : (octets : List ℕ) → length octets ≡ 0 → params_turns octets ≡ 0
no_params [] none = refl
no_params (o ∷ octets) none = absurd (omega (arith, none))

pub no_more : {X : Type 0} (split : Split X) (octets : List ℕ) → length octets ≡ 0 → length (pieces split octets) ≡ 0
no_more split [] none = refl
no_more split (o ∷ octets) none = absurd (omega (arith, none))

-- the first parameter is valid, and so are those after it
pub first_param : (octets : List ℕ) (param : Param) (more : List ℕ) → AreOctets octets
    → split_param octets ≡ Some (param, more) → IsSvcParams octets
    → IsParam param × IsSvcParams more
first_param octets param more each found are =
    let pass = pass_less split_param param_octets ParamPasses (λ param. param.0 + 1) param_split 0 octets param more
    each found (params_from octets are) in
    (pass.0.1, are_params (param.0 + 1) more pass.1)

-- the octets after a piece are octets, and fewer
pub after_piece : {X : Type 0} {split : Split X} {octets_of : X → List ℕ} {Fits : X → Type 0}
    → IsSplit split octets_of Fits → (octets : List ℕ) (x : X) (more : List ℕ) → AreOctets octets
    → split octets ≡ Some (x, more)
    → AreOctets more × (length octets ≡ length (octets_of x) + length more) × (length more < length octets)
after_piece {octets_of = octets_of} is octets x more each found =
    let back = (is.back octets (x, more) each found).0 in (
      each_after (octets_of x) more (subst AreOctets back each),
      ap length back ∙ length-append (octets_of x) more,
      is.moving.less octets (x, more) found,
    )

-- the number of octets of a parameter
pub param_long : (param : Param) → length (param_octets param) ≡ 4 + length param.1
param_long param =
    let all = length-append (octets_be 2 param.0) (part_of 2 param.1) in
    let part = length-append (octets_be 2 (length param.1)) param.1 in
    let key = length_be 2 param.0 in
    let size = length_be 2 (length param.1) in
    omega (arith, all, part, key, size)
