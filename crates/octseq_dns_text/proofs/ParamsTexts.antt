-- Words are read as parameters, each key once.
use Rattle.std.proofs.Common.{◌≡◌, ◌*◌, ◌≤◌, ℕ, List, [], ◌∷◌, ◌++◌, map}
use Rattle.std.proofs.Common.{length, refl, sym, ap, ◌∙◌, subst, arith}
use Rattle.std.specs.List.{All, AllZip, Contains, concat, flat_map}
use Rattle.std.specs.List.Sorted.{IsPermutation, IsStrictlyIncreasing}
use Rattle.std.proofs.lemmas.List.{append-nil, length-append}
use Rattle.std.proofs.lemmas.List.Elements.{All-cons, All-nil}
use Rattle.std.proofs.lemmas.List.Sorted.{All-permutation, Contains-permutation, IsPermutation-map, IsPermutation-sym}
use Rattle.std.proofs.lemmas.List.Sorted.{IsPermutation-push_more}
use Rattle.octseq.proofs.Written.{length_be}
use Rattle.octseq_dns_data.specs.SvcParams.{AreAddresses, AreIds, AreKeys, IsParam, IsSvcParams, IsValueOf, Param}
use Rattle.octseq_dns_data.specs.SvcParams.{AreParams, param_octets}
use Rattle.octseq_dns_data.proofs.Params.{one_ids, one_keys, one_params}
use Rattle.octseq_dns_text.specs.ParamText.{AreAddressTexts, IsAddressText, IsParamText, IsParamValueText}
use Rattle.octseq_dns_text.specs.ParamsText.{IsParamsText}
use Rattle.octseq_dns_text.specs.Reading.{AreReadParams}
use Rattle.octseq_dns_text.specs.Scans.{Goes}
use Rattle.octseq_dns_text.specs.Split.{split_after, octets_before, items_of}
use Rattle.octseq_dns_text.proofs.Fronts.{zip_more, zip_once, zip_part}
use Rattle.octseq_dns_text.proofs.KeyTexts.{key_once, key_bits}
use Rattle.octseq_dns_text.proofs.Sortings.{sorted_once, twice}
use Rattle.octseq_dns_text.proofs.Splits.{item_first}
use Rattle.octseq_dns_text.proofs.ValueTexts.{says_once, value_once}

-- ---- the octets of a value have the form of its key

all_long : (Is : List ℕ → List ℕ → Type 0) (size : ℕ) (items addresses : List (List ℕ))
    → AllZip (IsAddressText Is size) items addresses → length (concat addresses) ≡ length items * size
all_long Is size [] [] each = omega arith
all_long Is size [] (a ∷ addresses) each = absurd each
all_long Is size (i ∷ items) [] each = absurd each
all_long Is size (i ∷ items) (a ∷ addresses) each =
    let more = all_long Is size items addresses each.1 in
    let size_here = each.0.many in
    let both = length-append a (concat addresses) in
    omega (arith, more, size_here, both)

some_items : (list : List ℕ) → 1 ≤ length (items_of list)
some_items list = let e = ap length (item_first list) in omega (arith, e)

ipv4_form : (Is : List ℕ → List ℕ → Type 0) (said value : List ℕ) → AreAddressTexts Is 4 said value
    → AreAddresses 4 value
ipv4_form Is said value is =
    let long = ap length is.octets ∙ all_long Is 4 (items_of said) is.addresses is.each in
    let some = some_items said in
    (omega (arith, long, some), omega (arith, long))

ipv6_form : (Is : List ℕ → List ℕ → Type 0) (said value : List ℕ) → AreAddressTexts Is 16 said value
    → AreAddresses 16 value
ipv6_form Is said value is =
    let long = ap length is.octets ∙ all_long Is 16 (items_of said) is.addresses is.each in
    let some = some_items said in
    (omega (arith, long, some), omega (arith, long))

value_form : (key : ℕ) (said value : List ℕ) → IsParamValueText key said value → IsValueOf key value
value_form key said value is = record {
  mandatory = λ e. let t = is.mandatory e in subst (AreKeys value) (one_keys value t.sorted t.are) t.are;
  alpn = λ e. let t = is.alpn e in subst (AreIds value) (one_ids value t.ids t.are) t.are;
  no_default_alpn = λ e. (is.no_default_alpn e).1;
  port = λ e. ap length (is.port e).octets ∙ length_be 2 _;
  ipv4hint = λ e. ipv4_form _ said value (is.ipv4hint e);
  ipv6hint = λ e. ipv6_form _ said value (is.ipv6hint e);
}

param_form : (word : List ℕ) (param : Param) → IsParamText word param → IsParam param
param_form word param is = record {
  key = key_bits (octets_before 61 word) param.0 is.key;
  few = is.few;
  value = value_form param.0 is.said param.1 is.value;
}

params_form : (words : List (List ℕ)) (said : List Param) → AllZip IsParamText words said → All IsParam said
params_form [] [] each = All-nil IsParam
params_form [] (param ∷ said) each = absurd each
params_form (word ∷ words) [] each = absurd each
params_form (word ∷ words) (param ∷ said) each =
    All-cons IsParam param said (param_form word param each.0) (params_form words said each.1)

-- ---- a word is one parameter at most

pub param_once : (word : List ℕ) (a b : Param) → IsParamText word a → IsParamText word b → a ≡ b
param_once word a b one two =
    let key : a.0 ≡ b.0 = key_once (octets_before 61 word) a.0 b.0 one.key two.key in
    let said = says_once (split_after 61 word) one.said two.said one.says two.says in
    let again = subst (λ k. IsParamValueText k two.said b.1) (sym key) two.value in
    let same = subst (λ s. IsParamValueText a.0 s b.1) (sym said) again in
    let value : a.1 ≡ b.1 = value_once a.0 one.said a.1 b.1 one.value same in
    ap (λ (k : ℕ). (k, a.1)) key ∙ ap (λ (v : List ℕ). (b.0, v)) value

abbrev pub key_of : Param → ℕ
key_of param = param.0

-- ---- parameters, each key once

pub params_are : (front : List (List ℕ)) (params : List Param) → AreReadParams front params
    → IsStrictlyIncreasing (map key_of params) → AreParams (flat_map param_octets params) params
params_are front params read ascending = record {
  spelled = refl;
  each = All-permutation IsParam read.said params read.moved (params_form front read.said read.each);
  ascending = ascending;
}

-- the words so far are a text
pub params_text : (front : List (List ℕ)) (params : List Param) → AreReadParams front params
    → IsStrictlyIncreasing (map key_of params) → IsParamsText front (flat_map param_octets params)
params_text front params read ascending = record {
  said = read.said;
  each = read.each;
  sorted = params;
  moved = read.moved;
  are = params_are front params read ascending;
}

pub params_go : (front : List (List ℕ)) (params : List Param) → AreReadParams front params
    → IsStrictlyIncreasing (map key_of params) → Goes IsParamsText front
params_go front params read ascending =
    let octets = flat_map param_octets params in
    let is = params_text front params read ascending in
    ([], octets, subst (λ ws. IsParamsText ws octets) (sym (append-nil front)) is)

-- no text goes on with a word that is no parameter, or has one of the keys so far
pub params_stop : (front : List (List ℕ)) (params : List Param) (word : List ℕ) → AreReadParams front params
    → ((param : Param) → IsParamText word param → Contains (map key_of params) param.0)
    → ¬ Goes IsParamsText (front ++ word ∷ [])
params_stop front params word read there (more, octets, is) =
    let part = zip_part IsParamText front word more is.said is.each in
    let same = zip_once IsParamText param_once front read.said part.0 read.each part.4 in
    let keys = IsPermutation-sym _ _ (IsPermutation-map key_of read.said params read.moved) in
    let said = Contains-permutation (map key_of params) (map key_of read.said) part.1.0 keys (there part.1 part.5) in
    twice key_of is.said is.sorted is.moved is.are.ascending part.0 part.1 part.2 part.3
    (subst (λ l. Contains (map key_of l) part.1.0) same said)

-- one more parameter
pub read_more : (front : List (List ℕ)) (params more : List Param) (word : List ℕ) (param : Param)
    → AreReadParams front params → IsParamText word param → IsPermutation (param ∷ params) more
    → AreReadParams (front ++ word ∷ []) more
read_more front params more word param read one moved = record {
  said = read.said ++ param ∷ [];
  each = zip_more IsParamText front read.said word param read.each one;
  moved = IsPermutation-push_more read.said params more param read.moved moved;
}

-- words are one list of parameters at most
pub params_once : (words : List (List ℕ)) (a b : List ℕ) → IsParamsText words a → IsParamsText words b → a ≡ b
params_once words a b one two =
    let said = zip_once IsParamText param_once words one.said two.said one.each two.each in
    let moved = subst (λ l. IsPermutation l two.sorted) (sym said) two.moved in
    let sorted = sorted_once key_of one.said one.sorted two.sorted one.moved moved one.are.ascending
    two.are.ascending in
    one.are.spelled ∙ ap (flat_map param_octets) sorted ∙ sym two.are.spelled

pub params_svc : (words : List (List ℕ)) (octets : List ℕ) → IsParamsText words octets → IsSvcParams octets
params_svc words octets is = subst (AreParams octets) (one_params octets is.sorted is.are) is.are
