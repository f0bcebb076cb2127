-- Words are read as types, each once.
use Rattle.std.proofs.Common.{◌≡◌, inl, inr, ◌<◌, ℕ, suc, Bool, true, false, List, [], ◌∷◌, ◌++◌}
use Rattle.std.proofs.Common.{refl, sym, ap, ◌∙◌, subst, arith}
use Rattle.std.specs.Char.{to_ascii_lowercase}
use Rattle.std.specs.List.{AllByRecursion, AllZip, Contains, IsAmong, IsDistinct, list_any}
use Rattle.std.specs.Prelude.{nat_eq, nat_lt, codes, ◌||◌, ◌&&◌}
use Rattle.std.specs.Str.{IsAscii, IsUtf8}
use Rattle.std.proofs.Math.Bool.{true≢false}
use Rattle.std.proofs.lemmas.Bool.Decides.{Decides-eqb, Decides-ltb}
use Rattle.std.proofs.lemmas.Cmp.{nat_eq_equiv}
use Rattle.std.proofs.lemmas.Fmt.{IsAscii-from_digits}
use Rattle.std.proofs.lemmas.List.Elements.{All-from_recursion}
use Rattle.std.proofs.lemmas.Str.{IsAscii-append, IsUtf8-from_ascii}
use Rattle.std.proofs.lemmas.Str.Ascii.{IsAscii-from_all, lowercase_ascii, lowercase_is}
use Rattle.octseq_dns_data.specs.Mnemonic.{Mnemonics, ReadsRtype, SpellsWord}
use Rattle.octseq_dns_data.specs.Rtype.{rtype_names}
use Rattle.octseq_dns_data.specs.RtypeBitmapMade.{bitmap_of}
use Rattle.octseq_dns_data.proofs.Mnemonics.{one_number, rtypes_unambiguous}
use Rattle.octseq_dns_scan.proofs.Mades.{head, tail}
use Rattle.octseq_dns_text.specs.Scans.{Goes}
use Rattle.octseq_dns_text.specs.TypesText.{IsTypesText}
use Rattle.octseq_dns_text.proofs.Fronts.{zip_nil, zip_once, zip_part}
use Rattle.octseq_dns_text.proofs.KeyTexts.{first_or_later}
use Rattle.octseq_dns_text.proofs.Sortings.{distinct_front}

-- ---- a word that is a type is ASCII

abbrev Small : List ℕ → Type 0
Small octets = AllByRecursion (λ octet. octet < 128) octets

small_octet : (octet other : ℕ) → to_ascii_lowercase octet ≡ to_ascii_lowercase other → other < 128 → octet < 128
small_octet octet other same small =
    let lower = lowercase_ascii other small in
    let stays = (lowercase_is octet).2 in
    grind (arith, same, lower, stays)

small_spelled : (text word : List ℕ) → SpellsWord text word → Small word → Small text
small_spelled [] word spelled small = tt
small_spelled (t ∷ text) [] spelled small = absurd (cc)
small_spelled (t ∷ text) (w ∷ word) spelled (first, more) =
    (small_octet t w (head spelled) first, small_spelled text word (tail spelled) more)

abbrev is_small : List ℕ → Bool
is_small [] = true
is_small (octet ∷ octets) = nat_lt octet 128 && is_small octets

abbrev are_small : Mnemonics → Bool
are_small [] = true
are_small (named ∷ more) = is_small named.1 && are_small more

both : (a b : Bool) → (a && b) ≡ true → (a ≡ true) × (b ≡ true)
both true b is = (refl, is)
both false b is = absurd (true≢false (sym is))

small_from : (octets : List ℕ) → is_small octets ≡ true → Small octets
small_from [] is = tt
small_from (octet ∷ octets) is =
    let parts = both (nat_lt octet 128) (is_small octets) is in
    ((Decides-ltb octet 128).0 parts.0, small_from octets parts.1)

small_among : (names : Mnemonics) (number : ℕ) (name : List ℕ) → are_small names ≡ true → IsAmong names (number, name)
    → Small name
small_among [] number name good among = absurd (omega (arith, among.1.0))
small_among (named ∷ more) number name good among =
    let parts = both (is_small named.1) (are_small more) good in
    elim (first_or_later named (number, name) more among) [
      | inl same ↦
          subst Small (ap (λ (x : ℕ × List ℕ). x.1) (sym same)) (small_from named.1 parts.0)
      | inr later ↦ small_among more number name parts.1 later
    ]

ascii_from : (octets : List ℕ) → Small octets → IsAscii octets
ascii_from octets small = IsAscii-from_all octets (All-from_recursion (λ octet. octet < 128) octets small)

pub type_utf8 : (word : List ℕ) (rtype : ℕ) → ReadsRtype word rtype → IsUtf8 word
unfolding ReadsRtype
type_utf8 word rtype reads = IsUtf8-from_ascii word (elim reads [
  | inl named ↦
      ascii_from word
      (small_spelled word named.name named.spelled (small_among rtype_names rtype named.name refl named.named))
  | inr numbered ↦
      subst IsAscii (sym numbered.parts)
      (IsAscii-append numbered.letters numbered.digits
      (ascii_from numbered.letters
      (small_spelled numbered.letters (codes "TYPE") numbered.spelled (small_from (codes "TYPE") refl)))
      (IsAscii-from_digits numbered.digits numbered.numeral.1))
])

pub type_once : (word : List ℕ) (a b : ℕ) → ReadsRtype word a → ReadsRtype word b → a ≡ b
unfolding ReadsRtype
type_once word a b one two = one_number (codes "TYPE") rtype_names rtypes_unambiguous word a b one two

-- ---- types, each once

any_step : (q k : ℕ) (ks : List ℕ) (here : Bool) → (here ≡ true → q ≡ k) → (here || list_any (nat_eq q) ks) ≡ true
    → (list_any (nat_eq q) ks ≡ true → Contains ks q) → Contains (k ∷ ks) q
any_step q k ks true same any later = (0, omega arith, sym (same refl))
any_step q k ks false same any later = let found = later any in (suc found.0, omega (arith, found.1), found.2)

pub any_contains : (q : ℕ) (ks : List ℕ) → list_any (nat_eq q) ks ≡ true → Contains ks q
any_contains q [] any = absurd (true≢false (sym any))
any_contains q (k ∷ ks) any = any_step q k ks (nat_eq q k) (Decides-eqb q k).0 any (any_contains q ks)

pub none_distinct : IsDistinct nat_eq []
unfolding IsDistinct
none_distinct = tt

-- the types so far are a text
pub types_go : (front : List (List ℕ)) (rtypes : List ℕ) → AllZip ReadsRtype front rtypes → IsDistinct nat_eq rtypes
    → Goes IsTypesText front
types_go front rtypes each once = (
  [],
  bitmap_of rtypes,
  record {
    rtypes = rtypes;
    each = zip_nil ReadsRtype front rtypes each;
    once = once;
    bitmap = refl;
  },
)

-- no text goes on with a word that is no type, or one of the types so far
pub types_stop : (front : List (List ℕ)) (rtypes : List ℕ) (word : List ℕ) → AllZip ReadsRtype front rtypes
    → ((rtype : ℕ) → ReadsRtype word rtype → Contains rtypes rtype) → ¬ Goes IsTypesText (front ++ word ∷ [])
types_stop front rtypes word each there (more, octets, is) =
    let part = zip_part ReadsRtype front word more is.rtypes is.each in
    let same = zip_once ReadsRtype type_once front rtypes part.0 each part.4 in
    distinct_front nat_eq nat_eq_equiv.refl part.0 part.1 part.2 (subst (IsDistinct nat_eq) part.3 is.once)
    (subst (λ l. Contains l part.1) same (there part.1 part.5))

-- words are one set of types at most
pub types_once : (words : List (List ℕ)) (a b : List ℕ) → IsTypesText words a → IsTypesText words b → a ≡ b
types_once words a b one two =
    one.bitmap ∙ ap bitmap_of (zip_once ReadsRtype type_once words one.rtypes two.rtypes one.each two.each)
    ∙ sym two.bitmap
