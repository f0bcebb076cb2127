-- Mnemonics in a table: how they are found, and that they are plain.
use Rattle.std.proofs.Common.{◌≡◌, ◌≢◌, inl, inr, ℕ, ◌≤◌, Bool, true, false, List, [], ◌∷◌, length, Some}
use Rattle.std.proofs.Common.{refl, sym, ap, subst, arith}
use Rattle.std.specs.List.{AllByRecursion, IsAmong}
use Rattle.std.specs.Prelude.{◌==◌, nat_eq, nat_le, not, ◌&&◌, if◌then◌else◌}
use Rattle.std.proofs.lemmas.Bool.{and_parts, eqb-false, leb-true, not-true}
use Rattle.std.proofs.lemmas.Bool.Decides.{Decides-eqb}
use Rattle.octseq_dns_data.specs.Mnemonic.{Mnemonics, name_in}
use Rattle.octseq_dns_text.proofs.KeyTexts.{first_among, first_or_later, later_among}
use Rattle.octseq_dns_text.proofs.Plain.{ArePlain}

abbrev pub is_plain : ℕ → Bool
is_plain octet = not (octet == 34) && (not (octet == 44) && (not (octet == 61) && (not (octet == 92)
    && (not (octet == 9) && (not (octet == 10) && (not (octet == 13) && not (octet == 32)))))))

abbrev pub are_plain : List ℕ → Bool
are_plain [] = true
are_plain (octet ∷ text) = is_plain octet && are_plain text

apart : (octet other : ℕ) → not (octet == other) ≡ true → octet ≢ other
apart octet other is = eqb-false octet other (not-true (octet == other) is)

pub plain_from : (text : List ℕ) → are_plain text ≡ true → ArePlain text
plain_from [] is = tt
plain_from (octet ∷ text) is =
    let both = and_parts (is_plain octet) (are_plain text) is in
    let first = and_parts _ _ both.0 in
    let second = and_parts _ _ first.1 in
    let third = and_parts _ _ second.1 in
    let fourth = and_parts _ _ third.1 in
    let fifth = and_parts _ _ fourth.1 in
    let sixth = and_parts _ _ fifth.1 in
    let seventh = and_parts _ _ sixth.1 in (
      (
        apart octet 34 first.0,
        apart octet 44 second.0,
        apart octet 61 third.0,
        apart octet 92 fourth.0,
        apart octet 9 fifth.0,
        apart octet 10 sixth.0,
        apart octet 13 seventh.0,
        apart octet 32 seventh.1,
      ),
      plain_from text both.1,
    )

-- ---- tables

name_step : (named : ℕ × List ℕ) (more : Mnemonics) (n : ℕ) (name : List ℕ) (same : Bool) → (same ≡ true → named.0 ≡ n)
    → (if same then Some named.1 else name_in more n) ≡ Some name
    → (name_in more n ≡ Some name → IsAmong more (n, name)) → IsAmong (named ∷ more) (n, name)
name_step named more n name true number is later =
    let spelled : named.1 ≡ name = cc in
    subst (λ x. IsAmong (named ∷ more) (n, x)) spelled
    (subst (λ m. IsAmong (named ∷ more) (m, named.1)) (number refl) (first_among named more))
name_step named more n name false number is later = later_among named (n, name) more (later is)

pub name_among : (names : Mnemonics) (n : ℕ) (name : List ℕ) → name_in names n ≡ Some name → IsAmong names (n, name)
name_among [] n name is = absurd (cc)
name_among (named ∷ more) n name is =
    name_step named more n name (nat_eq named.0 n) (Decides-eqb named.0 n).0 is (name_among more n name)

abbrev pub NamedPlain : Mnemonics → Type 0
NamedPlain names = AllByRecursion (λ named. ArePlain named.1) names

pub among_plain : (names : Mnemonics) (n : ℕ) (name : List ℕ) → NamedPlain names → IsAmong names (n, name)
    → ArePlain name
among_plain [] n name plain among = absurd (omega (arith, among.1.0))
among_plain (named ∷ more) n name plain among = elim (first_or_later named (n, name) more among) [
  | inl same ↦ subst ArePlain (ap (λ (x : ℕ × List ℕ). x.1) (sym same)) plain.0
  | inr later ↦ among_plain more n name plain.1 later
]

abbrev pub named_plain : Mnemonics → Bool
named_plain [] = true
named_plain (named ∷ more) = are_plain named.1 && named_plain more

pub names_from : (names : Mnemonics) → named_plain names ≡ true → NamedPlain names
names_from [] is = tt
names_from (named ∷ more) is =
    let both = and_parts (are_plain named.1) (named_plain more) is in
    (plain_from named.1 both.0, names_from more both.1)

abbrev pub NamedSome : Mnemonics → Type 0
NamedSome names = AllByRecursion (λ named. 1 ≤ length named.1) names

abbrev pub named_some : Mnemonics → Bool
named_some [] = true
named_some (named ∷ more) = nat_le 1 (length named.1) && named_some more

pub names_some : (names : Mnemonics) → named_some names ≡ true → NamedSome names
names_some [] is = tt
names_some (named ∷ more) is =
    let both = and_parts (nat_le 1 (length named.1)) (named_some more) is in
    (leb-true 1 (length named.1) both.0, names_some more both.1)

pub among_some : (n : ℕ) (names : Mnemonics) (name : List ℕ) → NamedSome names → IsAmong names (n, name)
    → 1 ≤ length name
among_some n [] name some among = absurd (omega (arith, among.1.0))
among_some n (named ∷ more) name some among = elim (first_or_later named (n, name) more among) [
  | inl same ↦
      let spelled = ap (λ (x : ℕ × List ℕ). length x.1) same in
      omega (arith, spelled, some.0)
  | inr later ↦ among_some n more name some.1 later
]
