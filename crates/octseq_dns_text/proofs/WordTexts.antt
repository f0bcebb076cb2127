-- The octets that are made of one word.
use Rattle.std.proofs.Common.{◌≡◌, ℕ, suc, ◌+◌, ◌*◌, ◌%◌, ◌≤◌, ◌<◌, false, List, [], ◌∷◌, ◌++◌, map, length, take}
use Rattle.std.proofs.Common.{get_or}
use Rattle.std.proofs.Common.{refl, sym, ap, ◌∙◌, subst, length-append, Option, Some, None, Err, IsNone, IfSome, arith}
use Rattle.std.proofs.lemmas.List.{append-nil, length-map}
use Rattle.std.specs.Char.{digit_char, to_ascii_lowercase}
use Rattle.std.specs.List.{flat_map}
use Rattle.std.specs.Int.{w8}
use mir.Val.{Fits}
use Rattle.octseq.proofs.WrittenBack.{AreOctets}
use Rattle.octseq.specs.OctetsText.{hex_text}
use Rattle.octseq.specs.declared.error.WriteError.{WriteError}
use Rattle.octseq_dns_scan.proofs.Spellings.{string_once}
use Rattle.octseq_dns_scan.specs.Base32hex.{quintets, base32hex_text, IsBase32hexText}
use Rattle.octseq_dns_scan.specs.Base32hexPlace.{EndsAtBits}
use Rattle.octseq_dns_scan.specs.Base32hexRead.{HasReadBase32hex}
use Rattle.octseq_dns_scan.specs.Hex.{IsHexText}
use Rattle.octseq_dns_scan.specs.HexRead.{HasReadHex}
use Rattle.octseq_dns_scan.specs.Spelled.{SpellsString, IsUnscanned}
use Rattle.octseq_dns_scan.specs.TextReader.{NoText, ReadsSoFar, Feeds}
use Rattle.octseq_dns_scan.specs.declared.base32hex.Base32hexReader.{Base32hexReader}
use Rattle.octseq_dns_scan.specs.declared.base32hex.Place.{Place}
use Rattle.octseq_dns_scan.specs.declared.base32hex.Place.TheVariants.{Whole, One, Two, Three, Four, Five, Six, Seven}
use Rattle.octseq_dns_scan.specs.declared.hex.HexReader.{HexReader}
use Rattle.octseq_dns_scan.specs.declared.string.StringError.{StringError}
use Rattle.octseq_dns_text.proofs.ReaderLengths.{even, hex_length}
use Rattle.octseq_dns_text.specs.Words.{IsStringWord}

-- a string is refused only if it is none, or too long
pub string_refused : (e : StringError) (word old : List ℕ) → length old ≡ 0
    → IsUnscanned e (Some 255) (Some 255) false word old → (octets : List ℕ) → ¬ IsStringWord word octets
string_refused StringError.Malformed word old empty none octets (inside, spells, few, same) = none inside spells
string_refused StringError.TooLong word old empty (long, also, past) octets (inside, spells, few, same) =
    let lengths = ap length (string_once long inside word also spells) in
    absurd (omega (arith, lengths, past, few))
string_refused StringError.Short word old empty (long, within, past) octets (inside, spells, few, same) =
    let lengths = ap length (string_once long inside word within.0 spells) in
    absurd (omega (arith, lengths, past, few, empty))
string_refused StringError.Memory word old empty (long, spells, within, never) octets is = absurd (cc)

-- what a reader makes of a front of a text of at most 255 octets is at most 255 octets
abbrev FitsWord : {S : Type 0} → (List ℕ → List ℕ → Type 0) → (S → List ℕ → List ℕ → Type 0) → List ℕ → Type 0
FitsWord {S} Is HasRead word = (after : S) (front rest more octets : List ℕ) → word ≡ front ++ rest
    → HasRead after front more → Is word octets → length octets ≤ 255 → length more ≤ 255

-- so a word is refused only if it is no such text
refused : {S : Type 0} (Is : List ℕ → List ℕ → Type 0) (HasRead : S → List ℕ → List ℕ → Type 0) (reader : S)
    (word old new : List ℕ) → HasRead reader [] [] → length old ≡ 0 → FitsWord Is HasRead word → (e : WriteError)
    → Feeds Is HasRead (Some 255) false (Err e) reader word old new → (octets : List ℕ) → length octets ≤ 255
    → AreOctets octets → ¬ Is word octets
refused Is HasRead reader word old new read empty fits WriteError.Malformed feeds octets few are is =
    feeds.malformed tt [] [] read octets [] are (subst (λ text. Is text octets) (sym (append-nil word)) is)
refused Is HasRead reader word old new read empty fits WriteError.Short feeds octets few are is =
    let (front, rest, more, after, split, reads, past) = feeds.short tt in
    let most = fits after front rest more octets split (reads [] [] read) is few in
    absurd (omega (arith, most, past, empty))
refused Is HasRead reader word old new read empty fits WriteError.Memory feeds octets few are is =
    absurd (let never = feeds.memory tt in cc)

-- ---- hexadecimal

pub hex_text_length : (word octets : List ℕ) → IsHexText word octets → length word ≡ 2 * length octets
hex_text_length word octets is =
    let lengths = ap length is in
    omega (arith, lengths, length-map {B = ℕ} word to_ascii_lowercase, even octets)

hex_fits : (word : List ℕ) → FitsWord IsHexText HasReadHex word
hex_fits word after front rest more octets split read is few =
    let most = hex_length after front more read in
    let lengths = ap length split in
    omega (arith, most.0, lengths, length-append front rest, hex_text_length word octets is, few)

pub hex_refused : (reader : HexReader) (word old new : List ℕ) → HasReadHex reader [] [] → length old ≡ 0
    → (e : WriteError) → Feeds IsHexText HasReadHex (Some 255) false (Err e) reader word old new → (octets : List ℕ)
    → length octets ≤ 255 → AreOctets octets → ¬ IsHexText word octets
hex_refused reader word old new read empty =
    refused IsHexText HasReadHex reader word old new read empty (hex_fits word)

pub hex_empty : (word octets other : List ℕ) → octets ≡ [] → IsHexText word octets → IsHexText word other
    → ¬ (1 ≤ length other)
hex_empty word octets other none is also some =
    let lengths = ap length none in
    absurd (omega (arith, lengths, some, hex_text_length word octets is, hex_text_length word other also))

-- ---- base 32

text_length : (octets : List ℕ) → (8 * length octets ≤ 5 * length (base32hex_text octets))
    × (5 * length (base32hex_text octets) ≤ 8 * length octets + 4)
text_length [] = (omega arith, omega arith)
text_length (a ∷ []) = (omega arith, omega arith)
text_length (a ∷ b ∷ []) = (omega arith, omega arith)
text_length (a ∷ b ∷ c ∷ []) = (omega arith, omega arith)
text_length (a ∷ b ∷ c ∷ d ∷ []) = (omega arith, omega arith)
text_length (a ∷ b ∷ c ∷ d ∷ e ∷ more) =
    let rest = text_length more in
    (omega (arith, rest.0), omega (arith, rest.1))

groups_length : (octets : List ℕ) → length octets % 5 ≡ 0 → 5 * length (base32hex_text octets) ≡ 8 * length octets
groups_length [] whole = refl
groups_length (a ∷ []) whole = absurd (omega (arith, whole))
groups_length (a ∷ b ∷ []) whole = absurd (omega (arith, whole))
groups_length (a ∷ b ∷ c ∷ []) whole = absurd (omega (arith, whole))
groups_length (a ∷ b ∷ c ∷ d ∷ []) whole = absurd (omega (arith, whole))
groups_length (a ∷ b ∷ c ∷ d ∷ e ∷ more) whole = omega (arith, groups_length more (omega (arith, whole)))

-- five octets for each group of eight digits
base32hex_length : (place : Place) (bits : ℕ) (text octets : List ℕ) → EndsAtBits place bits text octets
    → 8 * length octets ≤ 5 * length text
base32hex_length Whole bits text octets (whole, same) =
    let lengths = ap length same in
    let all = text_length octets in
    omega (arith, lengths, all.0)
base32hex_length One bits text octets (whole, same) =
    let lengths = simp length-append at (ap length same) in
    let all = groups_length octets whole in
    omega (arith, lengths, all)
base32hex_length Two bits text octets (groups, a, whole, parts, same) =
    let lengths = simp length-append at (ap length same) in
    let of_parts = simp length-append at (ap length parts) in
    omega (arith, lengths, of_parts, groups_length groups whole)
base32hex_length Three bits text octets (groups, a, whole, parts, same) =
    let lengths = simp length-append at (ap length same) in
    let of_parts = simp length-append at (ap length parts) in
    omega (arith, lengths, of_parts, groups_length groups whole)
base32hex_length Four bits text octets (groups, a, b, whole, parts, same) =
    let lengths = simp length-append at (ap length same) in
    let of_parts = simp length-append at (ap length parts) in
    omega (arith, lengths, of_parts, groups_length groups whole)
base32hex_length Five bits text octets (groups, a, b, c, whole, parts, same) =
    let lengths = simp length-append at (ap length same) in
    let of_parts = simp length-append at (ap length parts) in
    omega (arith, lengths, of_parts, groups_length groups whole)
base32hex_length Six bits text octets (groups, a, b, c, whole, parts, same) =
    let lengths = simp length-append at (ap length same) in
    let of_parts = simp length-append at (ap length parts) in
    omega (arith, lengths, of_parts, groups_length groups whole)
base32hex_length Seven bits text octets (groups, a, b, c, d, whole, parts, same) =
    let lengths = simp length-append at (ap length same) in
    let of_parts = simp length-append at (ap length parts) in
    omega (arith, lengths, of_parts, groups_length groups whole)

base32hex_text_length : (word octets : List ℕ) → IsBase32hexText word octets
    → (8 * length octets ≤ 5 * length word) × (5 * length word ≤ 8 * length octets + 4)
base32hex_text_length word octets is =
    let lengths = ap length is in
    let mapped = length-map {B = ℕ} word to_ascii_lowercase in
    let all = text_length octets in
    (omega (arith, lengths, mapped, all.0), omega (arith, lengths, mapped, all.1))

base32hex_fits : (word : List ℕ) → FitsWord IsBase32hexText HasReadBase32hex word
base32hex_fits word after front rest more octets split read is few =
    let most = base32hex_length after.place after.bits (map to_ascii_lowercase front) more read.1 in
    let lengths = ap length split in
    let all = base32hex_text_length word octets is in
    omega (arith, most, lengths, length-append front rest, length-map {B = ℕ} front to_ascii_lowercase, all.1, few)

pub base32hex_refused : (reader : Base32hexReader) (word old new : List ℕ) → HasReadBase32hex reader [] []
    → length old ≡ 0 → (e : WriteError)
    → Feeds IsBase32hexText HasReadBase32hex (Some 255) false (Err e) reader word old new → (octets : List ℕ)
    → length octets ≤ 255 → AreOctets octets → ¬ IsBase32hexText word octets
base32hex_refused reader word old new read empty =
    refused IsBase32hexText HasReadBase32hex reader word old new read empty (base32hex_fits word)

pub base32hex_empty : (word octets other : List ℕ) → octets ≡ [] → IsBase32hexText word octets
    → IsBase32hexText word other → ¬ (1 ≤ length other)
base32hex_empty word octets other none is also some =
    let lengths = ap length none in
    let one = base32hex_text_length word octets is in
    let two = base32hex_text_length word other also in
    absurd (omega (arith, lengths, some, one.1, two.0))

-- ---- results

pub if_some : {A : Type 0} (r : Option A) (P Q : A → Type 0) → ((a : A) → P a → Q a) → IfSome r P → IfSome r Q
if_some None P Q weaker is = tt
if_some (Some a) P Q weaker is = weaker a is

pub octets_fit : (xs : List ℕ) → ((k : ℕ) → Fits w8 (get_or xs k 0)) → AreOctets xs
octets_fit [] each = tt
octets_fit (x ∷ xs) each = (let fits = each 0 in omega (arith, fits), octets_fit xs (λ k. each (suc k)))
