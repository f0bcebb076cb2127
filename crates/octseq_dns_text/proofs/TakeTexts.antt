-- Readers of runs, octet by octet.
use Rattle.std.proofs.Common.{◌≡◌, ℕ, ◌+◌, ◌*◌, ◌≤◌, ◌<◌, false, List, [], ◌∷◌, ◌++◌, map, length, ap, ◌∙◌, arith}
use Rattle.std.proofs.Common.{length-append, Option, Some, None, Err, subst}
use Rattle.std.proofs.lemmas.List.{append-nil, length-map}
use Rattle.std.specs.Char.{digit_char, to_ascii_lowercase}
use Rattle.std.specs.List.{flat_map}
use Rattle.octseq.specs.OctetsText.{hex_text}
use Rattle.octseq.specs.declared.error.WriteError.{WriteError}
use Rattle.octseq_dns_scan.specs.Base64.{IsBase64Text}
use Rattle.octseq_dns_scan.specs.Base64Read.{HasReadBase64}
use Rattle.octseq_dns_scan.specs.Hex.{IsHexText}
use Rattle.octseq_dns_scan.specs.HexRead.{HasReadHex, open_digit}
use Rattle.octseq_dns_scan.specs.TextReader.{NoText, ReadsSoFar, Feeds}
use Rattle.octseq_dns_scan.specs.declared.base64.Base64Reader.{Base64Reader}
use Rattle.octseq_dns_scan.specs.declared.hex.HexReader.{HexReader}
use Rattle.octseq_dns_text.proofs.ReaderLengths.{even, hex_length, base64_length}

-- what a reader makes of a run of one octet fits four octets
abbrev MakesFew : {S : Type 0} → (S → List ℕ → List ℕ → Type 0) → S → Type 0
MakesFew {S} HasRead reader = (after : S) (text octets front more : List ℕ) → HasRead reader text octets
    → HasRead after (text ++ front) (octets ++ more) → length front ≤ 1 → length more ≤ 4

-- so an octet is refused only if no text goes on with it
refused : {S : Type 0} (Is : List ℕ → List ℕ → Type 0) (HasRead : S → List ℕ → List ℕ → Type 0) (reader : S)
    (octet : ℕ) (old new : List ℕ) → length old ≡ 0 → MakesFew HasRead reader → (e : WriteError)
    → Feeds Is HasRead (Some 4) false (Err e) reader (octet ∷ []) old new → (text octets : List ℕ)
    → HasRead reader text octets → NoText Is (text ++ octet ∷ [])
refused Is HasRead reader octet old new empty few WriteError.Malformed feeds text octets read =
    feeds.malformed tt text octets read
refused Is HasRead reader octet old new empty few WriteError.Short feeds text octets read =
    let (front, rest, more, after, split, reads, past) = feeds.short tt in
    let lengths = ap length split in
    let most = few after text octets front more read (reads text octets read)
    (omega (arith, lengths, length-append front rest)) in
    absurd (omega (arith, most, past, empty))
refused Is HasRead reader octet old new empty few WriteError.Memory feeds text octets read =
    absurd (let never = feeds.memory tt in cc)

hex_few : (reader : HexReader) → MakesFew HasReadHex reader
hex_few reader after text octets front more read then one =
    let before = hex_length reader text octets read in
    let now = hex_length after (text ++ front) (octets ++ more) then in
    omega (arith, before.0, before.1, now.0, now.1, one, length-append text front, length-append octets more)

base64_few : (reader : Base64Reader) → MakesFew HasReadBase64 reader
base64_few reader after text octets front more read then one =
    let before = base64_length reader.place reader.bits text octets read.1 in
    let now = base64_length after.place after.bits (text ++ front) (octets ++ more) then.1 in
    omega (arith, before.0, before.1, now.0, now.1, one, length-append text front, length-append octets more)

pub hex_refused : (reader : HexReader) (octet : ℕ) (old new : List ℕ) → length old ≡ 0 → (e : WriteError)
    → Feeds IsHexText HasReadHex (Some 4) false (Err e) reader (octet ∷ []) old new → (text octets : List ℕ)
    → HasReadHex reader text octets → NoText IsHexText (text ++ octet ∷ [])
hex_refused reader octet old new empty e feeds =
    refused IsHexText HasReadHex reader octet old new empty (hex_few reader) e feeds

pub base64_refused : (reader : Base64Reader) (octet : ℕ) (old new : List ℕ) → length old ≡ 0 → (e : WriteError)
    → Feeds IsBase64Text HasReadBase64 (Some 4) false (Err e) reader (octet ∷ []) old new → (text octets : List ℕ)
    → HasReadBase64 reader text octets → NoText IsBase64Text (text ++ octet ∷ [])
base64_refused reader octet old new empty e feeds =
    refused IsBase64Text HasReadBase64 reader octet old new empty (base64_few reader) e feeds

-- an even number of digits is whole octets
pub hex_whole : (high : Option ℕ) (half : ℕ) (text octets : List ℕ)
    → map to_ascii_lowercase text ≡ flat_map hex_text octets ++ open_digit high → length text ≡ 2 * half
    → IsHexText text octets
hex_whole None half text octets same digits = same ∙ append-nil (flat_map hex_text octets)
hex_whole (Some value) half text octets same digits =
    let lengths = ap length same in
    let of_text = length-map {B = ℕ} text to_ascii_lowercase in
    let of_octets = length-append (flat_map hex_text octets) (digit_char value ∷ []) in
    absurd (omega (arith, lengths, of_text, of_octets, even octets, digits))
