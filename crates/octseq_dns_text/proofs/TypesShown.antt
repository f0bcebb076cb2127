-- What is displayed of types is read back.
use Rattle.std.proofs.Common.{◌≡◌, ◌<◌, ℕ, List, ◌++◌, map, Option, None, Some, refl, arith, length-append}
use Rattle.std.specs.Fmt.{decimal}
use Rattle.std.specs.List.{All, IsDistinct}
use Rattle.std.specs.Prelude.{nat_eq, codes, unwrap_or}
use Rattle.std.proofs.lemmas.List.Elements.{recursion_from_All}
use Rattle.octseq_dns_data.specs.Mnemonic.{ReadsRtype, name_in, rtype_text}
use Rattle.octseq_dns_data.specs.Rtype.{rtype_names}
use Rattle.octseq_dns_data.specs.RtypeBitmapMade.{bitmap_of}
use Rattle.octseq_dns_data.proofs.Mnemonics.{reads_shown}
use Rattle.octseq_dns_scan.specs.Word.{IsWord}
use Rattle.octseq_dns_text.specs.TypesText.{IsTypesText}
use Rattle.octseq_dns_text.proofs.Plain.{IsPlain, all_append, decimal_plain, plain_text_word}
use Rattle.octseq_dns_text.proofs.PlainNames.{among_plain, among_some, name_among, names_from, names_some, plain_from}
use Rattle.octseq_dns_text.proofs.Shown.{all_both, zip_map}

type_reads : (rtype : ℕ) → rtype < 65536 → ReadsRtype (rtype_text rtype) rtype
unfolding ReadsRtype rtype_text
type_reads rtype bits = reads_shown (codes "TYPE") rtype_names rtype bits

-- the text of different types is read as these types
pub types_shown : (rtypes : List ℕ) → All (λ rtype. rtype < 65536) rtypes → IsDistinct nat_eq rtypes
    → IsTypesText (map rtype_text rtypes) (bitmap_of rtypes)
types_shown rtypes small once = record {
  rtypes = rtypes;
  each = zip_map ReadsRtype rtype_text rtypes (all_both (λ rtype. rtype < 65536)
      (λ rtype. ReadsRtype (rtype_text rtype) rtype) type_reads rtypes
      (recursion_from_All (λ rtype. rtype < 65536) rtypes small));
  once = once;
  bitmap = refl;
}

found_word : (rtype : ℕ) → rtype < 65536 → (found : Option (List ℕ)) → name_in rtype_names rtype ≡ found
    → IsWord (unwrap_or found (codes "TYPE" ++ decimal rtype))
found_word rtype bits (Some name) is =
    let among = name_among rtype_names rtype name is in
    plain_text_word name (among_some rtype rtype_names name (names_some rtype_names refl) among)
    (among_plain rtype_names rtype name (names_from rtype_names refl) among)
found_word rtype bits None is =
    plain_text_word (codes "TYPE" ++ decimal rtype) (omega (arith, length-append (codes "TYPE") (decimal rtype)))
    (all_append IsPlain (codes "TYPE") (decimal rtype) (plain_from (codes "TYPE") refl)
    (decimal_plain rtype (omega (arith, bits))))

-- and of each it is a word
pub type_word : (rtype : ℕ) → rtype < 65536 → IsWord (rtype_text rtype)
unfolding rtype_text
type_word rtype bits = found_word rtype bits (name_in rtype_names rtype) refl
