-- Fields, and what comes after them.
use Rattle.std.proofs.Common.{◌≡◌, ℕ, ◌+◌, ◌≤◌, ◌<◌, Bool, true, false, List, [], ◌∷◌, ◌++◌, length, refl, sym, ap, ◌∙◌}
use Rattle.std.proofs.Common.{subst, append_assoc, arith, Option, Some, None, Result, Ok, Err, codes, decimal, inl}
use Rattle.std.proofs.Common.{length-append, rules}
use Rattle.std.proofs.lemmas.List.{append-nil}
use Rattle.std.specs.Str.Parse.{digits_value}
use Rattle.octseq.proofs.WrittenBack.{AreOctets}
use Rattle.octseq.specs.Integer.{octets_be}
use Rattle.octseq.specs.Limit.{ExceedsLimit}
use Rattle.std.specs.Net.Text.{ipv4_text}
use Rattle.octseq.specs.OctetsText.{ipv6_address_text}
use Rattle.octseq_dns_data.proofs.Mnemonics.{reads_shown}
use Rattle.octseq_dns_data.specs.Mnemonic.{ReadsRtype, rtype_text}
use Rattle.octseq_dns_data.specs.declared.layout.Field.{Field}
use Rattle.octseq_dns_data.specs.declared.layout.Field.TheVariants as field
use Rattle.octseq_dns_data.specs.declared.layout.Tail.{Tail}
use Rattle.octseq_dns_data.specs.declared.layout.Tail.TheVariants as tail
use Rattle.octseq_dns_name.specs.Wire.{wire}
use Rattle.octseq_dns_scan.proofs.Addresses.{ipv4_word, ipv6_word}
use Rattle.octseq_dns_scan.proofs.Numerals.{shown_digits, shown_value, shown_short}
use Rattle.octseq_dns_scan.specs.Base64.{IsBase64Text}
use Rattle.octseq_dns_scan.specs.Hex.{IsHexText}
use Rattle.octseq_dns_scan.specs.Time.{IsTime}
use Rattle.octseq_dns_scan.specs.Word.{TakesWord}
use Rattle.octseq_dns_text.proofs.Appended.{past_more}
use Rattle.octseq_dns_text.proofs.ReadTexts.{begins_more, words_more, reached_fault, reads_malformed, reads_memory}
use Rattle.octseq_dns_text.proofs.ReadTexts.{reads_ok, reads_short}
use Rattle.octseq_dns_text.proofs.RunTexts.{some_runs_go}
use Rattle.octseq_dns_text.proofs.StringTexts.{value_goes, some_strings_go, string_a}
use Rattle.octseq_dns_text.proofs.TypesTexts.{none_distinct, types_go}
use Rattle.octseq_dns_text.specs.Fields.{IsFieldText}
use Rattle.octseq_dns_text.specs.Layouts.{IsLayoutText}
use Rattle.octseq_dns_text.specs.Output.{HoldsOutput, unless_full}
use Rattle.octseq_dns_text.specs.Reached.{Reached, ReadsText}
use Rattle.octseq_dns_text.specs.Scans.{Goes, BeginsWithWords, IsWordFault}
use Rattle.octseq_dns_text.specs.Tails.{IsTailText}
use Rattle.octseq_dns_text.specs.declared.error.ScanError.{ScanError}

-- ---- each field and each tail has a text

reads_a : ReadsRtype (rtype_text 1) 1
unfolding ReadsRtype rtype_text
reads_a = reads_shown _ _ 1 (omega arith)

pub field_sample : (origin : Option (List (List ℕ))) (it : Field) → (word octets : List ℕ)
    × IsFieldText origin it word octets
field_sample origin field.U8 =
    let value = shown_value 0 (omega arith) in
    (decimal 0, octets_be 1 (digits_value 10 (decimal 0)), (shown_digits 0 (omega arith), omega (arith, value), refl))
field_sample origin field.U16 =
    let value = shown_value 0 (omega arith) in
    (decimal 0, octets_be 2 (digits_value 10 (decimal 0)), (shown_digits 0 (omega arith), omega (arith, value), refl))
field_sample origin field.U32 =
    let value = shown_value 0 (omega arith) in
    (decimal 0, octets_be 4 (digits_value 10 (decimal 0)), (shown_digits 0 (omega arith), omega (arith, value), refl))
field_sample origin field.Rtype = (rtype_text 1, octets_be 2 1, (1, reads_a, refl))
field_sample origin field.Time =
    let value = shown_value 0 (omega arith) in (
      decimal 0,
      octets_be 4 (digits_value 10 (decimal 0)),
      (
        digits_value 10 (decimal 0),
        IsTime.number (shown_short 0 (omega arith)) (shown_digits 0 (omega arith)) (omega (arith, value)) refl,
        refl,
      ),
    )
field_sample origin field.Ipv4 =
    let octets = 0 ∷ 0 ∷ 0 ∷ 0 ∷ [] in
    let are : AreOctets octets = (omega arith, (omega arith, (omega arith, (omega arith, tt)))) in
    (ipv4_text octets, octets, ipv4_word octets are refl)
field_sample origin field.Ipv6 =
    let octets = 0 ∷ 0 ∷ 0 ∷ 0 ∷ 0 ∷ 0 ∷ 0 ∷ 0 ∷ 0 ∷ 0 ∷ 0 ∷ 0 ∷ 0 ∷ 0 ∷ 0 ∷ 0 ∷ [] in
    let z : 0 < 256 = omega arith in
    let are : AreOctets octets =
    (z, (z, (z, (z, (z, (z, (z, (z, (z, (z, (z, (z, (z, (z, (z, (z, tt)))))))))))))))) in
    (ipv6_address_text octets, octets, (are, refl, ipv6_word octets are refl))
field_sample None field.Name = (46 ∷ [], wire [], ([], refl, (refl, tt, omega arith)))
field_sample (Some origin) field.Name = (46 ∷ [], wire [], ([], inl refl, (refl, tt, omega arith)))
field_sample origin field.String = (97 ∷ [], 1 ∷ 97 ∷ [], string_a)
field_sample origin field.Tag = (
  97 ∷ [],
  1 ∷ 97 ∷ [],
  (
    97 ∷ [],
    (refl, record { some = λ never. absurd (cc); alphanumeric = search rules }),
    omega arith,
    refl,
  ),
)
field_sample origin field.Salt = (45 ∷ [], 0 ∷ [], ([], inl (refl, refl), omega arith, refl))
field_sample origin field.OwnerHash =
    (48 ∷ 48 ∷ [], 1 ∷ 0 ∷ [], (0 ∷ [], (omega arith, (omega arith, tt), refl), omega arith, refl))

tail_goes : (it : Tail) → Goes (IsTailText it) []
tail_goes tail.Nothing = ([], [], (refl, refl))
tail_goes tail.Value = value_goes 0 (omega arith)
tail_goes tail.Target = value_goes 1 (omega arith)
tail_goes tail.Strings = some_strings_go
tail_goes tail.Hex = some_runs_go IsHexText (48 ∷ 48 ∷ [], 0 ∷ [], (omega arith, tt), refl)
tail_goes tail.Types = types_go [] [] tt none_distinct
tail_goes tail.Params = (
  [],
  [],
  record {
    said = [];
    each = tt;
    sorted = [];
    moved = search rules;
    are = search rules;
  },
)
tail_goes tail.Base64 = some_runs_go IsBase64Text (codes "AA==", 0 ∷ [], (omega arith, tt), refl)

pub layout_sample : (origin : Option (List (List ℕ))) (fields : List Field) (it : Tail)
    → (words : List (List ℕ)) × (octets : List ℕ) × IsLayoutText origin fields it words octets
layout_sample origin [] it = tail_goes it
layout_sample origin (one ∷ fields) it =
    let (word, first, is) = field_sample origin one in
    let (words, rest, are) = layout_sample origin fields it in
    (word ∷ words, first ++ rest, (word, words, first, rest, refl, is, are, refl))

-- ---- the first fields, and the rest

pub fields_join : (origin : Option (List (List ℕ))) (done rest : List Field) (it : Tail) (front words : List (List ℕ))
    (made octets : List ℕ) → IsLayoutText origin done tail.Nothing front made
    → IsLayoutText origin rest it words octets → IsLayoutText origin (done ++ rest) it (front ++ words) (made ++ octets)
fields_join origin [] rest it front words made octets (no_words, none) is =
    subst (λ all. IsLayoutText origin rest it (all ++ words) (made ++ octets)) (sym no_words)
    (subst (λ all. IsLayoutText origin rest it words (all ++ octets)) (sym none) is)
fields_join origin (one ∷ done) rest it front words made octets (
  word,
  more,
  first,
  left,
  split,
  is_one,
  are,
  same,
) is = (
  word,
  more ++ words,
  first,
  left ++ octets,
  ap (λ all. all ++ words) split,
  is_one,
  fields_join origin done rest it more words left octets are is,
  ap (λ all. all ++ octets) same ∙ append_assoc first left octets,
)

pub fields_drop : (origin : Option (List (List ℕ))) (done rest : List Field) (it : Tail) (front words : List (List ℕ))
    (made octets : List ℕ) → IsLayoutText origin done tail.Nothing front made
    → IsLayoutText origin (done ++ rest) it (front ++ words) octets
    → (left : List ℕ) × IsLayoutText origin rest it words left
fields_drop origin [] rest it front words made octets (no_words, none) is =
    (octets, subst (λ all. IsLayoutText origin rest it (all ++ words) octets) no_words is)
fields_drop origin (one ∷ done) rest it front words made octets (word, more, first, left, split, is_one, are, same)
    (head, later, start, end, heads, is_head, follow, parts) =
    let both : word ∷ (more ++ words) ≡ head ∷ later = sym (ap (λ all. all ++ words) split) ∙ heads in
    let rests : later ≡ more ++ words = cc in
    fields_drop origin done rest it more words left end are
    (subst (λ all. IsLayoutText origin (done ++ rest) it all end) rests follow)

pub fields_word : (origin : Option (List (List ℕ))) (done : List Field) (one : Field) (word octets : List ℕ)
    → IsFieldText origin one word octets → (front : List (List ℕ)) (made : List ℕ)
    → IsLayoutText origin done tail.Nothing front made
    → IsLayoutText origin (done ++ one ∷ []) tail.Nothing (front ++ word ∷ []) (made ++ octets)
fields_word origin done one word octets is front made are =
    subst (λ all. IsLayoutText origin (done ++ one ∷ []) tail.Nothing (front ++ word ∷ []) (made ++ all))
    (append-nil octets)
    (fields_join origin done (one ∷ []) tail.Nothing front (word ∷ []) made (octets ++ []) are
    (word, [], octets, [], refl, is, (refl, refl), refl))

-- ---- faults

goes_on : (origin : Option (List (List ℕ))) (done rest : List Field) (it : Tail) (front : List (List ℕ))
    (made : List ℕ) → IsLayoutText origin done tail.Nothing front made
    → Goes (IsLayoutText origin (done ++ rest) it) front
goes_on origin done rest it front made are =
    let (words, octets, is) = layout_sample origin rest it in
    (words, made ++ octets, fields_join origin done rest it front words made octets are is)

-- the next word isn't the next field
pub fields_fault : (origin : Option (List (List ℕ))) (done : List Field) (one : Field) (more : List Field) (it : Tail)
    (ahead : List ℕ) (start : ℕ) (limit : Option ℕ) (base rest : List ℕ) (place : ℕ) (full : Bool) (content : List ℕ)
    → Reached (IsLayoutText origin done tail.Nothing) ahead start limit base rest place full content
    → ((word left : List ℕ) → TakesWord word rest left → (octets : List ℕ) → ¬ (IsFieldText origin one word octets))
    → IsWordFault (IsLayoutText origin (done ++ one ∷ more) it) ahead start place
fields_fault origin done one more it ahead start limit base rest place full content reached none =
    reached_fault (IsLayoutText origin done tail.Nothing) (IsLayoutText origin (done ++ one ∷ more) it) ahead start
    limit base rest place full content reached
    (goes_on origin done (one ∷ more) it)
    (λ front made word left are takes (words, octets, is).
    let (end, (head, later, first, left_over, split, is_one, follow, same)) =
    fields_drop origin done (one ∷ more) it front (word ∷ words) made octets are
    (subst (λ all. IsLayoutText origin (done ++ one ∷ more) it all octets) (append_assoc front (word ∷ []) words) is) in
    let first_word : head ≡ word = cc in
    none word left takes first (subst (λ w. IsFieldText origin one w first) first_word is_one))
    (λ front made octets are at_end is.
    let (end, (head, later, first, left_over, split, is_one, follow, same)) =
    fields_drop origin done (one ∷ more) it front [] made octets are
    (subst (λ all. IsLayoutText origin (done ++ one ∷ more) it all octets) (sym (append-nil front)) is) in
    absurd (cc))

whole : (origin : Option (List (List ℕ))) (fields : List Field) (it : Tail) (words : List (List ℕ)) (octets : List ℕ)
    → IsLayoutText origin (fields ++ []) it words octets → IsLayoutText origin fields it words octets
whole origin fields it words octets is =
    subst (λ all. IsLayoutText origin all it words octets) (append-nil fields) is

unwhole : (origin : Option (List (List ℕ))) (fields : List Field) (it : Tail) (words : List (List ℕ)) (octets : List ℕ)
    → IsLayoutText origin fields it words octets → IsLayoutText origin (fields ++ []) it words octets
unwhole origin fields it words octets is =
    subst (λ all. IsLayoutText origin all it words octets) (sym (append-nil fields)) is

-- what comes after the fields isn't as it has to be
tail_fault : (origin : Option (List (List ℕ))) (fields : List Field) (it : Tail) (ahead : List ℕ) (start : ℕ)
    (limit : Option ℕ) (base rest : List ℕ) (place : ℕ) (full : Bool) (content : List ℕ)
    → Reached (IsLayoutText origin fields tail.Nothing) ahead start limit base rest place full content → (offset : ℕ)
    → IsWordFault (IsTailText it) rest place offset → IsWordFault (IsLayoutText origin fields it) ahead start offset
tail_fault origin fields it ahead start limit base rest place full content reached offset fault =
    let front = reached.front in
    let made = reached.made in
    let are = reached.is_front in
    let after : (words : List (List ℕ)) (octets : List ℕ) → IsLayoutText origin fields it (front ++ words) octets
    → (left : List ℕ) × IsTailText it words left =
    λ words octets is. fields_drop origin fields [] it front words made octets are
    (unwhole origin fields it (front ++ words) octets is) in
    record {
      front = front ++ fault.front;
      rest = fault.rest;
      begins = begins_more front fault.front ahead rest fault.rest reached.begins fault.begins;
      place = fault.place ∙ reached.same_end;
      goes =
          let (words, octets, is) = fault.goes in (
            words,
            made ++ octets,
            subst (λ all. IsLayoutText origin fields it all (made ++ octets))
                (sym (append_assoc front fault.front words))
                (whole origin fields it (front ++ (fault.front ++ words)) (made ++ octets)
                (fields_join origin fields [] it front (fault.front ++ words) made octets are is)),
          );
      stops = λ word left takes (words, octets, is).
          let regrouped : ((front ++ fault.front) ++ word ∷ []) ++ words
          ≡ front ++ ((fault.front ++ word ∷ []) ++ words) = simp append_assoc in
          let (end, is_tail) = after ((fault.front ++ word ∷ []) ++ words) octets
          (subst (λ all. IsLayoutText origin fields it all octets) regrouped is) in
          fault.stops word left takes (words, end, is_tail);
      ends = λ none octets is.
          let (end, is_tail) = after fault.front octets is in
          fault.ends none end is_tail;
    }

-- ---- the whole layout

joined : (origin : Option (List (List ℕ))) (fields : List Field) (it : Tail) (front words : List (List ℕ))
    (made octets : List ℕ) → IsLayoutText origin fields tail.Nothing front made → IsTailText it words octets
    → IsLayoutText origin fields it (front ++ words) (made ++ octets)
joined origin fields it front words made octets are is = whole origin fields it (front ++ words) (made ++ octets)
    (fields_join origin fields [] it front words made octets are is)

past_all : (limit : Option ℕ) (base made content : List ℕ) (full : Bool) (octets : List ℕ)
    → HoldsOutput limit base made full content → ExceedsLimit limit (length content + length octets)
    → ExceedsLimit limit (length base + length (made ++ octets))
past_all limit base made content false octets held past =
    let lengths = ap length (held.fits refl) in
    subst (ExceedsLimit limit) (omega (arith, lengths, length-append base made, length-append made octets)) past
past_all limit base made content true octets held past =
    past_more limit (length base + length made) _ (length octets) (omega (arith, length-append made octets))
    (held.past refl)

pub after_tail : (origin : Option (List (List ℕ))) (fields : List Field) (it : Tail) (ahead : List ℕ) (start : ℕ)
    (limit : Option ℕ) (asks : Bool) (base rest : List ℕ) (place : ℕ) (full : Bool) (content new : List ℕ)
    (result : Result (Unit {0}) ScanError)
    → Reached (IsLayoutText origin fields tail.Nothing) ahead start limit base rest place full content
    → ReadsText (IsTailText it) limit asks result rest place content new
    → ReadsText (IsLayoutText origin fields it) limit asks (unless_full full result) ahead start base new
after_tail origin fields it ahead start limit asks base rest place false content new (Ok value) reached reads =
    let (words, octets, are, is, same) = reads.ok in
    reads_ok (IsLayoutText origin fields it) limit asks ahead start base new (reached.front ++ words)
    (reached.made ++ octets) (words_more reached.front words ahead rest reached.begins are)
    (joined origin fields it reached.front words reached.made octets reached.is_front is)
    (same ∙ ap (λ all. all ++ octets) (reached.holds.fits refl) ∙ append_assoc base reached.made octets)
after_tail origin fields it ahead start limit asks base rest place true content new (Ok value) reached reads =
    let (words, octets, are, is, same) = reads.ok in
    reads_short (IsLayoutText origin fields it) limit asks ahead start base new (reached.front ++ words)
    (reached.made ++ octets) (words_more reached.front words ahead rest reached.begins are)
    (joined origin fields it reached.front words reached.made octets reached.is_front is)
    (past_more limit (length base + length reached.made) _ (length octets)
    (omega (arith, length-append reached.made octets)) (reached.holds.past refl))
after_tail origin fields it ahead start limit asks base rest place full content new (Err (ScanError.Malformed offset))
    reached reads =
    reads_malformed (IsLayoutText origin fields it) limit asks ahead start offset base new
    (tail_fault origin fields it ahead start limit base rest place full content reached offset
    (reads.fault offset refl))
after_tail origin fields it ahead start limit asks base rest place full content new
    (Err ScanError.Short) reached reads =
    let (words, octets, are, is, past) = reads.short refl in
    reads_short (IsLayoutText origin fields it) limit asks ahead start base new (reached.front ++ words)
    (reached.made ++ octets) (words_more reached.front words ahead rest reached.begins are)
    (joined origin fields it reached.front words reached.made octets reached.is_front is)
    (past_all limit base reached.made content full octets reached.holds past)
after_tail origin fields it ahead start limit asks base rest place full content new
    (Err ScanError.Memory) reached reads =
    reads_memory (IsLayoutText origin fields it) limit asks ahead start base new (reads.memory refl)
