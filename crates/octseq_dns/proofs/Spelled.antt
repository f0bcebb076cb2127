-- Strings that are appended one after another.
use Rattle.std.proofs.Common.{◌≡◌, ◌+◌, ◌-◌, ◌/◌, ◌<◌, ◌≤◌, ◌*◌, ℕ, Bor, List, [], ◌∷◌, ◌++◌, Option}
use Rattle.std.proofs.Common.{suc, zero}
use Rattle.std.proofs.Common.{length, map, take, drop, get_or, refl, sym, ap, ◌∙◌, subst, arith, append_assoc}
use Rattle.std.proofs.Common.{length-append, length-drop, drop-cons, append-nil, add-one}
use Rattle.std.proofs.Math.ListN.{get_or-map}
use Rattle.std.proofs.lemmas.List.{length-map, length-take, map-id, take-map, take_all}
use Rattle.std.proofs.lemmas.List.Concat.{flat_map-cons}
use Rattle.std.proofs.lemmas.List.Elements.{All-head, All-nil, All-cons, All-more, All-tail}
use Rattle.std.specs.List.{All, AllByRecursion}
use Rattle.octseq.specs.Integer.{be, octets_be}
use Rattle.octseq.specs.Limit.{ExceedsLimit}
use Rattle.octseq.specs.Part.{part_of}
use Rattle.octseq.specs.Window.{Window, at, left, next, past, rest, whole}
use Rattle.octseq.proofs.WindowsAfter.{front_comes_next}
use Rattle.octseq.proofs.Codes.{rest_whole}
use Rattle.octseq.proofs.Written.{length_be, value_be}
use Rattle.octseq_dns_data.specs.Data.{HasString, HasStrings}
use Rattle.octseq_dns_data.specs.Strings.{spelling}
use Rattle.octseq_format.specs.Laws.{IsDelimited}
use Rattle.octseq_format.specs.Row.{Row, row_next}
use Rattle.octseq_dns.specs.TxtWritten.{AreTxtStrings, cut_after, strings_of_text}
use Rattle.octseq.proofs.Limits.{past_more}

-- a string that exceeds a limit exceeds it with those after it
pub past_string : (limit : Option ℕ) (now part rest old all : List ℕ) → now ++ (part ++ rest) ≡ old ++ all
    → ExceedsLimit limit (length now + length part) → ExceedsLimit limit (length old + length all)
past_string limit now part rest old all same past =
    let long : length now + length (part ++ rest) ≡ length old + length all =
    sym (length-append now (part ++ rest)) ∙ ap length same ∙ length-append old all in
    let both : length (part ++ rest) ≡ length part + length rest = length-append part rest in
    past_more limit (length now + length part) (length old + length all) (omega (arith, long, both)) past

-- a string is appended
pub ahead_more : (now part rest old all new : List ℕ) → now ++ (part ++ rest) ≡ old ++ all → new ≡ now ++ part
    → new ++ rest ≡ old ++ all
ahead_more now part rest old all new same is =
    ap (λ front. front ++ rest) is ∙ append_assoc now part rest ∙ same

pub grown_more : (now part old new : List ℕ) → (more : List ℕ) × (now ≡ old ++ more) → new ≡ now ++ part
    → (more : List ℕ) × (new ≡ old ++ more)
grown_more now part old new grown is =
    (grown.0 ++ part, is ∙ ap (λ front. front ++ part) grown.1 ∙ append_assoc old grown.0 part)

-- ---- strings

abbrev pub contents : List (Bor (List ℕ)) → List (List ℕ)
contents strings = map (λ string. string.now) strings

-- the first string that is left
pub left_first : (strings : List (Bor (List ℕ))) (i : ℕ) (default : Bor (List ℕ)) → i < length strings
    → spelling (contents (drop i strings))
    ≡ part_of 1 (get_or strings i default).now ++ spelling (contents (drop (i + 1) strings))
left_first strings i default less =
    ap (λ l. spelling (contents l)) (drop-cons strings i default less)
    ∙ flat_map-cons (part_of 1) (get_or strings i default).now (contents (drop (suc i) strings))
    ∙ ap (λ (n : ℕ). part_of 1 (get_or strings i default).now ++ spelling (contents (drop n strings))) (sym (add-one i))

-- each string has at most 255 octets
pub one_short : (strings : List (Bor (List ℕ))) (i : ℕ) (default : Bor (List ℕ)) → i < length strings
    → AreTxtStrings (contents strings) → length (get_or strings i default).now ≤ 255
one_short strings i default less are =
    subst (λ (s : List ℕ). length s ≤ 255) (get_or-map (λ (s : Bor (List ℕ)). s.now) strings i default)
    (are.1 i default.now (subst (λ n. i < n) (sym (length-map strings (λ (s : Bor (List ℕ)). s.now))) less))

-- one more string has at most 255 octets
pub more_short : (strings : List (Bor (List ℕ))) (i : ℕ) (default : Bor (List ℕ)) → i < length strings
    → All (λ (s : List ℕ). length s ≤ 255) (contents (take i strings)) → length (get_or strings i default).now ≤ 255
    → All (λ (s : List ℕ). length s ≤ 255) (contents (take (i + 1) strings))
more_short strings i default less so_far short =
    subst (All (λ (s : List ℕ). length s ≤ 255)) (take-map (λ (s : Bor (List ℕ)). s.now) (i + 1) strings)
    (All-more (λ (s : List ℕ). length s ≤ 255) (contents strings) i default.now
    (subst (λ n. i < n) (sym (length-map strings (λ (s : Bor (List ℕ)). s.now))) less)
    (subst (All (λ (s : List ℕ). length s ≤ 255)) (sym (take-map (λ (s : Bor (List ℕ)). s.now) i strings)) so_far)
    (subst (λ (s : List ℕ). length s ≤ 255) (sym (get_or-map (λ (s : Bor (List ℕ)). s.now) strings i default)) short))

-- at last, all do
pub each_short : (strings : List (Bor (List ℕ))) (i : ℕ) → length strings ≤ i
    → All (λ (s : List ℕ). length s ≤ 255) (contents (take i strings))
    → All (λ (s : List ℕ). length s ≤ 255) (contents strings)
each_short strings i late so_far =
    subst (λ l. All (λ (s : List ℕ). length s ≤ 255) (contents l)) (take_all i strings late) so_far

-- ---- a text

-- a long text begins with a string of 255 octets
pub cut_first : (text : List ℕ) → 255 < length text
    → strings_of_text text ≡ take 255 text ∷ strings_of_text (drop 255 text)
cut_first text long =
    let left : length (drop 255 text) ≡ length text - 255 = length-drop 255 text in
    let one : (length text - 1) / 255 ≡ suc ((length (drop 255 text) - 1) / 255) = omega (arith, left, long) in
    ap (λ n. cut_after n text) one

-- another text is one string
pub cut_last : (text : List ℕ) → length text ≤ 255 → strings_of_text text ≡ text ∷ []
cut_last text short =
    let none : (length text - 1) / 255 ≡ 0 = omega (arith, short) in
    ap (λ n. cut_after n text) none

-- and the same for their octets
pub spelled_first : (text : List ℕ) → 255 < length text
    → spelling (strings_of_text text) ≡ part_of 1 (take 255 text) ++ spelling (strings_of_text (drop 255 text))
spelled_first text long =
    ap spelling (cut_first text long) ∙ flat_map-cons (part_of 1) (take 255 text) (strings_of_text (drop 255 text))

pub spelled_last : (text : List ℕ) → length text ≤ 255 → spelling (strings_of_text text) ≡ part_of 1 text ++ []
spelled_last text short = ap spelling (cut_last text short) ∙ flat_map-cons (part_of 1) text []

-- each string has at most 255 octets
cut_short : (more : ℕ) (text : List ℕ) → length text ≤ 255 * more + 255
    → All (λ (string : List ℕ). length string ≤ 255) (cut_after more text)
cut_short zero text short = All-cons (λ (string : List ℕ). length string ≤ 255) text [] (omega (arith, short))
    (All-nil (λ (string : List ℕ). length string ≤ 255))
cut_short (suc more) text short =
    let long : length (take 255 text) ≡ _ = length-take 255 text in
    let left : length (drop 255 text) ≡ length text - 255 = length-drop 255 text in
    All-cons (λ (string : List ℕ). length string ≤ 255) (take 255 text) (cut_after more (drop 255 text))
    (omega (arith, long)) (cut_short more (drop 255 text) (omega (arith, left, short)))

cut_some : (more : ℕ) (text : List ℕ) → 1 ≤ length (cut_after more text)
cut_some zero text = omega arith
cut_some (suc more) text = omega arith

pub text_strings : (text : List ℕ) → AreTxtStrings (strings_of_text text)
text_strings text = (
  cut_some ((length text - 1) / 255) text,
  cut_short ((length text - 1) / 255) text (omega arith),
)

-- ---- read back

-- a string is there if its octets come next
string_next : IsDelimited HasString (λ string. string) (part_of 1) (λ (string : List ℕ). length string ≤ 255)
string_next = record {
  next = λ w string more fits is.
      let count = octets_be 1 (length string) in
      let all : rest w ≡ count ++ (string ++ more) = is ∙ append_assoc count string more in
      let inside = past 1 w in
      let one = front_comes_next w count (string ++ more) 1 all (length_be 1 (length string)) in
      let two = front_comes_next inside string more (length string) one.2 refl in
      let many : be (next 1 w) ≡ length string = ap be one.1 ∙ value_be 1 (length string) (omega (arith, fits)) in
      let long : length (part_of 1 string) ≡ 1 + length string =
      length-append count string ∙ ap (λ n. n + length string) (length_be 1 (length string)) in
      record {
        it = string;
        tells = refl;
        is = (
          (one.0, subst (λ n. n ≤ left inside) (sym many) two.0),
          sym (ap (λ n. next n inside) many ∙ two.1),
          ap (λ p. at p w) (omega (arith, long, many)),
        );
      };
}

-- each string fits
each_fits : (strings : List (List ℕ)) → All (λ string. length string ≤ 255) strings
    → AllByRecursion (λ string. length string ≤ 255) strings
each_fits [] fits = tt
each_fits (string ∷ strings) fits = (
  All-head (λ (s : List ℕ). length s ≤ 255) string strings fits,
  each_fits strings (All-tail (λ (s : List ℕ). length s ≤ 255) string strings fits),
)

-- strings that were written are read
pub strings_are_read : (strings : List (List ℕ)) → AreTxtStrings strings
    → (end : Window) × HasStrings (whole (spelling strings)) strings end × (end.position ≡ length (spelling strings))
strings_are_read strings are =
    let octets = spelling strings in
    let row = row_next HasString (λ string. string) (part_of 1) (λ (string : List ℕ). length string ≤ 255) string_next
    (whole octets) strings [] (each_fits strings are.1) (rest_whole octets ∙ sym (append-nil octets)) in
    let same : row.it ≡ strings = sym (map-id row.it) ∙ row.tells in (
      past (length octets) (whole octets),
      (are.0, subst (λ it. Row HasString (whole octets) it (past (length octets) (whole octets))) same row.is),
      omega arith,
    )
