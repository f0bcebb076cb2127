-- The line of a header, and where it is none.
use Rattle.std.proofs.Common.{◌≡◌, ℕ, ◌+◌, false, List, [], ◌∷◌, length, codes}
use Rattle.std.proofs.Common.{refl, subst, arith}
use Rattle.octseq_dns_scan.specs.Word.{TakesWord, AreWords}
use Rattle.octseq_dns_text.proofs.ReadTexts.{begins_all}
use Rattle.octseq_dns_text.specs.Scans.{BeginsWithWords, IsWordFault}
use Rattle.octseq_dns_compose.specs.Take.{IsGiven, IsUpTo, Then}
use Rattle.octseq_dns_compose.specs.HeaderLine.{HeaderField, IsNoField, AreFlags, IsHeaderLine, Picks, flag_names}
use Rattle.octseq_dns_compose.proofs.Faults.{Leads, Reached, first_fault, kept_fault, led_fault, past_words}
use Rattle.octseq_dns_compose.proofs.Flags.{flags_fault}
use Rattle.octseq_dns_message.specs.declared.header.Flags.{Flags}
use Rattle.octseq_dns_message.specs.declared.header.Header.{Header}

-- what any header says in words
abbrev pub Any : (Header → List (List ℕ) → Type 0) → List (List ℕ) → List ℕ → Type 0
Any Is words octets = (h : Header) × Is h words

abbrev pub HeaderTexts : List (List ℕ) → List ℕ → Type 0
HeaderTexts = Any IsHeaderLine

-- what follows each number
abbrev pub AfterRcode : Header → List (List ℕ) → Type 0
AfterRcode h = Then (IsGiven (codes "flags")) (AreFlags h.flags)

abbrev pub AfterOpcode : Header → List (List ℕ) → Type 0
AfterOpcode h = HeaderField (codes "rcode") 15 h.rcode (AfterRcode h)

abbrev pub AfterId : Header → List (List ℕ) → Type 0
AfterId h = HeaderField (codes "opcode") 15 h.opcode (AfterOpcode h)

-- ---- a sample

zero_header : Header
zero_header = record {
  id = 0;
  flags = record { qr = false; aa = false; tc = false; rd = false; ra = false; z = false; ad = false; cd = false };
  opcode = 0;
  rcode = 0;
}

zero_up_to : (most : ℕ) → IsUpTo most 0 (codes "0")
zero_up_to most = ((omega arith, (omega arith, tt)), refl, omega arith)

abbrev flags_words : List (List ℕ)
flags_words = codes "flags" ∷ []

abbrev rcode_words : List (List ℕ)
rcode_words = codes "rcode" ∷ codes "0" ∷ flags_words

abbrev opcode_words : List (List ℕ)
opcode_words = codes "opcode" ∷ codes "0" ∷ rcode_words

flags_text : AfterRcode zero_header flags_words
unfolding zero_header
flags_text = (refl, (refl, refl))

rcode_text : AfterOpcode zero_header rcode_words
unfolding zero_header
rcode_text = (refl, (zero_up_to 15, flags_text))

opcode_text : AfterId zero_header opcode_words
unfolding zero_header
opcode_text = (refl, (zero_up_to 15, rcode_text))

id_text : IsHeaderLine zero_header (codes "id" ∷ codes "0" ∷ opcode_words)
unfolding zero_header
id_text = (refl, (zero_up_to 65535, opcode_text))

-- ---- a field

-- the same, if a word and a number come first
abbrev FieldIn : List ℕ → ℕ → (Header → ℕ) → (Header → List (List ℕ) → Type 0) → Header → List (List ℕ) → Type 0
FieldIn name most number Rest h = HeaderField name most (number h) (Rest h)

field_fault : (name : List ℕ) (most : ℕ) (number : Header → ℕ) (Rest : Header → List (List ℕ) → Type 0)
    (words : List (List ℕ)) → FieldIn name most number Rest zero_header (name ∷ codes "0" ∷ words)
    → {ahead after : List ℕ} {start next : ℕ} → next + length after ≡ start + length ahead
    → IsNoField name most ahead after → IsWordFault (Any (FieldIn name most number Rest)) ahead start next
field_fault name most number Rest words sample {ahead = ahead} {after = after} {start = start} {next = next} place
    (IsNoField.no_name same none) =
    kept_fault (Any (FieldIn name most number Rest)) ahead after start next same place
    (first_fault (Any (FieldIn name most number Rest)) ahead start (name ∷ codes "0" ∷ words, [], (zero_header, sample))
    (λ word left taken goes. none left (subst (λ w. TakesWord w ahead left) goes.2.1.0 taken))
    (λ over octets is. is.1))
field_fault name most number Rest words sample {ahead = ahead} {after = after} {start = start} {next = next} place
    (IsNoField.no_number taken none) = record {
      front = name ∷ [];
      rest = after;
      begins = (after, taken, refl);
      place = place;
      goes = (codes "0" ∷ words, [], (zero_header, sample));
      stops = λ word left also goes. none word left (number goes.2.0) also goes.2.1.1.0;
      ends = λ over octets is. is.1.1;
    }

pub id_fault : {ahead after : List ℕ} {start next : ℕ} → next + length after ≡ start + length ahead
    → IsNoField (codes "id") 65535 ahead after → IsWordFault HeaderTexts ahead start next
id_fault = field_fault (codes "id") 65535 (λ h. h.id) AfterId opcode_words id_text

pub opcode_fault : {ahead after : List ℕ} {start next : ℕ} → next + length after ≡ start + length ahead
    → IsNoField (codes "opcode") 15 ahead after → IsWordFault (Any AfterId) ahead start next
opcode_fault = field_fault (codes "opcode") 15 (λ h. h.opcode) AfterOpcode rcode_words opcode_text

pub rcode_fault : {ahead after : List ℕ} {start next : ℕ} → next + length after ≡ start + length ahead
    → IsNoField (codes "rcode") 15 ahead after → IsWordFault (Any AfterOpcode) ahead start next
rcode_fault = field_fault (codes "rcode") 15 (λ h. h.rcode) AfterRcode flags_words rcode_text

-- A word and a number lead from one to the other.
abbrev PastField : List ℕ → ℕ → (Is Rest : List (List ℕ) → List ℕ → Type 0) → Type 0
PastField name most Is Rest = (n : ℕ) (word : List ℕ) → IsUpTo most n word → Leads Is Rest (name ∷ word ∷ [])

pub past_id : PastField (codes "id") 65535 HeaderTexts (Any AfterId)
past_id n word is = record {
  into = λ words octets rest. ([], (record rest.0 { id = n }, (refl, (is, rest.1))));
  out = λ words octets all. ([], (all.0, all.1.1.1));
}

pub past_opcode : PastField (codes "opcode") 15 (Any AfterId) (Any AfterOpcode)
past_opcode n word is = record {
  into = λ words octets rest. ([], (record rest.0 { opcode = n }, (refl, (is, rest.1))));
  out = λ words octets all. ([], (all.0, all.1.1.1));
}

pub past_rcode : PastField (codes "rcode") 15 (Any AfterOpcode) (Any AfterRcode)
past_rcode n word is = record {
  into = λ words octets rest. ([], (record rest.0 { rcode = n }, (refl, (is, rest.1))));
  out = λ words octets all. ([], (all.0, all.1.1.1));
}

pub past_field : {name : List ℕ} {most n : ℕ} {Is Mid Rest : List (List ℕ) → List ℕ → Type 0}
    {text ahead after : List ℕ} {start next then : ℕ} → PastField name most Mid Rest
    → Reached Is Mid text start ahead next
    → ((mid word : List ℕ) × TakesWord name ahead mid × TakesWord word mid after × IsUpTo most n word)
    → then + length after ≡ next + length ahead → Reached Is Rest text start after then
past_field {name = name} {n = n} past so_far taken place =
    past_words (name ∷ taken.1 ∷ []) so_far (past n taken.1 taken.4) (_, taken.2, (_, taken.3, refl)) place

-- ---- the flags

pub fault_at_flags : (ahead : List ℕ) (start : ℕ) → ((rest : List ℕ) → ¬ TakesWord (codes "flags") ahead rest)
    → IsWordFault (Any AfterRcode) ahead start start
fault_at_flags ahead start none =
    first_fault (Any AfterRcode) ahead start (flags_words, [], (zero_header, flags_text))
    (λ word left taken goes. none left (subst (λ w. TakesWord w ahead left) goes.2.1.0 taken)) (λ over octets is. is.1)

pub fault_after_flags : (ahead mid rest : List ℕ) (words : List (List ℕ)) (start next offset : ℕ)
    → TakesWord (codes "flags") ahead mid → next + length mid ≡ start + length ahead
    → Picks flag_names mid words rest → offset + length rest ≡ next + length mid → ¬ (rest ≡ [])
    → IsWordFault (Any AfterRcode) ahead start offset
fault_after_flags ahead mid rest words start next offset taken place picks on some =
    led_fault (Any AfterRcode) (λ ws octets. (flags : Flags) × AreFlags flags ws) (codes "flags" ∷ [])
    (record {
      into = λ ws octets is. ([], (record zero_header { flags = is.0 }, (refl, is.1)));
      out = λ ws octets is. ([], (is.0.flags, is.1.1));
    }) ahead mid start next offset (mid, taken, refl) place (flags_fault mid rest words next offset picks on some)

-- ---- a line that is read

pub line_words : (ahead a b c d e f g rest : List ℕ) (two four six : List ℕ) (words : List (List ℕ)) (header : Header)
    → TakesWord (codes "id") ahead a → TakesWord two a b → IsUpTo 65535 header.id two
    → TakesWord (codes "opcode") b c → TakesWord four c d → IsUpTo 15 header.opcode four
    → TakesWord (codes "rcode") d e → TakesWord six e f → IsUpTo 15 header.rcode six
    → TakesWord (codes "flags") f g → Picks flag_names g words rest → rest ≡ [] → AreFlags header.flags words
    → (all : List (List ℕ)) × AreWords all ahead × IsHeaderLine header all
line_words ahead a b c d e f g rest two four six words header w1 w2 is2 w3 w4 is4 w5 w6 is6 w7 picks over flags =
    let last = begins_all words g (subst (BeginsWithWords words g) over picks.begins) in (
      codes "id" ∷ two ∷ codes "opcode" ∷ four ∷ codes "rcode" ∷ six ∷ codes "flags" ∷ words,
      (a, w1, (b, w2, (c, w3, (d, w4, (e, w5, (f, w6, (g, w7, last))))))),
      (refl, (is2, (refl, (is4, (refl, (is6, (refl, flags))))))),
    )
