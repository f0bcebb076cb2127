-- How far a text was read, and what its reader says.
use Rattle.std.proofs.Common.{◌≡◌, ℕ, ◌+◌, Bool, true, false, ◌||◌, List, [], ◌∷◌, ◌++◌, length, refl, sym, ap, ◌∙◌}
use Rattle.std.proofs.Common.{subst}
use Rattle.std.proofs.Common.{append_assoc, length-append, Option, Result, Ok, Err, OnOk, OnErr, take, arith}
use Rattle.std.proofs.lemmas.List.{append-nil}
use Rattle.std.proofs.Math.Seq.{take-append_seam}
use Rattle.octseq.specs.Limit.{ExceedsLimit}
use Rattle.octseq_dns_scan.proofs.Taken.{word_once}
use Rattle.octseq_dns_scan.specs.Word.{TakesWord, AreWords}
use Rattle.octseq_dns_text.specs.Output.{HoldsOutput, Adds, Grows}
use Rattle.octseq_dns_text.specs.Reached.{Reached, ReadsText}
use Rattle.octseq_dns_text.specs.Scans.{Goes, BeginsWithWords, IsWordFault, Scans}
use Rattle.octseq_dns_text.specs.declared.error.ScanError.{ScanError}

-- ---- the words of a text

pub begins_word : (front : List (List ℕ)) (word : List ℕ) (ahead rest after : List ℕ)
    → BeginsWithWords front ahead rest → TakesWord word rest after → BeginsWithWords (front ++ word ∷ []) ahead after
begins_word [] word ahead rest after same takes =
    (after, subst (λ text. TakesWord word text after) (sym same) takes, refl)
begins_word (first ∷ front) word ahead rest after (next, taken, begins) takes =
    (next, taken, begins_word front word next rest after begins takes)

pub begins_more : (front words : List (List ℕ)) (ahead middle rest : List ℕ) → BeginsWithWords front ahead middle
    → BeginsWithWords words middle rest → BeginsWithWords (front ++ words) ahead rest
begins_more [] words ahead middle rest same begins =
    subst (λ text. BeginsWithWords words text rest) (sym same) begins
begins_more (first ∷ front) words ahead middle rest (next, taken, begins) then =
    (next, taken, begins_more front words next middle rest begins then)

pub begins_all : (front : List (List ℕ)) (ahead : List ℕ) → BeginsWithWords front ahead [] → AreWords front ahead
begins_all [] ahead same = same
begins_all (first ∷ front) ahead (next, taken, begins) = (next, taken, begins_all front next begins)

pub words_more : (front words : List (List ℕ)) (ahead rest : List ℕ) → BeginsWithWords front ahead rest
    → AreWords words rest → AreWords (front ++ words) ahead
words_more [] words ahead rest same are = subst (AreWords words) (sym same) are
words_more (first ∷ front) words ahead rest (next, taken, begins) are =
    (next, taken, words_more front words next rest begins are)

pub takes_some : (word text rest : List ℕ) → TakesWord word text rest → ¬ (text ≡ [])
takes_some word text rest (blanks, after, is_word, same, ends, splits) none =
    let lengths = ap length (sym same ∙ none) in
    absurd (omega (arith, lengths, length-append word after, is_word.0))

-- ---- what a reader says

-- what is read is less than what it is read as
pub reads_less : (Is Less : List (List ℕ) → List ℕ → Type 0) (limit : Option ℕ) (asks : Bool)
    (result : Result (Unit {0}) ScanError) (ahead : List ℕ) (start : ℕ) (old new : List ℕ)
    → ((words : List (List ℕ)) (octets : List ℕ) → AreWords words ahead → Is words octets → Less words octets)
    → ((offset : ℕ) → IsWordFault Is ahead start offset → IsWordFault Less ahead start offset)
    → ReadsText Is limit asks result ahead start old new → ReadsText Less limit asks result ahead start old new
reads_less Is Less limit asks (Ok value) ahead start old new less faults reads =
    let (words, octets, are, is, same) = reads.ok in record {
      ok = (words, octets, are, less words octets are is, same);
      fault = λ offset is_err. faults offset (reads.fault offset is_err);
      short = λ is_err. absurd (cc);
      memory = reads.memory;
    }
reads_less Is Less limit asks (Err e) ahead start old new less faults reads = record {
  ok = tt;
  fault = λ offset is_err. faults offset (reads.fault offset is_err);
  short = λ is_err.
      let (words, octets, are, is, past) = reads.short is_err in
      (words, octets, are, less words octets are is, past);
  memory = reads.memory;
}

pub reads_malformed : (Is : List (List ℕ) → List ℕ → Type 0) (limit : Option ℕ) (asks : Bool) (ahead : List ℕ)
    (start offset : ℕ) (old new : List ℕ) → IsWordFault Is ahead start offset
    → ReadsText Is limit asks (Err (ScanError.Malformed offset)) ahead start old new
reads_malformed Is limit asks ahead start offset old new fault = record {
  ok = tt;
  fault = λ other same. let offsets : offset ≡ other = cc in subst (IsWordFault Is ahead start) offsets fault;
  short = λ same. absurd (cc);
  memory = λ same. absurd (cc);
}

pub reads_memory : (Is : List (List ℕ) → List ℕ → Type 0) (limit : Option ℕ) (asks : Bool) (ahead : List ℕ)
    (start : ℕ) (old new : List ℕ) → asks ≡ true → ReadsText Is limit asks (Err ScanError.Memory) ahead start old new
reads_memory Is limit asks ahead start old new asked = record {
  ok = tt;
  fault = λ other same. absurd (cc);
  short = λ same. absurd (cc);
  memory = λ same. asked;
}

pub reads_short : (Is : List (List ℕ) → List ℕ → Type 0) (limit : Option ℕ) (asks : Bool) (ahead : List ℕ)
    (start : ℕ) (old new : List ℕ) (words : List (List ℕ)) (octets : List ℕ) → AreWords words ahead → Is words octets
    → ExceedsLimit limit (length old + length octets)
    → ReadsText Is limit asks (Err ScanError.Short) ahead start old new
reads_short Is limit asks ahead start old new words octets are is past = record {
  ok = tt;
  fault = λ other same. absurd (cc);
  short = λ same. (words, octets, are, is, past);
  memory = λ same. absurd (cc);
}

pub reads_ok : (Is : List (List ℕ) → List ℕ → Type 0) (limit : Option ℕ) (asks : Bool) (ahead : List ℕ)
    (start : ℕ) (old new : List ℕ) (words : List (List ℕ)) (octets : List ℕ) → AreWords words ahead → Is words octets
    → new ≡ old ++ octets → ReadsText Is limit asks (Ok tt) ahead start old new
reads_ok Is limit asks ahead start old new words octets are is same = record {
  ok = (words, octets, are, is, same);
  fault = λ other is_err. absurd (cc);
  short = λ is_err. absurd (cc);
  memory = λ is_err. absurd (cc);
}

-- fewer may request memory
pub reads_asks : (Is : List (List ℕ) → List ℕ → Type 0) (limit : Option ℕ) (asks may : Bool)
    (result : Result (Unit {0}) ScanError) (ahead : List ℕ) (start : ℕ) (old new : List ℕ) → (asks ≡ true → may ≡ true)
    → ReadsText Is limit asks result ahead start old new → ReadsText Is limit may result ahead start old new
reads_asks Is limit asks may result ahead start old new more reads = record {
  ok = reads.ok;
  fault = reads.fault;
  short = reads.short;
  memory = λ is_err. more (reads.memory is_err);
}

pub or_left : (a b : Bool) → a ≡ true → (a || b) ≡ true
or_left true b is = refl
or_left false b is = absurd (cc)

or_true : (a : Bool) → (a || true) ≡ true
or_true true = refl
or_true false = refl

pub reads_or : (Is : List (List ℕ) → List ℕ → Type 0) (limit : Option ℕ) (asks list : Bool)
    (result : Result (Unit {0}) ScanError) (ahead : List ℕ) (start : ℕ) (old new : List ℕ)
    → ReadsText Is limit asks result ahead start old new → ReadsText Is limit (asks || list) result ahead start old new
reads_or Is limit asks list result ahead start old new =
    reads_asks Is limit asks (asks || list) result ahead start old new (or_left asks list)

-- what a reader says that cuts the content itself
pub of_scans : (Is : List (List ℕ) → List ℕ → Type 0) (limit : Option ℕ) (asks : Bool)
    (result : Result (Unit {0}) ScanError) (ahead : List ℕ) (start : ℕ) (old new : List ℕ)
    → Scans Is limit true result ahead start old new → ReadsText Is limit (asks || true) result ahead start old new
of_scans Is limit asks result ahead start old new scanned = record {
  ok = scanned.ok;
  fault = scanned.fault;
  short = scanned.short;
  memory = λ is_err. or_true asks;
}

pub scans_grow : (Is : List (List ℕ) → List ℕ → Type 0) (limit : Option ℕ) (asks : Bool)
    (result : Result (Unit {0}) ScanError) (ahead : List ℕ) (start : ℕ) (old new : List ℕ)
    → Scans Is limit asks result ahead start old new → Grows old new
scans_grow Is limit asks (Ok value) ahead start old new scanned =
    let (words, octets, are, is, same) = scanned.ok in
    (octets, same)
scans_grow Is limit asks (Err e) ahead start old new scanned = ([], scanned.kept ∙ sym (append-nil old))

-- a word comes before what is read
after_word_fault : (Is After : List (List ℕ) → List ℕ → Type 0) (word ahead rest : List ℕ) (start place : ℕ)
    → TakesWord word ahead rest → place + length rest ≡ start + length ahead
    → ((words : List (List ℕ)) (octets : List ℕ) → After words octets → Is (word ∷ words) octets)
    → ((words : List (List ℕ)) (octets : List ℕ) → Is (word ∷ words) octets → After words octets) → (offset : ℕ)
    → IsWordFault After rest place offset → IsWordFault Is ahead start offset
after_word_fault Is After word ahead rest start place taken same to from offset fault = record {
  front = word ∷ fault.front;
  rest = fault.rest;
  begins = (rest, taken, fault.begins);
  place = fault.place ∙ same;
  goes = let (more, octets, is) = fault.goes in (more, octets, to (fault.front ++ more) octets is);
  stops = λ next left takes (more, octets, is). fault.stops next left takes
      (more, octets, from ((fault.front ++ next ∷ []) ++ more) octets is);
  ends = λ none octets is. fault.ends none octets (from fault.front octets is);
}

pub after_word : (Is After : List (List ℕ) → List ℕ → Type 0) (limit : Option ℕ) (asks : Bool)
    (result : Result (Unit {0}) ScanError) (word ahead rest : List ℕ) (start place : ℕ) (old new : List ℕ)
    → TakesWord word ahead rest → place + length rest ≡ start + length ahead
    → ((words : List (List ℕ)) (octets : List ℕ) → After words octets → Is (word ∷ words) octets)
    → ((words : List (List ℕ)) (octets : List ℕ) → Is (word ∷ words) octets → After words octets)
    → ReadsText After limit asks result rest place old new → ReadsText Is limit asks result ahead start old new
after_word Is After limit asks (Ok value) word ahead rest start place old new taken same to from reads =
    let (words, octets, are, is, made) = reads.ok in record {
      ok = (word ∷ words, octets, (rest, taken, are), to words octets is, made);
      fault = λ offset is_err. absurd (cc);
      short = λ is_err. absurd (cc);
      memory = reads.memory;
    }
after_word Is After limit asks (Err e) word ahead rest start place old new taken same to from reads = record {
  ok = tt;
  fault = λ offset is_err. after_word_fault Is After word ahead rest start place taken same to from offset
      (reads.fault offset is_err);
  short = λ is_err.
      let (words, octets, are, is, past) = reads.short is_err in
      (word ∷ words, octets, (rest, taken, are), to words octets is, past);
  memory = reads.memory;
}

-- the content is cut to what it was, if the text is refused
pub scans : (Is : List (List ℕ) → List ℕ → Type 0) (limit : Option ℕ) (asks : Bool)
    (result : Result (Unit {0}) ScanError) (ahead : List ℕ) (start : ℕ) (old middle new : List ℕ)
    → ReadsText Is limit asks result ahead start old middle → Grows old middle → OnOk result (new ≡ middle)
    → OnErr result (new ≡ take (length old) middle) → Scans Is limit asks result ahead start old new
scans Is limit asks (Ok value) ahead start old middle new reads grows same cut =
    let (words, octets, are, is, made) = reads.ok in record {
      ok = (words, octets, are, is, same ∙ made);
      fault = reads.fault;
      short = reads.short;
      memory = reads.memory;
      kept = tt;
    }
scans Is limit asks (Err e) ahead start old middle new reads grows same cut = record {
  ok = tt;
  fault = reads.fault;
  short = reads.short;
  memory = reads.memory;
  kept = cut ∙ ap (take (length old)) grows.1 ∙ take-append_seam old grows.0;
}

-- ---- how far it was read

pub reached_none : (IsFront : List (List ℕ) → List ℕ → Type 0) (ahead : List ℕ) (start : ℕ) (limit : Option ℕ)
    (content : List ℕ) → IsFront [] [] → Reached IsFront ahead start limit content ahead start false content
reached_none IsFront ahead start limit content is = record {
  front = [];
  made = [];
  begins = refl;
  same_end = refl;
  is_front = is;
  holds = record { fits = λ _. sym (append-nil content); past = λ full. absurd (cc) };
}

pub reached_same : (IsFront : List (List ℕ) → List ℕ → Type 0) (ahead : List ℕ) (start : ℕ) (limit : Option ℕ)
    (base rest after : List ℕ) (place next : ℕ) (full : Bool) (content : List ℕ)
    → Reached IsFront ahead start limit base rest place full content → after ≡ rest
    → next + length after ≡ place + length rest → Reached IsFront ahead start limit base after next full content
reached_same IsFront ahead start limit base rest after place next full content reached same end = record {
  front = reached.front;
  made = reached.made;
  begins = subst (BeginsWithWords reached.front ahead) (sym same) reached.begins;
  same_end = end ∙ reached.same_end;
  is_front = reached.is_front;
  holds = reached.holds;
}

-- one more word is read
pub reached_word : (IsFront IsLonger : List (List ℕ) → List ℕ → Type 0) (ahead : List ℕ) (start : ℕ) (limit : Option ℕ)
    (base rest after : List ℕ) (place next : ℕ) (full past : Bool) (content new : List ℕ) (word more : List ℕ)
    → Reached IsFront ahead start limit base rest place full content → TakesWord word rest after
    → next + length after ≡ place + length rest
    → ((front : List (List ℕ)) (made : List ℕ) → IsFront front made → IsLonger (front ++ word ∷ []) (made ++ more))
    → Adds limit full content past new more → Reached IsLonger ahead start limit base after next past new
reached_word IsFront IsLonger ahead start limit base rest after place next full past content new word more reached takes
    same longer adds = record {
      front = reached.front ++ word ∷ [];
      made = reached.made ++ more;
      begins = begins_word reached.front word ahead rest after reached.begins takes;
      same_end = same ∙ reached.same_end;
      is_front = longer reached.front reached.made reached.is_front;
      holds = adds base reached.made reached.holds;
    }

-- no text goes on with what comes next
pub reached_fault : (IsFront Is : List (List ℕ) → List ℕ → Type 0) (ahead : List ℕ) (start : ℕ) (limit : Option ℕ)
    (base rest : List ℕ) (place : ℕ) (full : Bool) (content : List ℕ)
    → Reached IsFront ahead start limit base rest place full content
    → ((front : List (List ℕ)) (made : List ℕ) → IsFront front made → Goes Is front)
    → ((front : List (List ℕ)) (made word left : List ℕ) → IsFront front made → TakesWord word rest left
    → ¬ Goes Is (front ++ word ∷ []))
    → ((front : List (List ℕ)) (made octets : List ℕ) → IsFront front made → rest ≡ [] → ¬ Is front octets)
    → IsWordFault Is ahead start place
reached_fault IsFront Is ahead start limit base rest place full content reached goes stops ends = record {
  front = reached.front;
  rest = rest;
  begins = reached.begins;
  place = reached.same_end;
  goes = goes reached.front reached.made reached.is_front;
  stops = λ word left takes. stops reached.front reached.made word left reached.is_front takes;
  ends = λ none octets. ends reached.front reached.made octets reached.is_front none;
}

-- all of it is read
pub reached_ok : (IsFront Is : List (List ℕ) → List ℕ → Type 0) (ahead : List ℕ) (start : ℕ) (limit : Option ℕ)
    (asks : Bool) (base rest : List ℕ) (place : ℕ) (content : List ℕ)
    → Reached IsFront ahead start limit base rest place false content → rest ≡ []
    → ((front : List (List ℕ)) (made : List ℕ) → IsFront front made → Is front made)
    → ReadsText Is limit asks (Ok tt) ahead start base content
reached_ok IsFront Is ahead start limit asks base rest place content reached none is =
    reads_ok Is limit asks ahead start base content reached.front reached.made
    (begins_all reached.front ahead (subst (BeginsWithWords reached.front ahead) none reached.begins))
    (is reached.front reached.made reached.is_front) (reached.holds.fits refl)

pub reached_short : (IsFront Is : List (List ℕ) → List ℕ → Type 0) (ahead : List ℕ) (start : ℕ) (limit : Option ℕ)
    (asks : Bool) (base rest : List ℕ) (place : ℕ) (content : List ℕ)
    → Reached IsFront ahead start limit base rest place true content → rest ≡ []
    → ((front : List (List ℕ)) (made : List ℕ) → IsFront front made → Is front made)
    → ReadsText Is limit asks (Err ScanError.Short) ahead start base content
reached_short IsFront Is ahead start limit asks base rest place content reached none is =
    reads_short Is limit asks ahead start base content reached.front reached.made
    (begins_all reached.front ahead (subst (BeginsWithWords reached.front ahead) none reached.begins))
    (is reached.front reached.made reached.is_front) (reached.holds.past refl)
