-- Texts of one or more words.
use Rattle.std.proofs.Common.{◌≡◌, ℕ, ◌≤◌, List, [], ◌∷◌, ◌++◌, length, refl, arith}
use Rattle.octseq_dns_scan.specs.Word.{AreWords, TakesWord}
use Rattle.octseq_dns_text.proofs.ReadTexts.{takes_some}
use Rattle.octseq_dns_text.specs.Scans.{Goes, AreSome, IsWordFault}

-- none is as it has to be from the first word on
pub fault_first : (Is : List (List ℕ) → List ℕ → Type 0) (ahead : List ℕ) (start : ℕ) → Goes Is []
    → ((word left : List ℕ) → TakesWord word ahead left → ¬ Goes Is (word ∷ []))
    → (ahead ≡ [] → (octets : List ℕ) → ¬ (Is [] octets)) → IsWordFault Is ahead start start
fault_first Is ahead start goes stops ends = record {
  front = [];
  rest = ahead;
  begins = refl;
  place = refl;
  goes = goes;
  stops = stops;
  ends = ends;
}

pub some_end : (Is : List (List ℕ) → List ℕ → Type 0) (ahead : List ℕ) (start : ℕ) → ahead ≡ []
    → Goes (AreSome Is) [] → IsWordFault (AreSome Is) ahead start start
some_end Is ahead start none goes = fault_first (AreSome Is) ahead start goes
    (λ word left takes. absurd (takes_some word ahead left takes none))
    (λ same octets is. absurd (omega (arith, is.0)))

pub some_words : (Is : List (List ℕ) → List ℕ → Type 0) (ahead : List ℕ) → ¬ (ahead ≡ []) → (words : List (List ℕ))
    (octets : List ℕ) → AreWords words ahead → Is words octets → AreSome Is words octets
some_words Is ahead some [] octets are is = absurd (some are)
some_words Is ahead some (word ∷ words) octets are is = (omega arith, is)

some_go : (Is : List (List ℕ) → List ℕ → Type 0) (front : List (List ℕ)) → Goes (AreSome Is) [] → Goes Is front
    → Goes (AreSome Is) front
some_go Is [] first goes = first
some_go Is (word ∷ front) first (more, octets, is) = (more, octets, (omega arith, is))

pub some_fault : (Is : List (List ℕ) → List ℕ → Type 0) (ahead : List ℕ) (start : ℕ) → Goes (AreSome Is) []
    → (offset : ℕ) → IsWordFault Is ahead start offset → IsWordFault (AreSome Is) ahead start offset
some_fault Is ahead start first offset fault = record {
  front = fault.front;
  rest = fault.rest;
  begins = fault.begins;
  place = fault.place;
  goes = some_go Is fault.front first fault.goes;
  stops = λ word left takes (more, octets, is). fault.stops word left takes (more, octets, is.1);
  ends = λ same octets is. fault.ends same octets is.1;
}
