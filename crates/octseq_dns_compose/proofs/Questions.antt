-- The text of a question, and where it is none.
use Rattle.std.proofs.Common.{◌≡◌, ℕ, ◌+◌, None, List, [], ◌∷◌, length, codes, refl}
use Rattle.octseq_dns_scan.specs.Word.{TakesWord}
use Rattle.octseq_dns_text.specs.Scans.{IsWordFault}
use Rattle.octseq_dns_compose.specs.QuestionText.{IsAnyQuestion, IsOver}
use Rattle.octseq_dns_compose.specs.RecordText.{IsOwnerWord, IsClassWord, IsRecordTypeWord}
use Rattle.octseq_dns_compose.specs.Take.{Then}
use Rattle.octseq_dns_compose.specs.TakeOrder.{NoneNext}
use Rattle.octseq_dns_compose.proofs.Faults.{Reached, at_front, first_fault, past_words}
use Rattle.octseq_dns_compose.proofs.Samples.{class_sample, name_sample, rtype_sample}

abbrev pub AfterName : List (List ℕ) → List ℕ → Type 0
AfterName words octets = (class rtype : ℕ) × Then (IsClassWord class) (Then (IsRecordTypeWord rtype) IsOver) words

abbrev pub AfterClass : List (List ℕ) → List ℕ → Type 0
AfterClass words octets = (rtype : ℕ) × Then (IsRecordTypeWord rtype) IsOver words

abbrev pub AfterRtype : List (List ℕ) → List ℕ → Type 0
AfterRtype words octets = IsOver words

pub question_fault : (ahead : List ℕ) (start : ℕ)
    → ((word rest : List ℕ) (labels : List (List ℕ)) → TakesWord word ahead rest → ¬ IsOwnerWord None labels word)
    → IsWordFault IsAnyQuestion ahead start start
question_fault ahead start none =
    first_fault IsAnyQuestion ahead start
    (codes "." ∷ codes "IN" ∷ codes "A" ∷ [], [], ([], 1, 1, (name_sample None, (class_sample, (rtype_sample, refl)))))
    (λ word left taken goes. none word left goes.2.0 taken goes.2.3.0) (λ over octets is. is.3)

pub class_fault : (ahead : List ℕ) (start : ℕ) → NoneNext IsClassWord ahead → IsWordFault AfterName ahead start start
class_fault ahead start none =
    first_fault AfterName ahead start
    (codes "IN" ∷ codes "A" ∷ [], [], (1, 1, (class_sample, (rtype_sample, refl))))
    (λ word left taken goes. none word left goes.2.0 taken goes.2.2.0) (λ over octets is. is.2)

pub rtype_fault : (ahead : List ℕ) (start : ℕ) → NoneNext IsRecordTypeWord ahead
    → IsWordFault AfterClass ahead start start
rtype_fault ahead start none =
    first_fault AfterClass ahead start (codes "A" ∷ [], [], (1, (rtype_sample, refl)))
    (λ word left taken goes. none word left goes.2.0 taken goes.2.1.0) (λ over octets is. is.1)

pub past_name : {text mid : List ℕ} {start next : ℕ} (labels : List (List ℕ))
    → ((word : List ℕ) × TakesWord word text mid × IsOwnerWord None labels word)
    → next + length mid ≡ start + length text → Reached IsAnyQuestion AfterName text start mid next
past_name labels taken place =
    past_words (taken.0 ∷ []) at_front
    (record {
      into = λ words octets rest. (octets, (labels, rest.0, rest.1, (taken.2, rest.2)));
      out = λ words octets all. (octets, (all.1, all.2, all.3.1));
    }) (_, taken.1, refl) place

pub past_class : {text ahead mid : List ℕ} {start next then : ℕ} (class : ℕ)
    → Reached IsAnyQuestion AfterName text start ahead next
    → ((word : List ℕ) × TakesWord word ahead mid × IsClassWord class word)
    → then + length mid ≡ next + length ahead → Reached IsAnyQuestion AfterClass text start mid then
past_class class so_far taken place =
    past_words (taken.0 ∷ []) so_far
    (record {
      into = λ words octets rest. (octets, (class, rest.0, (taken.2, rest.1)));
      out = λ words octets all. (octets, (all.1, all.2.1));
    }) (_, taken.1, refl) place

pub past_rtype : {text ahead mid : List ℕ} {start next then : ℕ} (rtype : ℕ)
    → Reached IsAnyQuestion AfterClass text start ahead next
    → ((word : List ℕ) × TakesWord word ahead mid × IsRecordTypeWord rtype word)
    → then + length mid ≡ next + length ahead → Reached IsAnyQuestion AfterRtype text start mid then
past_rtype rtype so_far taken place =
    past_words (taken.0 ∷ []) so_far
    (record {
      into = λ words octets rest. (octets, (rtype, (taken.2, rest)));
      out = λ words octets all. (octets, all.1.1);
    }) (_, taken.1, refl) place

nothing : (word : List ℕ) (words : List (List ℕ)) → ¬ (word ∷ words ≡ [])
nothing word words is = absurd (cc)

pub more_fault : (ahead : List ℕ) (start : ℕ) → ¬ (ahead ≡ []) → IsWordFault AfterRtype ahead start start
more_fault ahead start some =
    first_fault AfterRtype ahead start ([], [], refl) (λ other left also goes. absurd (nothing other goes.0 goes.2))
    (λ over. absurd (some over))
