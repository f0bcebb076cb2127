-- How the faults of texts of words are put together.
use Rattle.std.proofs.Common.{◌≡◌, ℕ, ◌+◌, List, [], ◌∷◌, ◌++◌, length, refl, sym, ap, ◌∙◌, subst, arith}
use Rattle.std.proofs.Common.{None, append_assoc}
use Rattle.std.proofs.lemmas.List.{append-nil}
use Rattle.octseq_dns_scan.specs.Word.{TakesWord, AreWords}
use Rattle.octseq_dns_scan.proofs.Taken.{word_once}
use Rattle.octseq_dns_compose.specs.Take.{TakesNextWord}
use Rattle.octseq_dns_text.proofs.ReadTexts.{begins_more, takes_some}
use Rattle.octseq_dns_text.specs.Scans.{Goes, BeginsWithWords, IsWordFault}

-- ---- words at the front of a text

-- a text that begins with words consists of them and of others
pub words_after : (front words : List (List ℕ)) (text rest : List ℕ) → BeginsWithWords front text rest
    → AreWords words text → (others : List (List ℕ)) × (words ≡ front ++ others) × AreWords others rest
words_after [] words text rest begins are = (words, refl, subst (AreWords words) begins are)
words_after (word ∷ front) [] text rest begins are = absurd (takes_some word text begins.0 begins.1 are)
words_after (word ∷ front) (other ∷ words) text rest begins are =
    let first = word_once word other text begins.0 are.0 begins.1 are.1 in
    let more = words_after front words begins.0 rest begins.2 (subst (AreWords words) (sym first.1) are.2) in
    (more.0, (λ i. sym first.0 i ∷ more.1 i), more.2)

-- only one word is next
pub only_word : (Is : List ℕ → Type 0) (word ahead rest : List ℕ) → TakesWord word ahead rest → ¬ Is word
    → (other left : List ℕ) → TakesWord other ahead left → ¬ Is other
only_word Is word ahead rest taken not other left also is =
    not (subst Is (word_once other word ahead left rest also taken).0 is)

-- no word is next, or another one, and the text stays
pub takes_none : {A : Type 0} (Is : A → List ℕ → Type 0) {ahead : List ℕ}
    → ((word rest : List ℕ) → ¬ TakesWord word ahead rest) → TakesNextWord Is None ahead ahead
takes_none Is none =
    record { some = tt; none = λ _ word rest value taken. absurd (none word rest taken); kept = refl }

pub takes_other : {A : Type 0} (Is : A → List ℕ → Type 0) {word ahead rest : List ℕ} → TakesWord word ahead rest
    → ((value : A) → ¬ Is value word) → TakesNextWord Is None ahead ahead
takes_other Is taken other = record {
  some = tt;
  none = λ _ next left value also. only_word (Is value) _ _ _ taken (other value) next left also;
  kept = refl;
}

-- ---- texts after words

-- After words at its front, a text of one kind is a text of another.
pub record Leads (Is Rest : List (List ℕ) → List ℕ → Type 0) (front : List (List ℕ)) : Type 0 where
  pub into : (words : List (List ℕ)) (octets : List ℕ) → Rest words octets → (all : List ℕ) × Is (front ++ words) all
  pub out : (words : List (List ℕ)) (octets : List ℕ) → Is (front ++ words) octets → (less : List ℕ) × Rest words less

regroup : (a b c d : List (List ℕ)) → ((a ++ b) ++ c) ++ d ≡ a ++ ((b ++ c) ++ d)
regroup a b c d = append_assoc (a ++ b) c d ∙ append_assoc a b (c ++ d) ∙ ap (λ l. a ++ l) (sym (append_assoc b c d))

-- what no text goes on with after the words, none goes on with at all
pub led_fault : (Is Rest : List (List ℕ) → List ℕ → Type 0) (front : List (List ℕ)) → Leads Is Rest front
    → (text ahead : List ℕ) (start next offset : ℕ) → BeginsWithWords front text ahead
    → next + length ahead ≡ start + length text → IsWordFault Rest ahead next offset → IsWordFault Is text start offset
led_fault Is Rest front leads text ahead start next offset begins place fault = record {
  front = front ++ fault.front;
  rest = fault.rest;
  begins = begins_more front fault.front text ahead fault.rest begins fault.begins;
  place = fault.place ∙ place;
  goes =
      let all = leads.into (fault.front ++ fault.goes.0) fault.goes.1 fault.goes.2 in
      (fault.goes.0, all.0, subst (λ ws. Is ws all.0) (sym (append_assoc front fault.front fault.goes.0)) all.1);
  stops = λ word left taken on.
      let whole = subst (λ ws. Is ws on.1) (regroup front fault.front (word ∷ []) on.0) on.2 in
      let less = leads.out ((fault.front ++ word ∷ []) ++ on.0) on.1 whole in
      fault.stops word left taken (on.0, less.0, less.1);
  ends = λ none octets is.
      let less = leads.out fault.front octets is in
      fault.ends none less.0 less.1;
}

-- Words at the front of a text of one kind were read, after which it is of another.
pub record Reached (Is Rest : List (List ℕ) → List ℕ → Type 0) (text : List ℕ) (start : ℕ) (ahead : List ℕ)
    (next : ℕ) : Type 0 where
  pub front : List (List ℕ)
  pub leads : Leads Is Rest front
  pub begins : BeginsWithWords front text ahead
  pub place : next + length ahead ≡ start + length text

pub at_front : {Is : List (List ℕ) → List ℕ → Type 0} {text : List ℕ} {start : ℕ} → Reached Is Is text start text start
at_front = record {
  front = [];
  leads = record { into = λ words octets is. (octets, is); out = λ words octets is. (octets, is) };
  begins = refl;
  place = refl;
}

pub past_words : {Is Mid Rest : List (List ℕ) → List ℕ → Type 0} {text ahead after : List ℕ} {start next then : ℕ}
    (front : List (List ℕ)) → Reached Is Mid text start ahead next → Leads Mid Rest front
    → BeginsWithWords front ahead after
    → then + length after ≡ next + length ahead → Reached Is Rest text start after then
past_words {Is = Is} {text = text} {ahead = ahead} {after = after} front so_far leads begins place = record {
  front = so_far.front ++ front;
  leads = record {
    into = λ words octets rest.
        let mid = leads.into words octets rest in
        let all = so_far.leads.into (front ++ words) mid.0 mid.1 in
        (all.0, subst (λ ws. Is ws all.0) (sym (append_assoc so_far.front front words)) all.1);
    out = λ words octets is.
        let mid = so_far.leads.out (front ++ words) octets
        (subst (λ ws. Is ws octets) (append_assoc so_far.front front words) is) in
        leads.out words mid.0 mid.1;
  };
  begins = begins_more so_far.front front text ahead after so_far.begins begins;
  place = place ∙ so_far.place;
}

pub reached_fault : {Is Rest : List (List ℕ) → List ℕ → Type 0} {text ahead : List ℕ} {start next offset : ℕ}
    → Reached Is Rest text start ahead next → IsWordFault Rest ahead next offset → IsWordFault Is text start offset
reached_fault so_far fault = led_fault _ _ so_far.front so_far.leads _ _ _ _ _ so_far.begins so_far.place fault

-- a reader that stays where it is stays at its place
pub kept_fault : (Is : List (List ℕ) → List ℕ → Type 0) (ahead after : List ℕ) (start next : ℕ) → after ≡ ahead
    → next + length after ≡ start + length ahead → IsWordFault Is ahead start start → IsWordFault Is ahead start next
kept_fault Is ahead after start next same place fault =
    let size = ap length same in
    let at : start ≡ next = omega (arith, place, size) in
    subst (IsWordFault Is ahead start) at fault

-- the first word is a fault
pub first_fault : (Is : List (List ℕ) → List ℕ → Type 0) (ahead : List ℕ) (start : ℕ) → Goes Is []
    → ((word left : List ℕ) → TakesWord word ahead left → ¬ Goes Is (word ∷ []))
    → (ahead ≡ [] → (octets : List ℕ) → ¬ Is [] octets) → IsWordFault Is ahead start start
first_fault Is ahead start goes stops ends = record {
  front = [];
  rest = ahead;
  begins = refl;
  place = refl;
  goes = goes;
  stops = stops;
  ends = ends;
}

not_on : (Is : List (List ℕ) → List ℕ → Type 0) (ahead : List ℕ) (start offset : ℕ)
    → (fault : IsWordFault Is ahead start offset) → (others : List (List ℕ)) (octets : List ℕ)
    → AreWords others fault.rest → ¬ Is (fault.front ++ others) octets
not_on Is ahead start offset fault [] octets are is =
    fault.ends are octets (subst (λ ws. Is ws octets) (append-nil fault.front) is)
not_on Is ahead start offset fault (word ∷ others) octets are is =
    fault.stops word are.0 are.1
    (others, octets, subst (λ ws. Is ws octets) (sym (append_assoc fault.front (word ∷ []) others)) is)

-- where a fault is, there is no text
pub no_text : (Is : List (List ℕ) → List ℕ → Type 0) (ahead : List ℕ) (start offset : ℕ)
    → IsWordFault Is ahead start offset → (words : List (List ℕ)) (octets : List ℕ) → AreWords words ahead
    → ¬ Is words octets
no_text Is ahead start offset fault words octets are is =
    let split = words_after fault.front words ahead fault.rest fault.begins are in
    not_on Is ahead start offset fault split.0 octets split.2 (subst (λ ws. Is ws octets) split.1 is)
