-- A text has one first fault.
use Rattle.std.proofs.Common.{◌≡◌, ℕ, List, [], ◌∷◌, ◌++◌, length, refl, sym, ap, ◌∙◌, subst, inl, inr, arith}
use Rattle.std.proofs.Common.{append_assoc}
use Rattle.octseq_dns_scan.specs.Word.{TakesWord}
use Rattle.octseq_dns_scan.proofs.Taken.{word_once}
use Rattle.octseq_dns_text.specs.Scans.{BeginsWithWords, Goes, IsWordFault}
use Rattle.octseq_dns_compose.specs.TextLines.{BeginsWithLines, IsLineFault, IsNextLine}
use Rattle.octseq_dns_compose.specs.TextLines.{TakesLine}
use Rattle.octseq_dns_compose.proofs.Faults.{no_text}
use Rattle.octseq_dns_compose.proofs.LineFaults.{Broken, Line, line_once, no_next, splits_same}

-- ---- two fronts of one text

-- Two lists of parts are at the front of a text, each of which has one part at its front: the lists are the same, or
-- one goes on where the other ends.
pub data Compared {A : Type 0} (Takes : A → List ℕ → List ℕ → Type 0) (front other : List A) (rest left : List ℕ)
    : Type 0 where
  equal : front ≡ other → rest ≡ left → Compared Takes front other rest left
  shorter : (part : A) (more : List A) (after : List ℕ) → other ≡ front ++ part ∷ more → Takes part rest after
      → Compared Takes front other rest left
  longer : (part : A) (more : List A) (after : List ℕ) → front ≡ other ++ part ∷ more → Takes part left after
      → Compared Takes front other rest left

one_further : {A : Type 0} (Takes : A → List ℕ → List ℕ → Type 0) (part also : A) (front other : List A)
    (rest left : List ℕ) → part ≡ also → Compared Takes front other rest left
    → Compared Takes (part ∷ front) (also ∷ other) rest left
one_further Takes part also front other rest left e (Compared.equal p q) =
    Compared.equal (λ i. e i ∷ p i) q
one_further Takes part also front other rest left e (Compared.shorter next more after p takes) =
    Compared.shorter next more after (λ i. sym e i ∷ p i) takes
one_further Takes part also front other rest left e (Compared.longer next more after p takes) =
    Compared.longer next more after (λ i. e i ∷ p i) takes

compared_words : (front other : Line) (text rest left : List ℕ) → BeginsWithWords front text rest
    → BeginsWithWords other text left → Compared TakesWord front other rest left
compared_words [] [] text rest left p q = Compared.equal refl (sym p ∙ q)
compared_words [] (word ∷ other) text rest left p q =
    Compared.shorter word other q.0 refl (subst (λ t. TakesWord word t q.0) p q.1)
compared_words (word ∷ front) [] text rest left p q =
    Compared.longer word front p.0 refl (subst (λ t. TakesWord word t p.0) q p.1)
compared_words (word ∷ front) (also ∷ other) text rest left p q =
    let one = word_once word also text p.0 q.0 p.1 q.1 in
    one_further TakesWord word also front other rest left one.0
    (compared_words front other p.0 rest left p.2 (subst (λ t. BeginsWithWords other t left) (sym one.1) q.2))

pub compared_lines : (front other : List Line) (text rest left : List ℕ) → BeginsWithLines front text rest
    → BeginsWithLines other text left → Compared TakesLine front other rest left
compared_lines [] [] text rest left p q = Compared.equal refl (sym p ∙ q)
compared_lines [] (words ∷ other) text rest left p q =
    Compared.shorter words other q.0 refl (subst (λ t. TakesLine words t q.0) p q.1)
compared_lines (words ∷ front) [] text rest left p q =
    Compared.longer words front p.0 refl (subst (λ t. TakesLine words t p.0) q p.1)
compared_lines (words ∷ front) (also ∷ other) text rest left p q =
    let one = line_once words also text p.0 q.0 p.1 q.1 in
    one_further TakesLine words also front other rest left one.0
    (compared_lines front other p.0 rest left p.2 (subst (λ t. BeginsWithLines other t left) (sym one.1) q.2))

-- ---- a line

module _ (Is : Line → List ℕ → Type 0) (ahead : List ℕ) (start offset other : ℕ) where
  -- where one fault is, no text goes on to a later one
  not_later : (fault : IsWordFault Is ahead start offset) (front more : Line) (word left : List ℕ)
      → front ≡ fault.front ++ word ∷ more → TakesWord word fault.rest left → ¬ Goes Is front
  not_later fault front more word left e takes goes =
      let whole = subst (λ ws. Is (ws ++ goes.0) goes.1) e goes.2 in
      let split = append_assoc fault.front (word ∷ more) goes.0
      ∙ sym (append_assoc fault.front (word ∷ []) (more ++ goes.0)) in
      fault.stops word left takes (more ++ goes.0, goes.1, subst (λ ws. Is ws goes.1) split whole)

module _ (Is : Line → List ℕ → Type 0) (ahead : List ℕ) (start : ℕ) where
  one_offset : (offset other : ℕ) (fault : IsWordFault Is ahead start offset) (also : IsWordFault Is ahead start other)
      → Compared TakesWord fault.front also.front fault.rest also.rest → offset ≡ other
  one_offset offset other fault also (Compared.equal p q) =
      let here = fault.place in
      let there = also.place in
      let size = ap length q in
      omega (arith, here, there, size)
  one_offset offset other fault also (Compared.shorter word more left e takes) =
      absurd (not_later Is ahead start offset other fault also.front more word left e takes also.goes)
  one_offset offset other fault also (Compared.longer word more left e takes) =
      absurd (not_later Is ahead start other offset also fault.front more word left e takes fault.goes)

  one_fault : (offset other : ℕ) → IsWordFault Is ahead start offset → IsWordFault Is ahead start other → offset ≡ other
  one_fault offset other fault also =
      one_offset offset other fault also
      (compared_words fault.front also.front ahead fault.rest also.rest fault.begins also.begins)

  -- a line has a fault, or only lacks its line feed
  one_either : (after behind : List ℕ) (offset other : ℕ) → Broken Is ahead after start offset
      → Broken Is ahead behind start other → offset ≡ other
  one_either after behind offset other (inl fault) (inl also) = one_fault offset other fault also
  one_either after behind offset other (inl fault) (inr also) =
      absurd (no_text Is ahead start offset fault also.words also.octets also.are also.is)
  one_either after behind offset other (inr fault) (inl also) =
      absurd (no_text Is ahead start other also fault.words fault.octets fault.are fault.is)
  one_either after behind offset other (inr fault) (inr also) = fault.place ∙ sym also.place

-- ---- lines

module _ (Is : List Line → Type 0) where
  abbrev Faulty : List Line → List ℕ → List ℕ → ℕ → Type 0
  Faulty front line after offset = Broken (IsNextLine Is front) line after 0 offset

  -- some text begins with the lines before a fault
  some_text : (front : List Line) (line after : List ℕ) (offset : ℕ) → Faulty front line after offset
      → (others : List Line) × Is (front ++ others)
  some_text front line after offset (inl fault) =
      let next = fault.goes.2 in
      ((fault.front ++ fault.goes.0) ∷ next.0, next.1)
  some_text front line after offset (inr fault) = (fault.words ∷ fault.is.0, fault.is.1)

  -- so it has no fault in a later one
  not_in_later : (text : List ℕ) (first number offset : ℕ) (fault : IsLineFault Is text first number offset)
      (front more : List Line) (words : Line) (line after rest : List ℕ) (other : ℕ)
      → front ≡ fault.front ++ words ∷ more → TakesLine words (fault.line ++ fault.after) rest
      → Faulty front line after other → ⊥
  not_in_later text first number offset fault front more words line after rest other e takes also =
      let some = some_text front line after other also in
      no_next Is fault.front (more ++ some.0) words fault.line fault.after rest offset fault.is_line fault.ended
      fault.fault takes
      (subst Is (ap (λ ls. ls ++ some.0) e ∙ append_assoc fault.front (words ∷ more) some.0) some.1)

  one_place : (text : List ℕ) (first number offset line place : ℕ) (fault : IsLineFault Is text first number offset)
      (also : IsLineFault Is text first line place)
      → Compared TakesLine fault.front also.front (fault.line ++ fault.after) (also.line ++ also.after)
      → (number ≡ line) × (offset ≡ place)
  one_place text first number offset line place fault also (Compared.equal p q) =
      let here = fault.place in
      let there = also.place in
      let size = ap length p in
      let same = splits_same fault.line also.line fault.after also.after fault.is_line also.is_line fault.ended
      also.ended q in
      let second = subst (λ l. Faulty fault.front l also.after place) (sym same.0)
      (subst (λ f. Faulty f also.line also.after place) (sym p) also.fault) in (
        omega (arith, here, there, size),
        one_either (IsNextLine Is fault.front) fault.line 0 fault.after also.after offset place fault.fault second,
      )
  one_place text first number offset line place fault also (Compared.shorter words more left e takes) =
      absurd (not_in_later text first number offset fault also.front more words also.line also.after left place e takes
      also.fault)
  one_place text first number offset line place fault also (Compared.longer words more left e takes) =
      absurd (not_in_later text first line place also fault.front more words fault.line fault.after left offset e takes
      fault.fault)

  pub one_line_fault : (text : List ℕ) (first number offset line place : ℕ)
      → IsLineFault Is text first number offset → IsLineFault Is text first line place
      → (number ≡ line) × (offset ≡ place)
  one_line_fault text first number offset line place fault also =
      one_place text first number offset line place fault also
      (compared_lines fault.front also.front text (fault.line ++ fault.after) (also.line ++ also.after) fault.begins
      also.begins)
