-- Faults: the octets around one, that there is only one, and its size.
use Rattle.std.proofs.Common.{◌≡◌, ℕ, ◌+◌, ◌-◌, ◌<◌, ◌≤◌, List, [], ◌∷◌, ◌++◌, map, length, take, drop, refl, arith}
use Rattle.std.proofs.Common.{inl, inr, ap, sym, ◌∙◌, subst, append_assoc, length-append, length-drop, Option, Some}
use Rattle.std.specs.Prelude.{unwrap_or}
use Rattle.std.proofs.lemmas.List.{take_all, length-map, append_cancel_left, take_at, drop_at}
use Rattle.octseq_utf8.specs.Fault.{Fault, IsFaultSize, IsFault, fault_end}
use Rattle.octseq_utf8.specs.Parts.{Part, Char, Bad}
use Rattle.octseq_utf8.specs.Reading.{parts_of}
use Rattle.octseq_utf8.specs.Text.{IsWellFormed, chars, octets_of}
use Rattle.octseq_utf8.proofs.Joins.{parts_fault, parts_spelled}
use Rattle.octseq_utf8.proofs.Spelling.{chars_of, octets_of_spelled}
use Rattle.octseq_utf8.proofs.Splitting.{bad_some, bad_length}

fault_parts : {x : List ℕ} {fault : Fault} (f : IsFault x fault)
    → parts_of x ≡ map Char f.good.0 ++ (Bad f.bad ∷ parts_of f.after)
fault_parts f = ap parts_of f.whole ∙ parts_fault f.good.1 f.bad f.after f.first

module _ (rest : List ℕ) (fault : Fault) (f : IsFault rest fault) where
  whole_length : length rest ≡ fault.place + (length f.bad + length f.after)
  whole_length = omega (
    arith,
    f.place,
    ap length f.whole,
    length-append f.before (f.bad ++ f.after),
    length-append f.bad f.after,
  )

  bad_size : (size : Option ℕ) → IsFaultSize f.bad f.after size
      → unwrap_or size (length rest - fault.place) ≡ length f.bad
  bad_size size (inl h) = ap (λ o. unwrap_or o (length rest - fault.place)) h.0
      ∙ omega (arith, ap length h.2, whole_length)
  bad_size size (inr h) = ap (λ o. unwrap_or o (length rest - fault.place)) h.0

  pub end_is : fault_end rest fault ≡ fault.place + length f.bad
  end_is = ap (λ n. fault.place + n) (bad_size fault.size f.size)

  -- the fault has at least one octet, and ends within the octets
  pub end_bounds : (fault.place < fault_end rest fault) × (fault_end rest fault ≤ length rest)
  end_bounds = let some = bad_some f.first in (omega (arith, end_is), omega (arith, end_is, whole_length))

  pub front_is : take fault.place rest ≡ f.before
  front_is = ap (take fault.place) f.whole ∙ take_at f.before (f.bad ++ f.after) fault.place (sym f.place)

  pub onward_is : drop fault.place rest ≡ f.bad ++ f.after
  onward_is = ap (drop fault.place) f.whole ∙ drop_at f.before (f.bad ++ f.after) fault.place (sym f.place)

  pub after_is : drop (fault_end rest fault) rest ≡ f.after
  after_is = ap (drop (fault_end rest fault)) (f.whole ∙ sym (append_assoc f.before f.bad f.after))
      ∙ drop_at (f.before ++ f.bad) f.after _ (omega (arith, f.place, end_is, length-append f.before f.bad))

  -- the parts are the characters before the fault, the bad part, and those after it
  pub parts_at_fault : length (parts_of rest) ≡ length (chars (take fault.place rest)) + 1
      + length (parts_of (drop (fault_end rest fault) rest))
  parts_at_fault = omega (
    arith,
    ap length (fault_parts f),
    ap length (ap chars front_is ∙ chars_of f.good.1),
    length-append (map Char f.good.0) (Bad f.bad ∷ parts_of f.after),
    length-map f.good.0 Char,
    ap (λ y. length (parts_of y)) after_is,
  )

-- the parts of well-formed octets are their characters
pub parts_well_formed : (x : List ℕ) → IsWellFormed x → length (parts_of x) ≡ length (chars x)
parts_well_formed x (cs, s) = ap length (parts_spelled s) ∙ length-map cs Char ∙ sym (ap length (chars_of s))

-- a slice from a place to the end is all octets from that place on
pub rest_of : (x : List ℕ) (place : ℕ) → take (length x - place) (drop place x) ≡ drop place x
rest_of x place = take_all (length x - place) (drop place x) (omega (arith, length-drop place x))

-- there is only one fault, and it rules out that the octets are well formed

-- parts that are characters and then a bad part are never only characters
pub no_bad : (cs ds : List ℕ) (p : List ℕ) (ps : List Part) → map Char cs ++ (Bad p ∷ ps) ≡ map Char ds → ⊥
no_bad [] [] p ps h = cc
no_bad [] (d ∷ ds) p ps h = cc
no_bad (c ∷ cs) [] p ps h = cc
no_bad (c ∷ cs) (d ∷ ds) p ps h = no_bad cs ds p ps (cc)

first_bad_same : (cs ds p q : List ℕ) (ps qs : List Part)
    → map Char cs ++ (Bad p ∷ ps) ≡ map Char ds ++ (Bad q ∷ qs) → (cs ≡ ds) × (p ≡ q)
first_bad_same [] [] p q ps qs h = (refl, cc)
first_bad_same [] (d ∷ ds) p q ps qs h = absurd (cc)
first_bad_same (c ∷ cs) [] p q ps qs h = absurd (cc)
first_bad_same (c ∷ cs) (d ∷ ds) p q ps qs h = let k = first_bad_same cs ds p q ps qs (cc) in (cc, k.1)

-- octets that have a fault aren't well formed
pub fault_refutes : {x : List ℕ} {fault : Fault} → IsFault x fault → ¬ IsWellFormed x
fault_refutes f w = no_bad f.good.0 w.0 f.bad (parts_of f.after) (sym (fault_parts f) ∙ parts_spelled w.1)

same_size : (bad after : List ℕ) (s t : Option ℕ) → IsFaultSize bad after s → IsFaultSize bad after t → s ≡ t
same_size bad after s t (inl h) (inl k) = h.0 ∙ sym k.0
same_size bad after s t (inl h) (inr k) = absurd (k.1 (h.1, h.2))
same_size bad after s t (inr h) (inl k) = absurd (h.1 (k.1, k.2))
same_size bad after s t (inr h) (inr k) = h.0 ∙ sym k.0

-- octets have at most one fault
pub one_fault : {x : List ℕ} {fault other : Fault} → IsFault x fault → IsFault x other → fault ≡ other
one_fault {x} {fault} {other} f g =
    let same = first_bad_same f.good.0 g.good.0 f.bad g.bad (parts_of f.after) (parts_of g.after)
    (sym (fault_parts f) ∙ fault_parts g) in
    let front : f.before ≡ g.before = sym (octets_of_spelled f.good.1) ∙ ap octets_of same.0
    ∙ octets_of_spelled g.good.1 in
    let whole : g.before ++ (g.bad ++ f.after) ≡ g.before ++ (g.bad ++ g.after) = cc (f.whole, g.whole) in
    let ends : f.after ≡ g.after = append_cancel_left g.bad _ _ (append_cancel_left g.before _ _ whole) in
    let place : fault.place ≡ other.place = cc (f.place, g.place) in
    let long : IsFaultSize g.bad g.after fault.size =
    subst (λ y. IsFaultSize g.bad y fault.size) ends (subst (λ y. IsFaultSize y f.after fault.size) same.1 f.size) in
    let size : fault.size ≡ other.size = same_size g.bad g.after fault.size other.size long g.size in
    λ i. record { place = place i; size = size i }

-- a fault that has a size has one to three octets
pub fault_small : {octets : List ℕ} {place n : ℕ} → IsFault octets (record { place = place; size = Some n })
    → (1 ≤ n) × (n ≤ 3)
fault_small f = let size = f.size in grind (arith, bad_some f.first, bad_length f.first)
