-- The search for the first fault in pieces: what is found of a piece, and what that tells of all octets.
use Rattle.std.specs.Prelude.{IfSome, IfNone, is_some}
use Rattle.std.proofs.Common.{◌≡◌, ◌≢◌, ℕ, ◌+◌, ◌^◌, ◌<◌, ◌≤◌, List, [], ◌∷◌, ◌++◌, length, take, drop, refl}
use Rattle.std.proofs.Common.{arith, inl, inr, ap, sym, ◌∙◌, subst, append_assoc, length-append, length-take}
use Rattle.std.proofs.Common.{Bool, true, false, Option, Some, None}
use Rattle.std.proofs.lemmas.List.{append-nil}
use Rattle.octseq_utf8.specs.Encoding.{number_of}
use Rattle.octseq_utf8.specs.Fault.{Fault, IsFault, IsFaultSize, saturated, fault_after}
use Rattle.octseq_utf8.specs.Parts.{IsBeginning}
use Rattle.octseq_utf8.specs.Text.{IsWellFormed, chars}
use Rattle.octseq_utf8.proofs.Faults.{end_bounds, onward_is, fault_refutes}
use Rattle.octseq_utf8.proofs.Search.{spelled_few}
use Rattle.octseq_utf8.proofs.Spelling.{chars_of, spells_nothing, spells_one}
use Rattle.octseq_utf8.proofs.Texts.{well_formed-append}
use Rattle.octseq_text.specs.FaultSearch.{ReportsAfter, SettlesAfter, PassesAfter, Searched, HasSearched}
use Rattle.octseq_text.specs.Progress.{IsOpenEnd}
use Rattle.octseq_text.proofs.BadParts.{bad_more}
use Rattle.octseq_text.proofs.Counting.{turns_few}
use Rattle.octseq_text.proofs.Piecewise.{beginning_few}

-- a fault of a size stays

nil_front : (x y : List ℕ) → x ++ y ≡ [] → x ≡ []
nil_front [] y h = refl
nil_front (a ∷ x) y h = absurd (cc)

of_a_size : (bad after : List ℕ) (size : Option ℕ) → size ≢ None → IsFaultSize bad after size
    → (size ≡ Some (length bad)) × ¬ (IsBeginning bad × (after ≡ []))
of_a_size bad after size n (inl h) = absurd (n h.0)
of_a_size bad after size n (inr h) = h

fault_stays : {x : List ℕ} {fault : Fault} → IsFault x fault → fault.size ≢ None → (more : List ℕ)
    → IsFault (x ++ more) fault
fault_stays {fault = fault} f n more =
    let sized = of_a_size f.bad f.after fault.size n f.size in
    record {
      before = f.before;
      bad = f.bad;
      after = f.after ++ more;
      whole = ap (λ y. y ++ more) f.whole ∙ append_assoc f.before (f.bad ++ f.after) more
          ∙ ap (λ y. f.before ++ y) (append_assoc f.bad f.after more);
      good = f.good;
      first = bad_more f.bad f.after more f.first sized.1;
      place = f.place;
      size = inr (sized.0, λ k. sized.1 (k.0, nil_front f.after more k.1));
    }

-- a fault with a size is found, whatever follows
pub settled_here : (n : ℕ) {x : List ℕ} {fault reported : Fault} → IsFault x fault → fault.size ≢ None
    → reported ≡ fault_after n fault → SettlesAfter n x reported
settled_here n {fault = fault} f some e = λ more. record { fault = fault; is_fault = fault_stays f some more; same = e }

-- a fault of none leaves a beginning

cut_off : (bad after : List ℕ) (size : Option ℕ) → size ≡ None → IsFaultSize bad after size
    → IsBeginning (bad ++ after)
cut_off bad after size n (inl h) = subst IsBeginning (sym (ap (λ y. bad ++ y) h.2 ∙ append-nil bad)) h.1
cut_off bad after size n (inr h) = let some = h.0 in absurd (cc)

pub left_open : (x : List ℕ) (fault : Fault) → IsFault x fault → fault.size ≡ None → IsBeginning (drop fault.place x)
left_open x fault f n = subst IsBeginning (sym (onward_is x fault f)) (cut_off f.bad f.after fault.size n f.size)

-- an open end has three octets at most
pub open_few : (x : List ℕ) (fault : Fault) → IsFault x fault → fault.size ≡ None → (n : ℕ)
    → length (take n (drop fault.place x)) ≤ 3
open_few x fault f none n =
    omega (arith, length-take n (drop fault.place x), beginning_few (drop fault.place x) (left_open x fault f none))

-- turns

-- of well-formed octets there are no more characters than octets
pub turns_to_end : (x : List ℕ) (old new : ℕ) → IsWellFormed x → new ≤ old + length (chars x) → new ≤ old + length x
turns_to_end x old new (cs, s) h = omega (arith, spelled_few s, ap length (chars_of s))

pub turns_to_fault : (x : List ℕ) (old new : ℕ) (fault : Fault) → IsFault x fault
    → new ≤ old + length (chars (take fault.place x)) + 1 → new ≤ old + length x
turns_to_fault x old new fault f h = let few = turns_few x fault f in omega (arith, few.0, few.1)

-- after well-formed octets

after_good : (good : List ℕ) {x : List ℕ} {fault : Fault} → IsWellFormed good → IsFault x fault
    → IsFault (good ++ x) (record { place = length good + fault.place; size = fault.size })
after_good good {fault = fault} w f = record {
  before = good ++ f.before;
  bad = f.bad;
  after = f.after;
  whole = ap (λ y. good ++ y) f.whole ∙ sym (append_assoc good f.before (f.bad ++ f.after));
  good = well_formed-append good f.before w f.good;
  first = f.first;
  place = let here = f.place in omega (arith, length-append good f.before);
  size = f.size;
}

saturated_on : (n g p : ℕ) → saturated (saturated (n + g) + p) ≡ saturated (n + (g + p))
saturated_on n g p = omega arith

-- n octets come before well-formed ones, and m before what is after those
module _ (n m : ℕ) (good : List ℕ) (w : IsWellFormed good) (passed : m ≡ saturated (n + length good)) where
  saturated_after : (p : ℕ) → saturated (m + p) ≡ saturated (n + (length good + p))
  saturated_after p = ap (λ k. saturated (k + p)) passed ∙ saturated_on n (length good) p

  pub tells_after : {x : List ℕ} {reported : Fault} → ReportsAfter m x reported → ReportsAfter n (good ++ x) reported
  tells_after t = record {
    fault = record { place = length good + t.fault.place; size = t.fault.size };
    is_fault = after_good good w t.is_fault;
    same = t.same ∙ ap (λ k. record { place = k; size = t.fault.size }) (saturated_after t.fault.place);
  }

  pub settles_after : (x : List ℕ) (reported : Fault) → SettlesAfter m x reported → SettlesAfter n (good ++ x) reported
  settles_after x reported s =
      λ more. subst (λ y. ReportsAfter n y reported) (sym (append_assoc good x more)) (tells_after (s more))

  pub passes_after : {x : List ℕ} {place : ℕ} {end : List ℕ} → PassesAfter m x place end
      → PassesAfter n (good ++ x) place end
  passes_after {end = end} p = record {
    good = good ++ p.good;
    well_formed = well_formed-append good p.good w p.well_formed;
    whole = ap (λ y. good ++ y) p.whole ∙ sym (append_assoc good p.good end);
    open_end = p.open_end;
    passed = p.passed ∙ saturated_after (length p.good)
        ∙ ap (λ k. saturated (n + k)) (sym (length-append good p.good));
  }

-- no octet of an open end is passed
pub passes_none : (n : ℕ) → n < 2 ^ 64 → (octets end : List ℕ) → end ≡ octets → IsBeginning end
    → PassesAfter n octets n end
passes_none n small octets end is begins = record {
  good = [];
  well_formed = ([], spells_nothing);
  whole = sym is;
  open_end = λ some. begins;
  passed = omega arith;
}

-- what a search tells of all octets

-- a fault that is reported is the fault, if 64 bits count the octets
pub reported_fault : (x : List ℕ) (reported : Fault) → ReportsAfter 0 x reported → length x < 2 ^ 64
    → IsFault x reported
reported_fault x reported t h =
    let bounds = end_bounds x t.fault t.is_fault in
    let place : saturated (0 + t.fault.place) ≡ t.fault.place = omega (arith, bounds.0, bounds.1) in
    subst (IsFault x) (sym (t.same ∙ ap (λ k. record { place = k; size = t.fault.size }) place)) t.is_fault

-- and octets that have one aren't well formed
pub reported_refutes : {x : List ℕ} {reported : Fault} → ReportsAfter 0 x reported → ¬ IsWellFormed x
reported_refutes t = fault_refutes t.is_fault

completed : (good end : List ℕ) → IsWellFormed good → IsOpenEnd end → (more : List ℕ)
    × IsWellFormed ((good ++ end) ++ more)
completed good [] w h =
    ([], subst IsWellFormed (sym (append-nil (good ++ []) ∙ append-nil good)) w)
completed good (a ∷ end) w h =
    let b : IsBeginning (a ∷ end) = h (λ e. let long = ap length e in absurd (omega arith)) in (
      b.more,
      subst IsWellFormed (sym (append_assoc good (a ∷ end) b.more))
          (well_formed-append good ((a ∷ end) ++ b.more) w
          (number_of ((a ∷ end) ++ b.more) ∷ [], spells_one b.encoding)),
    )

-- an open end may become a character
pub completes : (x end : List ℕ) (place : ℕ) (fault : Option Fault) → IfNone fault (PassesAfter 0 x place end)
    → IfNone fault ((more : List ℕ) × IsWellFormed (x ++ more))
completes x end place None p =
    let all = completed p.good end p.well_formed p.open_end in
    (all.0, subst (λ y. IsWellFormed (y ++ all.0)) (sym p.whole) all.1)
completes x end place (Some fault) p = tt

-- a test for a fault that finds none
pub no_fault : (fault : Option Fault) (test : Bool) → test ≡ is_some fault → test ≡ false → fault ≡ None
no_fault None test e f = refl
no_fault (Some fault) test e f = absurd (let some : true ≡ false = sym e ∙ f in cc)

-- A search that met no fault.
module _ (held : Searched) (x : List ℕ) (s : HasSearched held x) (none : held.fault ≡ None) where
  passed_all : PassesAfter 0 x held.passed held.end
  passed_all = subst (λ o. IfNone o (PassesAfter 0 x held.passed held.end)) none s.passed

  cut : (y : List ℕ) → passed_all.good ++ (held.end ++ y) ≡ x ++ y
  cut y = sym (ap (λ z. z ++ y) passed_all.whole ∙ append_assoc passed_all.good held.end y)

  cut_end : passed_all.good ++ held.end ≡ x
  cut_end = sym passed_all.whole

  pub searched_more : (piece end : List ℕ) (next : ℕ) (fault : Option Fault) → fault ≡ None
      → PassesAfter held.passed (held.end ++ piece) next end
      → HasSearched (record { passed = next; end = end; fault = fault }) (x ++ piece)
  searched_more piece end next fault e p = record {
    met = subst (λ o. IfSome o (SettlesAfter 0 (x ++ piece))) (sym e) tt;
    passed = subst (λ o. IfNone o (PassesAfter 0 (x ++ piece) next end)) (sym e)
        (subst (λ y. PassesAfter 0 y next end) (cut piece)
        (passes_after 0 held.passed passed_all.good passed_all.well_formed passed_all.passed p));
  }

  pub searched_to_fault : (piece end : List ℕ) (next : ℕ) (reported : Fault)
      → SettlesAfter held.passed (held.end ++ piece) reported
      → HasSearched (record { passed = next; end = end; fault = Some reported }) (x ++ piece)
  searched_to_fault piece end next reported t = record {
    met = subst (λ y. SettlesAfter 0 y reported) (cut piece)
        (settles_after 0 held.passed passed_all.good passed_all.well_formed passed_all.passed
        (held.end ++ piece) reported
        t);
    passed = tt;
  }

  -- all is well formed where the open end is
  pub all_well_formed : IsWellFormed held.end → IsWellFormed x
  all_well_formed w =
      subst IsWellFormed cut_end (well_formed-append passed_all.good held.end passed_all.well_formed w)

  -- and its fault is that of the open end
  pub end_reported : {fault reported : Fault} → IsFault held.end fault → reported ≡ fault_after held.passed fault
      → ReportsAfter 0 x reported
  end_reported {fault} {reported} f e =
      subst (λ y. ReportsAfter 0 y reported) cut_end
      (tells_after 0 held.passed passed_all.good passed_all.well_formed passed_all.passed
      (record { fault = fault; is_fault = f; same = e }))

-- a fault that was found is reported
pub met_reported : (held : Searched) (x : List ℕ) (reported : Fault) → HasSearched held x → held.fault ≡ Some reported
    → ReportsAfter 0 x reported
met_reported held x reported s e =
    subst (λ y. ReportsAfter 0 y reported) (append-nil x) (subst (λ o. IfSome o (SettlesAfter 0 x)) e s.met [])
