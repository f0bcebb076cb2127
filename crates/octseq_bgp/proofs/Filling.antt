-- Messages that are filled with prefixes.
use Rattle.std.proofs.Common.{◌≡◌, ℕ, zero, suc, ◌+◌, ◌<◌, ◌≤◌, Bool, Option, Ok, Err, List, [], ◌∷◌, ◌++◌, length}
use Rattle.std.proofs.Common.{take, drop, map, refl, sym, ap, ◌∙◌, subst, arith, append_assoc, append-nil}
use Rattle.std.proofs.Common.{length-append}
use Rattle.std.proofs.Common.{Result, take_all}
use Rattle.std.specs.List.{AllByRecursion, sum_by}
use Rattle.std.proofs.Math.Decide.{dec_le}
use Rattle.std.proofs.Math.Nat.{lt_of_not-le}
use Rattle.std.proofs.lemmas.Grind.{flat_map-append}
use Rattle.std.proofs.lemmas.List.{map-append, take-take}
use Rattle.std.proofs.lemmas.List.Concat.{length-flat_map}
use Rattle.std.proofs.lemmas.List.Folds.{flat_map-map}
use Rattle.std.proofs.lemmas.List.Sums.{sum_by-take-le, sum_by-take-drop}
use Rattle.octseq.specs.Refusal.{Refusal, Is, write_error}
use Rattle.octseq.specs.declared.error.WriteError.{WriteError}
use Rattle.octseq.specs.declared.error.WriteError.TheVariants.{Short}
use Rattle.octseq_bgp.specs.Composed.{least}
use Rattle.octseq_bgp.specs.Filling.{ArePushed, FillsMessage, FitWith, Given, given, given_long}
use Rattle.octseq_bgp.specs.Filling.{with_announced, with_withdrawn}
use Rattle.octseq_bgp.specs.Writing.{Pushes, Writing, more_announced, more_withdrawn}
use Rattle.octseq_bgp.specs.Written.{WrittenPrefix, WrittenUpdate, longest, prefix_octets, prefixes_octets}
use Rattle.octseq_bgp.specs.Written.{update_octets}
use Rattle.octseq_bgp.specs.declared.message.update_builder.part.MpList.{MpList}
use Rattle.octseq_bgp.specs.declared.session.SessionConfig.{SessionConfig}
use Rattle.octseq_bgp.proofs.Pushes.{all_more}
use Rattle.octseq_bgp.proofs.Updates.{update_long}

-- ---- what a call that fills a message does

module _ {A B : Type 0} (Good : A → Type 0) (more : List A → WrittenUpdate) (row : List A) (most : ℕ)
    (old : Writing B) where
  -- The first items of a row were pushed.
  pub record ArePut (now : Writing B) (n : ℕ) : Type 0 where
    pub few : n ≤ length row
    pub update : now.update ≡ more (take n row)
    pub open_list : now.open_list ≡ old.open_list
    pub session : now.session ≡ old.session
    pub good : AllByRecursion Good (take n row)
    pub fits : 1 ≤ n → FitWith most more (take n row)

  -- none so far
  pub none_put : old.update ≡ more [] → ArePut old 0
  none_put none = record {
    few = omega arith;
    update = none;
    open_list = refl;
    session = refl;
    good = tt;
    fits = λ some. absurd (omega (arith, some));
  }

all_before : {A : Type 0} (P : A → Type 0) (n m : ℕ) (row : List A) → n ≤ m → AllByRecursion P (take m row)
    → AllByRecursion P (take n row)
all_before P zero m row less all = tt
all_before P (suc n) zero row less all = absurd (omega (arith, less))
all_before P (suc n) (suc m) [] less all = tt
all_before P (suc n) (suc m) (x ∷ row) less all = (all.0, all_before P n m row (omega (arith, less)) all.1)

all_last : {A : Type 0} (P : A → Type 0) (xs : List A) {x : A} → AllByRecursion P (xs ++ x ∷ []) → P x
all_last P [] all = all.0
all_last P (y ∷ xs) all = all_last P xs all.1

-- an UPDATE with more items of a row has no fewer octets
abbrev pub Grows : {A : Type 0} → (List A → WrittenUpdate) → List A → Type 0
Grows more row = (k m : ℕ) → k ≤ m
    → length (update_octets (more (take k row))) ≤ length (update_octets (more (take m row)))

-- no more items fit a message that is full
full_most : {A : Type 0} (more : List A → WrittenUpdate) (row : List A) (most n : ℕ) → Grows more row
    → most < length (update_octets (more (take (n + 1) row))) → (m : ℕ) → FitWith most more (take m row) → Dec (m ≤ n)
    → m ≤ n
full_most more row most n grows past m fits (yes few) = few
full_most more row most n grows past m fits (no many) =
    let less = lt_of_not-le many in
    let long = grows (n + 1) m (omega (arith, less)) in
    absurd (omega (arith, long, past, fits))

-- and none is reached that isn't good
full_good : {A : Type 0} (Good : A → Type 0) (more : List A → WrittenUpdate) (row : List A) (most n : ℕ)
    → Grows more row
    → most < length (update_octets (more (take (n + 1) row))) → AllByRecursion Good (take (n + 1) row) → (k : ℕ)
    → ArePushed Good (FitWith most more) row k → ¬ AllByRecursion Good (take (k + 1) row) → Dec (k ≤ n) → ⊥
full_good Good more row most n grows past good k reached bad (yes few) =
    bad (all_before Good (k + 1) (n + 1) row (omega (arith, few)) good)
full_good Good more row most n grows past good k reached bad (no many) =
    let less = lt_of_not-le many in
    let long = grows (n + 1) k (omega (arith, less)) in
    let fits = reached.fits (omega (arith, less)) in
    omega (arith, long, past, fits)

module _ {A B : Type 0} {Good : A → Type 0} {more : List A → WrittenUpdate} {row : List A} {limit : Option ℕ}
    {asks : Bool} {old now : Writing B} {n : ℕ} where
  -- all were pushed
  pub filled : ArePut Good more row (least (longest old.session) limit) old now n → length row ≤ n
      → FillsMessage limit asks Good more row (Ok n) old now
  filled are all =
      let whole : take n row ≡ take (n + 1) row =
      take_all n row all ∙ sym (take_all (n + 1) row (omega (arith, all))) in
      let good = subst (AllByRecursion Good) whole are.good in
      record {
        ok = are.update;
        most = record { few = are.few; fits = are.fits; most = λ m few fits. omega (arith, few, all) };
        good = good;
        err = tt;
        malformed = λ none. absurd none;
        bad = λ k pushed bad. let few = pushed.few in
            absurd (bad (all_before Good (k + 1) (n + 1) row (omega (arith, few, all)) good));
        never_short = λ none. none;
        memory = λ none. absurd none;
        open_list = are.open_list;
        session = are.session;
      }

module _ {A B : Type 0} {Good : A → Type 0} {more : List A → WrittenUpdate} {row : List A} {limit : Option ℕ}
    {asks : Bool} {old now next : Writing B} {n : ℕ} {x : A} where
  -- another was pushed
  pub put_more : ArePut Good more row (least (longest old.session) limit) old now n → n < length row
      → take (n + 1) row ≡ take n row ++ x ∷ []
      → Pushes limit asks (Good x) (Ok tt) (more (take (n + 1) row)) now.open_list now next
      → ArePut Good more row (least (longest old.session) limit) old next (n + 1)
  put_more are less is pushed = record {
    few = omega (arith, less);
    update = pushed.ok;
    open_list = pushed.opens ∙ are.open_list;
    session = pushed.session ∙ are.session;
    good = subst (AllByRecursion Good) (sym is) (all_more Good (take n row) are.good pushed.good);
    fits = λ some.
        let s = are.session in
        let within : ¬ (least (longest now.session) limit < length (update_octets (more (take (n + 1) row)))) =
        λ past. pushed.short.1 (pushed.good, past) in
        let all : ¬ (least (longest old.session) limit < length (update_octets (more (take (n + 1) row)))) =
        subst (λ s. ¬ (least (longest s) limit < length (update_octets (more (take (n + 1) row))))) s within in
        omega (arith, all);
  }

  -- the message is full
  pub full : ArePut Good more row (least (longest old.session) limit) old now n → n < length row
      → take (n + 1) row ≡ take n row ++ x ∷ []
      → Pushes limit asks (Good x) (Err Short) (more (take (n + 1) row)) now.open_list now next
      → Grows more row
      → FillsMessage limit asks Good more row (Ok n) old next
  full are less is pushed grows =
      let good = subst (AllByRecursion Good) (sym is) (all_more Good (take n row) are.good (pushed.short.0 tt).0) in
      let past = subst (λ s. least (longest s) limit < length (update_octets (more (take (n + 1) row)))) are.session
      (pushed.short.0 tt).1 in
      record {
        ok = pushed.err ∙ are.update;
        most = record {
          few = are.few;
          fits = are.fits;
          most = λ m few fits. full_most more row (least (longest old.session) limit) n grows past m fits (dec_le m n);
        };
        good = good;
        err = tt;
        malformed = λ none. absurd none;
        bad = λ k reached bad. absurd
            (full_good Good more row (least (longest old.session) limit) n grows past good k reached bad (dec_le k n));
        never_short = λ none. none;
        memory = λ none. absurd none;
        open_list = pushed.kept ∙ are.open_list;
        session = pushed.session ∙ are.session;
      }

  -- one is refused for another reason
  pub refuses : (e : WriteError) → ¬ Is Refusal.short (write_error e)
      → ArePut Good more row (least (longest old.session) limit) old now n → n < length row
      → take (n + 1) row ≡ take n row ++ x ∷ []
      → Pushes limit asks (Good x) (Err e) (more (take (n + 1) row)) now.open_list now next
      → FillsMessage limit asks Good more row (Err e) old next
  refuses e not are less is pushed =
      let before : ArePushed Good (FitWith (least (longest old.session) limit) more) row n =
      record { few = less; good = are.good; fits = are.fits } in
      let update = pushed.err ∙ are.update in
      record {
        ok = tt;
        most = tt;
        good = tt;
        err = (n, before, update);
        malformed = λ is_bad. (
          n,
          before,
          (λ all. pushed.malformed.0 is_bad (all_last Good (take n row) (subst (AllByRecursion Good) is all))),
          update,
        );
        bad = λ k reached bad. refl;
        never_short = not;
        memory = pushed.memory;
        open_list = pushed.kept ∙ are.open_list;
        session = pushed.session ∙ are.session;
      }

-- ---- the octets of prefixes

-- prefixes after others
pub given_octets : (before : List WrittenPrefix) (row : List Given)
    → length (prefixes_octets (before ++ map given row)) ≡ length (prefixes_octets before) + sum_by given_long row
given_octets before row =
    ap length (flat_map-append prefix_octets before (map given row))
    ∙ length-append (prefixes_octets before) (prefixes_octets (map given row))
    ∙ ap (λ n. length (prefixes_octets before) + n)
    (ap length (flat_map-map prefix_octets given row) ∙ length-flat_map (λ p. prefix_octets (given p)) row)

pub withdrawn_long : (u : WrittenUpdate) (row : List Given)
    → length (update_octets (with_withdrawn u row)) ≡ length (update_octets u) + sum_by given_long row
withdrawn_long u row =
    let long = update_long u in
    let all = update_long (with_withdrawn u row) in
    let more = given_octets u.withdrawn row in
    omega (arith, long, all, more)

pub announced_long : (u : WrittenUpdate) (row : List Given)
    → length (update_octets (with_announced u row)) ≡ length (update_octets u) + sum_by given_long row
announced_long u row =
    let long = update_long u in
    let all = update_long (with_announced u row) in
    let more = given_octets u.announced row in
    omega (arith, long, all, more)

-- An UPDATE has no fewer octets with items that have no fewer.
abbrev pub Rises : {A : Type 0} → (List A → WrittenUpdate) → (A → ℕ) → Type 0
Rises {A} more size = (few many : List A) → sum_by size few ≤ sum_by size many
    → length (update_octets (more few)) ≤ length (update_octets (more many))

pub withdrawn_rises : (u : WrittenUpdate) → Rises (with_withdrawn u) given_long
withdrawn_rises u few many less = omega (arith, less, withdrawn_long u few, withdrawn_long u many)

pub announced_rises : (u : WrittenUpdate) → Rises (with_announced u) given_long
announced_rises u few many less = omega (arith, less, announced_long u few, announced_long u many)

pub grows : {A : Type 0} (more : List A → WrittenUpdate) (size : A → ℕ) → Rises more size → (row : List A)
    → Grows more row
grows more size rises row k m less =
    let part = sum_by-take-le size (take m row) k in
    let same = ap (sum_by size) (take-take k m row less) in
    rises (take k row) (take m row) (omega (arith, part, same))

pub fits_after : {A : Type 0} (most : ℕ) (more : List A → WrittenUpdate) (size : A → ℕ) → Rises more size
    → (k : ℕ) (run : List A) → FitWith most more run → FitWith most more (drop k run)
fits_after most more size rises k run fits =
    let both = sum_by-take-drop size run k in
    let less = rises (drop k run) run (omega (arith, both)) in
    omega (arith, less, fits)

-- ---- one more

pub next_withdrawn : (u : WrittenUpdate) (row : List Given) (p : Given)
    → more_withdrawn (with_withdrawn u row) (given p) ≡ with_withdrawn u (row ++ p ∷ [])
next_withdrawn u row p = ap (λ w. record u { withdrawn = w })
    (append_assoc u.withdrawn (map given row) (given p ∷ [])
    ∙ ap (λ w. u.withdrawn ++ w) (sym (map-append given row (p ∷ []))))

pub next_announced : (u : WrittenUpdate) (row : List Given) (p : Given)
    → more_announced (with_announced u row) (given p) ≡ with_announced u (row ++ p ∷ [])
next_announced u row p = ap (λ n. record u { announced = n })
    (append_assoc u.announced (map given row) (given p ∷ [])
    ∙ ap (λ n. u.announced ++ n) (sym (map-append given row (p ∷ []))))

-- nothing more
pub no_withdrawn : (u : WrittenUpdate) → u ≡ with_withdrawn u []
no_withdrawn u = ap (λ w. record u { withdrawn = w }) (sym (append-nil u.withdrawn))

pub no_announced : (u : WrittenUpdate) → u ≡ with_announced u []
no_announced u = ap (λ n. record u { announced = n }) (sym (append-nil u.announced))

module _ {B : Type 0} {limit : Option ℕ} {asks : Bool} {most : ℕ} {row : List Given} {old now next : Writing B}
    {n : ℕ} where
  -- a push of the next prefix
  pub step : (Good : SessionConfig → Option MpList → Given → Type 0) (result : Result (Unit {0}) WriteError) (x : Given)
      (one : WrittenUpdate → WrittenPrefix → WrittenUpdate) (more : List Given → WrittenUpdate)
      → ((done : List Given) (p : Given) → one (more done) (given p) ≡ more (done ++ p ∷ []))
      → ArePut (Good old.session old.open_list) more row most old now n → take (n + 1) row ≡ take n row ++ x ∷ []
      → Pushes limit asks (Good now.session now.open_list x) result (one now.update (given x)) now.open_list now next
      → Pushes limit asks (Good old.session old.open_list x) result (more (take (n + 1) row)) now.open_list now next
  step Good result x one more another are is pushed =
      let wanted : one now.update (given x) ≡ more (take (n + 1) row) =
      ap (λ u. one u (given x)) are.update ∙ another (take n row) x ∙ ap more (sym is) in
      let l = now.open_list in
      let all = more (take (n + 1) row) in
      subst (λ s. Pushes limit asks (Good s old.open_list x) result all l now next) are.session
      (subst (λ o. Pushes limit asks (Good now.session o x) result all l now next) are.open_list
      (subst (λ w. Pushes limit asks (Good now.session l x) result w l now next) wanted pushed))
