-- What a builder's UPDATE is after a push.
use Rattle.std.proofs.Common.{◌≡◌, ℕ, ◌+◌, ◌<◌, ◌≤◌, Bool, true, Option, None, Result, Ok, Err, List, [], ◌∷◌}
use Rattle.std.proofs.Common.{◌++◌, length, sym, ap, ◌∙◌, subst, arith}
use Rattle.std.specs.List.{AllByRecursion, flat_map}
use Rattle.std.specs.Prelude.{◌↔◌, OnOk, OnErr}
use Rattle.std.proofs.lemmas.List.{flat_map_more}
use Rattle.std.proofs.Math.Logic.{∥∥₁_map}
use Rattle.octseq.proofs.Repeats.{each_snoc}
use Rattle.octseq.specs.Refusal.{IsMalformed, IsShort, IsMemory, write_error}
use Rattle.octseq.specs.declared.error.WriteError.{WriteError}
use Rattle.octseq.specs.declared.error.WriteError.TheVariants.{Short}
use Rattle.octseq_bgp.specs.Composed.{least}
use Rattle.octseq_bgp.specs.Held.{HeldUpdate, held_is}
use Rattle.octseq_bgp.specs.PartOctets.{PartOctets, PutsParts}
use Rattle.octseq_bgp.specs.Writing.{IsHeld, IsListOpen, Pushes, Writing}
use Rattle.octseq_bgp.specs.Written.{WrittenUpdate, update_octets, UnicastFits, AttributeFits, longest}
use Rattle.octseq_bgp.specs.Written.{prefixes_octets, attributes_octets}
use Rattle.octseq_bgp.specs.declared.message.update_builder.part.MpList.{MpList}
use Rattle.octseq_bgp.specs.declared.session.SessionConfig.{SessionConfig}
use Rattle.octseq_bgp.proofs.Composing.{least_most}
use Rattle.octseq_bgp.proofs.UpdateParts.{puts_within}
use Rattle.octseq_bgp.proofs.Updates.{held_same, update_long}

-- ---- one more

pub all_more : {A : Type 0} (P : A → Type 0) (xs : List A) {x : A} → AllByRecursion P xs → P x
    → AllByRecursion P (xs ++ x ∷ [])
all_more P xs {x} all one = each_snoc P xs x all one

pub one_more : {A : Type 0} (f : A → List ℕ) (xs : List A) (x : A) → flat_map f (xs ++ x ∷ []) ≡ flat_map f xs ++ f x
one_more f xs x = sym (flat_map_more f [] xs x)

-- ---- the UPDATE that a push wants

-- The octets of an UPDATE, all of which fits but for its length.
pub record Wanted (Reaches : WrittenUpdate → Type 0) (s : SessionConfig) (w a n : List ℕ) (u : WrittenUpdate)
    : Type 0 where
  pub withdrawn_is : w ≡ prefixes_octets u.withdrawn
  pub attributes_is : a ≡ attributes_octets u.attributes
  pub announced_is : n ≡ prefixes_octets u.announced
  pub withdrawn : UnicastFits s u.withdrawn
  pub attributes : AllByRecursion AttributeFits u.attributes
  pub announced : UnicastFits s u.announced
  pub reaches : Reaches u

module _ {Reaches : WrittenUpdate → Type 0} {s : SessionConfig} {w a n : List ℕ} {u : WrittenUpdate}
    (wanted : Wanted Reaches s w a n u) where
  pub wanted_long : 23 + length w + length a + length n ≡ length (update_octets u)
  wanted_long =
      let all = update_long u in
      omega (arith, all, ap length wanted.withdrawn_is, ap length wanted.attributes_is, ap length wanted.announced_is)

  pub wanted_held : {B : Type 0} {parts : PartOctets B} {open_list : Option MpList} {open_at : ℕ} → parts.withdrawn ≡ w
      → parts.attributes ≡ a → parts.announced ≡ n → 23 + length w + length a + length n ≤ longest s
      → IsListOpen open_list open_at u.attributes → IsHeld Reaches s parts open_list open_at u
  wanted_held withdrawn attributes announced short opened = record {
    withdrawn_is = withdrawn ∙ wanted.withdrawn_is;
    attributes_is = attributes ∙ wanted.attributes_is;
    announced_is = announced ∙ wanted.announced_is;
    fits = record {
      withdrawn = wanted.withdrawn;
      attributes = wanted.attributes;
      announced = wanted.announced;
      short = subst (λ k. k ≤ longest s) wanted_long short;
    };
    reaches = wanted.reaches;
    opened = opened;
  }

module _ {B : Type 0} {Reaches : WrittenUpdate → Type 0} {s : SessionConfig} {w a n : List ℕ} {most : ℕ} {asks : Bool}
    {old new : PartOctets B} {open_list : Option MpList} {open_at : ℕ} where
  -- a call that put the octets that a push wants
  pub put_held : {u : WrittenUpdate} → PutsParts most asks (Ok tt) w a n old new → most ≤ longest s
      → Wanted Reaches s w a n u → IsListOpen open_list open_at u.attributes → IsHeld Reaches s new open_list open_at u
  put_held puts most wanted opened =
      let fits = puts_within puts in
      wanted_held wanted puts.withdrawn_is puts.attributes_is puts.announced_is (omega (arith, fits, most)) opened

  -- one that put none
  pub none_held : {e : WriteError} → PutsParts most asks (Err e) w a n old new
      → HeldUpdate Reaches s old open_list open_at
      → HeldUpdate Reaches s new open_list open_at
  none_held puts held = (
    held.0,
    ∥∥₁_map held.1 (λ x. record {
      withdrawn_is = puts.kept.0 ∙ x.withdrawn_is;
      attributes_is = puts.kept.1 ∙ x.attributes_is;
      announced_is = puts.kept.2 ∙ x.announced_is;
      fits = x.fits;
      reaches = x.reaches;
      opened = x.opened;
    }),
  )

  -- either, if the list that is open stays the same
  pub push_held : {u : WrittenUpdate} (result : Result (Unit {0}) WriteError) → PutsParts most asks result w a n old new
      → most ≤ longest s → Wanted Reaches s w a n u → (held : HeldUpdate Reaches s old open_list open_at)
      → (IsListOpen open_list open_at held.0.attributes → IsListOpen open_list open_at u.attributes)
      → HeldUpdate Reaches s new open_list open_at
  push_held {u} (Ok done) puts most wanted held opens =
      (u, ∥∥₁_map held.1 (λ x. put_held puts most wanted (opens x.opened)))
  push_held (Err e) puts most wanted held opens = none_held puts held

-- ---- what a push ensures

on_ok : {E P : Type 0} (result : Result (Unit {0}) E) → P → OnOk result P
on_ok (Ok done) p = p
on_ok (Err e) p = tt

-- of what is good
good_pushes : {B : Type 0} {limit : Option ℕ} {asks : Bool} {Good : Type 0} {wanted : WrittenUpdate}
    {open_list : Option MpList} {before after : Writing B} (result : Result (Unit {0}) WriteError) → Good
    → OnOk result (after.update ≡ wanted) → OnOk result (after.open_list ≡ open_list)
    → OnErr result (after.update ≡ before.update) → OnErr result (after.open_list ≡ before.open_list)
    → after.session ≡ before.session → ¬ IsMalformed write_error result
    → (IsShort write_error result ↔ (least (longest before.session) limit < length (update_octets wanted)))
    → (IsMemory write_error result → asks ≡ true) → Pushes limit asks Good result wanted open_list before after
good_pushes result good ok opens err kept session fits short memory = record {
  ok = ok;
  opens = opens;
  good = on_ok result good;
  err = err;
  kept = kept;
  session = session;
  malformed = (λ bad. absurd (fits bad), λ bad. absurd (bad good));
  short = (λ is. (good, short.0 is), λ past. short.1 past.1);
  memory = memory;
}

put_short : {Asks : Type 0} {Reaches : WrittenUpdate → Type 0} {s : SessionConfig} {w a n : List ℕ} {u : WrittenUpdate}
    (limit : Option ℕ) (t : SessionConfig) → Wanted Reaches s w a n u → t ≡ s
    → (Asks ↔ (least (longest s) limit < 23 + length w + length a + length n))
    → (Asks ↔ (least (longest t) limit < length (update_octets u)))
put_short {Asks = Asks} {s = s} limit t wanted same short =
    rw same (subst (λ k. Asks ↔ (least (longest s) limit < k)) (wanted_long wanted) short)

module _ {B : Type 0} {Reaches : WrittenUpdate → Type 0} {s : SessionConfig} {w a n : List ℕ} {u : WrittenUpdate}
    {limit : Option ℕ} {asks : Bool} {old new : PartOctets B} where
  pub pushes_ok : {Good : Type 0} {open_list other_list : Option MpList} {open_at : ℕ} {before after : Writing B}
      → PutsParts (least (longest s) limit) asks (Ok tt) w a n old new → Wanted Reaches s w a n u → Good
      → before.session ≡ s → after.session ≡ before.session → (held : HeldUpdate Reaches s new other_list open_at)
      → after.update ≡ held.0 → after.open_list ≡ open_list → Pushes limit asks Good (Ok tt) u open_list before after
  pushes_ok puts wanted good session same held update opens =
      good_pushes (Ok tt) good
      (update ∙ held_is held (put_held {open_list = None} {open_at = 0} puts (least_most (longest s) limit) wanted tt))
      opens tt tt same puts.fits (put_short limit _ wanted session puts.short) puts.memory

  pub pushes_err : {e : WriteError} {Good : Type 0} {wanted_list open_list : Option MpList} {open_at : ℕ}
      {before after : Writing B} → PutsParts (least (longest s) limit) asks (Err e) w a n old new
      → Wanted Reaches s w a n u
      → Good → before.session ≡ s → after.session ≡ before.session
      → (first : HeldUpdate Reaches s old open_list open_at)
      → before.update ≡ first.0 → (held : HeldUpdate Reaches s new open_list open_at) → after.update ≡ held.0
      → after.open_list ≡ before.open_list → Pushes limit asks Good (Err e) u wanted_list before after
  unfolding none_held
  pushes_err {e = e} puts wanted good session same first begun held update opens =
      good_pushes (Err e) good tt tt (update ∙ held_same held (none_held puts first) ∙ sym begun) opens same puts.fits
      (put_short limit _ wanted session puts.short) puts.memory

  pub pushes : (result : Result (Unit {0}) WriteError) {Good : Type 0} {open_list : Option MpList} {open_at : ℕ}
      {before after : Writing B} → PutsParts (least (longest s) limit) asks result w a n old new
      → Wanted Reaches s w a n u
      → Good → before.session ≡ s → after.session ≡ before.session
      → (first : HeldUpdate Reaches s old open_list open_at)
      → before.update ≡ first.0 → (held : HeldUpdate Reaches s new open_list open_at) → after.update ≡ held.0
      → after.open_list ≡ before.open_list → Pushes limit asks Good result u before.open_list before after
  pushes (Ok done) puts wanted good session same first begun held update opens =
      pushes_ok puts wanted good session same held update opens
  pushes (Err e) puts wanted good session same first begun held update opens =
      pushes_err puts wanted good session same first begun held update opens

-- a call of what is known to be good
pub pushes_good : {B : Type 0} {limit : Option ℕ} {asks : Bool} {Good : Type 0} {wanted : WrittenUpdate}
    {open_list : Option MpList} {before after : Writing B} (result : Result (Unit {0}) WriteError)
    → Pushes limit asks Good result wanted open_list before after → Good
    → Pushes limit asks (Unit {0}) result wanted open_list before after
pushes_good result pushed good =
    good_pushes result tt pushed.ok pushed.opens pushed.err pushed.kept pushed.session
    (λ bad. pushed.malformed.0 bad good) (λ short. (pushed.short.0 short).1, λ past. pushed.short.1 (good, past))
    pushed.memory

-- a call that pushed, and then opened a list
pub pushes_opened : {B : Type 0} {limit : Option ℕ} {asks : Bool} {Good Other : Type 0} {wanted : WrittenUpdate}
    {open_list other_list : Option MpList} {before between after : Writing B}
    → Pushes limit asks Good (Ok tt) wanted open_list before between → Other → after.update ≡ between.update
    → after.open_list ≡ other_list → after.session ≡ between.session
    → Pushes limit asks Other (Ok tt) wanted other_list before after
pushes_opened pushed good update opens session =
    good_pushes (Ok tt) good (update ∙ pushed.ok) opens tt tt (session ∙ pushed.session) (λ none. none)
    (λ none. absurd none, λ past. pushed.short.1 (pushed.good, past)) (λ none. absurd none)

-- a call that refused what doesn't fit
pub too_long : {B : Type 0} {limit : Option ℕ} {asks : Bool} {Good : Type 0} {wanted : WrittenUpdate}
    {open_list : Option MpList} {before after : Writing B} → Good
    → least (longest before.session) limit < length (update_octets wanted) → after.update ≡ before.update
    → after.open_list ≡ before.open_list → after.session ≡ before.session
    → Pushes limit asks Good (Err Short) wanted open_list before after
too_long good past update opens session =
    good_pushes (Err Short) good tt tt update opens session (λ none. none) (λ _. past, λ _. tt) (λ none. absurd none)
