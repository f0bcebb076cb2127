-- Messages that change: octets and targets are added, and what was there stays; or all from an offset on is removed.
use Rattle.std.proofs.Common.{tests, nat_lt, cond, slice_index_or, ◌≡◌, Bool, true, false, ℕ, ◌+◌, ◌<◌, ◌≤◌, Option}
use Rattle.std.proofs.Common.{List, [], ◌∷◌, ◌++◌, length, replicate, take, refl, sym, ap, ◌∙◌, subst, arith, Result}
use Rattle.std.proofs.Common.{ltb-false, length-take, take-take, take_all, All}
use Rattle.std.proofs.lemmas.List.{take-append-le}
use Rattle.std.proofs.lemmas.List.Elements.{All-cons, All-head, All-nil, All-tail, All-weaker}
use Rattle.std.specs.FinMap.{empty}
use Rattle.octseq.specs.Appends.{Appends}
use Rattle.octseq.specs.declared.AppendError.{AppendError}
use Rattle.octseq_dns_compress.proofs.Words.{IsApart, AreTargetsApart, before, NamesOf, MessageWithTargets}
use Rattle.octseq_dns_compress.proofs.Words.{message_once, state_of, IsSoundMessage}
use Rattle.octseq_dns_compress.proofs.Words.{Target}
use Rattle.octseq_dns_compress.proofs.Grown.{known_targets, none_known, IsAlike, alike_stays, known_alike, octet_stays}
use Rattle.octseq_dns_compress.proofs.Fields.{one_state}
use Rattle.octseq_dns_compress.proofs.Steps.{Grows, appended_grows, grown_length}

-- ---- targets before an offset

-- of two tests, the stronger one decides
before_twice : (near far : ℕ) → near ≤ far → (targets : List Target)
    → before near (before far targets) ≡ before near targets
before_twice near far less [] = refl
before_twice near far less (target ∷ targets) = grind (arith, tests, before_twice near far less targets)

-- what holds of the targets before an offset, and of all others, holds of all
all_by_before : (place : ℕ) (P : Target → Type 0) → ((t : Target) → place ≤ t.at → P t) → (targets : List Target)
    → All P (before place targets) → All P targets
all_by_before place P past [] each = All-nil P
all_by_before place P past (target ∷ targets) each =
    by_test (nat_lt target.at place) refl each (all_by_before place P past targets) where
      by_test : (reported : Bool) → nat_lt target.at place ≡ reported
          → All P (cond reported (target ∷ before place targets) (before place targets))
          → (All P (before place targets) → All P targets) → All P (target ∷ targets)
      by_test true is each more =
          All-cons P target targets (All-head P target (before place targets) each)
          (more (All-tail P target (before place targets) each))
      by_test false is each more =
          All-cons P target targets (past target (ltb-false target.at place is)) (more each)

-- all targets are before an offset
filtered : (place : ℕ) (targets : List Target) → All (λ t. t.at < place) targets → before place targets ≡ targets
filtered place [] each = refl
filtered place (target ∷ targets) each =
    let more = filtered place targets (All-tail (λ t. t.at < place) target targets each) in
    grind (arith, tests, more, All-head (λ t. t.at < place) target targets each)

-- as all are before the end
pub before_all : {octets : List ℕ} {targets : List Target} → NamesOf octets targets
    → before (length octets) targets ≡ targets
before_all {octets = octets} {targets = targets} known =
    filtered (length octets) targets (λ i d less.
    omega (arith, (known_targets octets targets known).whole i d less))

-- and no target is before offset 0
pub none_first : (targets : List Target) → before 0 targets ≡ []
none_first [] = refl
none_first (target ∷ targets) = grind (arith, tests, none_first targets)

-- ---- labels apart from the two octets before data

pub none_apart : (octets : List ℕ) (targets : List Target) → AreTargetsApart octets 0 targets
none_apart octets targets i d within near = absurd (omega (arith, near))

-- labels are still apart after octets and targets are added
kept_apart : (octets new : List ℕ) (held kept : List Target) (place : ℕ) → Grows octets new → place ≤ length octets
    → before (length octets) kept ≡ held → AreTargetsApart octets place held → AreTargetsApart new place kept
kept_apart octets new held kept place grows within same are =
    all_by_before (length octets) (IsApart new place) (λ t past near. absurd (omega (arith, past, near, within))) kept
    (subst (All (IsApart new place)) (sym same) (All-weaker (IsApart octets place) (IsApart new place) grown held are))
  where
    grown : (target : Target) → IsApart octets place target → IsApart new place target
    grown target apart near =
        let same = ap (λ o. slice_index_or o target.at 0) grows.1
        ∙ octet_stays octets grows.0 target.at (omega (arith, near, within)) in
        omega (arith, apart near, same)

-- whole labels are apart from two octets that are appended after them
pub data_apart : {octets new : List ℕ} {targets : List Target} (more : List ℕ) (place : ℕ) → NamesOf octets targets
    → new ≡ octets ++ more → place ≡ length octets + 2 → AreTargetsApart new place targets
data_apart {octets = octets} {new = new} {targets = targets} more place known grown end i d within near =
    let target = slice_index_or targets i d in
    let whole = (known_targets octets targets known).whole i d within in
    let same = ap (λ o. slice_index_or o target.at 0) grown
    ∙ octet_stays octets more target.at (omega (arith, whole)) in
    omega (arith, whole, same, end)

-- ---- messages

-- equal octets and targets have the same names
abbrev pub known_same : {old new : List ℕ} {held kept : List Target} → new ≡ old → kept ≡ held → NamesOf old held
    → NamesOf new kept
known_same same alike known = (known.0, rw (same, alike) known.1)

-- of equal octets, two messages with the same targets have the same state
pub state_is : {most : ℕ} {octets new : List ℕ} {held : List Target} (now made : MessageWithTargets most new held)
    → new ≡ octets → state_of now ≡ record { octets = octets; names = made.known.0 }
state_is {most = most} {new = new} {held = held} now made same =
    ap state_of (message_once most new held now made) ∙ one_state same refl

module _ {most : ℕ} {octets : List ℕ} {held : List Target} (was : MessageWithTargets most octets held) where
  abbrev pub message_same : {new : List ℕ} {kept : List Target} → new ≡ octets → kept ≡ held
      → MessageWithTargets most new kept
  message_same same alike = record {
    known = known_same same alike was.known;
    few = subst (λ t. length t ≤ most) (sym alike) was.few;
    headed = subst (λ o. 12 ≤ length o) (sym same) was.headed;
    short = subst (λ o. length o ≤ 65535) (sym same) was.short;
  }

  pub state_same : {new : List ℕ} {kept : List Target} (now : MessageWithTargets most new kept) → new ≡ octets
      → kept ≡ held → state_of now ≡ state_of was
  state_same now same alike = state_is now (message_same same alike) same

  -- the names stay if the labels do
  abbrev pub message_alike : (new : List ℕ) → length octets ≤ length new → length new ≤ 65535
      → All (λ t. IsAlike octets new t.at) held → MessageWithTargets most new held
  message_alike new longer short alike = record {
    known = known_alike octets new held longer alike was.known;
    few = was.few;
    headed = omega (arith, was.headed, longer);
    short = short;
  }

  -- as they do after more octets
  pub stay : {new : List ℕ} → Grows octets new → All (λ t. IsAlike octets new t.at) held
  stay grows i d within =
      let at = (slice_index_or held i d).at in
      subst (λ o. IsAlike octets o at) (sym grows.1)
      (alike_stays octets grows.0 at ((known_targets octets held was.known).whole i d within))

  abbrev pub message_grown : {new : List ℕ} → Grows octets new → length new ≤ 65535 → MessageWithTargets most new held
  message_grown {new = new} grows short = message_alike new (grown_length octets new grows) short (stay grows)

-- nothing but a header of zeros
abbrev none_there : {most : ℕ} {octets : List ℕ} {held : List Target} → held ≡ [] → length octets ≡ 12
    → MessageWithTargets most octets held
none_there {octets = octets} {held = held} none twelve =
    record {
      known = none_known octets held none;
      few = omega (arith, ap length none);
      headed = omega (arith, twelve);
      short = omega (arith, twelve);
    }

pub state_none : {most : ℕ} {octets : List ℕ} {held : List Target} → held ≡ [] → octets ≡ replicate 12 0
    → (now : MessageWithTargets most octets held) → state_of now ≡ record { octets = replicate 12 0; names = empty }
state_none none is now = state_is now (none_there none (ap length is)) is

-- ---- messages with an entry and data

pub sound_none : {most : ℕ} {octets : List ℕ} {held : List Target} → held ≡ [] → octets ≡ replicate 12 0
    → IsSoundMessage most octets held 12 0
sound_none {octets = octets} {held = held} none is =
    let long = ap length is in
    record {
      now = none_there none long;
      begun = none_there (ap (before 12) none) (ap (λ o. length (take 12 o)) is);
      within = omega (arith, long);
      data_within = omega arith;
      apart = none_apart octets held;
    }

module _ {most : ℕ} {octets : List ℕ} {held : List Target} {entry_start data_start : ℕ}
    (was : IsSoundMessage most octets held entry_start data_start) where
  -- data begins elsewhere
  pub sound_from : (place : ℕ) → place ≤ length octets → AreTargetsApart octets place held
      → IsSoundMessage most octets held entry_start place
  sound_from place within apart = record {
    now = was.now;
    begun = was.begun;
    within = was.within;
    data_within = within;
    apart = apart;
  }

  entry_stays : {new : List ℕ} → Grows octets new → take entry_start new ≡ take entry_start octets
  entry_stays grows = ap (take entry_start) grows.1 ∙ take-append-le entry_start octets grows.0 was.within

  held_stays : (kept : List Target) → before (length octets) kept ≡ held
      → before entry_start kept ≡ before entry_start held
  held_stays kept same =
      sym (before_twice entry_start (length octets) was.within kept) ∙ ap (before entry_start) same

  module _ {new : List ℕ} {kept : List Target} (grows : Grows octets new)
      (same : before (length octets) kept ≡ held) where
    -- octets and targets are added
    pub sound_grown : MessageWithTargets most new kept → IsSoundMessage most new kept entry_start data_start
    sound_grown now =
        let long = grown_length octets new grows in
        let data_within = was.data_within in
        record {
          now = now;
          begun = message_same was.begun (entry_stays grows) (held_stays kept same);
          within = omega (arith, was.within, long);
          data_within = omega (arith, data_within, long);
          apart = kept_apart octets new held kept data_start grows data_within same was.apart;
        }

    pub begun_grown : {place : ℕ} (is : IsSoundMessage most new kept entry_start place)
        → state_of is.begun ≡ state_of was.begun
    begun_grown is = state_same was.begun is.begun (entry_stays grows) (held_stays kept same)

  -- octets are appended
  pub sound_appended : {limit : Option ℕ} {asks : Bool} {more new : List ℕ} (result : Result (Unit {0}) AppendError)
      → Appends limit asks result more octets new → length new ≤ 65535
      → IsSoundMessage most new held entry_start data_start
  sound_appended result appends short =
      let grows = appended_grows result appends in
      sound_grown grows (before_all was.now.known) (message_grown was.now grows short)

  -- an entry begins at the end
  module _ (end : ℕ) (is : end ≡ length octets) where
    pub all_begun : take end octets ≡ octets
    all_begun = take_all end octets (omega (arith, is))

    pub all_held : before end held ≡ held
    all_held = ap (λ n. before n held) is ∙ before_all was.now.known

    pub sound_begun : IsSoundMessage most octets held end 0
    sound_begun = record {
      now = was.now;
      begun = message_same was.now all_begun all_held;
      within = omega (arith, is);
      data_within = omega arith;
      apart = none_apart octets held;
    }

  -- all from the entry on is removed
  pub still_begun : {new : List ℕ} → new ≡ take entry_start octets → take entry_start new ≡ take entry_start octets
  still_begun same = ap (take entry_start) same ∙ take-take entry_start entry_start octets (omega arith)

  pub still_held : {kept : List Target} → kept ≡ before entry_start held
      → before entry_start kept ≡ before entry_start held
  still_held alike = ap (before entry_start) alike ∙ before_twice entry_start entry_start (omega arith) held

  pub sound_cut : {new : List ℕ} {kept : List Target} → new ≡ take entry_start octets → kept ≡ before entry_start held
      → IsSoundMessage most new kept entry_start 0
  sound_cut {new = new} {kept = kept} same alike = record {
    now = message_same was.begun same alike;
    begun = message_same was.begun (still_begun same) (still_held alike);
    within = omega (arith, ap length same ∙ length-take entry_start octets, was.within);
    data_within = omega arith;
    apart = none_apart new kept;
  }
