-- Appending a name to a message, whose targets are those of names; and what calls do to a composed message.
use Rattle.std.proofs.Common.{slice_index_or, ◌↔◌, ◌≡◌, Bool, ℕ, ◌+◌, ◌-◌, ◌<◌, ◌≤◌, Option, Some, List, [], ◌∷◌, ◌++◌}
use Rattle.std.proofs.Common.{length, take, Ok, Err, refl, sym, ap, ◌∙◌, subst, arith, is_some, length-append}
use Rattle.std.proofs.Common.{true≢false, nat_cmp, true, append-nil, Result, OnOk, OnErr}
use Rattle.std.proofs.Math.Logic.{∥∥₁_map, ∥∥₁_elim}
use Rattle.std.proofs.Math.Seq.{take-append_seam}
use Rattle.std.specs.Cmp.Lexicographic.{slice_cmp}
use Rattle.std.specs.Coded.{Coded-set, coded_list, coded_ℕ}
use Rattle.std.specs.FinMap.{get}
use Rattle.octseq.specs.Appends.{Appends}
use Rattle.octseq.specs.Limit.{ExceedsLimit, IsWithin}
use Rattle.octseq.specs.Refusal.{IsShort, append_error, IsMemory}
use Rattle.octseq.specs.declared.AppendError.{AppendError}
use Rattle.octseq_dns_compress.proofs.Words.{
  TableMatches,
  before,
  Composed,
  Composes,
  IsSuffixMatch,
  key,
  IsWholeLabel,
  key_cmp,
}
use Rattle.octseq_dns_compress.proofs.Words.{AreTargets, IsPosition, AppendsName, Names, Place, ended, labels_wire}
use Rattle.octseq_dns_compress.proofs.Words.{name_octets, label_no, names_with, prefixed, MessageWithTargets, state_of}
use Rattle.octseq_dns_compress.proofs.Words.{composed_of, message_once, with_name, State, Field, with_octets}
use Rattle.octseq_dns_compress.proofs.Words.{with_fields, IsSoundMessage}
use Rattle.octseq_dns_compress.proofs.Words.{AreLabelsWritten, SuffixMatch, Target}
use Rattle.octseq_dns_compress.proofs.Fields.{one_state, fields_grow}
use Rattle.octseq_dns_compress.proofs.Grown.{agrees_grown, key_stays}
use Rattle.octseq_dns_compress.proofs.Messages.{before_all, begun_grown, message_grown, message_same, state_is}
use Rattle.std.proofs.lemmas.Result.{on_err_weaker, on_ok_weaker}
use Rattle.octseq_dns_compress.proofs.Steps.{Grows, appended_grows, grown_length}
use Rattle.octseq.proofs.Limits.{past_more}

-- ---- the names after it is written

position_stays : (octets more : List ℕ) (targets : List Target) → AreTargets octets targets → (key : List ℕ)
    (position : ℕ) → IsPosition octets targets key position → IsPosition (octets ++ more) targets key position
position_stays octets more targets are key position is = record {
  within = is.within;
  before = λ k d less.
      same (slice_index_or targets k d) (are.whole k d (omega (arith, less, is.within))) ∙ is.before k d less;
  after = λ k d from inside reported.
      is.after k d from inside (sym (same (slice_index_or targets k d) (are.whole k d inside)) ∙ reported);
} where
  same : (t : Target) → IsWholeLabel octets t.at → key_cmp (octets ++ more) t key ≡ key_cmp octets t key
  same t whole = ap (λ k. slice_cmp nat_cmp k key) (key_stays octets more t whole)

ending_stays : (octets more : List ℕ) (targets : List Target) (names : Names) → TableMatches octets targets names
    → (labels : List (List ℕ)) (end : SuffixMatch) → IsSuffixMatch octets targets names labels end
    → IsSuffixMatch (octets ++ more) targets names labels end
ending_stays octets more targets names agrees labels end is = record {
  first = is.first;
  last = is.last;
  ends = is.ends;
  new = is.new;
  position = λ some. position_stays octets more targets agrees.targets_are
      (key end.next (prefixed (label_no labels (end.written - 1)))) end.position (is.position some);
}

-- the names that were there are before what is written
after_names : (octets : List ℕ) (targets : List Target) (names : Names) → TableMatches octets targets names
    → (labels : List (List ℕ)) (place : Place) → get names labels ≡ Some place → place.at < length octets
after_names octets targets names agrees [] place found = absurd (true≢false (ap is_some (sym found ∙ agrees.root)))
after_names octets targets names agrees (label ∷ labels) place found =
    omega (arith, (agrees.all label labels place found).whole)

-- so the labels are after them
pub is_written : (octets : List ℕ) (targets : List Target) (names : Names) → TableMatches octets targets names
    → (labels : List (List ℕ)) (written start : ℕ) (back : List ℕ) → start ≡ length octets → 12 ≤ length octets
    → AreLabelsWritten (octets ++ (labels_wire (take written labels) ++ back)) names start labels written
is_written octets targets names agrees labels written start back begin header = record {
  front = octets;
  back = back;
  octets_are = refl;
  start_is = begin;
  after_header = omega (arith, begin, header);
  after_names = λ others place found.
      omega (arith, after_names octets targets names agrees others place found, begin);
}

-- ---- appending a name

module _ {most : ℕ} {octets : List ℕ} {held : List Target} (old : MessageWithTargets most octets held)
    (labels : List (List ℕ)) (end : SuffixMatch)
    (is : (names : Names) → TableMatches octets held names → IsSuffixMatch octets held names labels end) where
  -- the octets of the name
  octets_known : labels_wire (take end.written labels) ++ ended end.next ≡ name_octets old.known.0 labels
  octets_known =
      ∥∥₁_elim old.known.1 (Coded-set (coded_list coded_ℕ) (labels_wire (take end.written labels) ++ ended end.next)
      (name_octets old.known.0 labels)) (λ agrees.
      let ends = is old.known.0 agrees in rw (ends.first, ends.ends.next_is, ends.last))

  size : length octets + length (labels_wire (take end.written labels) ++ ended end.next)
      ≡ length (with_name most (state_of old) labels).octets
  size = ap (λ o. length octets + length o) octets_known ∙ sym (length-append octets (name_octets old.known.0 labels))

  still_held : {start : ℕ} → start ≡ length octets → (kept : List Target) → before start kept ≡ before start held
      → before (length octets) kept ≡ held
  still_held begin kept same = rw (← begin, same, begin) (before_all old.known)

  -- it is refused
  pub name_refused : {limit : Option ℕ} {asks : Bool} {new : List ℕ} (e : AppendError)
      → Appends limit asks (Err e) (labels_wire (take end.written labels) ++ ended end.next) octets new
      → AppendsName limit (Err e) labels old new held
  name_refused {limit = limit} e appends = record {
    now = message_same old appends.err refl;
    ok = tt;
    err = one_state appends.err refl;
    held_before = before_all old.known;
    within = tt;
    short = subst (λ n. IsShort {T = Unit {0}} append_error (Err e) ↔ ExceedsLimit limit n) size appends.short;
  }

  module _ {limit : Option ℕ} {asks : Bool} {new : List ℕ} (u : Unit {0})
      (appends : Appends limit asks (Ok u) (labels_wire (take end.written labels) ++ ended end.next) octets new)
      (start : ℕ) (begin : start ≡ length octets) (kept : List Target)
      (same : before start kept ≡ before start held) where
    -- it is written, and its labels are kept
    pub name_appended : ((octets : List ℕ) (names : Names) → TableMatches octets held names
        → IsSuffixMatch octets held names labels end → AreLabelsWritten octets names start labels end.written
        → TableMatches octets kept (names_with most names start labels))
        → length kept ≤ most → length new ≤ 65535 → IsWithin limit (length new)
        → AppendsName limit (Ok u) labels old new kept
    name_appended keeps few short within = record {
      now = record {
        known = (names_with most old.known.0 start labels, ∥∥₁_map old.known.1 to);
        few = few;
        headed = omega (arith, old.headed, grown_length octets new (_, appends.ok));
        short = short;
      };
      ok = one_state (appends.ok ∙ ap (λ o. octets ++ o) octets_known)
          (ap (λ n. names_with most old.known.0 n labels) begin);
      err = tt;
      held_before = still_held begin kept same;
      within = within;
      short = subst (λ n. IsShort {T = Unit {0}} append_error (Ok u) ↔ ExceedsLimit limit n) size appends.short;
    } where
      to : TableMatches octets held old.known.0 → TableMatches new kept (names_with most old.known.0 start labels)
      to agrees =
          let more = labels_wire (take end.written labels) ++ ended end.next in
          rw appends.ok (keeps (octets ++ more) old.known.0 (agrees_grown octets more held old.known.0 agrees)
          (ending_stays octets more held old.known.0 agrees labels end (is old.known.0 agrees))
          (is_written octets held old.known.0 agrees labels end.written start (ended end.next) begin old.headed))

    -- it is written, and is removed as memory is refused
    pub name_taken_back : (undone : List ℕ) (left : List Target) → undone ≡ take start new → left ≡ before start kept
        → AppendsName limit (Err AppendError.Memory) labels old undone left
    name_taken_back undone left undone_is left_is =
        let more = labels_wire (take end.written labels) ++ ended end.next in
        let back = undone_is ∙ rw (begin, appends.ok) (take-append_seam octets more) in
        let alike = left_is ∙ ap (λ n. before n kept) begin ∙ still_held begin kept same in
        record {
          now = message_same old back alike;
          ok = tt;
          err = one_state back refl;
          held_before = ap (before (length octets)) alike ∙ before_all old.known;
          within = tt;
          short = subst (λ n. IsShort {T = Unit {0}} append_error (Ok u) ↔ ExceedsLimit limit n) size appends.short;
        }

-- ---- what calls do, by their results

on_ok_both : {P Q S : Type 0} (result : Result (Unit {0}) AppendError) → (P → Q → S) → OnOk result P → OnOk result Q
    → OnOk result S
on_ok_both (Ok u) both one other = both one other
on_ok_both (Err e) both one other = tt

-- ---- octets are appended

module _ {limit : Option ℕ} {asks : Bool} {most : ℕ} {octets more new : List ℕ} {held : List Target}
    {entry_start data_start : ℕ} (was : IsSoundMessage most octets held entry_start data_start)
    (result : Result (Unit {0}) AppendError) (appends : Appends limit asks result more octets new) where
  abbrev grows : Grows octets new
  grows = appended_grows result appends

  pub ok_appended : (now : MessageWithTargets most new held)
      → OnOk result (state_of now ≡ with_octets (state_of was.now) more)
  ok_appended now = on_ok_weaker result (state_is now (message_grown was.now grows now.short)) appends.ok

  pub err_appended : (now : MessageWithTargets most new held) → OnErr result (state_of now ≡ state_of was.now)
  err_appended now = on_err_weaker result (state_is now (message_grown was.now grows now.short)) appends.err

  pub begun_appended : {place : ℕ} (is : IsSoundMessage most new held entry_start place)
      → state_of is.begun ≡ state_of was.begun
  begun_appended is = begun_grown was grows (before_all was.now.known) is

  pub composes_appended : {B T : Type 0} {b c : B} {t u : T} (is : IsSoundMessage most new held entry_start data_start)
      → OnOk result (IsWithin limit (length new))
      → Composes limit (asks ≡ true) result (with_octets (state_of was.now) more) (composed_of b t was)
      (composed_of c u is)
  composes_appended is within = record {
    ok = ok_appended is.now;
    within = on_ok_both result (subst (λ o. IsWithin limit (length o))) appends.ok within;
    short = λ short. subst (ExceedsLimit limit) (sym (length-append octets more)) (appends.short.0 short);
    memory = appends.memory;
    begun = begun_appended is;
    data_start = refl;
  }

-- ---- a name is appended

module _ {limit : Option ℕ} {most : ℕ} {labels : List (List ℕ)} {octets new : List ℕ} {held kept : List Target}
    {entry_start data_start : ℕ} (was : IsSoundMessage most octets held entry_start data_start)
    (result : Result (Unit {0}) AppendError) (named : AppendsName limit result labels was.now new kept) where
  -- the octets that were there stay in front
  pub named_grows : Grows octets new
  named_grows = by result named.ok named.err where
    by : (result : Result (Unit {0}) AppendError)
        → OnOk result (state_of named.now ≡ with_name most (state_of was.now) labels)
        → OnErr result (state_of named.now ≡ state_of was.now) → Grows octets new
    by (Ok u) ok err = (name_octets was.now.known.0 labels, ap (λ s. s.octets) ok)
    by (Err e) ok err = ([], ap (λ s. s.octets) err ∙ sym (append-nil octets))

  module _ (is : IsSoundMessage most new kept entry_start data_start) where
    same : state_of is.now ≡ state_of named.now
    same = ap state_of (message_once most new kept is.now named.now)

    pub err_named : OnErr result (state_of is.now ≡ state_of was.now)
    err_named = on_err_weaker result (λ err. same ∙ err) named.err

    pub composes_named : {B T Asks : Type 0} {b c : B} {t u : T} → (IsMemory append_error result → Asks)
        → Composes limit Asks result (with_name most (state_of was.now) labels) (composed_of b t was)
        (composed_of c u is)
    composes_named memory = record {
      ok = on_ok_weaker result (λ ok. same ∙ ok) named.ok;
      within = on_ok_both result (λ ok. subst (λ s. IsWithin limit (length s.octets)) ok) named.ok named.within;
      short = named.short.0;
      memory = memory;
      begun = begun_grown was named_grows named.held_before is;
      data_start = refl;
    }

-- ---- one call after another

-- what exceeds a limit exceeds it with more fields
past_fields : (limit : Option ℕ) (most : ℕ) (s : State) (fields : List Field) → ExceedsLimit limit (length s.octets)
    → ExceedsLimit limit (length (with_fields most s fields).octets)
past_fields limit most s fields past =
    past_more limit (length s.octets) (length (with_fields most s fields).octets)
    (grown_length s.octets (with_fields most s fields).octets (fields_grow most s fields)) past

module _ {B T : Type 0} (limit : Option ℕ) where
  -- the same, with more reasons for a refusal of memory
  pub composes_or : {Asks More : Type 0} (result : Result (Unit {0}) AppendError) (wanted : State) (old new : Composed
      B T)
      → (Asks → More) → Composes limit Asks result wanted old new → Composes limit More result wanted old new
  composes_or result wanted old new wider composes = record {
    ok = composes.ok;
    within = composes.within;
    short = composes.short;
    memory = λ refused. wider (composes.memory refused);
    begun = composes.begun;
    data_start = composes.data_start;
  }

  -- ---- one field after another

  -- a refused call, followed by others
  pub composes_refused : {Asks : Type 0} (most : ℕ) (e : AppendError) (wanted : State) (fields : List Field)
      (old new : Composed B T) → Composes limit Asks (Err e) wanted old new
      → Composes limit Asks (Err e) (with_fields most wanted fields) old new
  composes_refused most e wanted fields old new composes = record {
    ok = tt;
    within = tt;
    short = λ short. past_fields limit most wanted fields (composes.short short);
    memory = composes.memory;
    begun = composes.begun;
    data_start = composes.data_start;
  }

  -- a successful call, followed by others
  pub composes_then : {Asks : Type 0} (most : ℕ) (u : Unit {0}) (result : Result (Unit {0}) AppendError) (wanted :
      State)
      (fields : List Field) (old then new : Composed B T) → Composes limit Asks (Ok u) wanted old then
      → Composes limit Asks result (with_fields most then.state fields) then new
      → Composes limit Asks result (with_fields most wanted fields) old new
  composes_then {Asks} most u result wanted fields old then new first second =
      let both = subst (λ s. Composes limit Asks result (with_fields most s fields) then new) first.ok second in
      record {
        ok = both.ok;
        within = both.within;
        short = both.short;
        memory = both.memory;
        begun = both.begun ∙ first.begun;
        data_start = both.data_start ∙ first.data_start;
      }
