-- Targets in a message some of whose octets are overwritten: labels before and after them stay.
use Rattle.std.proofs.Common.{slice_index_or, nat_lt, ltb-false, ltb-true, Bool, true, false, refl, ◌≡◌, ℕ, ◌+◌, ◌-◌}
use Rattle.std.proofs.Common.{◌≤◌, ◌⊎◌, inl, inr, List, ◌++◌, length, take, drop, ap, ◌∙◌, sym, arith, append_assoc}
use Rattle.std.proofs.Common.{length-append, length-drop, get_or-drop, length-take, take-append-drop, take-take, All}
use Rattle.std.proofs.Math.Seq.{take-append-add}
use Rattle.std.proofs.lemmas.List.{take-append-le, drop-take}
use Rattle.std.proofs.lemmas.Slice.{drop-append-drop}
use Rattle.std.proofs.Math.Logic.{∥∥₁_elim}
use Rattle.std.specs.Coded.{le_prop}
use Rattle.octseq_dns_compress.proofs.Words.{before, Composed, label_at, IsWholeLabel, Target, MessageWithTargets}
use Rattle.octseq_dns_compress.proofs.Words.{composed_of, state_of, with_header, IsSoundMessage}
use Rattle.octseq_dns_compress.proofs.Grown.{IsAlike, alike_stays, octet_stays}
use Rattle.octseq_dns_compress.proofs.Messages.{message_alike, message_same, none_apart, sound_from, state_is}

-- octets, overwritten from an offset on
abbrev pub put_over : List ℕ → ℕ → List ℕ → List ℕ
put_over octets at put = take at octets ++ (put ++ drop (at + length put) octets)

-- a label is before what is overwritten, or after it
abbrev pub IsClear : List ℕ → ℕ → ℕ → ℕ → Type 0
IsClear octets from to at = (at + (1 + slice_index_or octets at 0) ≤ from) ⊎ (to ≤ at)

-- with the same back
alike_back : (old new : List ℕ) (at : ℕ) → drop at new ≡ drop at old → IsAlike old new at
unfolding label_at
alike_back old new at same =
    let here : (octets : List ℕ) → slice_index_or octets at 0 ≡ slice_index_or (drop at octets) 0 0 =
    λ octets. sym (get_or-drop at octets 0 0 ∙ ap (λ n. slice_index_or octets n 0) (omega arith)) in
    let first = here new ∙ ap (λ octets. slice_index_or octets 0 0) same ∙ sym (here old) in
    (first, ap (λ n. take (1 + n) (drop at new)) first ∙ ap (take (1 + slice_index_or old at 0)) same)

module _ (octets put : List ℕ) (at : ℕ) (room : at + length put ≤ length octets) where
  over_length : length (put_over octets at put) ≡ length octets
  over_length =
      let back = length-drop (at + length put) octets in
      let outer = length-append (take at octets) (put ++ drop (at + length put) octets) in
      omega (arith, room, length-take at octets, back, outer, length-append put (drop (at + length put) octets))

  -- after what is overwritten
  over_drop : (n : ℕ) → at + length put ≤ n → drop n (put_over octets at put) ≡ drop n octets
  over_drop n past =
      let front = length-take at octets in
      let both = length-append (take at octets) put in
      ap (drop n) (sym (append_assoc (take at octets) put (drop (at + length put) octets)))
      ∙ drop-append-drop (at + length put) octets (take at octets ++ put) n past (omega (arith, room, front, both))

  -- a label that is clear of it stays
  over_alike : (place : ℕ) → IsClear octets at (at + length put) place
      → IsAlike octets (put_over octets at put) place
  over_alike place (inl before) =
      let first = take at octets in
      let front = length-take at octets in
      let apart : first ++ drop at octets ≡ octets = take-append-drop at octets in
      let octet = ap (λ o. slice_index_or o place 0) (sym apart)
      ∙ octet_stays first (drop at octets) place (omega (arith, before, front, room)) in
      let whole : IsWholeLabel first place = omega (arith, before, front, room, octet) in
      let old = rw apart at (alike_stays first (drop at octets) place whole) in
      let new = alike_stays first (put ++ drop (at + length put) octets) place whole in
      (new.0 ∙ sym old.0, new.1 ∙ sym old.1)
  over_alike place (inr after) = alike_back octets (put_over octets at put) place (over_drop place after)

-- a message some of whose octets are overwritten, clear of the labels
module _ {most : ℕ} {octets new : List ℕ} {held : List Target} (was : MessageWithTargets most octets held) (at : ℕ)
    (put : List ℕ) (room : at + length put ≤ length octets) (new_is : new ≡ put_over octets at put)
    (clear : All (λ t. IsClear octets at (at + length put) t.at) held) where
  over_long : length new ≡ length octets
  over_long = ap length new_is ∙ over_length octets put at room

  stay_alike : All (λ t. IsAlike octets new t.at) held
  stay_alike i d within =
      let place = (slice_index_or held i d).at in
      rw new_is (over_alike octets put at room place (clear i d within))

  abbrev message_over : MessageWithTargets most new held
  message_over =
      let long = over_long in
      message_alike was new (omega (arith, long)) (omega (arith, long, was.short)) stay_alike

  -- and so is what holds of it with an entry and data, if the part before the entry still is a message
  sound_over : {entry_start data_start : ℕ} → IsSoundMessage most octets held entry_start data_start
      → MessageWithTargets most (take entry_start new) (before entry_start held)
      → IsSoundMessage most new held entry_start data_start
  sound_over sound begun =
      let long = over_long in
      let within = sound.within in
      record {
        now = message_over;
        begun = begun;
        within = omega (arith, long, within);
        data_within = omega (arith, long, sound.data_within);
        apart = λ i d within near.
            omega (arith, sound.apart i d within near, (stay_alike i d within).0);
      }

-- ---- a header

-- octets before an offset, with the header overwritten
take_headed : (octets header : List ℕ) (start : ℕ) → length header ≤ start
    → take start (put_over octets 0 header) ≡ put_over (take start octets) 0 header
take_headed octets header start late =
    let n = length header in
    let more = start - n in
    let zero : 0 + n ≡ n = omega arith in
    let both : start ≡ n + more = omega (arith, late) in
    rw (zero, both, take-append-add header (drop n octets) more, drop-take n more octets)

module _ {most : ℕ} {octets new : List ℕ} {held : List Target} (was : MessageWithTargets most octets held)
    (header : List ℕ) (twelve : length header ≡ 12) (new_is : new ≡ put_over octets 0 header) where
  room : 0 + length header ≤ length octets
  room = omega (arith, was.headed, twelve)

  -- every label is after the header
  clear : All (λ t. IsClear octets 0 (0 + length header) t.at) held
  clear i d within =
      let after : 12 ≤ (slice_index_or held i d).at =
      ∥∥₁_elim was.known.1 le_prop (λ agrees.
      let is = agrees.held i d within in
      omega (arith, (agrees.all is.label is.rest is.place is.there).after_header, ap (λ t. t.at) is.target_is)) in
      inr (omega (arith, after, twelve))

  abbrev message_headed : MessageWithTargets most new held
  message_headed = message_over was 0 header room new_is clear

  pub state_headed : (now : MessageWithTargets most new held) → state_of now ≡ with_header (state_of was) header
  state_headed now =
      let end : 0 + length header ≡ 12 = omega (arith, twelve) in
      state_is now message_headed (new_is ∙ ap (λ n. header ++ drop n octets) end)

module _ {most : ℕ} {octets new : List ℕ} {held : List Target} {entry_start data_start : ℕ}
    (was : IsSoundMessage most octets held entry_start data_start) (header : List ℕ) (twelve : length header ≡ 12)
    (new_is : new ≡ put_over octets 0 header) where
  pub begun_headed : take entry_start new ≡ put_over (take entry_start octets) 0 header
  begun_headed =
      let headed = was.begun.headed in
      let long = length-take entry_start octets in
      ap (take entry_start) new_is ∙ take_headed octets header entry_start (omega (arith, twelve, headed, long))

  pub sound_headed : IsSoundMessage most new held entry_start data_start
  sound_headed =
      sound_over was.now 0 header (room was.now header twelve new_is) new_is (clear was.now header twelve new_is) was
      (message_headed was.begun header twelve begun_headed)

-- ---- the length of data

-- data begins after its length, which is after where the entry begins
pub count_late : {B T : Type 0} {b : B} {t : T} {view : Composed B T} {most : ℕ} {octets : List ℕ}
    {held : List Target} {entry_start data_start : ℕ} (was : IsSoundMessage most octets held entry_start data_start)
    → composed_of b t was ≡ view
    → length view.begun.octets + 2 ≤ view.data_start → entry_start + 2 ≤ data_start
count_late {octets = octets} {entry_start = entry_start} was is late =
    let begun = ap (λ v. length v.begun.octets) is in
    omega (arith, late, begun, ap (λ v. v.data_start) is, length-take entry_start octets, was.within)

-- octets before those that are overwritten
take_before : (octets put : List ℕ) (at start : ℕ) → start ≤ at → at ≤ length octets
    → take start (put_over octets at put) ≡ take start octets
take_before octets put at start late within =
    let front = length-take at octets in
    take-append-le start (take at octets) (put ++ drop (at + length put) octets) (omega (arith, late, within, front))
    ∙ take-take start at octets late

module _ {most : ℕ} {octets new : List ℕ} {held : List Target} {entry_start data_start : ℕ}
    (was : IsSoundMessage most octets held entry_start data_start) (count : List ℕ) (two : length count ≡ 2)
    (late : entry_start + 2 ≤ data_start) (new_is : new ≡ put_over octets (data_start - 2) count) where
  count_room : data_start - 2 + length count ≤ length octets
  count_room = omega (arith, was.data_within, late, two)

  -- labels are apart from it
  count_clear : All (λ t. IsClear octets (data_start - 2) (data_start - 2 + length count) t.at) held
  count_clear i d within = by_test (nat_lt (slice_index_or held i d).at data_start) refl where
    by_test : (reported : Bool) → nat_lt (slice_index_or held i d).at data_start ≡ reported
        → IsClear octets (data_start - 2) (data_start - 2 + length count) (slice_index_or held i d).at
    by_test true is =
        inl (omega (arith, was.apart i d within (ltb-true (slice_index_or held i d).at data_start is)))
    by_test false is =
        let past = ltb-false (slice_index_or held i d).at data_start is in inr (omega (arith, past, two, late))

  pub count_names : (now : MessageWithTargets most new held) → now.known.0 ≡ was.now.known.0
  count_names now = ap (λ s. s.names)
      (state_is now (message_over was.now (data_start - 2) count count_room new_is count_clear) refl)

  pub count_begun : take entry_start new ≡ take entry_start octets
  count_begun =
      ap (take entry_start) new_is
      ∙ take_before octets count (data_start - 2) entry_start (omega (arith, late)) (omega (arith, was.data_within))

  pub sound_counted : IsSoundMessage most new held entry_start 0
  sound_counted =
      sound_from (sound_over was.now (data_start - 2) count count_room new_is count_clear was
      (message_same was.begun count_begun refl)) 0 (omega arith) (none_apart new held)
