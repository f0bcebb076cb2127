-- Pushing lists of entries to a message, each one for an entry that was read.
use Rattle.std.proofs.Common.{◌≡◌, ℕ, ◌+◌, ◌*◌, ◌≤◌, Option, List, [], ◌∷◌, length, refl, sym, ap, ◌∙◌, subst}
use Rattle.std.proofs.Common.{arith}
use Rattle.std.proofs.lemmas.List.Sums.{sum_by-cons}
use Rattle.std.specs.List.{AllZip, sum_by}
use Rattle.octseq.specs.Limit.{ExceedsLimit}
use Rattle.octseq_dns_compress.specs.State.{State, Entry, with_entry}
use Rattle.octseq_dns_compress.proofs.Fields.{entry_grows, headed_length}
use Rattle.octseq_dns_compress.proofs.Steps.{grown_length}
use Rattle.octseq_dns_message.specs.declared.header.Header.{Header}
use Rattle.octseq_dns_message.specs.declared.header.HeaderCounts.{HeaderCounts}
use Rattle.octseq_dns.specs.Contents.{Message, composed, message_octets, counts_of, header_octets}
use Rattle.octseq_dns.specs.Writes.{SectionTakes, ComposesMessage, all_more}
use Rattle.octseq_dns.proofs.HeaderRead.{header_length}
use Rattle.octseq_dns.proofs.Pushed.{composed_more, twelve_first}
use Rattle.octseq.proofs.Limits.{past_more}

-- Some of the entries that were read are left. The message so far becomes the whole one when what is written for those
-- that are left is pushed. `turns` are among those that the whole may take, and each label took a turn or an octet.
pub record Ahead {A I : Type 0} (Of : I → A → Type 0) (labels : A → ℕ) (more : Message → A → Message) (most : ℕ)
    (m : Message) (written : List A) (left : List I) (state : State) (header : Header) (counts : HeaderCounts)
    (turns from first : ℕ) : Type 0 where
  pub now : Message
  pub rest : List A
  pub writes : ComposesMessage most now state header counts
  pub are : AllZip Of left rest
  pub same : all_more more m written ≡ all_more more now rest
  pub turned : turns + 17 * sum_by labels rest ≤ from + 17 * sum_by labels written
  pub took : from + sum_by labels written + first ≤ turns + sum_by labels rest + length state.octets

module _ {A : Type 0} {entry : A → Entry} {FitsOne : A → Type 0} {Reaches : HeaderCounts → Type 0}
    {count : HeaderCounts → ℕ} {counted : HeaderCounts → ℕ → HeaderCounts} {more : Message → A → Message} (most : ℕ)
    (takes : SectionTakes A entry FitsOne Reaches count counted more) where
  -- a message with one more entry has its octets and those of the entry
  pushed_length : (m : Message) (one : A) → Reaches (counts_of m)
      → length (message_octets most (more m one)) ≡ length (with_entry most (composed most m) (entry one)).octets
  pushed_length m one reaches =
      let s = composed most m in
      let then = with_entry most s (entry one) in
      let late = twelve_first most m in
      let longer = grown_length s.octets then.octets (entry_grows most s (entry one)) in
      let counts = counts_of (more m one) in
      ap (λ s. length s.octets) (composed_more takes most m one reaches)
      ∙ headed_length (header_octets m.header counts) (header_length m.header counts) then (omega (arith, late, longer))

  -- so it doesn't have fewer octets with more entries
  pub all_longer : (m : Message) (rest : List A) → Reaches (counts_of m)
      → length (message_octets most m) ≤ length (message_octets most (all_more more m rest))
  all_longer m [] reaches = omega arith
  all_longer m (one ∷ rest) reaches =
      let s = composed most m in
      let here = pushed_length m one reaches in
      let longer = grown_length s.octets (with_entry most s (entry one)).octets (entry_grows most s (entry one)) in
      let there = subst Reaches (sym (takes.counts m one))
      (takes.reaches (counts_of m) (count (counts_of m) + 1) reaches) in
      let more_long = all_longer (more m one) rest there in
      omega (arith, here, longer, more_long)

module _ {A I : Type 0} {Of : I → A → Type 0} {labels : A → ℕ} {more : Message → A → Message} (most : ℕ) where
  -- at first, all are left
  pub ahead_first : (m : Message) (written : List A) (left : List I) (state : State) (header : Header)
      (counts : HeaderCounts) (from : ℕ) → ComposesMessage most m state header counts → AllZip Of left written
      → Ahead Of labels more most m written left state header counts from from (length state.octets)
  ahead_first m written left state header counts from is are = record {
    now = m;
    rest = written;
    writes = is;
    are = are;
    same = refl;
    turned = omega arith;
    took = omega arith;
  }

  -- at last, none is left
  pub ahead_none : (m : Message) (written : List A) (state : State) (header : Header) (counts : HeaderCounts)
      (turns from first : ℕ) → Ahead {I = I} Of labels more most m written [] state header counts turns from first
      → ComposesMessage most (all_more more m written) state header counts × (turns ≤ from + 17 * sum_by labels written)
      × (from + sum_by labels written + first ≤ turns + length state.octets)
  ahead_none m written state header counts turns from first ahead =
      by_rest ahead.rest ahead.are ahead.same ahead.turned ahead.took where
        by_rest : (rest : List A) → AllZip Of [] rest → all_more more m written ≡ all_more more ahead.now rest
            → turns + 17 * sum_by labels rest ≤ from + 17 * sum_by labels written
            → from + sum_by labels written + first ≤ turns + sum_by labels rest + length state.octets
            → ComposesMessage most (all_more more m written) state header counts
            × (turns ≤ from + 17 * sum_by labels written)
            × (from + sum_by labels written + first ≤ turns + length state.octets)
        by_rest [] are same turned took = (
          subst (λ m. ComposesMessage most m state header counts) (sym same) ahead.writes,
          omega (arith, turned),
          omega (arith, took),
        )
        by_rest (one ∷ rest) are same turned took = absurd are

  module _ (m : Message) (written : List A) (i : I) (left : List I) (state : State) (header : Header)
      (counts : HeaderCounts) (turns from first : ℕ)
      (ahead : Ahead Of labels more most m written (i ∷ left) state header counts turns from first) (one : A)
      (only : (other : A) → Of i other → other ≡ one) where
    -- one of them is pushed
    pub ahead_next : (next : State) (another : Header) (now : HeaderCounts) (took : ℕ)
        → ((m : Message) → ComposesMessage most m state header counts
        → ComposesMessage most (more m one) next another now)
        → took ≤ turns + 17 * labels one → turns + labels one + length state.octets ≤ took + length next.octets
        → Ahead Of labels more most m written left next another now took from first
    ahead_next next another now took pushed few many =
        by_rest ahead.rest ahead.are ahead.same ahead.turned ahead.took where
          by_rest : (rest : List A) → AllZip Of (i ∷ left) rest
              → all_more more m written ≡ all_more more ahead.now rest
              → turns + 17 * sum_by labels rest ≤ from + 17 * sum_by labels written
              → from + sum_by labels written + first ≤ turns + sum_by labels rest + length state.octets
              → Ahead Of labels more most m written left next another now took from first
          by_rest [] are same turned all = absurd are
          by_rest (other ∷ rest) are same turned all =
              let is = only other are.0 in
              let labels_are = ap labels is in
              let sum_is = sum_by-cons labels other rest in
              record {
                now = more ahead.now one;
                rest = rest;
                writes = pushed ahead.now ahead.writes;
                are = are.1;
                same = same ∙ ap (λ one. all_more more (more ahead.now one) rest) is;
                turned = omega (arith, turned, few, labels_are, sum_is);
                took = omega (arith, all, many, labels_are, sum_is);
              }

    -- or it is refused, after some turns
    pub ahead_turns : (took : ℕ) → took ≤ turns + 17 * labels one → took ≤ from + 17 * sum_by labels written
    ahead_turns took few = by_rest ahead.rest ahead.are ahead.turned where
      by_rest : (rest : List A) → AllZip Of (i ∷ left) rest
          → turns + 17 * sum_by labels rest ≤ from + 17 * sum_by labels written
          → took ≤ from + 17 * sum_by labels written
      by_rest [] are turned = absurd are
      by_rest (other ∷ rest) are turned =
          let labels_are = ap labels (only other are.0) in
          let sum_is = sum_by-cons labels other rest in
          omega (arith, turned, few, labels_are, sum_is)

    -- the whole exceeds a limit if the message with this entry does
    pub ahead_past : {entry : A → Entry} {FitsOne : A → Type 0} {Reaches : HeaderCounts → Type 0}
        {count : HeaderCounts → ℕ} {counted : HeaderCounts → ℕ → HeaderCounts} (limit : Option ℕ)
        → SectionTakes A entry FitsOne Reaches count counted more → Reaches counts
        → ExceedsLimit limit (length (with_entry most state (entry one)).octets)
        → ExceedsLimit limit (length (message_octets most (all_more more m written)))
    ahead_past {entry = entry} {Reaches = Reaches} {count = count} {counted = counted} limit takes reaches past =
        by_rest ahead.rest ahead.are ahead.same where
          by_rest : (rest : List A) → AllZip Of (i ∷ left) rest
              → all_more more m written ≡ all_more more ahead.now rest
              → ExceedsLimit limit (length (message_octets most (all_more more m written)))
          by_rest [] are same = absurd are
          by_rest (other ∷ rest) are same =
              let now = ahead.now in
              let here : Reaches (counts_of now) = subst Reaches ahead.writes.counts_are reaches in
              let one_longer = pushed_length most takes now one here in
              let state_is = ap (λ s. length (with_entry most s (entry one)).octets) ahead.writes.state_is in
              let there : Reaches (counts_of (more now one)) =
              subst Reaches (sym (takes.counts now one)) (takes.reaches (counts_of now) (count (counts_of now) + 1)
              here)
              in
              let longer = all_longer most takes (more now one) rest there in
              let whole = ap (λ m. length (message_octets most m))
              (same ∙ ap (λ one. all_more more (more now one) rest) (only other are.0)) in
              past_more limit (length (with_entry most state (entry one)).octets)
              (length (message_octets most (all_more more m written)))
              (omega (arith, one_longer, state_is, longer, whole))
              past
