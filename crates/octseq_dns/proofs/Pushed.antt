-- A message with one more entry, as one that is written.
use Rattle.std.proofs.Common.{◌≡◌, ℕ, ◌+◌, ◌<◌, ◌≤◌, List, [], ◌∷◌, ◌++◌, length, drop, refl, sym, ap, ◌∙◌}
use Rattle.std.proofs.Common.{subst, arith}
use Rattle.std.proofs.Common.{append-nil}
use Rattle.std.proofs.Common.{Bool, true, false, Option, Some, None, min}
use Rattle.std.proofs.Math.Logic.{∥∥₁_elim}
use Rattle.std.proofs.lemmas.Bool.{ltb-true, ltb-false}
use Rattle.std.proofs.lemmas.List.{drop_all}
use Rattle.std.specs.Coded.{le_prop}
use Rattle.octseq.specs.Limit.{ExceedsLimit, IsWithin}
use Rattle.octseq_dns_compress.specs.Composed.{message_limit}
use Rattle.std.specs.FinMap.{empty}
use Rattle.std.specs.Prelude.{replicate, nat_lt}
use Rattle.octseq.specs.Integer.{octets_be}
use Rattle.octseq_dns_compress.specs.State.{State, Entry, with_header, with_entry, with_entries}
use Rattle.octseq_dns_compress.proofs.Fields.{headed_entry, headed_entries, entries_more, entries_grow}
use Rattle.octseq_dns_compress.proofs.Fields.{entry_grows, headed_length}
use Rattle.octseq_dns_compress.proofs.Steps.{grown_length}
use Rattle.octseq_dns_message.specs.declared.header.Header.{Header}
use Rattle.octseq_dns_message.specs.declared.header.HeaderCounts.{HeaderCounts}
use Rattle.octseq_dns.proofs.HeaderRead.{header_length}
use Rattle.octseq_dns.specs.Blank.{blank_header, blank_message}
use Rattle.octseq_dns.specs.Contents.{Message, FitsHeader, composed, message_octets, counts_of, entries_of}
use Rattle.octseq_dns.specs.Contents.{with_only_header, header_octets}
use Rattle.octseq_dns.specs.Writes.{IsBuilt, SectionTakes, ComposesMessage}

-- a header in place of another
pub headed_anew : (h k : Header) (counts others : HeaderCounts)
    → with_only_header k others ≡ with_header (with_only_header h counts) (header_octets k others)
headed_anew h k counts others =
    let none : drop 12 (header_octets h counts) ≡ [] =
    drop_all 12 (header_octets h counts) (let long = header_length h counts in omega (arith, long)) in
    let octets = sym (ap (λ o. header_octets k others ++ o) none ∙ append-nil (header_octets k others)) in
    λ i. record { octets = octets i; names = empty }

-- the octets of a message begin with its header
pub twelve_first : (most : ℕ) (m : Message) → 12 ≤ length (message_octets most m)
twelve_first most m =
    let first = with_only_header m.header (counts_of m) in
    let longer = grown_length first.octets (message_octets most m) (entries_grow most first (entries_of m)) in
    let long = header_length m.header (counts_of m) in
    omega (arith, longer, long)

-- another header
pub header_set : (most : ℕ) (m : Message) (header : Header)
    → composed most (record m { header = header })
    ≡ with_header (composed most m) (header_octets header (counts_of m))
header_set most m header =
    let first = with_only_header m.header (counts_of m) in
    let put = header_octets header (counts_of m) in
    let long = header_length m.header (counts_of m) in
    ap (λ s. with_entries most s (entries_of m)) (headed_anew m.header header (counts_of m) (counts_of m))
    ∙ headed_entries put (header_length header (counts_of m)) most first (entries_of m) (omega (arith, long))

module _ {A : Type 0} {entry : A → Entry} {FitsOne : A → Type 0} {Reaches : HeaderCounts → Type 0}
    {count : HeaderCounts → ℕ} {counted : HeaderCounts → ℕ → HeaderCounts} {more : Message → A → Message}
    (takes : SectionTakes A entry FitsOne Reaches count counted more) where
  pub composed_more : (most : ℕ) (m : Message) (one : A) → Reaches (counts_of m) → composed most (more m one)
      ≡ with_header (with_entry most (composed most m) (entry one)) (header_octets m.header (counts_of (more m one)))
  composed_more most m one reaches =
      let counts = counts_of (more m one) in
      let put = header_octets m.header counts in
      let long = header_length m.header counts in
      let old = with_only_header m.header (counts_of m) in
      let twelve = header_length m.header (counts_of m) in
      let anew = ap (λ h. with_only_header h counts) (takes.header m one)
      ∙ headed_anew m.header m.header (counts_of m) counts in
      let late = twelve_first most m in
      ap (λ es. with_entries most (with_only_header (more m one).header counts) es) (takes.entries m one reaches)
      ∙ entries_more most (with_only_header (more m one).header counts) (entries_of m) (entry one ∷ [])
      ∙ ap (λ s. with_entry most (with_entries most s (entries_of m)) (entry one)) anew
      ∙ ap (λ s. with_entry most s (entry one))
      (headed_entries put long most old (entries_of m) (omega (arith, twelve)))
      ∙ headed_entry put long most (composed most m) (entry one) late

  -- one more entry
  pub pushed : (most : ℕ) (m : Message) (one : A) (state then new : State) (header : Header) (counts now : HeaderCounts)
      (put : List ℕ) → ComposesMessage most m state header counts → Reaches counts → FitsOne one → count counts < 65535
      → now ≡ counted counts (count counts + 1) → then ≡ with_entry most state (entry one)
      → put ≡ header_octets header now → new ≡ with_header then put → ComposesMessage most (more m one) new header now
  pushed most m one state then new header counts now put is reaches fits less now_is then_is put_is new_is =
      let there : counts_of (more m one) ≡ now =
      takes.counts m one ∙ ap (λ c. counted c (count c + 1)) (sym is.counts_are) ∙ sym now_is in
      let before : Reaches (counts_of m) = subst Reaches is.counts_are reaches in
      let wanted : State → Header → HeaderCounts → State =
      λ s h c. with_header (with_entry most s (entry one)) (header_octets h c) in
      record {
        state_is = new_is ∙ ap (λ s. with_header s put) then_is
            ∙ ap (λ o. with_header (with_entry most state (entry one)) o) put_is
            ∙ ap (λ c. wanted state header c) (sym there)
            ∙ ap (λ h. wanted state h (counts_of (more m one))) is.header_is
            ∙ ap (λ s. wanted s m.header (counts_of (more m one))) is.state_is
            ∙ sym (composed_more most m one before);
        header_is = is.header_is ∙ sym (takes.header m one);
        counts_are = sym there;
        fits = takes.fits m one is.fits fits (subst (λ c. count c < 65535) is.counts_are less);
      }

-- another header
pub header_written : (most : ℕ) (m : Message) (state new : State) (header other : Header) (counts : HeaderCounts)
    (put : List ℕ) → ComposesMessage most m state header counts → FitsHeader other → put ≡ header_octets other counts
    → new ≡ with_header state put → ComposesMessage most (record m { header = other }) new other counts
header_written most m state new header other counts put is fits put_is new_is =
    let m_fits = is.fits in
    record {
      state_is = new_is ∙ ap (λ o. with_header state o) put_is
          ∙ ap (λ c. with_header state (header_octets other c)) is.counts_are
          ∙ ap (λ s. with_header s (header_octets other (counts_of m))) is.state_is
          ∙ sym (header_set most m other);
      header_is = refl;
      counts_are = is.counts_are;
      fits = record {
        header = fits;
        questions = m_fits.questions;
        answers = m_fits.answers;
        authorities = m_fits.authorities;
        additionals = m_fits.additionals;
        qdcount = m_fits.qdcount;
        ancount = m_fits.ancount;
        nscount = m_fits.nscount;
        arcount = m_fits.arcount;
      };
    }

-- a message at its start
pub blank_written : (most : ℕ) (state : State) (header : Header)
    → state ≡ record { octets = replicate 12 0; names = empty } → header ≡ blank_header
    → ComposesMessage most blank_message state header (record { qdcount = 0; ancount = 0; nscount = 0; arcount = 0 })
unfolding octets_be
blank_written most state header is header_is = record {
  state_is = is;
  header_is = header_is;
  counts_are = refl;
  fits = record {
    header = record { id = omega arith; opcode = omega arith; rcode = omega arith };
    questions = tt;
    answers = tt;
    authorities = tt;
    additionals = tt;
    qdcount = omega arith;
    ancount = omega arith;
    nscount = omega arith;
    arcount = omega arith;
  };
}

-- a message that is built begins with its header
pub twelve_built : (most : ℕ) (state : State) (header : Header) (counts : HeaderCounts) (Reaches : HeaderCounts → Type
    0)
    → IsBuilt most state header counts Reaches → 12 ≤ length state.octets
twelve_built most state header counts Reaches built =
    ∥∥₁_elim built.0 le_prop (λ w.
    let first = twelve_first most w.0 in
    let same = ap (λ s. length s.octets) w.1.state_is in
    omega (arith, first, same))

-- so its length is the same with another header
pub headed_long : (most : ℕ) (state new : State) (header other : Header) (counts now : HeaderCounts)
    (Reaches : HeaderCounts → Type 0) (put : List ℕ) → IsBuilt most state header counts Reaches
    → put ≡ header_octets other now → new ≡ with_header state put → length new.octets ≡ length state.octets
headed_long most state new header other counts now Reaches put built put_is new_is =
    ap (λ s. length s.octets) new_is
    ∙ headed_length put (ap length put_is ∙ header_length other now) state
    (twelve_built most state header counts Reaches built)

-- and what fits with an entry fits with its count too
pub pushed_within : (limit : Option ℕ) (most : ℕ) (state then new : State) (header : Header)
    (counts now : HeaderCounts) (Reaches : HeaderCounts → Type 0) (put : List ℕ) (entry : Entry)
    → IsBuilt most state header counts Reaches → IsWithin limit (length (with_entry most state entry).octets)
    → then ≡ with_entry most state entry → put ≡ header_octets header now → new ≡ with_header then put
    → IsWithin limit (length new.octets)
pushed_within limit most state then new header counts now Reaches put entry built within then_is put_is new_is =
    let wanted = with_entry most state entry in
    let late = twelve_built most state header counts Reaches built in
    let longer = grown_length state.octets wanted.octets (entry_grows most state entry) in
    let same = ap (λ s. length (with_header s put).octets) then_is in
    subst (IsWithin limit) (sym (ap (λ s. length s.octets) new_is ∙ same
    ∙ headed_length put (ap length put_is ∙ header_length header now) wanted (omega (arith, late, longer)))) within

-- a header fits if the builder accepts it
pub begun_within : (limit : Option ℕ) (octets : List ℕ) → ¬ ExceedsLimit limit 12 → length octets ≡ 12
    → IsWithin (message_limit limit) (length octets)
begun_within None octets fits long = omega (arith, long)
begun_within (Some limit) octets fits long =
    by_test (nat_lt limit 12) refl where
      by_test : (reported : Bool) → nat_lt limit 12 ≡ reported → length octets ≤ min limit 65535
      by_test true is = absurd (fits (ltb-true limit 12 is))
      by_test false is = let late = ltb-false limit 12 is in omega (arith, late, long)
