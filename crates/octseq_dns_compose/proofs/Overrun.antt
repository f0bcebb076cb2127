-- Messages that exceed a limit with one more entry.
use Rattle.std.proofs.Common.{◌≡◌, ◌⊎◌, ℕ, ◌+◌, ◌<◌, ◌≤◌, Option, Some, None, List, [], ◌∷◌, ◌++◌, map, length}
use Rattle.std.proofs.Common.{sym, ap, ◌∙◌, subst, inl, inr, arith}
use Rattle.std.proofs.lemmas.List.{length-append, length-map}
use Rattle.octseq.specs.Integer.{octets_be}
use Rattle.octseq.specs.Limit.{ExceedsLimit}
use Rattle.octseq.proofs.Written.{length_be}
use Rattle.octseq_dns.specs.Contents.{Message, Question, Record, composed, counts_of, entries_of, header_octets}
use Rattle.octseq_dns.specs.Contents.{with_only_header, message_octets, question_entry, record_entry, records_in}
use Rattle.octseq_dns.specs.Writes.{SectionTakes, ComposesMessage}
use Rattle.octseq_dns.proofs.HeaderRead.{header_length}
use Rattle.octseq_dns.proofs.Pushed.{composed_more, twelve_first}
use Rattle.octseq_dns_compress.specs.Composed.{message_limit}
use Rattle.octseq_dns_compress.specs.State.{Entry, State, with_counted, with_entries, with_entry, with_fields}
use Rattle.octseq_dns_compress.proofs.Fields.{counted_grows, entries_more, entry_grows, headed_length}
use Rattle.octseq_dns_compress.proofs.Steps.{grown_length}
use Rattle.octseq_dns_message.specs.declared.header.Header.{Header}
use Rattle.octseq_dns_message.specs.declared.header.HeaderCounts.{HeaderCounts}
use Rattle.octseq_dns_compose.specs.TooLong.{Exceeds}

-- ---- an entry takes octets

-- a name, and one or more other octets
head_long : (most : ℕ) (s : State) (name more : List ℕ) → 1 ≤ length more
    → length s.octets + 1 ≤ length ((s.octets ++ name) ++ more)
head_long most s name more some =
    let all = length-append (s.octets ++ name) more in
    let first = length-append s.octets name in
    omega (arith, all, first, some)

question_long : (most : ℕ) (s : State) (q : Question)
    → length s.octets + 1 ≤ length (with_entry most s (question_entry q)).octets
question_long most s q =
    let all = length-append (octets_be 2 q.qtype) (octets_be 2 q.qclass) in
    let qtype = length_be 2 q.qtype in
    head_long most s _ _ (omega (arith, all, qtype))

record_long : (most : ℕ) (s : State) (r : Record)
    → length s.octets + 1 ≤ length (with_entry most s (record_entry r)).octets
record_long most s r =
    let more = octets_be 2 r.class ++ octets_be 4 r.ttl in
    let rtype = length_be 2 r.rtype in
    let middle = length-append (octets_be 2 r.rtype) more in
    let front = with_fields most s (record_entry r).head in
    let head : length s.octets + 1 ≤ length front.octets = head_long most s _ _ (omega (arith, rtype, middle))
    in
    let all =
    grown_length front.octets (with_counted most front r.fields).octets (counted_grows most front r.fields) in
    omega (arith, head, all)

each_long : {A : Type 0} (most : ℕ) (entry : A → Entry)
    → ((s : State) (one : A) → length s.octets + 1 ≤ length (with_entry most s (entry one)).octets) → (s : State)
    (all : List A) → length s.octets + length all ≤ length (with_entries most s (map entry all)).octets
each_long most entry long s [] = omega arith
each_long most entry long s (one ∷ all) =
    let here = long s one in
    let more = each_long most entry long (with_entry most s (entry one)) all in
    omega (arith, here, more)

-- a message has more octets than entries
entries_long : (most : ℕ) (m : Message) → length (entries_of m) ≤ length (message_octets most m)
entries_long most m =
    let first = with_only_header m.header (counts_of m) in
    let asked = with_entries most first (map question_entry m.questions) in
    let one = each_long most question_entry (question_long most) first m.questions in
    let two = each_long most record_entry (record_long most) asked (records_in m) in
    let all = ap (λ s. length s.octets)
    (entries_more most first (map question_entry m.questions) (map record_entry (records_in m))) in
    let size = length-append (map question_entry m.questions) (map record_entry (records_in m)) in
    let questions = length-map m.questions question_entry in
    let records = length-map (records_in m) record_entry in
    omega (arith, one, two, all, size, questions, records)

-- so a section with too many entries makes it exceed any limit of a message
pub past_limit : (most : ℕ) (limit : Option ℕ) (count : HeaderCounts → ℕ) (m : Message)
    → count (counts_of m) ≤ length (entries_of m) → Exceeds most (message_limit limit) count m
    → ExceedsLimit (message_limit limit) (length (message_octets most m))
past_limit most limit count m less (inl past) = past
past_limit most limit count m less (inr many) =
    let size = entries_long most m in
    most_past limit _ (omega (arith, less, many, size))
  where
    most_past : (limit : Option ℕ) (n : ℕ) → 65535 < n → ExceedsLimit (message_limit limit) n
    most_past None n late = late
    most_past (Some limit) n late = omega (arith, late)

-- ---- the counts of a message

pub counts_most : (m : Message) → (length m.questions ≤ length (entries_of m))
    × (length m.answers ≤ length (entries_of m)) × (length m.authorities ≤ length (entries_of m))
    × (length m.additionals ≤ length (entries_of m))
counts_most m =
    let size = length-append (map question_entry m.questions) (map record_entry (records_in m)) in
    let questions = length-map m.questions question_entry in
    let records = length-map (records_in m) record_entry in
    let first = length-append m.answers (m.authorities ++ m.additionals) in
    let second = length-append m.authorities m.additionals in (
      omega (arith, size, questions),
      omega (arith, size, records, first),
      omega (arith, size, records, first, second),
      omega (arith, size, records, first, second),
    )

-- ---- what a push refuses

pub header_past : (most : ℕ) (limit : Option ℕ) (m : Message) → ExceedsLimit limit 12
    → ExceedsLimit (message_limit limit) (length (message_octets most m))
header_past most None m past = absurd past
header_past most (Some limit) m past = let first = twelve_first most m in omega (arith, first, past)

module _ {A : Type 0} {entry : A → Entry} {FitsOne : A → Type 0} {Reaches : HeaderCounts → Type 0}
    {count : HeaderCounts → ℕ} {counted : HeaderCounts → ℕ → HeaderCounts} {more : Message → A → Message}
    (takes : SectionTakes A entry FitsOne Reaches count counted more) (most : ℕ) where
  -- a message has the octets of an entry more
  entry_past : (m : Message) (one : A) → Reaches (counts_of m)
      → (length (message_octets most m) ≤ length (with_entry most (composed most m) (entry one)).octets)
      × (length (message_octets most (more m one)) ≡ length (with_entry most (composed most m) (entry one)).octets)
  entry_past m one before =
      let wanted = with_entry most (composed most m) (entry one) in
      let long = header_length m.header (counts_of (more m one)) in
      let first = twelve_first most m in
      let grown =
      grown_length (composed most m).octets wanted.octets (entry_grows most (composed most m) (entry one)) in (
        grown,
        ap (λ s. length s.octets) (composed_more takes most m one before)
            ∙ headed_length (header_octets m.header (counts_of (more m one))) long wanted (omega (arith, first, grown)),
      )

  pub push_grows : (m : Message) (one : A) → Reaches (counts_of m)
      → length (message_octets most m) ≤ length (message_octets most (more m one))
  push_grows m one before =
      let both = entry_past m one before in
      let grown = both.0 in
      let same = both.1 in
      omega (arith, grown, same)

  pub push_exceeds : (limit : Option ℕ) (one : A) (state : State) (header : Header) (counts : HeaderCounts)
      → Reaches counts
      → ExceedsLimit limit (length (with_entry most state (entry one)).octets) ⊎ (65535 ≤ count counts) → (m : Message)
      → ComposesMessage most m state header counts → Exceeds most limit count (more m one)
  push_exceeds limit one state header counts reaches (inl past) m writes =
      let same = (entry_past m one (subst Reaches writes.counts_are reaches)).1 in
      inl (subst (ExceedsLimit limit)
      (ap (λ s. length (with_entry most s (entry one)).octets) writes.state_is ∙ sym same)
      past)
  push_exceeds limit one state header counts reaches (inr many) m writes =
      let before = ap count writes.counts_are in
      let after = ap count (takes.counts m one) ∙ takes.count_is (counts_of m) (count (counts_of m) + 1) in
      inr (omega (arith, many, before, after))
