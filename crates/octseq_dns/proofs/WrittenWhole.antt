-- A message whose header came first, followed by all its entries.
use Rattle.std.proofs.Common.{◌≡◌, ℕ, ◌≤◌, ◌++◌, Option, List, length, map, refl, sym, ap, ◌∙◌, subst, arith}
use Rattle.std.specs.List.{AllByRecursion}
use Rattle.octseq.specs.Limit.{ExceedsLimit}
use Rattle.octseq.proofs.Limits.{past_more}
use Rattle.octseq_dns_compress.specs.State.{State, with_entries}
use Rattle.octseq_dns_compress.proofs.Fields.{entries_grow, entries_more}
use Rattle.octseq_dns_compress.proofs.Steps.{grown_length}
use Rattle.octseq_dns_message.specs.declared.header.Header.{Header}
use Rattle.octseq_dns_message.specs.declared.header.HeaderCounts.{HeaderCounts}
use Rattle.octseq_dns.specs.Contents.{FitsHeader, FitsQuestion, FitsRecord, Message, composed, counts_of}
use Rattle.octseq_dns.specs.Contents.{with_only_header}
use Rattle.octseq_dns.specs.Contents.{message_octets, question_entry, record_entry, records_in}
use Rattle.octseq_dns.specs.Writes.{ComposesMessage}
use Rattle.octseq_dns.proofs.Zips.{all_cut}

module _ (most : ℕ) {first : State} {header : Header} {counts : HeaderCounts} (m : Message)
    (header_is : header ≡ m.header)
    (counts_are : counts ≡ counts_of m) (begun : first ≡ with_only_header header counts) where
  -- the questions are appended, then the records
  pub whole_is : {second : State} → second ≡ with_entries most first (map question_entry m.questions)
      → with_entries most second (map record_entry (records_in m)) ≡ composed most m
  whole_is asked = ap (λ s. with_entries most s (map record_entry (records_in m))) asked
      ∙ sym (entries_more most first (map question_entry m.questions) (map record_entry (records_in m)))
      ∙ ap (λ s. with_entries most s (map question_entry m.questions ++ map record_entry (records_in m)))
      (begun ∙ (λ i. with_only_header (header_is i) (counts_are i)))

  -- it exceeds a limit if its questions do
  pub asked_past : (limit : Option ℕ)
      → ExceedsLimit limit (length (with_entries most first (map question_entry m.questions)).octets)
      → ExceedsLimit limit (length (message_octets most m))
  asked_past limit past =
      let second = with_entries most first (map question_entry m.questions) in
      let longer = grown_length second.octets (with_entries most second (map record_entry (records_in m))).octets
      (entries_grow most second (map record_entry (records_in m))) in
      let same = ap (λ s. length s.octets) (whole_is refl) in
      past_more limit (length second.octets) (length (message_octets most m)) (omega (arith, longer, same)) past

  pub whole_past : {second : State} (limit : Option ℕ)
      → second ≡ with_entries most first (map question_entry m.questions)
      → ExceedsLimit limit (length (with_entries most second (map record_entry (records_in m))).octets)
      → ExceedsLimit limit (length (message_octets most m))
  whole_past limit asked past = subst (λ s. ExceedsLimit limit (length s.octets)) (whole_is asked) past

  pub whole_written : {second third : State} → second ≡ with_entries most first (map question_entry m.questions)
      → third ≡ with_entries most second (map record_entry (records_in m)) → FitsHeader header
      → AllByRecursion FitsQuestion m.questions → AllByRecursion FitsRecord (records_in m) → counts.qdcount ≤ 65535
      → counts.ancount ≤ 65535 → counts.nscount ≤ 65535 → counts.arcount ≤ 65535
      → ComposesMessage most m third header counts
  whole_written asked listed fits questions records q a n d =
      let first = all_cut FitsRecord m.answers (m.authorities ++ m.additionals) records in
      let more = all_cut FitsRecord m.authorities m.additionals first.1 in
      record {
        state_is = listed ∙ whole_is asked;
        header_is = header_is;
        counts_are = counts_are;
        fits = record {
          header = subst FitsHeader header_is fits;
          questions = questions;
          answers = first.0;
          authorities = more.0;
          additionals = more.1;
          qdcount = subst (λ c. c.qdcount ≤ 65535) counts_are q;
          ancount = subst (λ c. c.ancount ≤ 65535) counts_are a;
          nscount = subst (λ c. c.nscount ≤ 65535) counts_are n;
          arcount = subst (λ c. c.arcount ≤ 65535) counts_are d;
        };
      }
