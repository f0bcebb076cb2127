-- A message that was written is read back.
use Rattle.std.proofs.Common.{◌≡◌, ℕ, ◌≤◌, List, [], ◌∷◌, ◌++◌, length, map, drop, refl, sym, ap, ◌∙◌, subst, arith}
use Rattle.std.proofs.Common.{append-nil}
use Rattle.std.proofs.lemmas.List.{drop_at, map-append}
use Rattle.std.specs.List.{AllZip, AllByRecursion}
use Rattle.octseq.specs.Window.{at, whole}
use Rattle.octseq_dns_compress.specs.LabelsThere.{IsWellNamed}
use Rattle.octseq_dns_compress.specs.State.{State, Entry, with_entries}
use Rattle.octseq_dns_compress.proofs.FieldSizes.{entries_never_longer}
use Rattle.octseq_dns_compress.proofs.Fields.{entries_grow, entries_more, grows_on}
use Rattle.octseq_dns_compress.proofs.LabelsThere.{all_of, all_grown, none_named}
use Rattle.octseq_dns_compress.proofs.Steps.{Grows, grown_length}
use Rattle.octseq_format.specs.Laws.{Relation}
use Rattle.octseq_dns.specs.Contents.{Message, MessageFits, counts_of, header_octets, with_only_header}
use Rattle.octseq_dns.specs.Contents.{question_entry, record_entry, entries_of, composed, message_octets}
use Rattle.octseq_dns.specs.ReadBack.{ReadsBack, bare}
use Rattle.octseq_dns.proofs.EntriesRead.{IsRead, AreRead, question_is_read, record_is_read, rows_named}
use Rattle.octseq_dns.proofs.EntriesRead.{rows_are_read}
use Rattle.octseq_dns.proofs.HeaderRead.{header_length, header_is_read}

-- a message takes no more octets than without compression
pub never_longer : (most : ℕ) (m : Message) → length (message_octets most m) ≤ length (message_octets 0 m)
never_longer most m = entries_never_longer most (with_only_header m.header (counts_of m)) (entries_of m)

-- a list that has the image of each element of another is its image
zip_mapped : {A B : Type 0} (f : A → B) (them : List A) (row : List B) → AllZip (λ a b. f a ≡ b) them row
    → map f them ≡ row
zip_mapped f [] [] zip = refl
zip_mapped f [] (b ∷ row) zip = absurd zip
zip_mapped f (a ∷ them) [] zip = absurd zip
zip_mapped f (a ∷ them) (b ∷ row) zip = λ i. zip.0 i ∷ zip_mapped f them row zip.1 i

-- a section is read, followed by others
section_is_read : {A B : Type 0} {Is : Relation A} {IsAs : A → B → Type 0} {to_entry : B → Entry}
    {FitsOne : B → Type 0} → IsRead Is IsAs to_entry FitsOne → (most : ℕ) (s : State) (row : List B)
    → AllByRecursion FitsOne row → IsWellNamed s → (header last : List ℕ) → length header ≡ 12
    → Grows (with_entries most s (map to_entry row)).octets last → length last ≤ 65535
    → let all = whole (all_of header last []) in
    AreRead Is IsAs (at (length s.octets) all) row (at (length (with_entries most s (map to_entry row)).octets) all)
section_is_read {Is = Is} {IsAs = IsAs} {to_entry = to_entry} reads most s row fit named header last twelve grows few =
    let octets = (with_entries most s (map to_entry row)).octets in
    let less = grown_length octets last grows in
    let late = (rows_named reads most s row fit named).headed in
    let same = all_grown header octets last [] grows late in
    subst (λ all. AreRead Is IsAs (at (length s.octets) (whole all)) row (at (length octets) (whole all))) same
    (rows_are_read reads most s row fit named header (grows.0 ++ []) twelve (omega (arith, less, few)))

-- ---- a message up to each of its sections

abbrev with_questions : ℕ → Message → State
with_questions most m = with_entries most (with_only_header m.header (counts_of m)) (map question_entry m.questions)

abbrev with_answers : ℕ → Message → State
with_answers most m = with_entries most (with_questions most m) (map record_entry m.answers)

abbrev with_authorities : ℕ → Message → State
with_authorities most m = with_entries most (with_answers most m) (map record_entry m.authorities)

abbrev with_additionals : ℕ → Message → State
with_additionals most m = with_entries most (with_authorities most m) (map record_entry m.additionals)

composed_is : (most : ℕ) (m : Message) → composed most m ≡ with_additionals most m
composed_is most m =
    let later = m.authorities ++ m.additionals in
    entries_more most (with_only_header m.header (counts_of m)) (map question_entry m.questions)
    (map record_entry (m.answers ++ later))
    ∙ ap (with_entries most (with_questions most m)) (map-append record_entry m.answers later)
    ∙ entries_more most (with_questions most m) (map record_entry m.answers) (map record_entry later)
    ∙ ap (with_entries most (with_answers most m)) (map-append record_entry m.authorities m.additionals)
    ∙ entries_more most (with_answers most m) (map record_entry m.authorities) (map record_entry m.additionals)

-- all the octets, as a message with its header
all_is : (most : ℕ) (m : Message)
    → all_of (header_octets m.header (counts_of m)) (with_additionals most m).octets [] ≡ message_octets most m
all_is most m =
    let header = header_octets m.header (counts_of m) in
    let grows = entries_grow most (with_only_header m.header (counts_of m)) (entries_of m) in
    let twelve = header_length m.header (counts_of m) in
    ap (λ (s : State). all_of header s.octets []) (sym (composed_is most m))
    ∙ ap (λ rest. header ++ rest) (append-nil (drop 12 (message_octets most m)) ∙ ap (drop 12) grows.1
    ∙ drop_at header grows.0 12 twelve)
    ∙ sym grows.1

-- ---- it is read

read_all : (most : ℕ) (m : Message) → MessageFits m → length (with_additionals most m).octets ≤ 65535
    → length (message_octets most m) ≤ 65535
    → ReadsBack (all_of (header_octets m.header (counts_of m)) (with_additionals most m).octets []) m
read_all most m fits few all_few =
    let counts = counts_of m in
    let header = header_octets m.header counts in
    let twelve = header_length m.header counts in
    let s0 = with_only_header m.header counts in
    let s1 = with_questions most m in
    let s2 = with_answers most m in
    let s3 = with_authorities most m in
    let last = (with_additionals most m).octets in
    let n0 : IsWellNamed s0 = record { headed = omega (arith, twelve); named = none_named header } in
    let n1 = rows_named question_is_read most s0 m.questions fits.questions n0 in
    let n2 = rows_named record_is_read most s1 m.answers fits.answers n1 in
    let n3 = rows_named record_is_read most s2 m.authorities fits.authorities n2 in
    let g3 = entries_grow most s3 (map record_entry m.additionals) in
    let g2 = grows_on s2.octets s3.octets last (entries_grow most s2 (map record_entry m.authorities)) g3 in
    let g1 = grows_on s1.octets s2.octets last (entries_grow most s1 (map record_entry m.answers)) g2 in
    let g4 : Grows last last = ([], sym (append-nil last)) in
    let first = section_is_read question_is_read most s0 m.questions fits.questions n0 header last twelve g1 few in
    let second = section_is_read record_is_read most s1 m.answers fits.answers n1 header last twelve g2 few in
    let third = section_is_read record_is_read most s2 m.authorities fits.authorities n2 header last twelve g3 few in
    let fourth = section_is_read record_is_read most s3 m.additionals fits.additionals n3 header last twelve g4 few in
    let all = all_of header last [] in
    let w = whole all in
    let same = ap length (all_is most m) in
    let qdcount = fits.qdcount in
    let ancount = fits.ancount in
    let nscount = fits.nscount in
    let arcount = fits.arcount in
    record {
      questions = first.them;
      answers = second.them;
      authorities = third.them;
      additionals = fourth.them;
      message = record {
        size = omega (arith, same, all_few);
        counts = counts;
        past_header = at (length header) w;
        header_is = header_is_read m.header counts (drop 12 last ++ []) fits.header (record {
          qdcount = omega (arith, qdcount);
          ancount = omega (arith, ancount);
          nscount = omega (arith, nscount);
          arcount = omega (arith, arcount);
        });
        past_sections = at (length last) w;
        sections_are = (
          at (length s1.octets) w,
          (first.many, first.are),
          (
            at (length s2.octets) w,
            (second.many, second.are),
            (at (length s3.octets) w, (third.many, third.are), (fourth.many, fourth.are)),
          ),
        );
        nothing_after = let ends = ap (λ (s : State). length s.octets) (composed_is most m) in
            omega (arith, same, ends);
      };
      questions_are = zip_mapped bare first.them m.questions first.as_said;
      answers_are = second.as_said;
      authorities_are = third.as_said;
      additionals_are = fourth.as_said;
    }

-- A message that was written is read back.
pub is_read_back : (most : ℕ) (m : Message) → MessageFits m → length (message_octets most m) ≤ 65535
    → ReadsBack (message_octets most m) m
is_read_back most m fits few =
    let ends = ap (λ (s : State). length s.octets) (composed_is most m) in
    subst (λ octets. ReadsBack octets m) (all_is most m) (read_all most m fits (omega (arith, ends, few)) few)
