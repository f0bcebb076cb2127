-- Each section takes its entries.
use Rattle.std.specs.Prelude.{◌≡◌, ◌+◌, ◌<◌, ◌≤◌, List, [], ◌∷◌, ◌++◌, length, map, refl}
use Rattle.std.proofs.Common.{sym, ap, ◌∙◌, arith, append_assoc, append-nil}
use Rattle.std.proofs.lemmas.List.{length-append, map-append, nil_from_length}
use Rattle.octseq_dns.specs.Contents.{Question, Record, Message, FitsQuestion, FitsRecord, counts_of, entries_of}
use Rattle.octseq_dns.specs.Contents.{question_entry, record_entry}
use Rattle.octseq_dns.specs.Writes.{
  SectionTakes,
  TakesRecords,
  UpToQuestions,
  UpToAnswers,
  UpToAuthorities,
  UpToAdditionals,
}
use Rattle.octseq_dns.specs.Writes.{more_questions, more_answers, more_authorities, more_additionals}
use Rattle.octseq.proofs.Repeats.{each_snoc}

-- ---- lemmas: proved below this line, so what the words mean is read above it

-- a list with one more element
one_longer : {A : Type 0} (row : List A) (one : A) → length (row ++ one ∷ []) ≡ length row + 1
one_longer row one = length-append row (one ∷ [])

-- and there is room for one more
one_counted : {A : Type 0} (row : List A) (one : A) → length row < 65535 → length (row ++ one ∷ []) ≤ 65535
one_counted row one less = let longer = one_longer row one in omega (arith, longer, less)

-- the question section takes questions
pub takes_questions : SectionTakes Question question_entry FitsQuestion UpToQuestions (λ c. c.qdcount)
    (λ c n. record c { qdcount = n }) more_questions
takes_questions = record {
  header = λ m one. refl;
  counts = λ m one i. record (counts_of m) { qdcount = one_longer m.questions one i };
  entries = λ m one none.
      let answers = nil_from_length m.answers none.0 in
      let authorities = nil_from_length m.authorities none.1 in
      let additionals = nil_from_length m.additionals none.2 in
      let rest = m.answers ++ (m.authorities ++ m.additionals) in
      let nothing : rest ≡ [] = λ i. answers i ++ (authorities i ++ additionals i) in
      ap (λ more. map question_entry (m.questions ++ one ∷ []) ++ map record_entry more) nothing
      ∙ append-nil (map question_entry (m.questions ++ one ∷ []))
      ∙ map-append question_entry m.questions (one ∷ [])
      ∙ ap (λ es. es ++ question_entry one ∷ []) (sym (append-nil (map question_entry m.questions)))
      ∙ ap (λ more. (map question_entry m.questions ++ map record_entry more) ++ question_entry one ∷ []) (sym nothing);
  count_is = λ counts n. refl;
  reaches = λ counts n none. none;
  fits = λ m one fits is less. record {
    header = fits.header;
    questions = each_snoc FitsQuestion m.questions one fits.questions is;
    answers = fits.answers;
    authorities = fits.authorities;
    additionals = fits.additionals;
    qdcount = one_counted m.questions one less;
    ancount = fits.ancount;
    nscount = fits.nscount;
    arcount = fits.arcount;
  };
}

-- a record after those of a message
one_more : (m : Message) (records : List Record) (one : Record)
    → records ≡ (m.answers ++ (m.authorities ++ m.additionals)) ++ one ∷ []
    → map question_entry m.questions ++ map record_entry records ≡ entries_of m ++ record_entry one ∷ []
one_more m records one is =
    let questions = map question_entry m.questions in
    let rest = m.answers ++ (m.authorities ++ m.additionals) in
    ap (λ r. questions ++ map record_entry r) is
    ∙ ap (λ es. questions ++ es) (map-append record_entry rest (one ∷ []))
    ∙ sym (append_assoc questions (map record_entry rest) (record_entry one ∷ []))

-- the answer section takes records
pub takes_answers : TakesRecords UpToAnswers (λ c. c.ancount) (λ c n. record c { ancount = n }) more_answers
takes_answers = record {
  header = λ m one. refl;
  counts = λ m one i. record (counts_of m) { ancount = one_longer m.answers one i };
  entries = λ m one none.
      let authorities = nil_from_length m.authorities none.0 in
      let additionals = nil_from_length m.additionals none.1 in
      let nothing : m.authorities ++ m.additionals ≡ [] = λ i. authorities i ++ additionals i in
      one_more m ((m.answers ++ one ∷ []) ++ (m.authorities ++ m.additionals)) one
      (ap (λ more. (m.answers ++ one ∷ []) ++ more) nothing ∙ append-nil (m.answers ++ one ∷ [])
      ∙ ap (λ r. r ++ one ∷ []) (sym (append-nil m.answers))
      ∙ ap (λ more. (m.answers ++ more) ++ one ∷ []) (sym nothing));
  count_is = λ counts n. refl;
  reaches = λ counts n none. none;
  fits = λ m one fits is less. record {
    header = fits.header;
    questions = fits.questions;
    answers = each_snoc FitsRecord m.answers one fits.answers is;
    authorities = fits.authorities;
    additionals = fits.additionals;
    qdcount = fits.qdcount;
    ancount = one_counted m.answers one less;
    nscount = fits.nscount;
    arcount = fits.arcount;
  };
}

-- the authority section takes records
pub takes_authorities : TakesRecords UpToAuthorities (λ c. c.nscount) (λ c n. record c { nscount = n })
    more_authorities
takes_authorities = record {
  header = λ m one. refl;
  counts = λ m one i. record (counts_of m) { nscount = one_longer m.authorities one i };
  entries = λ m one none.
      let nothing = nil_from_length m.additionals none in
      one_more m (m.answers ++ ((m.authorities ++ one ∷ []) ++ m.additionals)) one
      (ap (λ more. m.answers ++ ((m.authorities ++ one ∷ []) ++ more)) nothing
      ∙ ap (λ r. m.answers ++ r) (append-nil (m.authorities ++ one ∷ [])
      ∙ ap (λ r. r ++ one ∷ []) (sym (append-nil m.authorities)))
      ∙ sym (append_assoc m.answers (m.authorities ++ []) (one ∷ []))
      ∙ ap (λ more. (m.answers ++ (m.authorities ++ more)) ++ one ∷ []) (sym nothing));
  count_is = λ counts n. refl;
  reaches = λ counts n none. none;
  fits = λ m one fits is less. record {
    header = fits.header;
    questions = fits.questions;
    answers = fits.answers;
    authorities = each_snoc FitsRecord m.authorities one fits.authorities is;
    additionals = fits.additionals;
    qdcount = fits.qdcount;
    ancount = fits.ancount;
    nscount = one_counted m.authorities one less;
    arcount = fits.arcount;
  };
}

-- the additional section takes records
pub takes_additionals : TakesRecords UpToAdditionals (λ c. c.arcount) (λ c n. record c { arcount = n })
    more_additionals
takes_additionals = record {
  header = λ m one. refl;
  counts = λ m one i. record (counts_of m) { arcount = one_longer m.additionals one i };
  entries = λ m one any.
      one_more m (m.answers ++ (m.authorities ++ (m.additionals ++ one ∷ []))) one
      (ap (λ r. m.answers ++ r) (sym (append_assoc m.authorities m.additionals (one ∷ [])))
      ∙ sym (append_assoc m.answers (m.authorities ++ m.additionals) (one ∷ [])));
  count_is = λ counts n. refl;
  reaches = λ counts n any. tt;
  fits = λ m one fits is less. record {
    header = fits.header;
    questions = fits.questions;
    answers = fits.answers;
    authorities = fits.authorities;
    additionals = each_snoc FitsRecord m.additionals one fits.additionals is;
    qdcount = fits.qdcount;
    ancount = fits.ancount;
    nscount = fits.nscount;
    arcount = one_counted m.additionals one less;
  };
}
