-- An answer with its header and its questions, and its record sections, one after another.
use Rattle.std.proofs.Common.{◌≡◌, ◌≤◌, ℕ, List, [], ◌∷◌, ◌++◌, length, refl, sym, ap, ◌∙◌, arith, append_assoc}
use Rattle.std.proofs.Common.{append-nil, ◌<◌, true, false, ◌⊎◌, Option, Some, None, Result, Ok, Err, subst, inl, inr}
use Rattle.std.specs.Prelude.{IsErr, OnOk, min}
use Rattle.octseq.specs.Limit.{ExceedsLimit}
use Rattle.octseq.specs.Refusal.{IsMemory, IsShort, append_error}
use Rattle.octseq.specs.declared.AppendError.{AppendError}
use Rattle.octseq_c.proofs.Anew.{all_longer}
use Rattle.octseq_dns.proofs.HeaderRead.{header_length}
use Rattle.octseq_dns.proofs.Pushed.{header_set, twelve_first}
use Rattle.octseq_dns.proofs.Stages.{asked, of_sections}
use Rattle.octseq_dns.specs.Contents.{Record, Message, message_octets, Question, composed, counts_of, header_octets}
use Rattle.octseq_dns.specs.Sections.{takes_answers, takes_authorities, takes_additionals}
use Rattle.octseq_dns.specs.State.{State}
use Rattle.octseq_dns.specs.Writes.{
  all_more,
  more_answers,
  more_authorities,
  more_additionals,
  ComposesMessage,
  least_limit,
}
use Rattle.octseq_dns_compress.proofs.Fields.{headed_length}
use Rattle.octseq_dns_compress.specs.Composed.{message_limit}
use Rattle.octseq_dns_message.specs.declared.header.Header.{Header}
use Rattle.octseq_dns_message.specs.declared.header.HeaderCounts.{HeaderCounts}
use Rattle.octseq_c.specs.Made.{without_records}

-- all records of a section are pushed, where `of` is the message by the records of that section
all_pushed : (of : List Record → Message) (more : Message → Record → Message)
    → ((first : List Record) (one : Record) → more (of first) one ≡ of (first ++ one ∷ []))
    → (first records : List Record) → all_more more (of first) records ≡ of (first ++ records)
all_pushed of more step first [] = ap of (sym (append-nil first))
all_pushed of more step first (one ∷ records) =
    ap (λ m. all_more more m records) (step first one) ∙ all_pushed of more step (first ++ one ∷ []) records
    ∙ ap of (append_assoc first (one ∷ []) records)

-- ---- the first sections of a message

abbrev pub answered : Message → Message
answered m = of_sections m.header m.questions m.answers [] []

abbrev pub authorized : Message → Message
authorized m = of_sections m.header m.questions m.answers m.authorities []

module _ (m : Message) where
  pub answers_are : all_more more_answers (asked m) m.answers ≡ answered m
  answers_are =
      all_pushed (λ a. of_sections m.header m.questions a [] []) more_answers (λ first one. refl) [] m.answers

  pub authorities_are : all_more more_authorities (answered m) m.authorities ≡ authorized m
  authorities_are =
      all_pushed (λ n. of_sections m.header m.questions m.answers n []) more_authorities (λ first one. refl) []
      m.authorities

  pub additionals_are : all_more more_additionals (authorized m) m.additionals ≡ m
  additionals_are =
      all_pushed (λ d. of_sections m.header m.questions m.answers m.authorities d) more_additionals
      (λ first one. refl) [] m.additionals

  -- ---- a message is no shorter than its first sections

  module _ (most : ℕ) where
    pub authorized_short : length (message_octets most (authorized m)) ≤ length (message_octets most m)
    authorized_short =
        let same = ap (λ m. length (message_octets most m)) additionals_are in
        omega (arith, all_longer most takes_additionals (authorized m) m.additionals tt, same)

    pub answered_short : length (message_octets most (answered m)) ≤ length (message_octets most m)
    answered_short =
        let same = ap (λ m. length (message_octets most m)) authorities_are in
        omega (arith, all_longer most takes_authorities (answered m) m.authorities refl, same, authorized_short)

    pub asked_short : length (message_octets most (asked m)) ≤ length (message_octets most m)
    asked_short =
        let same = ap (λ m. length (message_octets most m)) answers_are in
        omega (arith, all_longer most takes_answers (asked m) m.answers (refl, refl), same, answered_short)

-- what follows if a call returns `Ok`
pub on_ok : {T E P Q : Type 0} (r : Result T E) → (P → Q) → OnOk r P → OnOk r Q
on_ok (Ok value) then is = then is
on_ok (Err e) then is = tt

-- if no request for memory is refused, the error of a call is `Short`
pub short_alone : {T : Type 0} (result : Result T AppendError) → IsErr result
    → (IsMemory append_error result → (false ≡ true) ⊎ (false ≡ true)) → IsShort append_error result
short_alone (Ok value) err memory = absurd (cc)
short_alone (Err (AppendError.Short e)) err memory = tt
short_alone (Err AppendError.Memory) err memory = absurd (elim (memory tt) [ inl asks ↦ cc | inr asks ↦ cc ])

-- if pushes have no limit, the limit of a message is exceeded
pub past_unlimited : (push_limit : Option ℕ) (limit n : ℕ) → push_limit ≡ None → limit ≤ 65535
    → ExceedsLimit (least_limit push_limit (message_limit (Some limit))) n → limit < n
past_unlimited push_limit limit n none most past =
    let here : min limit 65535 < n =
    subst (λ push. ExceedsLimit (least_limit push (message_limit (Some limit))) n) none past in
    omega (arith, here, most)

-- with another header there are as many octets
same_long : (most : ℕ) (m : Message) (header : Header)
    → length (message_octets most (record m { header = header })) ≡ length (message_octets most m)
same_long most m header =
    ap (λ s. length s.octets) (header_set most m header)
    ∙ headed_length (header_octets header (counts_of m)) (header_length header (counts_of m)) (composed most m)
    (twelve_first most m)

module _ (most : ℕ) (header : Header) (questions : List Question) (m : Message) (are : m.questions ≡ questions) where
  -- so an answer exceeds the limit if its questions do, whatever the header
  pub begun_past : (limit : ℕ) → limit < length (message_octets most (of_sections header questions [] [] []))
      → limit < length (message_octets most m)
  begun_past limit past =
      let other : Message = record m { header = header } in
      let same = same_long most m header in
      let longer = subst (λ q. limit < length (message_octets most (of_sections header q [] [] []))) (sym are) past in
      omega (arith, same, longer, asked_short other most)

  -- what was begun is the answer's header and questions
  pub begun_written : (state : State) (now : Header) (counts : HeaderCounts) → header ≡ m.header
      → ComposesMessage most (of_sections header questions [] [] []) state now counts
      → ComposesMessage most (without_records m) state now counts
  begun_written state now counts same is =
      subst (λ m. ComposesMessage most m state now counts) (λ i. of_sections (same i) (sym are i) [] [] []) is
