-- Answers within a limit: a message, flags, rows and a limit have one.
use Rattle.std.proofs.Common.{◌≡◌, ℕ, ◌+◌, ◌<◌, ◌≤◌, zero, suc, List, [], ◌∷◌, length, take, sym, ap, ◌∙◌}
use Rattle.std.proofs.Common.{◌-◌, subst, inl, inr, arith}
use Rattle.std.proofs.Math.Nat.{eq-or-lt_of_le}
use Rattle.std.proofs.lemmas.Bool.{cases_order}
use Rattle.std.proofs.lemmas.List.{length-take-le}
use Rattle.std.specs.List.{AllByRecursion}
use Rattle.octseq_dns.specs.Contents.{Message, message_octets}
use Rattle.octseq_dns.specs.Entry.{Question}
use Rattle.octseq_dns_message.proofs.Messages.{said_once}
use Rattle.octseq_dns_message.specs.declared.header.Header.{Header}
use Rattle.octseq_c.specs.Made.{IsAnswerOf, offsets_kept}
use Rattle.octseq_c.specs.Within.{FitsUpTo, IsAnswerUpTo, IsAnswerWithin, IsCutAt, IsPastUpTo, KeepsUpTo, answer_flags}
use Rattle.octseq_c.specs.declared.rows.Row.{Row}
use Rattle.octseq_c.proofs.OneAnswer.{one_contents}

-- what holds of all holds of the first ones
pub all_taken : {X : Type 0} (P : X → Type 0) (n : ℕ) (xs : List X) → AllByRecursion P xs → AllByRecursion P (take n xs)
all_taken P zero xs all = tt
all_taken P (suc n) [] all = tt
all_taken P (suc n) (x ∷ xs) all = (all.0, all_taken P n xs all.1)

module _ (asked : Header) (flags : ℕ) (questions : List Question) (source : List ℕ) (rows : List Row) (limit : ℕ) where
  -- an answer can't both be within the limit and exceed it
  pub not_past : (count : ℕ) → FitsUpTo asked flags questions source rows limit count
      → ¬ IsPastUpTo asked flags questions source rows limit count
  not_past count (m, is, within) past =
      let more = past m is in
      omega (arith, within, more)

  -- so no more rows are kept than those before a cut
  none_after : (a b : ℕ) → a < b → IsCutAt asked flags questions source rows limit a
      → KeepsUpTo asked flags questions source rows limit b → ⊥
  none_after a b less cut (fits, inl all) =
      not_past (length rows) (subst (FitsUpTo asked flags questions source rows limit) all fits) cut.all
  none_after a b less cut (fits, inr other) = elim (cases_order (a + 1) b) [
    | inl same ↦ not_past (a + 1) (subst (FitsUpTo asked flags questions source rows limit) (sym same) fits) cut.next
    | inr (inl before) ↦ not_past (a + 1) (other.fewer (a + 1) before) cut.next
    | inr (inr after) ↦ absurd (omega (arith, less, after))
  ]

  -- one more fits
  pub fit_more : (count : ℕ)
      → ((other : ℕ) → other < count → FitsUpTo asked flags questions source rows limit other)
      → FitsUpTo asked flags questions source rows limit count
      → (other : ℕ) → other < count + 1 → FitsUpTo asked flags questions source rows limit other
  fit_more count fit next other less = elim (cases_order other count) [
    | inl same ↦ subst (FitsUpTo asked flags questions source rows limit) (sym same) next
    | inr (inl before) ↦ fit other before
    | inr (inr after) ↦ absurd (omega (arith, less, after))
  ]

  pub kept_once : (a b : ℕ) → KeepsUpTo asked flags questions source rows limit a
      → KeepsUpTo asked flags questions source rows limit b → a ≡ b
  kept_once a b (x, inl all) (y, inl every) = all ∙ sym every
  kept_once a b (x, inl all) (y, inr cut) =
      absurd (not_past (length rows) (subst (FitsUpTo asked flags questions source rows limit) all x) cut.all)
  kept_once a b (x, inr cut) (y, inl all) =
      absurd (not_past (length rows) (subst (FitsUpTo asked flags questions source rows limit) all y) cut.all)
  kept_once a b (x, inr cut) (y, inr other) = elim (cases_order a b) [
    | inl same ↦ same
    | inr (inl less) ↦ absurd (none_after a b less cut (y, inr other))
    | inr (inr less) ↦ absurd (none_after b a less other (x, inr cut))
  ]

  answers_once : (a b : ℕ) → a ≡ b → (m n : Message) → IsAnswerUpTo asked flags questions source rows a m
      → IsAnswerUpTo asked flags questions source rows b n → m ≡ n
  answers_once a b same m n is other =
      one_contents asked (answer_flags b (length rows) flags) questions source (take b rows) m n
      (subst (λ a. IsAnswerUpTo asked flags questions source rows a m) same is) other

-- ---- what is measured of the answer with the first rows, whose flags are `bits`

module _ (asked : Header) (flags : ℕ) (questions : List Question) (source : List ℕ) (rows : List Row) (limit : ℕ)
    (count bits : ℕ) (same : bits ≡ answer_flags count (length rows) flags) where
  abbrev IsMade : Message → Type 0
  IsMade m = IsAnswerOf asked bits questions source (take count rows) m

  is_up_to : (m : Message) → IsMade m → IsAnswerUpTo asked flags questions source rows count m
  is_up_to m is = subst (λ bits. IsAnswerOf asked bits questions source (take count rows) m) same is

  same_length : (m n : Message) → IsMade m → IsAnswerUpTo asked flags questions source rows count n
      → length (message_octets offsets_kept m) ≡ length (message_octets offsets_kept n)
  same_length m n is are = ap (λ m. length (message_octets offsets_kept m))
      (one_contents asked (answer_flags count (length rows) flags) questions source (take count rows) m n
      (is_up_to m is)
      are)

  -- it is within the limit
  pub fits_measured : (m : Message) (n : ℕ) → IsMade m → n ≡ length (message_octets offsets_kept m) → n ≤ limit
      → FitsUpTo asked flags questions source rows limit count
  fits_measured m n is long within = (m, is_up_to m is, omega (arith, long, within))

  -- or exceeds it
  pub past_measured : (m : Message) (n : ℕ) → IsMade m → n ≡ length (message_octets offsets_kept m) → limit < n
      → IsPastUpTo asked flags questions source rows limit count
  past_measured m n is long past other are = omega (arith, long, past, same_length m other is are)

  -- or is refused, since it would exceed 65,535 octets
  pub past_refused : ((m : Message) → IsMade m → length (take count rows) ≤ 65535
      → 65535 < length (message_octets offsets_kept m)) → count ≤ length rows → length rows ≤ 65535 → limit ≤ 65535
      → IsPastUpTo asked flags questions source rows limit count
  past_refused short within few most m are =
      let is = subst (λ bits. IsAnswerOf asked bits questions source (take count rows) m) (sym same) are in
      let past = short m is (omega (arith, few, within, length-take-le count rows within)) in
      omega (arith, past, most)

  -- what is composed is within the limit if the answer is
  pub made_fits : (m : Message) → IsMade m → FitsUpTo asked flags questions source rows limit count
      → length (message_octets offsets_kept m) ≤ limit
  made_fits m is (n, are, within) = omega (arith, within, same_length m n is are)

  pub made_is : (m : Message) → IsMade m → IsAnswerUpTo asked flags questions source rows count m
  made_is m is = is_up_to m is

module _ (asked : Header) (flags : ℕ) (questions : List Question) (source : List ℕ) (rows : List Row) (limit : ℕ)
    (first : ℕ) (most : first ≤ length rows)
    (next : first < length rows → IsPastUpTo asked flags questions source rows limit first)
    (all : IsPastUpTo asked flags questions source rows limit (length rows)) where
  -- if all rows exceed the limit, the first ones up to the offset that was found do
  pub past_first : IsPastUpTo asked flags questions source rows limit first
  past_first = elim (eq-or-lt_of_le most) [
    | inl same ↦ subst (IsPastUpTo asked flags questions source rows limit) (sym same) all
    | inr less ↦ next less
  ]

  -- so one row less is kept
  pub kept_before : 0 < first → ((other : ℕ) → other < first → FitsUpTo asked flags questions source rows limit other)
      → KeepsUpTo asked flags questions source rows limit (first - 1)
  kept_before some fit = (
    fit (first - 1) (omega (arith, some)),
    inr (record {
      some = omega (arith, some, most);
      all = all;
      next = subst (IsPastUpTo asked flags questions source rows limit) (omega (arith, some)) past_first;
      fewer = λ other less. fit other (omega (arith, less));
    }),
  )

pub one_within : (query : List ℕ) (flags : ℕ) (source : List ℕ) (rows : List Row) (limit : ℕ) (made other : List ℕ)
    → IsAnswerWithin query flags source rows limit made → IsAnswerWithin query flags source rows limit other
    → made ≡ other
one_within query flags source rows limit made other a b =
    let same = said_once query _ _ _ _ _ _ _ _ _ _ b.message a.message in
    let keeps : KeepsUpTo a.asked flags a.questions source rows limit b.count =
    subst (λ i. i) (λ i. KeepsUpTo (same.0 i) flags (same.1 i) source rows limit b.count) b.keeps in
    let is : IsAnswerUpTo a.asked flags a.questions source rows b.count b.contents =
    subst (λ i. i) (λ i. IsAnswerUpTo (same.0 i) flags (same.1 i) source rows b.count b.contents) b.is in
    let count = kept_once a.asked flags a.questions source rows limit a.count b.count a.keeps keeps in
    a.made_is
    ∙ ap (message_octets offsets_kept) (answers_once a.asked flags a.questions source rows limit a.count b.count count
    a.contents b.contents a.is is)
    ∙ sym b.made_is
