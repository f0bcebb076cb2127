-- Rows whose records are pushed to a section of a message, one after another.
use Rattle.std.proofs.Common.{◌≡◌, ℕ, ◌+◌, ◌<◌, ◌≤◌, ◌≢◌, Bool, true, false, cond, eq-eqb, List, [], ◌∷◌, length}
use Rattle.std.proofs.Common.{drop, get_or, Some}
use Rattle.std.proofs.Common.{ap, ◌∙◌, subst, arith}
use Rattle.std.proofs.lemmas.Bool.{ne_eqb}
use Rattle.std.proofs.lemmas.List.{drop_all, drop_more}
use Rattle.std.specs.Prelude.{nat_eq}
use Rattle.octseq_dns.specs.Contents.{Message, Record, message_octets, record_entry}
use Rattle.octseq_dns.specs.State.{State, with_entry}
use Rattle.octseq_dns.specs.Writes.{TakesRecords, ComposesMessage, all_more}
use Rattle.octseq_c.proofs.Anew.{Ahead, ahead_next, ahead_none, ahead_past, all_longer}
use Rattle.octseq_dns_message.specs.declared.header.Header.{Header}
use Rattle.octseq_dns_message.specs.declared.header.HeaderCounts.{HeaderCounts}
use Rattle.octseq_c.specs.Made.{IsRecordAt, in_section, offsets_kept}
use Rattle.octseq_c.specs.declared.rows.Row.{Row}
use Rattle.octseq_c.proofs.OneAnswer.{one_record}

-- ---- the rows of a section that are left

-- the row at an index
abbrev pub row_at : List Row → ℕ → Row
row_at rows i = get_or rows i
    (record { name_at = 0; data_at = 0; data_len = 0; ttl = 0; rtype = 0; class = 0; section = 0 })

module _ (section : ℕ) (rows : List Row) (i : ℕ) (within : i < length rows) where
  pub rows_step : drop i rows ≡ row_at rows i ∷ drop (i + 1) rows
  rows_step = drop_more rows i _ within

  next_is : (b : Bool) → nat_eq (row_at rows i).section section ≡ b
      → in_section section (drop i rows)
      ≡ cond b (row_at rows i ∷ in_section section (drop (i + 1) rows)) (in_section section (drop (i + 1) rows))
  next_is b is = ap (in_section section) rows_step
      ∙ ap (λ b. cond b (row_at rows i ∷ in_section section (drop (i + 1) rows))
      (in_section section (drop (i + 1) rows)))
      is

  pub row_taken : (row_at rows i).section ≡ section
      → in_section section (drop i rows) ≡ row_at rows i ∷ in_section section (drop (i + 1) rows)
  row_taken same = next_is true (eq-eqb (row_at rows i).section section same)

  pub row_passed : (row_at rows i).section ≢ section
      → in_section section (drop i rows) ≡ in_section section (drop (i + 1) rows)
  row_passed other = next_is false (ne_eqb (row_at rows i).section section other)

-- ---- what becomes of the message

-- What was pushed of rows, and what is left: a message so far, which becomes the whole one by the records that are
-- left. Before the first row it had `first` octets.
abbrev pub Left : List ℕ → (Message → Record → Message) → Message → List Record → List Row → State → Header
    → HeaderCounts → ℕ → Type 0
Left source more m written rows state header counts first =
    Ahead (IsRecordAt source) (λ _. 0) more offsets_kept m written rows state header counts 0 0 first

-- at last none is left
pub left_none : {source : List ℕ} {more : Message → Record → Message} {m : Message} {written : List Record}
    {state : State} {header : Header} {counts : HeaderCounts} {first : ℕ} (section : ℕ) (rows : List Row) (i : ℕ)
    → length rows ≤ i → Left source more m written (in_section section (drop i rows)) state header counts first
    → ComposesMessage offsets_kept (all_more more m written) state header counts
left_none section rows i all left = (ahead_none offsets_kept _ _ _ _ _ 0 0 _ (rw (drop_all i rows all) at left)).0

module _ {Reaches : HeaderCounts → Type 0} {count : HeaderCounts → ℕ} {counted : HeaderCounts → ℕ → HeaderCounts}
    {more : Message → Record → Message} (takes : TakesRecords Reaches count counted more) {source : List ℕ}
    {m : Message}
    {written : List Record} {row : Row} {rows : List Row} {state : State} {header : Header} {counts : HeaderCounts}
    {first : ℕ} (left : Left source more m written (row ∷ rows) state header counts first) (one : Record)
    (is : IsRecordAt source row one) (reaches : Reaches counts) where
  -- one row is pushed
  pub left_next : {next : State} {another : Header} {now : HeaderCounts}
      → ((m : Message) → ComposesMessage offsets_kept m state header counts
      → ComposesMessage offsets_kept (more m one) next another now)
      → Left source more m written rows next another now first
  left_next {next} {another} {now} pushed =
      let longer = all_longer offsets_kept takes left.now (one ∷ []) (subst Reaches left.writes.counts_are reaches) in
      let before = ap (λ s. length s.octets) left.writes.state_is in
      let after = ap (λ s. length s.octets) (pushed left.now left.writes).state_is in
      ahead_next offsets_kept m written row rows state header counts 0 0 first left one
      (λ other of. one_record source row other one of is) next another now 0 pushed (omega arith)
      (omega (arith, longer, before, after))

  -- or the whole message exceeds the limit, as the message with it does
  pub left_past : (limit : ℕ) → limit < length (with_entry offsets_kept state (record_entry one)).octets
      → limit < length (message_octets offsets_kept (all_more more m written))
  left_past limit past = ahead_past offsets_kept m written row rows state header counts 0 0 first left one
      (λ other of. one_record source row other one of is) (Some limit) takes reaches past
