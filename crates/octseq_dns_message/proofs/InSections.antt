-- The records of a message, each with its section.
use Rattle.std.proofs.Common.{◌≡◌, ℕ, zero, suc, List, [], ◌∷◌, ◌++◌, length, map, refl, sym, ap, ◌∙◌, subst}
use Rattle.std.proofs.Common.{arith, length-append}
use Rattle.std.proofs.Math.Logic.{∥∥₁_prop, ∥∥₁_elim}
use Rattle.std.proofs.lemmas.List.{length-replicate}
use Rattle.std.proofs.lemmas.Slice.Zip.{firsts-zip}
use Rattle.std.specs.List.{zip}
use Rattle.std.specs.Prelude.{replicate}
use Rattle.octseq.specs.Window.{Window}
use Rattle.octseq_dns_data.proofs.Rows.{held_count}
use Rattle.octseq_dns_message.specs.Entry.{IsRecord, Record}
use Rattle.octseq_dns_message.specs.OneEntry.{records_once}
use Rattle.octseq_dns_message.specs.Section.{sections_in, in_section, in_sections}
use Rattle.octseq_dns_message.specs.declared.header.HeaderCounts.{HeaderCounts}
use Rattle.octseq_dns_message.specs.declared.message.records.Section.{Section}
use Rattle.octseq_format.specs.Laws.{Relation}
use Rattle.octseq_format.specs.Row.{Row, Many, Holds}

-- a row after another
row_append : {A : Type 0} (Is : Relation A) (w u v : Window) (row more : List A) → Row Is w row u → Row Is u more v
    → Row Is w (row ++ more) v
row_append Is w u v [] more is are = subst (λ w. Row Is w more v) is are
row_append Is w u v (x ∷ row) more is are = (is.0, is.1, row_append Is is.0 u v row more is.2 are)

zip_first : (rows more : List Record) (section : Section) (n : ℕ) (others : List Section) → length rows ≡ n
    → zip (rows ++ more) (replicate n section ++ others) ≡ in_section section rows ++ zip more others
zip_first [] more section zero others is = refl
zip_first [] more section (suc n) others is = absurd (omega (arith, is))
zip_first (r ∷ rows) more section zero others is = absurd (omega (arith, is))
zip_first (r ∷ rows) more section (suc n) others is =
    ap (λ l. (r, section) ∷ l) (zip_first rows more section n others (omega (arith, is)))

zip_last : (rows : List Record) (section : Section) (n : ℕ) → length rows ≡ n
    → zip rows (replicate n section) ≡ in_section section rows
zip_last [] section zero is = refl
zip_last [] section (suc n) is = absurd (omega (arith, is))
zip_last (r ∷ rows) section zero is = absurd (omega (arith, is))
zip_last (r ∷ rows) section (suc n) is = ap (λ l. (r, section) ∷ l) (zip_last rows section n (omega (arith, is)))

module _ (counts : HeaderCounts) (a n d : List Record) (answers : length a ≡ counts.ancount)
    (authorities : length n ≡ counts.nscount) (additionals : length d ≡ counts.arcount) where
  counted : length (a ++ (n ++ d)) ≡ length (sections_in counts)
  counted =
      let x = replicate counts.ancount Section.Answer in
      let y = replicate counts.nscount Section.Authority in
      let z = replicate counts.arcount Section.Additional in
      let rows = length-append a (n ++ d) in
      let later = length-append n d in
      let sections = length-append x (y ++ z) in
      let others = length-append y z in
      let first = length-replicate counts.ancount Section.Answer in
      let second = length-replicate counts.nscount Section.Authority in
      let third = length-replicate counts.arcount Section.Additional in
      omega (arith, answers, authorities, additionals, rows, later, sections, others, first, second, third)

  zip_all : zip (a ++ (n ++ d)) (sections_in counts) ≡ in_sections a n d
  zip_all =
      zip_first a (n ++ d) Section.Answer counts.ancount _ answers
      ∙ ap (λ l. in_section Section.Answer a ++ l) (zip_first n d Section.Authority counts.nscount _ authorities
      ∙ ap (λ l. in_section Section.Authority n ++ l) (zip_last d Section.Additional counts.arcount additionals))

module _ (counts : HeaderCounts) (x y z : Window) (a : Holds IsRecord x counts.ancount)
    (n : Holds IsRecord y counts.nscount) (d : Holds IsRecord z counts.arcount)
    (first : ∥ Many counts.ancount IsRecord x a.0 y ∥₁) (second : ∥ Many counts.nscount IsRecord y n.0 z ∥₁) where
  -- the sections lie one after another
  pub all_held : Holds IsRecord x (length (sections_in counts))
  all_held = (
    a.0 ++ (n.0 ++ d.0),
    ∥∥₁_elim first ∥∥₁_prop (λ p. ∥∥₁_elim second ∥∥₁_prop (λ q. ∥∥₁_elim d.1 ∥∥₁_prop (λ r. ∣ (
      r.0,
      (
        counted counts a.0 n.0 d.0 p.0 q.0 r.1.0,
        row_append IsRecord x y r.0 a.0 (n.0 ++ d.0) p.1 (row_append IsRecord y z r.0 n.0 d.0 q.1 r.1.1),
      ),
    ) ∣₁))),
  )

  pub all_listed : (held : Holds IsRecord x (length (sections_in counts)))
      → (zip held.0 (sections_in counts) ≡ in_sections a.0 n.0 d.0)
      × (map (λ (one : Record × Section). one.0) (zip held.0 (sections_in counts)) ≡ a.0 ++ (n.0 ++ d.0))
  unfolding all_held
  all_listed held =
      let same = ap (λ h. zip h.0 (sections_in counts)) (records_once x _ held all_held) in
      let one = sym (held_count _ _ _ a) in
      let two = sym (held_count _ _ _ n) in
      let three = sym (held_count _ _ _ d) in (
        same ∙ zip_all counts a.0 n.0 d.0 one two three,
        ap (map (λ (one : Record × Section). one.0)) same
            ∙ firsts-zip (a.0 ++ (n.0 ++ d.0)) (sections_in counts) (sym (counted counts a.0 n.0 d.0 one two three)),
      )

  -- in a window that is the same
  pub all_held_at : (w : Window) → w ≡ x → Holds IsRecord w (length (sections_in counts))
  all_held_at w same = subst (λ w. Holds IsRecord w (length (sections_in counts))) (sym same) all_held

  pub all_listed_at : (w : Window) → w ≡ x → (held : Holds IsRecord w (length (sections_in counts)))
      → (zip held.0 (sections_in counts) ≡ in_sections a.0 n.0 d.0)
      × (map (λ (one : Record × Section). one.0) (zip held.0 (sections_in counts)) ≡ a.0 ++ (n.0 ++ d.0))
  all_listed_at w same =
      subst (λ w. (held : Holds IsRecord w (length (sections_in counts)))
      → (zip held.0 (sections_in counts) ≡ in_sections a.0 n.0 d.0)
      × (map (λ (one : Record × Section). one.0) (zip held.0 (sections_in counts)) ≡ a.0 ++ (n.0 ++ d.0)))
      (sym same) all_listed
