-- Reading a text stops at one place: after whole labels, and octets of one more.
use Rattle.std.proofs.Common.{◌≡◌, ℕ, ◌+◌, ◌-◌, ◌<◌, ◌≤◌, List, [], ◌∷◌, ◌++◌, length, refl, sym, ap, ◌∙◌}
use Rattle.std.proofs.Common.{append_assoc, arith}
use Rattle.octseq_dns_name.specs.Name.{wire_length}
use Rattle.octseq_dns_name.specs.Refused.{ReadsLabelPart, SpellsNone}
use Rattle.octseq_dns_name.specs.Spelling.{SpellsLabel, SpellsLabels}
use Rattle.octseq_dns_name.specs.Wire.{AreLabels}
use Rattle.octseq_dns_name.proofs.Names.{wire_some}
use Rattle.octseq_dns_name.proofs.Octets.{octet_once, none_at, tail}

-- ---- the octets of a label

-- they are the most that there may be, or no octet is spelled after them
abbrev pub IsStopped : ℕ → List ℕ → List ℕ → Type 0
IsStopped most label rest = (length label ≤ most) × (length label < most → SpellsNone rest)

-- a text that begins with them spells an octet
none_begins : (octet : ℕ) (label s xs ys : List ℕ) → SpellsLabel (octet ∷ label) s → ys ≡ s ++ xs → ¬ SpellsNone ys
none_begins octet label s xs ys one is none =
    none octet one.0 (one.1 ++ xs) (is ∙ ap (λ l. l ++ xs) one.2 ∙ append_assoc one.0 one.1 xs) one.3

one_run : (most : ℕ) (label other s t xs ys : List ℕ) → SpellsLabel label s → SpellsLabel other t → s ++ xs ≡ t ++ ys
    → IsStopped most label xs → IsStopped most other ys → (label ≡ other) × (xs ≡ ys)
one_run most [] [] s t xs ys one two same here there =
    (refl, ap (λ l. l ++ xs) (sym one) ∙ same ∙ ap (λ l. l ++ ys) two)
one_run most [] (b ∷ other) s t xs ys one two same here there =
    let few = there.0 in
    absurd (none_begins b other t ys xs two (ap (λ l. l ++ xs) (sym one) ∙ same) (here.1 (omega (arith, few))))
one_run most (a ∷ label) [] s t xs ys one two same here there =
    let few = here.0 in
    absurd (none_begins a label s xs ys one (ap (λ l. l ++ ys) (sym two) ∙ sym same) (there.1 (omega (arith, few))))
one_run most (a ∷ label) (b ∷ other) s t xs ys one two same here there =
    let all = sym (append_assoc one.0 one.1 xs) ∙ ap (λ l. l ++ xs) (sym one.2) ∙ same ∙ ap (λ l. l ++ ys) two.2
    ∙ append_assoc two.0 two.1 ys in
    let first = octet_once a b one.0 two.0 (one.1 ++ xs) (two.1 ++ ys) one.3 two.3 all in
    let few = here.0 in
    let other_few = there.0 in
    let rest = one_run (most - 1) label other one.1 two.1 xs ys one.4 two.4 first.1
    (omega (arith, few), λ less. here.1 (omega (arith, few, less)))
    (omega (arith, other_few), λ less. there.1 (omega (arith, other_few, less))) in
    (ap (λ o. o ∷ label) first.0 ∙ ap (λ l. b ∷ l) rest.0, rest.1)

-- a full stop is after them
pub at_full_stop : (label rest : List ℕ) → length label ≤ 63 → IsStopped 64 label (46 ∷ rest)
at_full_stop label rest few = (omega (arith, few), λ _. none_at 46 rest refl (λ is. absurd (omega (arith, is))))

-- ---- the place

-- After labels of a wire length no whole label follows that fits.
pub record Ends (most total : ℕ) (ahead label rest : List ℕ) : Type 0 where
  pub reads : ReadsLabelPart ahead label rest
  pub stopped : IsStopped 64 label rest
  pub long : (more : List ℕ) → rest ≡ 46 ∷ more → 1 ≤ length label → length label ≤ 63
      → most < total + 1 + length label

none_follows : (most total : ℕ) (ahead label rest other more : List ℕ) → Ends most total ahead label rest
    → ReadsLabelPart ahead other (46 ∷ more) → 1 ≤ length other → length other ≤ 63 → total + 1 + length other ≤ most
    → ⊥
none_follows most total ahead label rest other more end read some few fits =
    let same = one_run 64 label other end.reads.0 read.0 rest (46 ∷ more) end.reads.2 read.2
    (sym end.reads.1 ∙ read.1) end.stopped (at_full_stop other more few) in
    let size = ap length same.0 in
    let long = end.long more same.1 (omega (arith, size, some)) (omega (arith, size, few)) in
    absurd (omega (arith, size, long, fits))

-- the label that comes next in a text
next_reads : (label : List ℕ) (labels : List (List ℕ)) (s xs : List ℕ) (one : SpellsLabels (label ∷ labels) s)
    (text : List ℕ) → text ≡ s ++ xs → ReadsLabelPart text label (46 ∷ (one.1 ++ xs))
next_reads label labels s xs one text is =
    (one.0, is ∙ ap (λ l. l ++ xs) one.2 ∙ append_assoc one.0 (46 ∷ one.1) xs, one.3)

one_place : (most size total count : ℕ) (labels others : List (List ℕ))
    (s t ahead behind label other rest more : List ℕ) → SpellsLabels labels s → SpellsLabels others t
    → s ++ ahead ≡ t ++ behind → AreLabels labels → AreLabels others → total ≡ size + wire_length labels
    → count ≡ size + wire_length others → total ≤ most → count ≤ most → Ends most total ahead label rest
    → Ends most count behind other more → (labels ≡ others) × (label ≡ other) × (rest ≡ more)
one_place most size total count [] [] s t ahead behind label other rest more one two same are others_are total_is
    count_is fits count_fits end stop =
    let from = ap (λ l. l ++ ahead) (sym one) ∙ same ∙ ap (λ l. l ++ behind) two in
    let run = one_run 64 label other end.reads.0 stop.reads.0 rest more end.reads.2 stop.reads.2
    (sym end.reads.1 ∙ from ∙ stop.reads.1) end.stopped stop.stopped in
    (refl, run.0, run.1)
one_place most size total count [] (y ∷ others) s t ahead behind label other rest more one two same are others_are
    total_is count_is fits count_fits end stop =
    let read = next_reads y others t behind two ahead (ap (λ l. l ++ ahead) (sym one) ∙ same) in
    let some = wire_some others in
    absurd (none_follows most total ahead label rest y (two.1 ++ behind) end read others_are.0 others_are.1
    (omega (arith, total_is, count_is, count_fits, some)))
one_place most size total count (x ∷ labels) [] s t ahead behind label other rest more one two same are others_are
    total_is count_is fits count_fits end stop =
    let read = next_reads x labels s ahead one behind (ap (λ l. l ++ behind) (sym two) ∙ sym same) in
    let some = wire_some labels in
    absurd (none_follows most count behind other more x (one.1 ++ ahead) stop read are.0 are.1
    (omega (arith, total_is, count_is, fits, some)))
one_place most size total count (x ∷ labels) (y ∷ others) s t ahead behind label other rest more one two same are
    others_are total_is count_is fits count_fits end stop =
    let here = next_reads x labels s ahead one (s ++ ahead) refl in
    let there = next_reads y others t behind two (s ++ ahead) same in
    let first = one_run 64 x y here.0 there.0 (46 ∷ (one.1 ++ ahead)) (46 ∷ (two.1 ++ behind)) here.2 there.2
    (sym here.1 ∙ there.1) (at_full_stop x (one.1 ++ ahead) are.1) (at_full_stop y (two.1 ++ behind) others_are.1) in
    let length_is = ap length first.0 in
    let after = one_place most (size + 1 + length x) total count labels others one.1 two.1 ahead behind label other rest
    more one.4 two.4 (tail first.1) are.2 others_are.2 (omega (arith, total_is))
    (omega (arith, count_is, length_is)) fits count_fits end stop in
    (ap (λ l. l ∷ labels) first.0 ∙ ap (λ l. y ∷ l) after.0, after.1, after.2)

-- Reading a text stops there.
pub record StopsAt (most : ℕ) (text : List ℕ) (labels : List (List ℕ)) (label rest : List ℕ) : Type 0 where
  pub first : List ℕ
  pub ahead : List ℕ
  pub text_is : text ≡ first ++ ahead
  pub spells : SpellsLabels labels first
  pub each : AreLabels labels
  pub fits : wire_length labels ≤ most
  pub ends : Ends most (wire_length labels) ahead label rest

pub stops_once : (most : ℕ) (text : List ℕ) (labels others : List (List ℕ)) (label other rest more : List ℕ)
    → StopsAt most text labels label rest → StopsAt most text others other more
    → (labels ≡ others) × (label ≡ other) × (rest ≡ more)
stops_once most text labels others label other rest more here there =
    one_place most 0 (wire_length labels)
    (wire_length others) labels others here.first there.first here.ahead there.ahead
    label other rest more here.spells there.spells (sym here.text_is ∙ there.text_is) here.each there.each
    (omega arith) (omega arith) here.fits there.fits here.ends there.ends
