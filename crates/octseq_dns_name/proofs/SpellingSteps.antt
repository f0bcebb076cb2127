-- How a text is read octet by octet and label by label: what was read, and what follows it.
use Rattle.std.proofs.Common.{◌≡◌, inl, inr, ℕ, ◌+◌, ◌<◌, ◌≤◌, List, [], ◌∷◌, ◌++◌, length}
use Rattle.std.proofs.Common.{refl, sym, ap, ◌∙◌, subst, append_assoc, arith}
use Rattle.std.proofs.lemmas.Grind.{flat_map-append}
use Rattle.std.proofs.lemmas.List.{append-nil}
use Rattle.octseq_dns_name.specs.Name.{wire_length}
use Rattle.octseq_dns_name.specs.NameFormat.{bodies, wire_more}
use Rattle.octseq_dns_name.specs.Origin.{SpellsWithOrigin, IsRefusedWithOrigin}
use Rattle.octseq_dns_name.specs.Refused.{
  ReadsLabelPart,
  ReadsLabels,
  ReadsAll,
  SpellsNone,
  IsIllegal,
  IsLabelFault,
  IsNameRefused,
}
use Rattle.octseq_dns_name.specs.Spelling.{SpellsOctet, SpellsLabel, SpellsLabels, SpellsName}
use Rattle.octseq_dns_name.specs.Wire.{wire, AreLabels, IsWireOf}
use Rattle.octseq_dns_name.specs.declared.error.FromTextError.{FromTextError}
use Rattle.octseq_dns_name.proofs.Names.{wire_append}
use Rattle.octseq_dns_name.proofs.Wires.{bodies_length, one_more}

-- ---- lists

-- a list that isn't empty has octets
pub some_long : (text : List ℕ) → ¬ (text ≡ []) → 1 ≤ length text
some_long [] some = absurd (some refl)
some_long (x ∷ text) some = omega arith

-- ---- a label

octet_more : (label first : List ℕ) (octet : ℕ) (s : List ℕ) → SpellsLabel label first → SpellsOctet octet s
    → SpellsLabel (label ++ octet ∷ []) (first ++ s)
octet_more [] first octet s so_far one = (s, [], ap (λ l. l ++ s) so_far ∙ sym (append-nil s), one, refl)
octet_more (x ∷ label) first octet s so_far one = (
  so_far.0,
  so_far.1 ++ s,
  ap (λ l. l ++ s) so_far.2 ∙ append_assoc so_far.0 so_far.1 s,
  so_far.3,
  octet_more label so_far.1 octet s so_far.4 one,
)

-- one more octet
pub read_octet : (text label ahead s rest : List ℕ) (octet : ℕ) → ReadsLabelPart text label ahead → ahead ≡ s ++ rest
    → SpellsOctet octet s → ReadsLabelPart text (label ++ octet ∷ []) rest
read_octet text label ahead s rest octet so_far here one = (
  so_far.0 ++ s,
  so_far.1 ∙ ap (λ l. so_far.0 ++ l) here ∙ sym (append_assoc so_far.0 s rest),
  octet_more label so_far.0 octet s so_far.2 one,
)

-- no octet comes next
pub octet_fault : (fault : FromTextError) (labels : List (List ℕ)) (text label : List ℕ) (octet : ℕ) (rest : List ℕ)
    → ReadsLabelPart text label (octet ∷ rest) → length label ≤ 63 → ¬ (octet ≡ 46) → SpellsNone (octet ∷ rest)
    → IsIllegal fault octet → IsLabelFault fault labels text
octet_fault FromTextError.IllegalEscape labels text label octet rest so_far short no_stop none is =
    let same = ap (λ o. o ∷ rest) is in
    (label, rest, subst (ReadsLabelPart text label) same so_far, short, subst SpellsNone same none)
octet_fault FromTextError.IllegalOctet labels text label octet rest so_far short no_stop none is =
    (octet, label, rest, so_far, short, no_stop, is, none)
octet_fault FromTextError.UnexpectedEnd labels text label octet rest so_far short no_stop none is = absurd is
octet_fault FromTextError.EmptyLabel labels text label octet rest so_far short no_stop none is = absurd is
octet_fault FromTextError.LongLabel labels text label octet rest so_far short no_stop none is = absurd is
octet_fault FromTextError.LongName labels text label octet rest so_far short no_stop none is = absurd is

-- ---- labels

-- no label was read yet
pub read_no_label : (text : List ℕ) → ReadsLabels text [] text
read_no_label text = ([], refl, refl, tt, omega arith)

pub labels_more : (labels : List (List ℕ)) (first label s : List ℕ) → SpellsLabels labels first → SpellsLabel label s
    → SpellsLabels (labels ++ label ∷ []) (first ++ (s ++ 46 ∷ []))
labels_more [] first label s so_far one = (s, [], ap (λ l. l ++ (s ++ 46 ∷ [])) so_far, one, refl)
labels_more (x ∷ labels) first label s so_far one = (
  so_far.0,
  so_far.1 ++ (s ++ 46 ∷ []),
  ap (λ l. l ++ (s ++ 46 ∷ [])) so_far.2 ∙ append_assoc so_far.0 (46 ∷ so_far.1) (s ++ 46 ∷ []),
  so_far.3,
  labels_more labels so_far.1 label s so_far.4 one,
)

-- one more label
pub read_label : (text : List ℕ) (labels : List (List ℕ)) (ahead label rest : List ℕ) → ReadsLabels text labels ahead
    → ReadsLabelPart ahead label (46 ∷ rest) → 1 ≤ length label → length label ≤ 63
    → wire_length (labels ++ label ∷ []) ≤ 255
    → ReadsLabels text (labels ++ label ∷ []) rest
read_label text labels ahead label rest so_far one some short fits = (
  so_far.0 ++ (one.0 ++ 46 ∷ []),
  so_far.1 ∙ ap (λ l. so_far.0 ++ l) (one.1 ∙ sym (append_assoc one.0 (46 ∷ []) rest))
      ∙ sym (append_assoc so_far.0 (one.0 ++ 46 ∷ []) rest),
  labels_more labels so_far.0 label one.0 so_far.2 one.2,
  one_more labels label so_far.3 some short,
  fits,
)

-- ---- names

no_bodies : (labels : List (List ℕ)) → bodies labels ≡ [] → labels ≡ []
no_bodies [] none = refl
no_bodies (label ∷ labels) none = let e = ap length none in absurd (omega (arith, e))

-- the text is over where no octets of a label are
over_at : (rest last : List ℕ) → ReadsLabelPart rest last [] → last ≡ [] → rest ≡ []
over_at rest last one none = one.1 ∙ ap (λ l. l ++ []) (subst (λ l. SpellsLabel l one.0) none one.2)

-- the text ends too soon: the last label isn't finished
pub unfinished : (labels : List (List ℕ)) (text last : List ℕ) → ReadsAll text labels last → ¬ (last ≡ [])
    → ¬ (text ≡ 46 ∷ []) → IsNameRefused FromTextError.UnexpectedEnd text
unfinished labels text last (rest, read, one, few) some root =
    (root, labels, rest, read, (last, one, few, inr (some_long last some)))

-- or there is none
pub nothing_there : (content : List ℕ) (labels : List (List ℕ)) (text last : List ℕ) → content ≡ bodies labels
    → ReadsAll text labels last → content ≡ [] → last ≡ [] → text ≡ []
nothing_there content labels text last appended (rest, read, one, few) none over =
    let first = subst (λ l. SpellsLabels l read.0) (no_bodies labels (sym appended ∙ none)) read.2 in
    read.1 ∙ ap (λ l. l ++ rest) first ∙ over_at rest last one over

pub nothing_refused : (text : List ℕ) → text ≡ [] → ¬ (text ≡ 46 ∷ []) → IsNameRefused FromTextError.UnexpectedEnd text
nothing_refused text is root = (root, [], text, read_no_label text, ([], ([], is, refl), omega arith, inl refl))

-- all of it is whole labels
pub finished : (content : List ℕ) (labels : List (List ℕ)) (text last all : List ℕ) → content ≡ bodies labels
    → ReadsAll text labels last → ¬ (content ≡ []) → last ≡ [] → all ≡ content ++ 0 ∷ []
    → IsWireOf labels all × SpellsName labels text
finished content [] text last all appended (rest, read, one, few) some none made = absurd (some appended)
finished content (label ∷ labels) text last all appended (rest, read, one, few) some none made = (
  (made ∙ ap (λ l. l ++ 0 ∷ []) appended, read.3, read.4),
  subst (SpellsLabels (label ∷ labels)) (sym (read.1 ∙ ap (λ l. read.0 ++ l) (over_at rest last one none)
      ∙ append-nil read.0)) read.2,
)

-- ---- names with an origin

-- the wire form of labels after others
wire_after : (done more : List (List ℕ)) → wire (done ++ more) ≡ bodies done ++ wire more
wire_after done more = ap (λ l. l ++ 0 ∷ []) (flat_map-append (λ label. length label ∷ label) done more)
    ∙ append_assoc (bodies done) (bodies more) (0 ∷ [])

-- labels followed by others have 1 to 63 octets each if both do
more_labels : (labels more : List (List ℕ)) → AreLabels labels → AreLabels more → AreLabels (labels ++ more)
more_labels [] more are others = others
more_labels (label ∷ labels) more are others = (are.0, are.1, more_labels labels more are.2 others)

-- the number of octets of a relative name with an origin
relative_length : (content : List ℕ) (labels : List (List ℕ)) (label : List ℕ) (origin : List (List ℕ))
    → content ≡ bodies labels
    → wire_length (labels ++ label ∷ origin) ≡ length content + 1 + length label + wire_length origin
relative_length content labels label origin appended =
    let both = wire_append labels (label ∷ origin) in
    let is = bodies_length labels in
    let size = ap length appended in
    omega (arith, both, is, size)

-- a relative name was made
pub relative_made : (origin labels : List (List ℕ)) (text content label all : List ℕ) → content ≡ bodies labels
    → ReadsAll text labels label → ¬ (label ≡ []) → all ≡ content ++ length label ∷ label ++ wire origin
    → AreLabels origin → length content + 1 + length label + wire_length origin ≤ 255
    → (names : List (List ℕ)) × IsWireOf names all × SpellsWithOrigin origin names text
relative_made origin labels text content label all appended (rest, read, one, few) some made are fits = (
  labels ++ label ∷ origin,
  (
    made ∙ append_assoc content (length label ∷ label) (wire origin)
        ∙ ap (λ l. l ++ (length label ∷ label ++ wire origin)) appended
        ∙ ap (λ l. bodies labels ++ l) (sym (wire_more label origin)) ∙ sym (wire_after labels (label ∷ origin)),
    more_labels labels (label ∷ origin) read.3 (some_long label some, few, are),
    (let size = relative_length content labels label origin appended in omega (arith, size, fits)),
  ),
  inr (inr (
    labels,
    label,
    (read.0, one.0, read.1 ∙ ap (λ l. read.0 ++ l) (one.1 ∙ append-nil one.0), read.2, one.2, some_long label some),
    refl,
  )),
)

-- or it is too long
pub relative_long : (origin labels : List (List ℕ)) (text content label : List ℕ) → content ≡ bodies labels
    → ReadsAll text labels label → ¬ (label ≡ [])
    → 255 < length content + 1 + length label + wire_length origin
    → IsRefusedWithOrigin origin FromTextError.LongName text
relative_long origin labels text content label appended (rest, read, one, few) some long =
    let size = relative_length content labels label origin appended in
    inr (labels, rest, label, read, one, some_long label some, few, omega (arith, size, long))
