-- What a text gives: at most one name, or one fault.
use Rattle.std.proofs.Common.{◌≡◌, ◌⊎◌, inl, inr, ℕ, ◌+◌, ◌≤◌, false, if◌then◌else◌, nat_eq, List, []}
use Rattle.std.proofs.Common.{◌∷◌, ◌++◌, length, refl, sym, ap, ◌∙◌, subst, arith, rules}
use Rattle.std.proofs.Math.Dec.{leb}
use Rattle.std.proofs.lemmas.Bool.{le-leb, lt-leb}
use Rattle.std.proofs.lemmas.List.{append-nil}
use Rattle.octseq_dns_name.specs.Name.{wire_length}
use Rattle.octseq_dns_name.specs.Origin.{SpellsRelative, SpellsWithOrigin, IsLongWithOrigin, IsRefusedWithOrigin}
use Rattle.octseq_dns_name.specs.Refused.{ReadsLabelPart, ReadsLabels, SpellsNone, IsLabelFault, IsNameRefused}
use Rattle.octseq_dns_name.specs.Spelling.{SpellsName}
use Rattle.octseq_dns_name.specs.Wire.{AreLabels}
use Rattle.octseq_dns_name.specs.declared.error.FromTextError.{FromTextError}
use Rattle.octseq_dns_name.proofs.Names.{wire_append, wire_some}
use Rattle.octseq_dns_name.proofs.Octets.{head, none_at, none_at_end}
use Rattle.octseq_dns_name.proofs.Places.{Ends, StopsAt, stops_once, at_full_stop}

-- ---- what is given at a place

data Given : Type 0 where
  named : List (List ℕ) → Given
  refused : FromTextError → Given

-- what the octets of a label at the end of the text give, after whole labels
abbrev Late : Type 0
Late = List (List ℕ) → List ℕ → Given

abbrev at_end : Late → Late
at_end late [] [] = Given.refused FromTextError.UnexpectedEnd
at_end late (x ∷ labels) [] = Given.named (x ∷ labels)
at_end late labels (octet ∷ label) = late labels (octet ∷ label)

-- and a full stop after them
abbrev at_stop : List ℕ → FromTextError
at_stop [] = FromTextError.EmptyLabel
at_stop (octet ∷ label) = FromTextError.LongName

-- and what follows them, if they aren't too many
abbrev by_rest : Late → List (List ℕ) → List ℕ → List ℕ → Given
by_rest late labels label [] = at_end late labels label
by_rest late labels label (octet ∷ rest) = Given.refused (if nat_eq octet 46 then at_stop label else
    (if nat_eq octet 92 then FromTextError.IllegalEscape else FromTextError.IllegalOctet))

abbrev given : Late → List (List ℕ) → List ℕ → List ℕ → Given
given late labels label rest =
    if leb 64 (length label) then Given.refused FromTextError.LongLabel else by_rest late labels label rest

-- a text gives it
abbrev Gives : ℕ → Late → List ℕ → Given → Type 0
Gives most late text it = (labels : List (List ℕ)) × (label rest : List ℕ) × StopsAt most text labels label rest
    × (it ≡ given late labels label rest)

gives_once : (most : ℕ) (late : Late) (text : List ℕ) (it other : Given) → Gives most late text it
    → Gives most late text other → it ≡ other
gives_once most late text it other (labels, label, rest, stops, is) (others, run, more, stop, other_is) =
    let same = stops_once most text labels others label run rest more stops stop in
    is ∙ ap (λ l. given late l label rest) same.0 ∙ ap (λ l. given late others l rest) same.1
    ∙ ap (λ l. given late others run l) same.2 ∙ sym other_is

-- a label that isn't too long
short_given : (late : Late) (labels : List (List ℕ)) (label rest : List ℕ) → length label ≤ 63
    → by_rest late labels label rest ≡ given late labels label rest
short_given late labels label rest few =
    sym (ap (λ b. if b then Given.refused FromTextError.LongLabel else by_rest late labels label rest)
    (lt-leb 64 (length label) (omega (arith, few))))

-- ---- faults

-- no label follows where no full stop is
abbrev NoStop : List ℕ → Type 0
NoStop rest = (more : List ℕ) → ¬ (rest ≡ 46 ∷ more)

stop_ends : (most total : ℕ) (ahead label rest : List ℕ) → ReadsLabelPart ahead label rest → length label ≤ 63
    → SpellsNone rest
    → NoStop rest → Ends most total ahead label rest
stop_ends most total ahead label rest read few none no_stop = record {
  reads = read;
  stopped = (omega (arith, few), λ _. none);
  long = λ more is. absurd (no_stop more is);
}

no_stop_at_end : NoStop []
no_stop_at_end more is = let e = ap length is in absurd (omega (arith, e))

no_stop_at : (octet : ℕ) (rest : List ℕ) → ¬ (octet ≡ 46) → NoStop (octet ∷ rest)
no_stop_at octet rest other more is = other (head is)

-- the place of a fault, and what is given there
abbrev FaultAt : Late → FromTextError → List (List ℕ) → List ℕ → Type 0
FaultAt late fault labels ahead = (label rest : List ℕ) × Ends 255 (wire_length labels) ahead label rest
    × (Given.refused fault ≡ given late labels label rest)

illegal : (late : Late) (labels : List (List ℕ)) (label rest : List ℕ) (octet : ℕ) → ¬ (octet ≡ 46) → ¬ (octet ≡ 92)
    → Given.refused FromTextError.IllegalOctet ≡ by_rest late labels label (octet ∷ rest)
illegal late labels label rest octet no_stop no_backslash =
    let first : nat_eq octet 46 ≡ false = search rules in
    let second : nat_eq octet 92 ≡ false = search rules in
    rw (first, second)

-- the text ends too soon
ends_soon : (late : Late) (labels : List (List ℕ)) (label : List ℕ)
    → (1 ≤ length label → late labels label ≡ Given.refused FromTextError.UnexpectedEnd)
    → (labels ≡ []) ⊎ (1 ≤ length label) → Given.refused FromTextError.UnexpectedEnd ≡ at_end late labels label
ends_soon late labels (octet ∷ label) soon why = sym (soon (omega arith))
ends_soon late labels [] soon (inl none) = ap (λ l. at_end late l []) (sym none)
ends_soon late labels [] soon (inr some) = absurd (omega (arith, some))

fault_at : (late : Late) (fault : FromTextError) (labels : List (List ℕ)) (ahead : List ℕ) → ((label : List ℕ)
    → fault ≡ FromTextError.UnexpectedEnd → 1 ≤ length label → late labels label ≡ Given.refused fault)
    → IsLabelFault fault labels ahead → FaultAt late fault labels ahead
fault_at late FromTextError.UnexpectedEnd labels ahead soon (label, read, few, why) = (
  label,
  [],
  stop_ends 255 (wire_length labels) ahead label [] read few none_at_end no_stop_at_end,
  ends_soon late labels label (soon label refl) why ∙ short_given late labels label [] few,
)
fault_at late FromTextError.EmptyLabel labels ahead soon (rest, is) = (
  [],
  46 ∷ rest,
  record {
    reads = ([], is, refl);
    stopped = at_full_stop [] rest (omega arith);
    long = λ more _ some. absurd (omega (arith, some));
  },
  refl,
)
fault_at late FromTextError.LongLabel labels ahead soon (label, rest, read, long) = (
  label,
  rest,
  record {
    reads = read;
    stopped = (omega (arith, long), λ less. absurd (omega (arith, long, less)));
    long = λ _ _ _ few. absurd (omega (arith, long, few));
  },
  sym (ap (λ b. if b then Given.refused FromTextError.LongLabel else by_rest late labels label rest)
      (le-leb 64 (length label) (omega (arith, long)))),
)
fault_at late FromTextError.LongName labels ahead soon ([], rest, read, some, few, long) = absurd (omega (arith, some))
fault_at late FromTextError.LongName labels ahead soon (octet ∷ label, rest, read, some, few, long) =
    let both = wire_append labels ((octet ∷ label) ∷ []) in (
      octet ∷ label,
      46 ∷ rest,
      record {
        reads = read;
        stopped = at_full_stop (octet ∷ label) rest few;
        long = λ _ _ _ _. omega (arith, long, both);
      },
      short_given late labels (octet ∷ label) (46 ∷ rest) few,
    )
fault_at late FromTextError.IllegalEscape labels ahead soon (label, rest, read, few, none) = (
  label,
  92 ∷ rest,
  stop_ends 255 (wire_length labels) ahead label (92 ∷ rest) read few none
      (no_stop_at 92 rest (λ is. absurd (omega (arith, is)))),
  short_given late labels label (92 ∷ rest) few,
)
fault_at late FromTextError.IllegalOctet labels ahead soon
    (octet, label, rest, read, few, no_stop, no_backslash, none) = (
      label,
      octet ∷ rest,
      stop_ends 255 (wire_length labels) ahead label (octet ∷ rest) read few none (no_stop_at octet rest no_stop),
      illegal late labels label rest octet no_stop no_backslash ∙ short_given late labels label (octet ∷ rest) few,
    )

-- ---- refused texts

-- whole labels, and where reading them stops
stops_at : (text : List ℕ) (labels : List (List ℕ)) (ahead label rest : List ℕ) → ReadsLabels text labels ahead
    → Ends 255 (wire_length labels) ahead label rest → StopsAt 255 text labels label rest
stops_at text labels ahead label rest read ends = record {
  first = read.0;
  ahead = ahead;
  text_is = read.1;
  spells = read.2;
  each = read.3;
  fits = read.4;
  ends = ends;
}

refused_gives : (late : Late) (fault : FromTextError) (text : List ℕ) → ((labels : List (List ℕ)) (label : List ℕ)
    → fault ≡ FromTextError.UnexpectedEnd → 1 ≤ length label → late labels label ≡ Given.refused fault)
    → IsNameRefused fault text → Gives 255 late text (Given.refused fault)
refused_gives late fault text soon (root, labels, ahead, read, is) =
    let at = fault_at late fault labels ahead (soon labels) is in
    (labels, at.0, at.1, stops_at text labels ahead at.0 at.1 read at.2, at.3)

-- without an origin
abbrev too_soon : Late
too_soon labels label = Given.refused FromTextError.UnexpectedEnd

plain_gives : (fault : FromTextError) (text : List ℕ) → IsNameRefused fault text
    → Gives 255 too_soon text (Given.refused fault)
plain_gives fault text = refused_gives too_soon fault text (λ _ _ is _. ap Given.refused (sym is))

-- with one
abbrev with_origin : ℕ → List (List ℕ) → Late
with_origin most origin labels label = if leb (wire_length (labels ++ label ∷ origin)) most
    then Given.named (labels ++ label ∷ origin) else Given.refused FromTextError.LongName

-- where an octet of a text spells none at its front, nothing is read
stops_first : (most : ℕ) (text : List ℕ) → 1 ≤ most → SpellsNone text → StopsAt most text [] [] text
stops_first most text some none = record {
  first = [];
  ahead = text;
  text_is = refl;
  spells = refl;
  each = tt;
  fits = some;
  ends = record {
    reads = ([], refl, refl);
    stopped = (omega arith, λ _. none);
    long = λ more _ filled. absurd (omega (arith, filled));
  };
}

first_gives : (most : ℕ) (late : Late) (text : List ℕ) → 1 ≤ most → SpellsNone text
    → Gives most late text (by_rest late [] [] text)
first_gives most late text some none =
    ([], [], text, stops_first most text some none, short_given late [] [] text (omega arith))

-- a relative name
late_gives : (most : ℕ) (late : Late) (labels : List (List ℕ)) (label text : List ℕ) → AreLabels labels
    → wire_length labels ≤ most → length label ≤ 63 → SpellsRelative labels label text
    → Gives most late text (late labels label)
late_gives most late labels [] text each fits few (first, last, is, spells, one, some) = absurd (omega (arith, some))
late_gives most late labels (octet ∷ label) text each fits few (first, last, is, spells, one, some) =
    let read : ReadsLabelPart last (octet ∷ label) [] = (last, sym (append-nil last), one) in (
      labels,
      octet ∷ label,
      [],
      record {
        first = first;
        ahead = last;
        text_is = is;
        spells = spells;
        each = each;
        fits = fits;
        ends = stop_ends most (wire_length labels) last (octet ∷ label) [] read few none_at_end no_stop_at_end;
      },
      short_given late labels (octet ∷ label) [] few,
    )

long_gives : (origin : List (List ℕ)) (text : List ℕ) → IsLongWithOrigin origin text
    → Gives 255 (with_origin 255 origin) text (Given.refused FromTextError.LongName)
long_gives origin text (labels, ahead, label, read, last, some, few, long) =
    let relative : SpellsRelative labels label text =
    (read.0, last.0, read.1 ∙ ap (λ l. read.0 ++ l) (last.1 ∙ append-nil last.0), read.2, last.2, some) in
    subst (Gives 255 (with_origin 255 origin) text)
    (ap (λ b. if b then Given.named (labels ++ label ∷ origin) else Given.refused FromTextError.LongName)
    (lt-leb (wire_length (labels ++ label ∷ origin)) 255 long))
    (late_gives 255 (with_origin 255 origin) labels label text read.3 read.4 few relative)

origin_gives : (origin : List (List ℕ)) (fault : FromTextError) (text : List ℕ)
    → IsRefusedWithOrigin origin fault text → Gives 255 (with_origin 255 origin) text (Given.refused fault)
origin_gives origin FromTextError.UnexpectedEnd text is = let late = with_origin 255 origin in
    subst (λ t. Gives 255 late t (Given.refused FromTextError.UnexpectedEnd)) (sym is)
    (first_gives 255 late [] (omega arith) none_at_end)
origin_gives origin FromTextError.EmptyLabel text is = refused_gives (with_origin 255 origin) _ text (λ _ _ e. cc) is
origin_gives origin FromTextError.LongLabel text is = refused_gives (with_origin 255 origin) _ text (λ _ _ e. cc) is
origin_gives origin FromTextError.LongName text (inl is) =
    refused_gives (with_origin 255 origin) _ text (λ _ _ e. cc) is
origin_gives origin FromTextError.LongName text (inr is) = long_gives origin text is
origin_gives origin FromTextError.IllegalEscape text is = refused_gives (with_origin 255 origin) _ text (λ _ _ e. cc) is
origin_gives origin FromTextError.IllegalOctet text is =
    refused_gives (with_origin 255 origin) _ text (λ _ _ e. cc) is.1

-- ---- names

-- A name is given, or nothing is read of the text of the root.
abbrev Whole : List (List ℕ) → List ℕ → Given → Type 0
Whole labels text it = (it ≡ Given.named labels)
    ⊎ ((it ≡ Given.refused FromTextError.EmptyLabel) × (text ≡ 46 ∷ []) × (labels ≡ []))

-- the same with an origin, or nothing is read of `@`
abbrev Read : List (List ℕ) → List (List ℕ) → List ℕ → Given → Type 0
Read origin labels text it = Whole labels text it
    ⊎ ((it ≡ Given.refused FromTextError.IllegalOctet) × (text ≡ 64 ∷ []) × (labels ≡ origin))

name_gives : (most : ℕ) (late : Late) (labels : List (List ℕ)) (text : List ℕ) → AreLabels labels
    → wire_length labels ≤ most → SpellsName labels text
    → (it : Given) × Gives most late text it × Whole labels text it
name_gives most late [] text each fits spells = (
  Given.refused FromTextError.EmptyLabel,
  subst (λ t. Gives most late t (Given.refused FromTextError.EmptyLabel)) (sym spells)
      (first_gives most late (46 ∷ []) fits (none_at 46 [] refl (λ is. absurd (omega (arith, is))))),
  inr (refl, spells, refl),
)
name_gives most late (x ∷ labels) text each fits spells = (
  Given.named (x ∷ labels),
  (
    x ∷ labels,
    [],
    [],
    record {
      first = text;
      ahead = [];
      text_is = sym (append-nil text);
      spells = spells;
      each = each;
      fits = fits;
      ends = stop_ends most (wire_length (x ∷ labels)) [] [] [] ([], refl, refl)
          (omega arith) none_at_end no_stop_at_end;
    },
    refl,
  ),
  inl refl,
)

-- the labels before an origin have 1 to 63 octets each, and so has the last of them
own_labels : (labels : List (List ℕ)) (label : List ℕ) (origin : List (List ℕ)) → AreLabels (labels ++ label ∷ origin)
    → AreLabels labels × (length label ≤ 63)
own_labels [] label origin are = (tt, are.1)
own_labels (x ∷ labels) label origin are =
    let more = own_labels labels label origin are.2 in ((are.0, are.1, more.0), more.1)

spelled_gives : (most : ℕ) (origin labels : List (List ℕ)) (text : List ℕ) → AreLabels labels
    → wire_length labels ≤ most → SpellsWithOrigin origin labels text
    → (it : Given) × Gives most (with_origin most origin) text it × Read origin labels text it
spelled_gives most origin labels text each fits (inl spells) =
    let it = name_gives most (with_origin most origin) labels text each fits spells in (it.0, it.1, inl it.2)
spelled_gives most origin labels text each fits (inr (inl (alone, is))) =
    let late = with_origin most origin in
    let some = wire_some labels in (
      Given.refused FromTextError.IllegalOctet,
      subst (λ t. Gives most late t (Given.refused FromTextError.IllegalOctet)) (sym alone)
          (first_gives most late (64 ∷ []) (omega (arith, some, fits))
          (none_at 64 [] refl (λ is. absurd (omega (arith, is))))),
      inr (refl, alone, is),
    )
spelled_gives most origin labels text each fits (inr (inr (own, label, spells, is))) =
    let own_are = own_labels own label origin (subst AreLabels is each) in
    let all = ap wire_length is in
    let both = wire_append own (label ∷ origin) in
    let some = wire_some (label ∷ origin) in (
      with_origin most origin own label,
      late_gives most (with_origin most origin) own label text own_are.0
          (omega (arith, all, both, some, fits)) own_are.1
          spells,
      inl (inl (ap (λ b. if b then Given.named (own ++ label ∷ origin) else Given.refused FromTextError.LongName)
          (le-leb (wire_length (own ++ label ∷ origin)) most (omega (arith, all, fits)))
          ∙ ap Given.named (sym is))),
    )

-- ---- the laws

-- the labels of what is given
abbrev read_as : List (List ℕ) → Given → List (List ℕ)
read_as origin (Given.named labels) = labels
read_as origin (Given.refused FromTextError.IllegalOctet) = origin
read_as origin (Given.refused _) = []

are_read : (origin labels : List (List ℕ)) (text : List ℕ) (it : Given) → Read origin labels text it
    → labels ≡ read_as origin it
are_read origin labels text it (inl (inl is)) = sym (ap (read_as origin) is)
are_read origin labels text it (inl (inr is)) = is.2 ∙ sym (ap (read_as origin) is.0)
are_read origin labels text it (inr is) = is.2 ∙ sym (ap (read_as origin) is.0)

-- a text spells at most one name with an origin
once : (most : ℕ) (origin labels others : List (List ℕ)) (text : List ℕ) → AreLabels labels
    → wire_length labels ≤ most → AreLabels others → wire_length others ≤ most → SpellsWithOrigin origin labels text
    → SpellsWithOrigin origin others text → labels ≡ others
once most origin labels others text are short others_are others_short one two =
    let here = spelled_gives most origin labels text are short one in
    let there = spelled_gives most origin others text others_are others_short two in
    are_read origin labels text here.0 here.2
    ∙ ap (read_as origin) (gives_once most (with_origin most origin) text here.0 there.0 here.1 there.1)
    ∙ sym (are_read origin others text there.0 there.2)

pub name_once_with_origin : (origin labels others : List (List ℕ)) (text : List ℕ) → AreLabels labels
    → wire_length labels ≤ 255 → AreLabels others → wire_length others ≤ 255 → SpellsWithOrigin origin labels text
    → SpellsWithOrigin origin others text → labels ≡ others
name_once_with_origin = once 255

-- and at most one without
pub name_once : (labels others : List (List ℕ)) (text : List ℕ) → AreLabels labels → AreLabels others
    → SpellsName labels text → SpellsName others text → labels ≡ others
name_once labels others text are others_are one two =
    once (wire_length labels + wire_length others) [] labels others text are (omega arith) others_are (omega arith)
    (inl one) (inl two)

-- a text is refused for one fault
pub one_reason : (fault other : FromTextError) (text : List ℕ) → IsNameRefused fault text → IsNameRefused other text
    → fault ≡ other
one_reason fault other text one two =
    let same = gives_once 255 too_soon text (Given.refused fault) (Given.refused other) (plain_gives fault text one)
    (plain_gives other text two) in
    cc

pub one_reason_with_origin : (origin : List (List ℕ)) (fault other : FromTextError) (text : List ℕ)
    → IsRefusedWithOrigin origin fault text → IsRefusedWithOrigin origin other text → fault ≡ other
one_reason_with_origin origin fault other text one two =
    let same = gives_once 255 (with_origin 255 origin) text (Given.refused fault) (Given.refused other)
    (origin_gives origin fault text one) (origin_gives origin other text two) in
    cc

-- a text that is refused spells no name
not_whole : (fault : FromTextError) (labels : List (List ℕ)) (text : List ℕ) (it : Given) → Given.refused fault ≡ it
    → (fault ≡ FromTextError.EmptyLabel → ¬ (text ≡ 46 ∷ [])) → ¬ Whole labels text it
not_whole fault labels text it same root (inl is) = let e = same ∙ is in cc
not_whole fault labels text it same root (inr is) = let e = same ∙ is.0 in root (cc) is.1

pub no_name : (fault : FromTextError) (text : List ℕ) → IsNameRefused fault text → (labels : List (List ℕ))
    → AreLabels labels → wire_length labels ≤ 255 → ¬ SpellsName labels text
no_name fault text is labels are short spells =
    let read = name_gives 255 too_soon labels text are short spells in
    not_whole fault labels text read.0
    (gives_once 255 too_soon text (Given.refused fault) read.0 (plain_gives fault text is) read.1) (λ _. is.0) read.2

pub no_name_with_origin : (origin : List (List ℕ)) (fault : FromTextError) (text : List ℕ)
    → IsRefusedWithOrigin origin fault text → (labels : List (List ℕ)) → AreLabels labels → wire_length labels ≤ 255
    → ¬ SpellsWithOrigin origin labels text
no_name_with_origin origin fault text is labels are short spells =
    let late = with_origin 255 origin in
    let read = spelled_gives 255 origin labels text are short spells in
    by_form (gives_once 255 late text (Given.refused fault) read.0 (origin_gives origin fault text is) read.1) read.2
  where
    by_form : {it : Given} → Given.refused fault ≡ it → Read origin labels text it → ⊥
    by_form {it} same (inl whole) =
        not_whole fault labels text it same (λ e. (subst (λ f. IsRefusedWithOrigin origin f text) e is).0) whole
    by_form same (inr alone) =
        let e = same ∙ alone.0 in
        (subst (λ f. IsRefusedWithOrigin origin f text) (let f : fault ≡ FromTextError.IllegalOctet = cc in f) is).0
        alone.1
