-- Labels with their length octets, and their offsets.
use Rattle.std.proofs.Common.{slice_index_or, ◌≡◌, ℕ, zero, suc, ◌+◌, ◌-◌, ◌<◌, ◌≤◌, List, [], ◌∷◌, ◌++◌, length, take}
use Rattle.std.proofs.Common.{drop, refl, sym, ap, subst, ◌∙◌, arith, append_assoc, length-append, drop-drop}
use Rattle.std.proofs.Common.{length-drop, length-take, take-take, take-add, slice_set}
use Rattle.std.proofs.lemmas.List.{drop_more, flat_map_more, get_or-map, length-map, take_more, map-append}
use Rattle.std.proofs.lemmas.List.{take_more_set}
use Rattle.std.proofs.Math.Seq.{take-append_seam, drop-append_seam, get_or-append_seam}
use Rattle.octseq_dns_name.specs.Name.{wire_length, HasLabel, octet}
use Rattle.octseq_dns_compress.proofs.Words.{label_at, IsWholeLabel, label_no, prefixed, labels_wire, label_of}
use Rattle.octseq_dns_compress.proofs.Words.{labels_at, AreWhole}
use Rattle.std.proofs.lemmas.List.Elements.{All-push}
use Rattle.octseq.specs.declared.AsOctets.{Ghosts}
use Rattle.octseq.specs.declared.parse.Parser.{Parser}
use Rattle.octseq.specs.Integer.{be}
use Rattle.octseq.specs.Parser.{sequence, window}
use Rattle.octseq.specs.Part.{part}
use Rattle.octseq.specs.Window.{Window, rest, at}
use Rattle.octseq.proofs.Written.{be_one}
use Rattle.octseq_dns_name.specs.NextLabel.{NextLabel}

-- the octets are those of the first labels, followed by those of the others
pub front_and_rest : (index : ℕ) (labels : List (List ℕ))
    → labels_wire labels ≡ labels_wire (take index labels) ++ labels_wire (drop index labels)
front_and_rest zero labels = refl
front_and_rest (suc index) [] = refl
front_and_rest (suc index) (label ∷ labels) =
    ap (λ o. length label ∷ (label ++ o)) (front_and_rest index labels)
    ∙ sym (append_assoc (length label ∷ label) (labels_wire (take index labels)) (labels_wire (drop index labels)))

-- the wire form has one more octet, the root
pub wire_of_unrooted : (labels : List (List ℕ)) → wire_length labels ≡ 1 + length (labels_wire labels)
wire_of_unrooted [] = refl
wire_of_unrooted (label ∷ labels) =
    omega (arith, wire_of_unrooted labels, length-append label (labels_wire labels))

-- a label with its length octet, between others
module _ (octets front label back : List ℕ) (at : ℕ) (is : octets ≡ front ++ (prefixed label ++ back))
    (here : at ≡ length front) where
  length_there : slice_index_or octets at 0 ≡ length label
  length_there = rw (here, is) (get_or-append_seam front (length label) (label ++ back) 0)

  pub whole_there : IsWholeLabel octets at
  whole_there =
      let len = length_there in
      omega (arith, len, ap length is ∙ length-append front (prefixed label ++ back), length-append label back, here)

  pub label_there : label_at octets at ≡ prefixed label
  unfolding label_at
  label_there =
      let more : 1 + length label ≡ length (prefixed label) = omega arith in
      ap (λ n. take (1 + n) (drop at octets)) length_there
      ∙ rw (more, here, is, drop-append_seam front (prefixed label ++ back)) (take-append_seam (prefixed label) back)

-- labels with their length octets have at least one octet each
pub unrooted_longer : (labels : List (List ℕ)) → length labels ≤ length (labels_wire labels)
unrooted_longer [] = omega arith
unrooted_longer (label ∷ labels) =
    omega (arith, unrooted_longer labels, length-append (length label ∷ label) (labels_wire labels))

-- ---- by index

-- the octets of a whole label are its length octet and its own
module _ (octets : List ℕ) (at : ℕ) (whole : IsWholeLabel octets at) where
  label_taken : label_at octets at
      ≡ slice_index_or octets at 0 ∷ take (slice_index_or octets at 0) (drop (at + 1) octets)
  unfolding label_at
  label_taken =
      let len = slice_index_or octets at 0 in
      let one : 1 + len ≡ suc len = omega arith in
      rw (one, drop_more octets at 0 (omega (arith, whole)))

  pub label_of_taken : label_of octets at ≡ take (slice_index_or octets at 0) (drop (at + 1) octets)
  label_of_taken = ap (drop 1) label_taken

  pub whole_label : label_at octets at ≡ length (label_of octets at) ∷ label_of octets at
  whole_label =
      let len = slice_index_or octets at 0 in
      let taken = length-take len (drop (at + 1) octets) in
      let left = length-drop (at + 1) octets in
      let size : len ≡ length (take len (drop (at + 1) octets)) = omega (arith, whole, taken, left) in
      label_taken ∙ ap (λ n. n ∷ take len (drop (at + 1) octets)) size ∙ ap (λ l. length l ∷ l) (sym label_of_taken)

-- a label of a name is read at its offset
pub label_read : (octets starts : List ℕ) (index : ℕ) → AreWhole octets starts
    → index < length (labels_at octets starts)
    → label_at octets (slice_index_or starts index 0) ≡ prefixed (label_no (labels_at octets starts) index)
label_read octets starts index whole within =
    let inside : index < length starts = omega (arith, within, length-map starts (label_of octets)) in
    whole_label octets (slice_index_or starts index 0) (whole index 0 inside)
    ∙ ap prefixed (sym (get_or-map (label_of octets) starts index 0 [] inside))

-- one more of the first labels adds its octets and its length octet
one_label_more : (labels : List (List ℕ)) (count : ℕ) → count < length labels
    → labels_wire (take (count + 1) labels) ≡ labels_wire (take count labels) ++ prefixed (label_no labels count)
one_label_more labels count within =
    ap (λ labels. labels_wire labels) (take_more labels count [] within)
    ∙ sym (flat_map_more prefixed [] (take count labels) (label_no labels count))

-- so the last of the first labels adds its own
pub last_label : (labels : List (List ℕ)) (count : ℕ) (read : List ℕ) → 0 < count → count ≤ length labels
    → read ≡ prefixed (label_no labels (count - 1))
    → length (labels_wire (take count labels)) ≡ length (labels_wire (take (count - 1) labels)) + length read
last_label labels count read some within is =
    let same : count ≡ count - 1 + 1 = omega (arith, some) in
    ap (λ n. length (labels_wire (take n labels))) same
    ∙ ap length (one_label_more labels (count - 1) (omega (arith, some, within)))
    ∙ length-append (labels_wire (take (count - 1) labels)) (prefixed (label_no labels (count - 1)))
    ∙ ap (λ o. length (labels_wire (take (count - 1) labels)) + length o) (sym is)

-- what is left of a name from its last label on
pub one_left : (labels : List (List ℕ)) (left : ℕ) → 0 < left → left ≤ length labels
    → drop (left - 1) labels ≡ label_no labels (left - 1) ∷ drop left labels
one_left labels left some within =
    let same : left - 1 + 1 ≡ left = omega (arith, some) in
    rw (drop_more labels (left - 1) [] (omega (arith, some, within)), same)

-- fewer of the first labels don't have more octets
pub fewer_shorter : (labels : List (List ℕ)) (few many : ℕ) → few ≤ many
    → length (labels_wire (take few labels)) ≤ length (labels_wire (take many labels))
fewer_shorter labels few many less =
    let both = front_and_rest few (take many labels) in
    let long = ap length both
    ∙ length-append (labels_wire (take few (take many labels))) (labels_wire (drop few (take many labels))) in
    omega (arith, long, ap (λ l. length (labels_wire l)) (take-take few many labels less))

-- ---- labels that lie one after another

-- one more label, which begins where the octets from a start on end
module _ (octets starts : List ℕ) (start end index : ℕ) (front : List ℕ) (whole : AreWhole octets starts)
    (inside : index < length (labels_at octets starts)) (here : slice_index_or starts index 0 ≡ end)
    (ordered : start ≤ end) where
  -- adds its octets
  next_taken : take (end - start) (drop start octets) ++ prefixed (label_no (labels_at octets starts) index)
      ≡ take (end + (1 + slice_index_or octets end 0) - start) (drop start octets)
  unfolding label_at
  next_taken =
      let len = 1 + slice_index_or octets end 0 in
      let on : start + (end - start) ≡ end = omega (arith, ordered) in
      let all : end - start + len ≡ end + len - start = omega (arith, ordered) in
      rw (← label_read octets starts index whole inside, here, ← all, take-add (end - start) len (drop start octets))
      (rw (drop-drop (end - start) start octets, on))

  -- to those of the labels before it
  pub run_more : labels_wire (take index (labels_at octets starts)) ≡ front ++ take (end - start) (drop start octets)
      → labels_wire (take (index + 1) (labels_at octets starts))
      ≡ front ++ take (end + (1 + slice_index_or octets end 0) - start) (drop start octets)
  run_more is =
      rw (one_label_more (labels_at octets starts) index inside, is, append_assoc front, next_taken)

  -- it is whole
  pub run_inside : end + (1 + slice_index_or octets end 0) ≤ length octets
  run_inside =
      subst (IsWholeLabel octets) here (whole index 0 (omega (arith, inside, length-map starts (label_of octets))))

-- ---- labels that are left of a name

-- The octet before a label's octets is its length, and the label is whole.
pub record IsPlace (w place on : Window) : Type 0 where
  pub octets : on.octets ≡ w.octets
  pub end : on.end ≡ w.end
  pub after : 1 ≤ place.position
  pub whole : IsWholeLabel w.octets (place.position - 1)
  pub label_is : label_of w.octets (place.position - 1) ≡ rest place
  pub some : 1 ≤ length (rest place)

-- an octet that is there
octet_is : (w : Window) → w.position < length w.octets → octet w ≡ slice_index_or w.octets w.position 0
octet_is w within =
    let p = w.position in
    let one : p + 1 - p ≡ 1 = omega arith in
    ap be (ap (λ n. take n (drop p w.octets)) one ∙ ap (take 1) (drop_more w.octets p 0 within))
    ∙ be_one (slice_index_or w.octets p 0)

-- so is the octet before a label that is here
here_is : (w on : Window) (l : List ℕ) → w.end ≤ length w.octets → HasLabel w l on → IsPlace w (part 1 w) on
here_is w on l within has =
    let p = w.position in
    let same : p + 1 - 1 ≡ p = omega arith in
    let room = has.room in
    let len = octet_is w (omega (arith, room, within)) in
    let whole : IsWholeLabel w.octets p = omega (arith, has.whole, len, within, room) in
    let taken : p + 1 + octet w - (p + 1) ≡ slice_index_or w.octets p 0 = omega (arith, len) in
    let is : label_of w.octets p ≡ rest (part 1 w) =
    label_of_taken w.octets p whole ∙ ap (λ n. take n (drop (p + 1) w.octets)) (sym taken) in
    let size = length-take (p + 1 + octet w - (p + 1)) (drop (p + 1) w.octets) in
    record {
      octets = ap (λ v. v.octets) has.after;
      end = ap (λ v. v.end) has.after;
      after = omega arith;
      whole = subst (IsWholeLabel w.octets) (sym same) whole;
      label_is = ap (label_of w.octets) same ∙ is;
      some = omega (arith, size, length-drop (p + 1) w.octets, taken, whole, len, has.some);
    }

-- and before the next label, wherever it is
pub next_place : (start : ℕ) (w place on : Window) (began : ℕ) → w.end ≤ length w.octets
    → NextLabel start w place began on → IsPlace w place on
next_place start w place on began within (NextLabel.here {l = l} has is) =
    subst (λ place. IsPlace w place on) (sym is) (here_is w on l within has)
next_place start w place on began within (NextLabel.pointed {to = to} has more) =
    let it = next_place to (at to w) place on began within more in
    let label_is = it.label_is in
    record { octets = it.octets; end = it.end; after = it.after; whole = it.whole; label_is = label_is; some = it.some }

-- one more offset is known
module _ (octets starts : List ℕ) (count place : ℕ) (within : count < length starts) where
  more_set : take (count + 1) (slice_set starts count place) ≡ take count starts ++ place ∷ []
  more_set = take_more_set starts count place within

  pub more_whole : AreWhole octets (take count starts) → IsWholeLabel octets place
      → AreWhole octets (take (count + 1) (slice_set starts count place))
  more_whole all one = rw more_set (All-push (IsWholeLabel octets) (take count starts) place all one)

  pub more_labels : (label : List ℕ) (left all : List (List ℕ)) → label_of octets place ≡ label
      → labels_at octets (take count starts) ++ (label ∷ left) ≡ all
      → labels_at octets (take (count + 1) (slice_set starts count place)) ++ left ≡ all
  more_labels label left all is are =
      rw (more_set, map-append (label_of octets) (take count starts) (place ∷ []))
      (rw (append_assoc (labels_at octets (take count starts)), is) are)

-- a name is read from the octets of its window
pub source_is : {R : Type 0} {g : Ghosts R} (octets : List ℕ) (source : R) (parser : Parser R g) (w : Window)
    → octets ≡ g.content source → source ≡ sequence parser → window parser ≡ w → octets ≡ w.octets
source_is {g = g} octets source parser w is from at = is ∙ ap g.content from ∙ ap (λ w. w.octets) at
