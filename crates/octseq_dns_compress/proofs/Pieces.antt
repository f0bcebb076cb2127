-- Reading a name that was written with the names that pointers may lead to.
use Rattle.std.proofs.Common.{if◌then◌else◌, ne_eqb, ◌≡◌, ℕ, suc, ◌+◌, ◌/◌, ◌%◌, ◌<◌, ◌≤◌, Option, Some, None, List, []}
use Rattle.std.proofs.Common.{◌∷◌, ◌++◌, length, length-append, append_assoc, is_some, refl, sym, ap, ◌∙◌, subst, arith}
use Rattle.std.specs.FinMap.{get}
use Rattle.std.specs.Option.{option_or}
use Rattle.octseq.specs.Integer.{be}
use Rattle.octseq.specs.Window.{Window, rest, next, past, at}
use Rattle.octseq.proofs.WindowsAfter.{front_comes_next}
use Rattle.octseq_dns_compress.specs.Names.{Names, Place, at_or_zero, ended, first_labels, last_place, labels_wire}
use Rattle.octseq_dns_compress.specs.Names.{name_octets, pointers_from}
use Rattle.octseq_dns_name.specs.Name.{HasRoot, HasLabel, HasPointer, HasLabels, octet}
use Rattle.octseq.proofs.Written.{be_one}
use Rattle.octseq_dns_name.specs.Wire.{AreLabels}

-- ---- pieces

root_next : (w : Window) (after : List ℕ) → rest w ≡ 0 ∷ after → HasRoot w (past 1 w)
root_next w after is =
    let one = front_comes_next w (0 ∷ []) after 1 is refl in
    record { room = one.0; zero = ap be one.1 ∙ be_one 0; after = refl }

label_next : (w : Window) (label after : List ℕ) → 1 ≤ length label → length label ≤ 63
    → rest w ≡ length label ∷ (label ++ after)
    → HasLabel w label (past (1 + length label) w) × (rest (past (1 + length label) w) ≡ after)
label_next w label after some short is =
    let one = front_comes_next w (length label ∷ []) (label ++ after) 1 is refl in
    let said : octet w ≡ length label = ap be one.1 ∙ be_one (length label) in
    let two = front_comes_next (past 1 w) label after (length label) one.2 refl in
    let both : w.position + 1 + length label ≡ w.position + (1 + length label) = omega arith in (
      record {
        room = one.0;
        some = omega (arith, said, some);
        short = omega (arith, said, short);
        whole = omega (arith, said, two.0);
        octets = sym (ap (λ n. next n (past 1 w)) said ∙ two.1);
        after = ap (λ p. at p w) (omega (arith, said));
      },
      ap (λ p. rest (at p w)) (sym both) ∙ two.2,
    )

pointed : (n : ℕ) → 12 ≤ n → ended n ≡ (192 + n / 256) ∷ (n % 256) ∷ []
pointed n late =
    ap (λ b. if b then 0 ∷ [] else (192 + n / 256) ∷ (n % 256) ∷ []) (ne_eqb n 0 (λ same. omega (arith, same, late)))

pointer_next : (start : ℕ) (w : Window) (n : ℕ) (after : List ℕ) → 12 ≤ n → n < start
    → rest w ≡ ended n ++ after → HasPointer start w n (past (length (ended n)) w)
pointer_next start w n after late before is =
    let pointer = pointed n late in
    let one = front_comes_next w ((192 + n / 256) ∷ []) ((n % 256) ∷ after) 1
    (is ∙ ap (λ o. o ++ after) pointer) refl in
    let two = front_comes_next (past 1 w) ((n % 256) ∷ []) after 1 one.2 refl in
    let first : octet w ≡ 192 + n / 256 = ap be one.1 ∙ be_one (192 + n / 256) in
    let second : octet (past 1 w) ≡ n % 256 = ap be two.1 ∙ be_one (n % 256) in
    record {
      room = omega (arith, one.0, two.0);
      mark = omega (arith, first);
      place = omega (arith, first, second);
      before = before;
      after = ap (λ o. past (length o) w) pointer;
    }

-- ---- names

-- the octets of a name, by the result of its lookup
abbrev pub octets_by : Names → List ℕ → List (List ℕ) → Option Place → List ℕ
octets_by names label labels found = labels_wire (if is_some found then [] else label ∷ first_labels names labels)
    ++ ended (at_or_zero (option_or found (last_place names labels)))

-- if it isn't there, its first label is written, followed by the other labels as a name
pub octets_new : (names : Names) (label : List ℕ) (labels : List (List ℕ))
    → octets_by names label labels None ≡ length label ∷ (label ++ name_octets names labels)
octets_new names label labels =
    ap (λ octets. length label ∷ octets)
    (append_assoc label (labels_wire (first_labels names labels)) (ended (at_or_zero (last_place names labels))))

-- Each of the names is in the octets of a window, before a start.
pub record AreBefore (names : Names) (start : ℕ) (w : Window) : Type 0 where
  pub late : (labels : List (List ℕ)) (place : Place) → get names labels ≡ Some place → 12 ≤ place.at
  pub before : (labels : List (List ℕ)) (place : Place) → get names labels ≡ Some place → place.at < start
  pub there : (labels : List (List ℕ)) (place : Place) → get names labels ≡ Some place
      → (v : Window) × HasLabels place.at (at place.at w) labels place.pointers v

-- if the octets of a name come next, its labels are there
pub name_next : (names : Names) (start : ℕ) (w : Window) (labels : List (List ℕ)) (after : List ℕ)
    → AreBefore names start w → AreLabels labels → rest w ≡ name_octets names labels ++ after
    → HasLabels start w labels (pointers_from (last_place names labels)) (past (length (name_octets names labels)) w)
name_next names start w [] after are each is = HasLabels.root (root_next w after is)
name_next names start w (label ∷ labels) after are each is =
    let u = past (1 + length label) w in
    by_found (get names (label ∷ labels)) refl is (λ next.
    name_next names start u labels after (record { late = are.late; before = are.before; there = are.there }) each.2
    next) where
      by_found : (found : Option Place) → get names (label ∷ labels) ≡ found
          → rest w ≡ octets_by names label labels found ++ after
          → (rest (past (1 + length label) w) ≡ name_octets names labels ++ after
          → HasLabels start (past (1 + length label) w) labels (pointers_from (last_place names labels))
          (past (length (name_octets names labels)) (past (1 + length label) w)))
          → HasLabels start w (label ∷ labels) (pointers_from (option_or found (last_place names labels)))
          (past (length (octets_by names label labels found)) w)
      by_found (Some place) found is others =
          let one : suc place.pointers ≡ place.pointers + 1 = omega arith in
          subst (λ n. HasLabels start w (label ∷ labels) n (past (length (ended place.at)) w)) one
          (HasLabels.pointer (pointer_next start w place.at after (are.late (label ∷ labels) place found)
          (are.before (label ∷ labels) place found) is)
          (are.there (label ∷ labels) place found).1)
      by_found None found is others =
          let more = name_octets names labels in
          let new = octets_new names label labels in
          let apart = ap (λ octets. length label ∷ octets) (append_assoc label more after) in
          let all = is ∙ ap (λ octets. octets ++ after) new ∙ apart in
          let next = label_next w label (more ++ after) each.0 each.1 all in
          subst (λ p. HasLabels start w (label ∷ labels) (pointers_from (last_place names labels)) (at p w))
          (omega (arith, ap length new, length-append label more)) (HasLabels.label next.0 (others next.1))
