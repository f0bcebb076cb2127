-- The plain wire form of labels is a name.
use Rattle.std.proofs.Common.{◌≡◌, ℕ, ◌+◌, ◌≤◌, Option, List, [], ◌∷◌, ◌++◌, length, refl, sym, ap, ◌∙◌}
use Rattle.std.proofs.Common.{append_assoc, arith}
use Rattle.std.proofs.lemmas.List.{append-nil, length-append, flat_map_more}
use Rattle.octseq.specs.Limit.{ExceedsLimit}
use Rattle.octseq.specs.Window.{Window, past, rest, whole}
use Rattle.octseq.proofs.Codes.{rest_whole}
use Rattle.octseq.proofs.Limits.{past_more}
use Rattle.octseq_dns_name.specs.Name.{IsName, wire_length}
use Rattle.octseq_dns_name.specs.NameFormat.{bodies, wire_has_labels}
use Rattle.octseq_dns_name.specs.Wire.{wire, AreLabels}
use Rattle.octseq_dns_name.proofs.Names.{wire_append}

-- ---- lengths

-- labels, each after its length, have as many octets as their wire form without the root
pub bodies_length : (labels : List (List ℕ)) → length (bodies labels) + 1 ≡ wire_length labels
bodies_length [] = refl
bodies_length (label ∷ labels) =
    let more = bodies_length labels in
    let all = length-append label (bodies labels) in
    omega (arith, more, all)

-- the wire form of labels has as many octets as their wire length says
pub wire_has : (labels : List (List ℕ)) → length (wire labels) ≡ wire_length labels
wire_has labels = length-append (bodies labels) (0 ∷ []) ∙ bodies_length labels

-- ---- a name

-- octets that are the wire form of labels are the name with those labels
pub wire_named : (octets : List ℕ) (labels : List (List ℕ)) → octets ≡ wire labels → AreLabels labels
    → wire_length labels ≤ 255
    → ∥ ((end : Window) × IsName (whole octets) labels end) ∥₁
wire_named octets labels are each short =
    let all : rest (whole octets) ≡ octets = rest_whole octets in
    let has_labels = wire_has_labels 0 (whole octets) labels [] each (all ∙ are ∙ sym (append-nil (wire labels))) in
    ∣ (
      past (length (wire labels)) (whole octets),
      record { pointers = 0; has_labels = has_labels; short = short; few = omega arith },
    ) ∣₁

-- ---- the writer

-- labels with 1 to 63 octets each still have them when followed by one more such label
pub one_more : (labels : List (List ℕ)) (label : List ℕ) → AreLabels labels → 1 ≤ length label → length label ≤ 63
    → AreLabels (labels ++ label ∷ [])
one_more [] label are some short = (some, short, tt)
one_more (first ∷ labels) label are some short = (are.0, are.1, one_more labels label are.2 some short)

-- There is room for octets of what is ahead, after the labels that were appended.
pub room_ahead : (limit : Option ℕ) (content before : List ℕ) (labels done ahead : List (List ℕ)) (n : ℕ)
    → content ≡ before ++ bodies done → labels ≡ done ++ ahead
    → n ≤ wire_length ahead → ¬ ExceedsLimit limit (length before + wire_length labels)
    → ¬ ExceedsLimit limit (length content + n)
room_ahead limit content before labels done ahead n appended labels_are few room past =
    let all = ap wire_length labels_are in
    let both = wire_append done ahead in
    let is = bodies_length done in
    let size = ap length appended ∙ length-append before (bodies done) in
    room (past_more limit (length content + n) (length before + wire_length labels)
    (omega (arith, few, both, is, size, all)) past)

-- one more label was appended: its length, and its octets
pub appended_more : (before content one two : List ℕ) (done : List (List ℕ)) (label : List ℕ)
    → content ≡ before ++ bodies done → one ≡ content ++ length label ∷ [] → two ≡ one ++ label
    → two ≡ before ++ bodies (done ++ label ∷ [])
appended_more before content one two done label so_far first second =
    second ∙ ap (λ octets. octets ++ label) (first ∙ ap (λ octets. octets ++ length label ∷ []) so_far)
    ∙ append_assoc (before ++ bodies done) (length label ∷ []) label
    ∙ flat_map_more (λ label. length label ∷ label) before done label
