-- The labels of a name have 1 to 63 octets each.
use Rattle.std.proofs.Common.{◌≡◌, ℕ, suc, ◌+◌, ◌-◌, ◌≤◌, List, [], ◌∷◌, length, drop}
use Rattle.std.proofs.Common.{ap, sym, arith, length-take, length-drop, subst}
use Rattle.std.proofs.Math.Logic.{∥∥₁_elim}
use Rattle.std.specs.Coded.{le_prop, ×_prop, Unit-prop}
use mathlib.Core.HLevel.{×₃_prop}
use Rattle.octseq.specs.Window.{Window, next, past, at}
use Rattle.octseq_dns_name.specs.Name.{HasLabel, HasLabels, octet}
use Rattle.octseq_dns_name.specs.OneName.{Named}
use Rattle.octseq_dns_name.specs.Spelling.{AreOctetLabels}
use Rattle.octseq_dns_name.specs.Wire.{AreLabels}
use Rattle.octseq_format.specs.Canonical.{AreOctets, each_taken, each_dropped}

labels_prop : (labels : List (List ℕ)) → IsProp (AreLabels labels)
labels_prop [] = Unit-prop
labels_prop (l ∷ labels) =
    ×₃_prop (le_prop {n = 1} {m = length l}) (le_prop {n = length l} {m = 63}) (labels_prop labels)

octets_prop : (xs : List ℕ) → IsProp (AreOctets xs)
octets_prop [] = Unit-prop
octets_prop (x ∷ xs) = ×_prop (le_prop {n = suc x} {m = 256}) (octets_prop xs)

octet_labels_prop : (labels : List (List ℕ)) → IsProp (AreOctetLabels labels)
octet_labels_prop [] = Unit-prop
octet_labels_prop (l ∷ labels) = ×_prop (octets_prop l) (octet_labels_prop labels)

-- a label is as long as the octet before it says
label_length : (w u : Window) (l : List ℕ) → w.end ≤ length w.octets → HasLabel w l u → length l ≡ octet w
label_length w u l within has =
    let whole = has.whole in
    let some = has.some in
    let size : length l ≡ length (next (octet w) (past 1 w)) = ap length has.octets in
    let from = w.position + 1 in
    let taken = length-take (from + octet w - from) (drop from w.octets) in
    omega (arith, size, whole, some, within, taken, length-drop from w.octets)

-- the labels at a window's position
labels_are : (start : ℕ) (w v : Window) (labels : List (List ℕ)) (pointers : ℕ) → w.end ≤ length w.octets
    → HasLabels start w labels pointers v → AreLabels labels
labels_are start w v labels pointers within (HasLabels.root has) = tt
labels_are start w v labels pointers within (HasLabels.label {u = u} {l = l} {labels = more} has rest) =
    let size = label_length w u l within has in
    let some = has.some in
    let short = has.short in
    let inside : u.end ≤ length u.octets = subst (λ u. u.end ≤ length u.octets) (sym has.after) within in
    (omega (arith, size, some), omega (arith, size, short), labels_are start u v more pointers inside rest)
labels_are start w v labels pointers within (HasLabels.pointer {to = to} {pointers = fewer} {u = u} has rest) =
    labels_are to (at to w) u labels fewer within rest

octets_are : (start : ℕ) (w v : Window) (labels : List (List ℕ)) (pointers : ℕ) → AreOctets w.octets
    → HasLabels start w labels pointers v → AreOctetLabels labels
octets_are start w v labels pointers each (HasLabels.root has) = tt
octets_are start w v labels pointers each (HasLabels.label {u = u} {l = l} {labels = more} has rest) =
    let inside : AreOctets u.octets = subst (λ u. AreOctets u.octets) (sym has.after) each in (
      subst AreOctets (sym has.octets) (each_taken _ _ (each_dropped _ _ each)),
      octets_are start u v more pointers inside rest,
    )
octets_are start w v labels pointers each (HasLabels.pointer {to = to} {pointers = fewer} {u = u} has rest) =
    octets_are to (at to w) u labels fewer each rest

-- the labels of a name
pub named_labels : (w : Window) (named : Named w) → w.end ≤ length w.octets → AreLabels named.0
named_labels w named within = ∥∥₁_elim named.1 (labels_prop named.0) (λ x.
    labels_are w.position w x.0 named.0 x.1.pointers within x.1.has_labels)

-- and their octets, if those of the window are octets
pub named_octets : (w : Window) (named : Named w) → AreOctets w.octets → AreOctetLabels named.0
named_octets w named each = ∥∥₁_elim named.1 (octet_labels_prop named.0) (λ x.
    octets_are w.position w x.0 named.0 x.1.pointers each x.1.has_labels)
