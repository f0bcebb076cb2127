-- A name has no pointer exactly if its octets are as many as its wire form.
use Rattle.std.proofs.Common.{◌≡◌, ℕ, ◌+◌, List, [], ◌∷◌, length, sym, ap, ◌∙◌, subst, arith}
use Rattle.octseq.specs.Window.{Window, past}
use Rattle.octseq_dns_name.specs.Name.{HasLabel, HasLabels, octet, wire_length}
use Rattle.octseq_dns_name.specs.Wire.{AreLabels}
use Rattle.octseq_format.specs.Canonical.{IsSoundWindow, many_next, sound_past}

-- a label has as many octets as its length says
label_long : (w v : Window) (l : List ℕ) → IsSoundWindow w → HasLabel w l v → length l ≡ octet w
label_long w v l sound has =
    ap length has.octets ∙ many_next (octet w) (past 1 w) (sound_past 1 w sound has.room) has.whole

after_label : (w v : Window) (l : List ℕ) → IsSoundWindow w → HasLabel w l v → IsSoundWindow (past (octet w) (past 1 w))
after_label w v l sound has = sound_past (octet w) (past 1 w) (sound_past 1 w sound has.room) has.whole

-- labels without pointers take as many octets as their wire form
pub plain_long : (start : ℕ) (w v : Window) (labels : List (List ℕ)) (pointers : ℕ) → IsSoundWindow w → pointers ≡ 0
    → HasLabels start w labels pointers v → v.position ≡ w.position + wire_length labels
plain_long start w v labels pointers sound none (HasLabels.root has) = ap (λ (x : Window). x.position) has.after
plain_long start w v labels pointers sound none (HasLabels.label {u = u} {l = l} {labels = more} has rest) =
    let long = label_long w u l sound has in
    let on = plain_long start u v more pointers
    (subst IsSoundWindow (sym has.after) (after_label w u l sound has)) none rest
    in
    let at = ap (λ (x : Window). x.position) has.after in
    omega (arith, long, on, at)
plain_long start w v labels pointers sound none (HasLabels.pointer has rest) = absurd (omega (arith, none))

-- no name has two octets in wire form
not_two : (labels : List (List ℕ)) → AreLabels labels → wire_length labels ≡ 2 → ⊥
not_two [] are is = omega (arith, is)
not_two (l ∷ []) are is = let some = are.0 in omega (arith, some, is)
not_two (l ∷ k ∷ labels) are is = let some = are.0 in omega (arith, some, is)

-- labels that take as many octets as their wire form have no pointer
pub plain_by_length : (start : ℕ) (w v : Window) (labels : List (List ℕ)) (pointers : ℕ) → IsSoundWindow w
    → AreLabels labels
    → HasLabels start w labels pointers v → v.position ≡ w.position + wire_length labels → HasLabels start w labels 0 v
plain_by_length start w v labels pointers sound are (HasLabels.root has) is = HasLabels.root has
plain_by_length start w v labels pointers sound are (HasLabels.label {u = u} {l = l} {labels = more} has rest) is =
    let long = label_long w u l sound has in
    let at = ap (λ (x : Window). x.position) has.after in
    HasLabels.label has (plain_by_length start u v more pointers
    (subst IsSoundWindow (sym has.after) (after_label w u l sound has)) are.2 rest (omega (arith, long, at, is)))
plain_by_length start w v labels pointers sound are (HasLabels.pointer has rest) is =
    let at = ap (λ (x : Window). x.position) has.after in
    absurd (not_two labels are (omega (arith, at, is)))
