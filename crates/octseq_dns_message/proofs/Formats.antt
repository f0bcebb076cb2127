-- Where entries are and where they aren't, and how many octets they take.
use Rattle.std.proofs.Common.{◌≡◌, ℕ, ◌+◌, ◌≤◌, List, length, refl, sym, ap, ◌∙◌, subst, arith}
use Rattle.std.specs.Coded.{Coded}
use Rattle.octseq.specs.Integer.{be}
use Rattle.octseq.specs.Window.{Window, at, left, whole}
use Rattle.octseq_dns_data.specs.Format.{IsNumber}
use Rattle.octseq_dns_message.specs.Entry.{Question, Record, IsQuestion, IsRecord}
use Rattle.octseq_dns_name.specs.Name.{HasName, IsName}
use Rattle.octseq_dns_name.specs.NameFormat.{one_named, onward_name}
use Rattle.octseq_format.specs.Fixed.{onward_fixed}
use Rattle.octseq_format.specs.Laws.{IsOne, IsOnward, Relation, NoneAt}
use Rattle.octseq_format.specs.Pair.{◌then◌, ◌onward_then◌}
use Rattle.octseq_format.specs.Part.{onward_part}
use Rattle.octseq_format.specs.Row.{Holds, Many, Row, onward_row}
use Rattle.octseq_format.proofs.Nones.{none_second}
use Rattle.octseq_format.proofs.RowSteps.{held_as}

-- ---- where there are none

-- if there are no labels, there is no name
pub no_name : (w : Window) → ((labels : List (List ℕ)) (end : Window) → IsName w labels end → ⊥) → NoneAt HasName w
no_name w none name v is = none name.labels v is.1

-- nor a name followed by something else, if that isn't what follows the name
pub none_after_name : {B : Type 0} (Second : Relation B) (w u : Window) (labels : List (List ℕ))
    → IsName w labels u → NoneAt Second u → NoneAt (HasName then Second) w
none_after_name Second w u labels is none = none_second HasName Second w u (record { place = w; labels = labels })
    one_named (refl, is) none

-- ---- how many octets entries take

-- a question takes at least 5 octets
pub onward_question : IsOnward 5 IsQuestion
onward_question =
    let parts = onward_name onward_then onward_fixed 2 be onward_then onward_fixed 2 be in
    record {
      on = λ w q v ordered is. parts.on w (q.qname, (q.qtype, q.qclass)) v ordered is;
      less = λ w q v is. parts.less w (q.qname, (q.qtype, q.qclass)) v is;
    }

pub question_takes : (w v : Window) (q : Question) → IsQuestion w q v → left v + 5 ≤ left w
question_takes w v q is = onward_question.less w q v is

-- a record takes at least 11
pub onward_record : IsOnward 11 IsRecord
onward_record =
    let parts = onward_name onward_then onward_fixed 2 be onward_then onward_fixed 2 be onward_then onward_fixed 4 be
    onward_then onward_part 2 in
    record {
      on = λ w r v ordered is. parts.on w (r.owner, (r.rtype, (r.class, (r.ttl, r.rdata)))) v ordered is;
      less = λ w r v is. parts.less w (r.owner, (r.rtype, (r.class, (r.ttl, r.rdata)))) v is;
    }

pub record_takes : (w v : Window) (r : Record) → IsRecord w r v → left v + 11 ≤ left w
record_takes w v r is = onward_record.less w r v is

-- ---- where rows of them end

-- a row ends at another position of the same window
pub row_at : {A : Type 0} {Is : Relation A} {least : ℕ} → IsOnward least Is → (w : Window) (row : List A) (v : Window)
    → w.position ≤ w.end → Row Is w row v → (v ≡ at v.position w) × (v.position ≤ w.end)
row_at {Is = Is} onward w row v ordered is =
    let on = (onward_row Is onward).on w row v ordered is in
    let end = on.1 in
    let within = on.3 in (
      λ i. record { octets = on.0 i; position = v.position; end = end i },
      omega (arith, end, within),
    )

-- ---- places in all the octets of a message

-- a window of all the octets, but for its position
abbrev pub IsAt : List ℕ → Window → Type 0
IsAt octets w = (w ≡ at w.position (whole octets)) × (w.position ≤ length octets)

pub at_place : (octets : List ℕ) (w : Window) (place : ℕ) → IsAt octets w → place ≡ w.position
    → w ≡ at place (whole octets)
at_place octets w place is same = is.0 ∙ ap (λ place. at place (whole octets)) (sym same)

pub onward_number : IsOnward 2 (IsNumber 2)
onward_number = onward_fixed 2 be

pub next_at : {A : Type 0} {Is : Relation A} {least : ℕ} → IsOnward least Is → (octets : List ℕ) (w : Window)
    (row : List A) (v : Window) → IsAt octets w → Row Is w row v → IsAt octets v
next_at {Is = Is} onward octets w row v place is =
    row_at onward (at w.position (whole octets)) row v place.1 (subst (λ w. Row Is w row v) place.0 is)

-- the row that a window holds is the one that is there
pub held_at : {A : Type 0} (code : Coded A) (Is : Relation A) → IsOne Is → (w u end : Window) → w ≡ u → (count : ℕ)
    (row : List A) (held : Holds Is u count) → Many count Is w row end → row ≡ held.0
held_at code Is one w u end same count row held is =
    held_as code Is one u end count row held (subst (λ w. Many count Is w row end) same is)
