-- Domain names as they are in a message: RFC 1035, 2.3.4 (sizes), 3.1 (labels) and 4.1.4 (pointers).
use Rattle.std.specs.Prelude.{◌≡◌, ℕ, suc, ◌+◌, ◌-◌, ◌*◌, ◌<◌, ◌≤◌, List, [], ◌∷◌, length}
use Rattle.octseq.specs.Integer.{be}
use Rattle.octseq.specs.Window.{Window, left, next, at, past}

-- the octet at a window's position
abbrev pub octet : Window → ℕ
octet w = be (next 1 w)

-- The root: an octet of 0.
pub record HasRoot (w v : Window) : Type 0 where
  pub room : 1 ≤ left w
  pub zero : octet w ≡ 0
  pub after : v ≡ past 1 w

-- A label: an octet of 1 to 63, followed by that number of octets.
pub record HasLabel (w : Window) (label : List ℕ) (v : Window) : Type 0 where
  pub room : 1 ≤ left w
  pub some : 1 ≤ octet w
  pub short : octet w ≤ 63
  pub whole : octet w ≤ left (past 1 w)
  pub octets : label ≡ next (octet w) (past 1 w)
  pub after : v ≡ past (octet w) (past 1 w)

-- A pointer: an octet of 192 or more, followed by another one. Their number less 192 * 256 is a place, counted from the
-- first octet of the message. It is before `start`.
pub record HasPointer (start : ℕ) (w : Window) (to : ℕ) (v : Window) : Type 0 where
  pub room : 2 ≤ left w
  pub mark : 192 ≤ octet w
  pub place : to ≡ (octet w - 192) * 256 + octet (past 1 w)
  pub before : to < start
  pub after : v ≡ past 2 w

-- The labels at a window's position, the number of pointers that lead on, and the window after them. There is the root;
-- or a label, followed by the rest; or a pointer, and the rest is where it points. Reading goes on after the first
-- pointer. A pointer points before `start`, the place where the part of the name that has it began.
pub data HasLabels : ℕ → Window → List (List ℕ) → ℕ → Window → Type 0 where
  root : {start : ℕ} {w v : Window} → HasRoot w v → HasLabels start w [] 0 v
  label : {start pointers : ℕ} {w u v : Window} {l : List ℕ} {labels : List (List ℕ)}
      → HasLabel w l u → HasLabels start u labels pointers v → HasLabels start w (l ∷ labels) pointers v
  pointer : {start to pointers : ℕ} {w u v : Window} {labels : List (List ℕ)}
      → HasPointer start w to v → HasLabels to (at to w) labels pointers u → HasLabels start w labels (suc pointers) v

-- the number of octets of labels in wire form: each after an octet of its length, and one for the root
abbrev pub wire_length : List (List ℕ) → ℕ
wire_length [] = 1
wire_length (l ∷ labels) = 1 + length l + wire_length labels

-- A name is at a window's position: its labels, of at most 255 octets in wire form, with at most 127 pointers; and the
-- window after it.
pub record IsName (w : Window) (labels : List (List ℕ)) (v : Window) : Type 0 where
  pub pointers : ℕ
  pub has_labels : HasLabels w.position w labels pointers v
  pub short : wire_length labels ≤ 255
  pub few : pointers ≤ 127

-- A name of a message: the window at whose position it is, and its labels.
pub record Name : Type 0 where
  pub place : Window
  pub labels : List (List ℕ)

-- it is at a window's position
abbrev pub HasName : Window → Name → Window → Type 0
HasName w name v = (name.place ≡ w) × IsName w name.labels v
