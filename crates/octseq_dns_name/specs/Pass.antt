-- What was passed of a name: the labels and pointers that were read, and what follows them.
use Rattle.std.specs.Prelude.{◌≡◌, ℕ, ◌+◌, ◌-◌, ◌*◌, ◌<◌, ◌≤◌, List, ◌++◌, length, slice_index, Option, None}
use Rattle.octseq.specs.Window.{Window, at}
use Rattle.octseq_dns_name.specs.Name.{IsName, HasLabels, octet, wire_length}
use Rattle.octseq_dns_name.specs.NameTurns.{name_turns}
use Rattle.octseq_dns_name.specs.Piece.{end_of_name}

-- the window of octets at a place, with an end
abbrev pub window_at : List ℕ → ℕ → ℕ → Window
window_at octets place end = record { octets = octets; position = place; end = end }

-- where a pointer leads that is at a place of octets
abbrev pub place_in : List ℕ → ℕ → ℕ
place_in octets place = (slice_index octets place - 192) * 256 + slice_index octets (place + 1)

-- no name is at a window's position
abbrev pub NoName : Window → Type 0
NoName w = (labels : List (List ℕ)) (end : Window) → IsName w labels end → ⊥

-- A name at a first window is these labels and pointers, followed by what is at a second one.
pub record GoesOn (start : ℕ) (v : Window) (labels : List (List ℕ)) (pointers : ℕ) (after : Option Window)
    (all : List (List ℕ)) (count : ℕ) (x : Window) : Type 0 where
  pub more : List (List ℕ)
  pub fewer : ℕ
  pub u : Window
  pub has_labels : HasLabels start v more fewer u
  pub labels_are : all ≡ labels ++ more
  pub pointers_are : count ≡ pointers + fewer
  pub end_is : x ≡ end_of_name after u

-- These labels and pointers lead from a first window to a second one: a name is at the first if and only if the rest of
-- it is at the second.
pub record LeadsTo (first : ℕ) (w : Window) (start : ℕ) (v : Window) (labels : List (List ℕ)) (pointers : ℕ)
    (after : Option Window) : Type 0 where
  pub forward : (more : List (List ℕ)) (fewer : ℕ) (u : Window) → HasLabels start v more fewer u
      → HasLabels first w (labels ++ more) (pointers + fewer) (end_of_name after u)
  pub backward : (all : List (List ℕ)) (count : ℕ) (x : Window) → HasLabels first w all count x
      → GoesOn start v labels pointers after all count x

-- What was read so far of the name at a window: its labels, their wire length, and the number of pointers. There was a
-- turn for each.
pub record NameReading (w : Window) (start : ℕ) (v : Window) (size pointers : ℕ) (after : Option Window) (old new : ℕ)
    : Type 0 where
  pub labels : List (List ℕ)
  pub read : LeadsTo w.position w start v labels pointers after
  pub size_is : size ≡ wire_length labels
  pub counted : new ≡ old + (length labels + pointers)

-- The labels at a window's position were passed, up to an octet that isn't a label's length. They are short enough.
pub record PassesLabels (w : Window) (place old new : ℕ) : Type 0 where
  pub reading : NameReading w w.position (at place w) (place + 1 - w.position) 0 None old new
  pub ordered : w.position ≤ place
  pub room : place < w.end
  pub near : place < w.position + 255
  pub few : new + new + w.position ≤ old + old + place
  pub other : (1 ≤ octet (at place w)) → 63 < octet (at place w)

-- The rest of a name is at a window's position, where its first pointer leads. The name has `len` octets in wire form:
-- `before` of them, the root's one included, are before the rest.
pub record Rests (w : Window) (before len old new : ℕ) : Type 0 where
  pub labels : List (List ℕ)
  pub pointers : ℕ
  pub end : Window
  pub has_labels : HasLabels w.position w labels pointers end
  pub size : len + 1 ≡ before + wire_length labels
  pub short : len ≤ 255
  pub few : pointers ≤ 126
  pub counted : new ≡ old + (length labels + pointers)

-- no rest of a name is at a window's position
abbrev pub NoRest : Window → ℕ → Type 0
NoRest w before = (labels : List (List ℕ)) (pointers : ℕ) (end : Window) → HasLabels w.position w labels pointers end
    → before + wire_length labels ≤ 256 → pointers ≤ 126 → ⊥

-- The name at a window's position ends at `place`, and has `len` octets in wire form. A count rose by its turns.
pub record NameEnds (w : Window) (place len old new : ℕ) : Type 0 where
  pub labels : List (List ℕ)
  pub name : IsName w labels (at place w)
  pub within : place ≤ w.end
  pub size : len ≡ wire_length labels
  pub counted : new ≡ old + name_turns name
