-- A window on octets: the place where reading continues, and the end of what can be read.
use Rattle.std.specs.Prelude.{ℕ, ◌+◌, ◌-◌, List, ◌++◌, length, slice_range}
use Rattle.octseq_text.specs.Range.{start_of, end_of}
use Rattle.std.specs.declared.ops.Bound.{Bound}

-- The position and the end are counted from the first of the octets, even in a window that was cut from another.
pub record Window : Type 0 where
  pub octets : List ℕ
  pub position : ℕ
  pub end : ℕ

-- the number of octets that are left
abbrev pub left : Window → ℕ
left w = w.end - w.position

-- the octets that are left
abbrev pub rest : Window → List ℕ
rest w = slice_range w.octets w.position w.end

-- the next n octets
abbrev pub next : ℕ → Window → List ℕ
next n w = slice_range w.octets w.position (w.position + n)

-- the octets from the first one to the window's end, wherever the position is
abbrev pub front : Window → List ℕ
front w = slice_range w.octets 0 w.end

-- the window at another position
abbrev pub at : ℕ → Window → Window
at position w = record { octets = w.octets; position = position; end = w.end }

-- the window after its next n octets
abbrev pub past : ℕ → Window → Window
past n w = at (w.position + n) w

-- the window of only the next n octets
abbrev pub nested : ℕ → Window → Window
nested n w = record { octets = w.octets; position = w.position; end = w.position + n }

-- the window of all the octets
abbrev pub whole : List ℕ → Window
whole octets = record { octets = octets; position = 0; end = length octets }

-- the window of a range of the octets
abbrev pub window_of_range : List ℕ → Bound ℕ × Bound ℕ → Window
window_of_range octets bounds = record {
  octets = octets;
  position = start_of bounds.0;
  end = end_of (length octets) bounds.1;
}

-- the window on what follows a front
abbrev pub window_after : List ℕ → List ℕ → Window
window_after front rest = at (length front) (whole (front ++ rest))
