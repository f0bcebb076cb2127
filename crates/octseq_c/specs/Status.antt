-- The statuses that calls return: octseq.h has the same numbers.
use Rattle.std.specs.Prelude.{ℕ}

-- the call succeeded
abbrev pub status_ok : ℕ
status_ok = 0

-- there is too little room
abbrev pub status_no_room : ℕ
status_no_room = 1

-- the octets aren't what they were read as
abbrev pub status_malformed : ℕ
status_malformed = 2

-- they aren't well-formed UTF-8
abbrev pub status_fault : ℕ
status_fault = 3

-- data without the form of its type may have pointers
abbrev pub status_immovable : ℕ
status_immovable = 4

-- a message would exceed 65,535 octets, or a text is longer than a `usize` can say
abbrev pub status_too_long : ℕ
status_too_long = 5

-- what a row refers to isn't there
abbrev pub status_bad_row : ℕ
status_bad_row = 6

-- the state of a reading in pieces isn't valid
abbrev pub status_bad_state : ℕ
status_bad_state = 7

-- a value wrote no text
abbrev pub status_unshown : ℕ
status_unshown = 8

-- a request for memory was refused
abbrev pub status_memory : ℕ
status_memory = 9
