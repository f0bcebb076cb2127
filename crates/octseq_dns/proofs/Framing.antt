-- Messages of a stream, each preceded by its length.
use Rattle.std.proofs.Common.{◌≡◌, ◌+◌, ◌<◌, ◌≤◌, ◌∷◌, ◌++◌, ◌∙◌, ℕ, List, [], length, ap, arith}
use Rattle.std.proofs.lemmas.List.{append-nil, length-append, length-take, length-drop}
use Rattle.octseq.proofs.Codes.{length_part}
use Rattle.octseq.proofs.Repeats.{HasOctets}
use Rattle.octseq.specs.Code.{HasFront}
use Rattle.octseq.specs.Part.{part_of}
use Rattle.octseq.specs.Window.{Window, left, next, past}
use Rattle.octseq_dns.specs.Frames.{FitsStream}

-- as many octets come next as are requested
pub length_next : (w : Window) (n : ℕ) → n ≤ left w → w.end ≤ length w.octets → length (next n w) ≡ n
length_next w n room within = omega (arith, length-take {A = ℕ}, length-drop {A = ℕ})

-- a message with its length has octets
pub some_octets : HasOctets (part_of 2)
some_octets message = let all = length_part 2 message in omega arith

-- no message is at the front of no octets
pub none_in_nothing : ¬ HasFront FitsStream (part_of 2) []
none_in_nothing (message, more, fits, e) =
    let some = some_octets message in
    let none : 0 ≡ length (part_of 2 message) + length more = ap length e ∙ length-append (part_of 2 message) more in
    omega arith

-- a window that is further on has fewer octets left
pub left_less : (w v u : Window) (n : ℕ) → 2 ≤ left w → v ≡ past 2 w → u ≡ past n v → left u < left w
left_less w v u n room e f =
    let a : left v ≡ left (past 2 w) = ap left e in
    let b : left u ≡ left (past n v) = ap left f in
    omega (arith, a, b)

-- octets that are no longer than their front are that front
pub only_front : (octets front more : List ℕ) → octets ≡ front ++ more → length octets ≤ length front → octets ≡ front
only_front octets front [] e few = e ∙ append-nil front
only_front octets front (x ∷ more) e few =
    let all : length octets ≡ length front + length (x ∷ more) = ap length e ∙ length-append front (x ∷ more) in
    absurd (omega arith)
