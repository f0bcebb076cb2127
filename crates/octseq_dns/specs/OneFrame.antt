-- The length in front of a message says how many octets the message has.
use Rattle.std.proofs.Common.{◌≡◌, ◌+◌, ◌≤◌, ◌++◌, ◌∙◌, ℕ, List, [], length, take, sym, ap, arith}
use Rattle.std.proofs.Math.Seq.{take-append_seam}
use Rattle.octseq.proofs.Codes.{length_part, part_code}
use Rattle.octseq.proofs.Written.{length_be, value_be}
use Rattle.octseq.specs.Integer.{be, octets_be}
use Rattle.octseq.specs.Part.{part_of}
use Rattle.octseq_dns.specs.Frames.{FitsStream}

-- ---- lemmas: proved below this line, so what the words mean is read above it

head_is : (message : List ℕ) → take 2 (part_of 2 message) ≡ octets_be 2 (length message)
head_is message =
    let head = octets_be 2 (length message) in
    ap (λ n. take n (part_of 2 message)) (sym (length_be 2 (length message))) ∙ take-append_seam head message

pub message_whole : (message : List ℕ) → FitsStream message
    → (2 ≤ length (part_of 2 message)) × (length (part_of 2 message) ≡ 2 + be (take 2 (part_of 2 message)))
message_whole message fits =
    let long = length_part 2 message in
    let says : be (take 2 (part_of 2 message)) ≡ length message = ap be (head_is message)
    ∙ value_be 2 (length message) fits in
    (omega (arith, long), omega (arith, long, says))

-- a message is preceded by its length in one way
pub one_message : (a b : List ℕ) → FitsStream a → FitsStream b → part_of 2 a ≡ part_of 2 b → a ≡ b
one_message a b fits also e = (part_code 2 a b [] [] fits also (ap (λ octets. octets ++ []) e)).0
