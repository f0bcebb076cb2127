-- A frame is written until it is complete, or a write fails.
use Rattle.std.proofs.Common.{◌≡◌, ℕ, List, ◌++◌, length, take, drop, Option, sym, ap, ◌∙◌, append_assoc}
use Rattle.std.proofs.KnownBytes.{Appends-trans}
use Rattle.std.proofs.lemmas.List.{take-append-drop, length-drop}
use Rattle.std.proofs.Math.Seq.{take-length}
use Rattle.std.specs.Io.KnownBytes.{Appends}
use Rattle.std.specs.Prelude.{slice_range}
use Rattle.octseq.specs.Integer.{octets_be}
use Rattle.octseq.specs.Part.{part_of}
use Rattle.octseq.specs.Parts.{StartsWith}

-- A front of the octets was written, and the rest is left.
pub record IsWritten (before now : Option (List ℕ)) (octets rest : List ℕ) : Type 0 where
  pub front : List ℕ
  pub whole : octets ≡ front ++ rest
  pub written : Appends before now front

-- this many more octets were written
pub written_more : (before mid after : Option (List ℕ)) (octets rest : List ℕ) (n : ℕ)
    → IsWritten before mid octets rest
    → Appends mid after (take n rest) → IsWritten before after octets (slice_range rest n (length rest))
written_more before mid after octets rest n so_far appended =
    let left : slice_range rest n (length rest) ≡ drop n rest =
    ap (λ m. take m (drop n rest)) (sym (length-drop n rest)) ∙ take-length (drop n rest) in
    record {
      front = so_far.front ++ take n rest;
      whole =
          so_far.whole
          ∙ ap (λ r. so_far.front ++ r) (sym (take-append-drop n rest) ∙ ap (λ r. take n rest ++ r) (sym left))
          ∙ sym (append_assoc so_far.front (take n rest) (slice_range rest n (length rest)));
      written = Appends-trans before mid after so_far.front (take n rest) so_far.written appended;
    }

-- a front of a message's length is a front of its frame
pub front_of_length : (message front : List ℕ) → StartsWith front (octets_be 2 (length message))
    → StartsWith front (part_of 2 message)
front_of_length message front (rest, e) =
    (rest ++ message, ap (λ h. h ++ message) e ∙ append_assoc front rest message)

-- the length of a message was written, followed by a front of the message
pub front_of_message : (before mid after : Option (List ℕ)) (message : List ℕ)
    → Appends before mid (octets_be 2 (length message))
    → ((front : List ℕ) × StartsWith front message × Appends mid after front)
    → (front : List ℕ) × StartsWith front (part_of 2 message) × Appends before after front
front_of_message before mid after message first (front, (rest, e), second) =
    let head = octets_be 2 (length message) in
    let whole = ap (λ m. head ++ m) e ∙ sym (append_assoc head front rest) in
    (head ++ front, (rest, whole), Appends-trans before mid after head front first second)
