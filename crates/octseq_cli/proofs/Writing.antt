-- An output is written until all of it is, or a write fails.
use Rattle.std.proofs.Common.{◌≡◌, ℕ, List, ◌++◌, length, take, drop, Option, Result, Ok, Err, OnOk}
use Rattle.std.proofs.Common.{sym, ap, ◌∙◌, append_assoc}
use Rattle.std.proofs.KnownBytes.{Appends-trans}
use Rattle.std.proofs.lemmas.List.{take-append-drop, length-drop}
use Rattle.std.proofs.Math.Seq.{take-length}
use Rattle.std.specs.Io.KnownBytes.{Appends}
use Rattle.std.specs.Prelude.{slice_range}
use Rattle.octseq.specs.Parts.{StartsWith}

-- A front of the output was written, and this is left of it.
pub record IsWritten (before now : Option (List ℕ)) (output rest : List ℕ) : Type 0 where
  pub front : List ℕ
  pub whole : output ≡ front ++ rest
  pub written : Appends before now front

-- n more octets were written
pub written_more : (before mid after : Option (List ℕ)) (output rest : List ℕ) (n : ℕ)
    → IsWritten before mid output rest
    → Appends mid after (take n rest) → IsWritten before after output (slice_range rest n (length rest))
written_more before mid after output rest n so_far appended =
    let left : slice_range rest n (length rest) ≡ drop n rest =
    ap (λ m. take m (drop n rest)) (sym (length-drop n rest)) ∙ take-length (drop n rest) in
    record {
      front = so_far.front ++ take n rest;
      whole =
          so_far.whole
          ∙ ap (λ r. so_far.front ++ r) (sym (take-append-drop n rest) ∙ ap (λ r. take n rest ++ r) (sym left))
          ∙ sym (append_assoc so_far.front (take n rest) (slice_range rest n (length rest)));
      written = Appends-trans before mid after so_far.front (take n rest) so_far.written appended;
    }

-- ---- parts of a line, one after another

-- a front of the octets was written
abbrev pub WroteFront : Option (List ℕ) → Option (List ℕ) → List ℕ → Type 0
WroteFront before after all = (front : List ℕ) × StartsWith front all × Appends before after front

-- a front of the first part is one of the whole
pub front_of : (before after : Option (List ℕ)) (all rest : List ℕ) → WroteFront before after all
    → WroteFront before after (all ++ rest)
front_of before after all rest (front, (left, is), wrote) =
    (front, (left ++ rest, ap (λ l. l ++ rest) is ∙ append_assoc front left rest), wrote)

-- so is the first part with a front of the rest
pub front_after : (before mid after : Option (List ℕ)) (all rest : List ℕ) → Appends before mid all
    → WroteFront mid after rest → WroteFront before after (all ++ rest)
front_after before mid after all rest wrote (front, (left, is), more) = (
  all ++ front,
  (left, ap (λ l. all ++ l) is ∙ sym (append_assoc all front left)),
  Appends-trans before mid after all front wrote more,
)

-- what follows from what a call ensures if it isn't refused
pub on_ok : {T E P Q : Type 0} (result : Result T E) → (P → Q) → OnOk result P → OnOk result Q
on_ok (Ok value) f p = f p
on_ok (Err e) f p = tt
