-- Octets that come in pieces: which parts are settled, and what a reading holds.
use Rattle.std.specs.Prelude.{◌≡◌, ℕ, Bool, true, List, [], ◌∷◌, ◌++◌, length, Option, Some, None}
use Rattle.octseq_core.specs.Limit.{IsWithin}
use Rattle.octseq_core.specs.declared.builder.AppendError.{AppendError}
use Rattle.octseq_core.specs.declared.builder.AppendError.TheVariants.{Memory}
use Rattle.octseq_utf8.specs.Parts.{IsBeginning, Part, Bad, Splits, text}

-- The settled parts of octets, and their open end. If the last part is a bad part that is a beginning, it is the open
-- end and isn't settled. Otherwise all parts are settled, and the open end is empty.
pub data Settles : List ℕ → List Part → List ℕ → Type 0 where
  open_end : {octets end : List ℕ} {settled : List Part} → Splits octets (settled ++ Bad end ∷ []) → IsBeginning end
      → Settles octets settled end
  no_end : {octets : List ℕ} {parts : List Part} → Splits octets parts
      → ((front : List Part) (bad : List ℕ) → parts ≡ front ++ Bad bad ∷ [] → ¬ IsBeginning bad)
      → Settles octets parts []

-- What a reading in pieces holds: the text of what is settled, the open end, and the refusal that it met.
pub record Held : Type 0 where
  pub settled_text : List ℕ
  pub end : List ℕ
  pub refusal : Option AppendError

-- The reading stands for octets: it met no refusal, and holds the text of their settled parts and their open end.
pub record HasRead (held : Held) (octets : List ℕ) : Type 0 where
  pub settled : List Part
  pub settles : Settles octets settled held.end
  pub same : held.settled_text ≡ text settled
  pub fine : held.refusal ≡ None

-- The reading met a refusal, which is for memory only if the type requests memory, or it stands for some octets, with a
-- text within the limit.
pub record IsSound (limit : Option ℕ) (asks : Bool) (held : Held) : Type 0 where
  pub has_read : held.refusal ≡ None → (octets : List ℕ) × HasRead held octets
  pub within : held.refusal ≡ None → IsWithin limit (length held.settled_text)
  pub memory : held.refusal ≡ Some Memory → asks ≡ true
