-- What a lossy reading ensures: octets as text, with a character in place of each maximal ill-formed part.
use Rattle.std.specs.Prelude.{◌≡◌, ◌≢◌, ℕ, ◌≤◌, Option, List, ◌++◌, length, Result, IfOk, IsErr}
use Rattle.octseq_core.specs.Limit.{ExceedsLimit}
use Rattle.octseq_core.specs.Refusal.{Refusal, IsShort, IsMemory}
use Rattle.octseq_utf8.specs.Encoding.{encoding_of}
use Rattle.octseq_utf8.specs.Parts.{Part, Splits, text_with}
use Rattle.octseq_utf8.specs.Text.{IsWellFormed}

-- Octets are read after a front, which is empty if a text is made from them alone. `tells` gives the refusal of an
-- error, `limit` is the limit of the type, `requests` holds if the call may request memory, and `content` is the
-- content of an Ok.
pub record ReadsLossily {A E : Type 0} (tells : E → Refusal) (limit : Option ℕ) (requests : Type 0) (replacement : ℕ)
    (front octets : List ℕ) (content : A → List ℕ) (result : Result A E) : Type 0 where
  -- Exactly one list of parts splits the octets.
  pub one_splitting : (parts others : List Part) → Splits octets parts → Splits octets others → parts ≡ others
  pub splitting : (parts : List Part) × Splits octets parts
  -- The result is the front followed by the text of those parts with the replacement.
  pub text : IfOk result (λ made. (parts : List Part) → Splits octets parts
      → content made ≡ front ++ text_with replacement parts)
  pub well_formed : IfOk result (λ made. IsWellFormed (content made))
  -- If that exceeds the limit, the call is refused; it is refused as short only then.
  pub short : IsShort tells result → (parts : List Part) → Splits octets parts
      → ExceedsLimit limit (length (front ++ text_with replacement parts))
  pub past : (parts : List Part) → Splits octets parts
      → ExceedsLimit limit (length (front ++ text_with replacement parts)) → IsErr result
  pub memory : IsMemory tells result → requests
  -- A second reading changes nothing, whatever its replacement, and a first one changes what isn't well formed.
  pub again : IfOk result (λ made. (w : ℕ) (parts : List Part) → Splits (content made) parts
      → text_with w parts ≡ content made)
  pub other : ¬ IsWellFormed octets → IfOk result (λ made. content made ≢ octets)
  -- With a replacement of at least three octets, such as U+FFFD, the text is no shorter than its source, even if it is
  -- refused.
  pub no_shorter : 3 ≤ length (encoding_of replacement) → (parts : List Part) → Splits octets parts
      → length octets ≤ length (text_with replacement parts)
