-- What is written is a function of the word and the input.
use Rattle.std.proofs.Common.{◌≡◌, ◌∙◌, ◌∷◌, ◌++◌}
use Rattle.std.proofs.Common.{inl, inr, get_or, refl, sym, ap, arith, List, [], length, codes, ℕ}
use Rattle.std.proofs.Common.{Option, Some, None}
use Rattle.std.proofs.lemmas.List.{append-nil}
use Rattle.octseq_tool.proofs.Records.{IsRest, one_reading}
use Rattle.octseq.specs.Fault.{Fault, IsFault, fault_text}
use Rattle.octseq.specs.Parts.{Part, Splits, text}
use Rattle.octseq.specs.Text.{IsWellFormed}
use Rattle.octseq_tool.specs.Out.{command_name, IsNamed, HasText, records_of, HasLines, Out}
use Rattle.octseq_tool.specs.declared.engine.Command.{Command}
use Rattle.octseq_tool.specs.declared.engine.Command.TheVariants.{Check, Lossy, Lossy64, Records}
use Rattle.octseq_tool.specs.declared.engine.Status.{Status}
use Rattle.octseq_tool.specs.declared.engine.Status.TheVariants.{Fine, Refused, Usage}

-- no two commands have one name: their first octets differ, or their lengths
same_name : (c d : Command) → command_name c ≡ command_name d → c ≡ d
same_name Check Check e = refl
same_name Lossy Lossy e = refl
same_name Lossy64 Lossy64 e = refl
same_name Records Records e = refl
same_name c d e = absurd (omega (arith, ap length e, ap (λ w. get_or w 0 0) e))

-- a word names at most one command
pub one_command : (word : List ℕ) (c d : Option Command) → IsNamed word c → IsNamed word d → c ≡ d
one_command word (Some c) (Some d) e f = ap Some (same_name c d (sym e ∙ f))
one_command word (Some c) None e f = absurd (f (c, e))
one_command word None (Some d) e f = absurd (e (d, f))
one_command word None None e f = refl

-- by the laws of octets: they have one fault, octets with a fault aren't well-formed, and they split in one way
module _
    (one_fault : (octets : List ℕ) (fault other : Fault) → IsFault octets fault → IsFault octets other → fault ≡ other)
    (refutes : (octets : List ℕ) (fault : Fault) → IsFault octets fault → ¬ IsWellFormed octets)
    (one_splitting : (octets : List ℕ) (parts others : List Part) → Splits octets parts → Splits octets others
    → parts ≡ others) where
  one_text : (input x y : List ℕ) → HasText input x → HasText input y → x ≡ y
  one_text input x y (parts, s, e) (others, t, f) = e ∙ ap text (one_splitting input parts others s t) ∙ sym f

  one_lines : (parts : List (List ℕ)) (x y : List ℕ) → HasLines parts x → HasLines parts y → x ≡ y
  one_lines [] x y e f = e ∙ sym f
  one_lines (part ∷ parts) x y (line, more, h, hs, e) (other, rest, k, ks, f) =
      e ∙ ap (λ l. l ++ codes "\n" ++ more) (one_text part line other h k)
      ∙ ap (λ m. other ++ codes "\n" ++ m) (one_lines parts more rest hs ks) ∙ sym f

  -- the lines of two readings of one input
  same_lines : {input x y : List ℕ} (rest other : List ℕ) (parts others : List (List ℕ)) → input ≡ records_of parts
      ++ rest
      → input ≡ records_of others ++ other → IsRest rest → IsRest other → HasLines parts x → HasLines others y
      → (x ≡ y) × (rest ≡ other)
  same_lines {x = x} {y = y} rest other parts others e f h k hs ks =
      let same = one_reading parts others rest other h k (sym e ∙ f) in
      (one_lines others x y (rw same.0 at hs) ks, same.1)

  pub one_output : (c : Option Command) (input x y : List ℕ) (s t : Status) → Out c input x s → Out c input y t
      → (x ≡ y) × (s ≡ t)
  one_output (Some Check) input x y Fine Fine p q = (p.1 ∙ sym q.1, refl)
  one_output (Some Check) input x y Refused Refused (fault, f, e) (other, g, k) =
      (e ∙ ap (λ f. fault_text f ++ codes "\n") (one_fault input fault other f g) ∙ sym k, refl)
  one_output (Some Check) input x y Fine Refused p (other, g, k) = absurd (refutes input other g p.0)
  one_output (Some Check) input x y Refused Fine (fault, f, e) q = absurd (refutes input fault f q.0)
  one_output (Some Lossy) input x y Fine Fine p q = (one_text input x y p q, refl)
  one_output (Some Lossy64) input x y Fine Fine p q = (one_text input x y p.0 q.0, refl)
  one_output (Some Lossy64) input x y Refused Refused p q = (p.3 ∙ sym q.3, refl)
  one_output (Some Lossy64) input x y Fine Refused p (lossy, h, long, e) =
      absurd (omega (arith, ap length (one_text input x lossy p.0 h), p.1, long))
  one_output (Some Lossy64) input x y Refused Fine (lossy, h, long, e) q =
      absurd (omega (arith, ap length (one_text input y lossy q.0 h), q.1, long))
  one_output (Some Records) input x y Fine Fine (parts, e, h) (others, f, k) = (
    (same_lines {input = input} [] [] parts others (rw append-nil e) (rw append-nil f) (inl refl)
        (inl refl) h k).0,
    refl,
  )
  one_output (Some Records) input x y Refused Refused (parts, rest, front, e, c, h, o)
      (others, other, begin, f, d, k, u) =
      let same = same_lines rest other parts others e f (inr c) (inr d) h k in
      (o ∙ ap (λ l. l ++ codes "unexpected end of input\n") same.0 ∙ sym u, refl)
  one_output (Some Records) input x y Fine Refused (parts, e, h) (others, other, begin, f, d, k, u) =
      absurd (rw (← (same_lines {input = input} [] other parts others (rw append-nil e) f (inl refl)
      (inr d) h k).1) at d)
  one_output (Some Records) input x y Refused Fine (parts, rest, front, e, c, h, o) (others, f, k) =
      absurd (rw (same_lines rest [] parts others e (rw append-nil f) (inr c) (inl refl) h k).1 at c)
  one_output None input x y Usage Usage p q = (p ∙ sym q, refl)
  one_output c input x y s t p q = absurd (assumption (p, q))
