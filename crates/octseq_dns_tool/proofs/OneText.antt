-- What is made of a text is a function of the text.
use Rattle.std.proofs.Common.{◌≡◌, ◌∙◌, ℕ, inl, inr, Bool, true, false, List, refl, sym, ap}
use Rattle.octseq.specs.Part.{part_of}
use Rattle.octseq_dns.specs.Contents.{Message, message_octets}
use Rattle.octseq_dns_compose.specs.MessageText.{IsAnyText, IsTextOfMessage}
use Rattle.octseq_dns_compose.specs.TextLines.{IsLineFault}
use Rattle.octseq_dns_compose.specs.declared.error.Place.{Place}
use Rattle.octseq_dns_tool.specs.Composed.{IsComposed, IsTextNote, IsTextPiece, fault_line}

same_place : (place other : Place) → (place.line ≡ other.line) × (place.offset ≡ other.offset) → place ≡ other
same_place place other (line, offset) = λ i. record { line = line i; offset = offset i }

-- by the laws of texts: a text is of one message, or has one fault, and not both
module _ (one_message : (text : List ℕ) (m other : Message) → IsTextOfMessage text m → IsTextOfMessage text other
    → m ≡ other)
    (one_fault : (text : List ℕ) (first number offset line place : ℕ)
    → IsLineFault IsAnyText text first number offset → IsLineFault IsAnyText text first line place
    → (number ≡ line) × (offset ≡ place))
    (no_message : (text : List ℕ) (first number offset : ℕ) (m : Message)
    → IsLineFault IsAnyText text first number offset → ¬ IsTextOfMessage text m) where
  -- a text that is composed isn't left out
  not_left : (number : ℕ) (text octets note : List ℕ) → IsComposed text octets → IsTextNote number text note → ⊥
  not_left number text octets note is (inl (place, faulty, e)) =
      no_message text 1 place.line place.offset is.message faulty.1 is.is_text
  not_left number text octets note is (inr (long, e)) = is.is_short long

  one_note : (number : ℕ) (text e f : List ℕ) → IsTextNote number text e → IsTextNote number text f → e ≡ f
  one_note number text e f (inl (place, faulty, is)) (inl (other, also, it)) =
      let same = one_fault text 1 place.line place.offset other.line other.offset faulty.1 also.1 in
      is ∙ ap (fault_line number) (same_place place other same) ∙ sym it
  one_note number text e f (inl (place, faulty, is)) (inr (long, it)) = absurd (faulty.0 long)
  one_note number text e f (inr (long, is)) (inl (place, faulty, it)) = absurd (faulty.0 long)
  one_note number text e f (inr (long, is)) (inr (also, it)) = is ∙ sym it

  -- a text makes one piece
  pub one_text_piece : (number : ℕ) (text x y e f : List ℕ) (a b : Bool) → IsTextPiece number text a x e
      → IsTextPiece number text b y f → (a ≡ b) × (x ≡ y) × (e ≡ f)
  one_text_piece number text x y e f true true (octets, is, w, n) (other, it, v, m) =
      let same = ap (message_octets 16384) (one_message text is.message it.message is.is_text it.is_text) in
      (refl, w ∙ ap (part_of 2) (is.octets_are ∙ same ∙ sym it.octets_are) ∙ sym v, n ∙ sym m)
  one_text_piece number text x y e f true false (octets, is, w, n) (left, v) =
      absurd (not_left number text octets f is left)
  one_text_piece number text x y e f false true (left, w) (octets, is, v, n) =
      absurd (not_left number text octets e is left)
  one_text_piece number text x y e f false false (left, w) (also, v) =
      (refl, w ∙ sym v, one_note number text e f left also)
