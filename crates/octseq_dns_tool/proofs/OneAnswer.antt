-- What is written is a function of the word and the input.
use Rattle.std.proofs.Common.{◌≡◌, ℕ, List, Bool, refl, arith}
use Rattle.octseq.proofs.Codes.{part_code}
use Rattle.octseq.specs.Code.{HasFront}
use Rattle.octseq.specs.Part.{part_of}
use Rattle.octseq_dns.proofs.Framing.{none_in_nothing}
use Rattle.octseq_dns.specs.Frames.{FitsStream, IsMessageCut}
use Rattle.octseq_dns_tool.specs.Composed.{IsTextPiece}
use Rattle.octseq_dns_tool.specs.Out.{command_name, MessagesOut, Out}
use Rattle.octseq_dns_tool.specs.Shown.{IsMessagePiece}
use Rattle.octseq_dns_tool.specs.Taken.{ending_of, IsEnd, IsPiece}
use Rattle.octseq_dns_tool.specs.declared.engine.Command.{Command}
use Rattle.octseq_dns_tool.specs.declared.engine.Command.TheVariants.{Compose, Message, Rewrite, Stream}
use Rattle.octseq_dns_tool.specs.declared.engine.stream.Messages.{Messages}
use Rattle.octseq_dns_tool.specs.declared.engine.stream.Messages.TheVariants.{Shown, Rewritten}
use Rattle.octseq_cli.proofs.Ends.{none_at_plain, one_plain_end}
use Rattle.octseq_cli.proofs.Naming.{other_first, other_length}
use Rattle.octseq_cli.proofs.Taken.{one_stream, one_whole}
use Rattle.octseq_cli.proofs.TextSteps.{one_texts}
use Rattle.octseq_cli.specs.declared.status.Status.{Status}

-- no two commands have one name
pub same_name : (c d : Command) → command_name c ≡ command_name d → c ≡ d
same_name Message Message e = refl
same_name Stream Stream e = refl
same_name Rewrite Rewrite e = refl
same_name Compose Compose e = refl
same_name Message Stream e = other_length _ _ (omega arith) e
same_name Stream Message e = other_length _ _ (omega arith) e
same_name Stream Rewrite e = other_length _ _ (omega arith) e
same_name Rewrite Stream e = other_length _ _ (omega arith) e
same_name Message Rewrite e = other_first _ _ (omega arith) e
same_name Rewrite Message e = other_first _ _ (omega arith) e
same_name Message Compose e = other_first _ _ (omega arith) e
same_name Compose Message e = other_first _ _ (omega arith) e
same_name Rewrite Compose e = other_first _ _ (omega arith) e
same_name Compose Rewrite e = other_first _ _ (omega arith) e
same_name Stream Compose e = other_length _ _ (omega arith) e
same_name Compose Stream e = other_length _ _ (omega arith) e

-- a rest makes one piece
pub one_end : (c : Messages) (number : ℕ) (rest x y e f : List ℕ) (a b : Bool) → IsEnd c number rest a x e
    → IsEnd c number rest b y f → (a ≡ b) × (x ≡ y) × (e ≡ f)
one_end c number = one_plain_end IsMessageCut (λ octets cut. cut.0) (ending_of c)

-- no message is at the front of a rest
pub none_at_end : (c : Messages) (number : ℕ) (octets written note : List ℕ) (is_fine : Bool)
    → IsEnd c number octets is_fine written note → ¬ HasFront FitsStream (part_of 2) octets
none_at_end c number = none_at_plain IsMessageCut FitsStream (part_of 2) none_in_nothing (λ octets cut. cut.1)
    (ending_of c)

-- by the laws: an input makes one piece, and so do a message and a text
module _ (one_message_piece : (number : ℕ) (octets x y e f : List ℕ) (a b : Bool) → IsMessagePiece number octets a x e
    → IsMessagePiece number octets b y f → (a ≡ b) × (x ≡ y) × (e ≡ f))
    (one_piece : (c : Messages) (number : ℕ) (octets x y e f : List ℕ) (a b : Bool)
    → IsPiece c number octets a x e → IsPiece c number octets b y f → (a ≡ b) × (x ≡ y) × (e ≡ f))
    (one_text_piece : (number : ℕ) (text x y e f : List ℕ) (a b : Bool) → IsTextPiece number text a x e
    → IsTextPiece number text b y f → (a ≡ b) × (x ≡ y) × (e ≡ f)) where
  one_messages : (c : Messages) (input x y e f : List ℕ) (s t : Status) → MessagesOut c input x e s
      → MessagesOut c input y f t → (x ≡ y) × (e ≡ f) × (s ≡ t)
  one_messages c =
      one_stream FitsStream (part_of 2) (IsPiece c) (IsEnd c) (part_code 2) (one_piece c) (none_at_end c) (one_end c)

  -- a command has one output and one status for an input
  pub one_output : (c : Command) (input x y e f : List ℕ) (s t : Status) → Out c input x e s → Out c input y f t
      → (x ≡ y) × (e ≡ f) × (s ≡ t)
  one_output Message = one_whole (IsMessagePiece 1) (one_message_piece 1)
  one_output Stream = one_messages Shown
  one_output Rewrite = one_messages Rewritten
  one_output Compose = one_texts IsTextPiece one_text_piece
