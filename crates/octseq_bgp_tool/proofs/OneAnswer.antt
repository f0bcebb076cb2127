-- What is written is a function of the word and the input.
use Rattle.std.proofs.Common.{◌≡◌, ◌+◌, ◌++◌, ◌∙◌, ℕ, List, [], Bool, length, sym, ap, arith}
use Rattle.std.proofs.lemmas.List.{append_cancel_left, length-append}
use Rattle.octseq.specs.Code.{HasFront, IsCode}
use Rattle.octseq_bgp.specs.Stream.{IsFramed, IsMisframed}
use Rattle.octseq_bgp.specs.declared.session.SessionConfig.{SessionConfig}
use Rattle.octseq_bgp_tool.proofs.Ends.{none_at_messages_end, one_messages_end}
use Rattle.octseq_bgp_tool.specs.Out.{as_they_are, MessagesOut, Out, RecordsOut}
use Rattle.octseq_bgp_tool.specs.Records.{records_cut_text, IsRecordPiece, IsRecordsEnd}
use Rattle.octseq_bgp_tool.specs.Shown.{IsMessagePiece}
use Rattle.octseq_bgp_tool.specs.Streams.{IsMessagesEnd, IsPiece}
use Rattle.octseq_bgp_tool.specs.Words.{session_of}
use Rattle.octseq_bgp_tool.specs.declared.engine.Command.{Command}
use Rattle.octseq_bgp_tool.specs.declared.engine.Command.TheVariants.{Message, Stream, Rewrite, Mrt, Messages}
use Rattle.octseq_bgp_tool.specs.declared.engine.messages.Output.{Output}
use Rattle.octseq_bgp_tool.specs.declared.engine.messages.Output.TheVariants.{Text, Anew}
use Rattle.octseq_bgp_tool.specs.declared.engine.records.Records.{Records}
use Rattle.octseq_bgp_tool.specs.declared.engine.records.Records.TheVariants.{Shown, Taken}
use Rattle.octseq_mrt.specs.Records.{BeginsWithRecord, IsRecordCut, IsRecordOctets}
use Rattle.octseq_cli.proofs.Ends.{none_at_plain, one_plain_end}
use Rattle.octseq_cli.proofs.Taken.{one_stream, one_whole}
use Rattle.octseq_cli.specs.declared.status.Status.{Status}

-- the rest of a file makes one piece
pub one_records_end : (c : Records) (number : ℕ) (rest x y e f : List ℕ) (a b : Bool)
    → IsRecordsEnd c number rest a x e → IsRecordsEnd c number rest b y f → (a ≡ b) × (x ≡ y) × (e ≡ f)
one_records_end c number = one_plain_end IsRecordCut (λ octets cut. cut.0) (records_cut_text c)

-- no record is at the front of no octets: it has at least four octets
no_record : ¬ BeginsWithRecord []
no_record (a, more, fits, e) =
    let some = fits.1.1.1.1.0 in
    let none : 0 ≡ length a + length more = ap length e ∙ length-append a more in
    omega (arith, some, none)

-- no record is at the front of a rest
pub none_at_records_end : (c : Records) (number : ℕ) (octets written note : List ℕ)
    (is_fine : Bool)
    → IsRecordsEnd c number octets is_fine written note → ¬ HasFront IsRecordOctets as_they_are octets
none_at_records_end c number =
    none_at_plain IsRecordCut IsRecordOctets as_they_are no_record (λ octets cut. cut.1) (records_cut_text c)

-- octets that are apart are a code of themselves
pub code_of : (Fits : List ℕ → Type 0) → ((a b x y : List ℕ) → Fits a → Fits b → a ++ x ≡ b ++ y → a ≡ b)
    → IsCode Fits as_they_are
code_of Fits apart a b x y fits suits e =
    let same = apart a b x y fits suits e in
    (same, append_cancel_left a x y (e ∙ ap (λ l. l ++ y) (sym same)))

-- by the laws: an input, a message and a record make one piece; framed messages and records are apart, and no message
-- begins with misframed octets
module _ (one_message : (s : SessionConfig) (number : ℕ) (octets x y e f : List ℕ) (a b : Bool)
    → IsMessagePiece s number octets a x e → IsMessagePiece s number octets b y f → (a ≡ b) × (x ≡ y) × (e ≡ f))
    (one_piece : (o : Output) (s : SessionConfig) (number : ℕ) (octets x y e f : List ℕ) (a b : Bool)
    → IsPiece o s number octets a x e → IsPiece o s number octets b y f → (a ≡ b) × (x ≡ y) × (e ≡ f))
    (one_record : (c : Records) (number : ℕ) (octets x y e f : List ℕ) (a b : Bool)
    → IsRecordPiece c number octets a x e → IsRecordPiece c number octets b y f → (a ≡ b) × (x ≡ y) × (e ≡ f))
    (messages : (s : SessionConfig) (a b x y : List ℕ) → IsFramed s a → IsFramed s b → a ++ x ≡ b ++ y → a ≡ b)
    (misframed : (s : SessionConfig) (octets more : List ℕ) → IsMisframed s octets
    → ¬ HasFront (IsFramed s) as_they_are (octets ++ more))
    (records : (a b x y : List ℕ) → IsRecordOctets a → IsRecordOctets b → a ++ x ≡ b ++ y → a ≡ b) where
  one_messages : (o : Output) (s : SessionConfig) (input x y e f : List ℕ) (t u : Status)
      → MessagesOut o s input x e t → MessagesOut o s input y f u → (x ≡ y) × (e ≡ f) × (t ≡ u)
  one_messages o s =
      one_stream (IsFramed s) as_they_are (IsPiece o s) (IsMessagesEnd o s) (code_of (IsFramed s) (messages s))
      (one_piece o s) (none_at_messages_end misframed o s) (one_messages_end o s)

  one_records : (c : Records) (input x y e f : List ℕ) (t u : Status) → RecordsOut c input x e t
      → RecordsOut c input y f u → (x ≡ y) × (e ≡ f) × (t ≡ u)
  one_records c =
      one_stream IsRecordOctets as_they_are (IsRecordPiece c) (IsRecordsEnd c) (code_of IsRecordOctets records)
      (one_record c) (none_at_records_end c) (one_records_end c)

  -- a command has one output and one status for an input
  pub one_output : (c : Command) (input x y e f : List ℕ) (t u : Status) → Out c input x e t → Out c input y f u
      → (x ≡ y) × (e ≡ f) × (t ≡ u)
  one_output (Message o) = one_whole (IsMessagePiece (session_of o) 1) (one_message (session_of o) 1)
  one_output (Stream o) = one_messages Text (session_of o)
  one_output (Rewrite o) = one_messages Anew (session_of o)
  one_output Mrt = one_records Shown
  one_output Messages = one_records Taken
