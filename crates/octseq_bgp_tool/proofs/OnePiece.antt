-- What is made of a message is a function of the message.
use Rattle.std.proofs.Common.{◌≡◌, ◌++◌, ◌∙◌, ℕ, Bool, true, false, List, codes, refl, sym, ap, subst}
use Rattle.octseq_bgp.specs.Message.{Message, IsMessage}
use Rattle.octseq_bgp.specs.MessageText.{IsMessageText}
use Rattle.octseq_bgp.specs.Rewritten.{IsRewritten}
use Rattle.octseq_bgp.specs.Stop.{IsStop}
use Rattle.octseq_bgp.specs.declared.session.SessionConfig.{SessionConfig}
use Rattle.octseq_bgp_tool.specs.Shown.{IsMessagePiece, IsNote, IsShown}
use Rattle.octseq_bgp_tool.specs.Streams.{IsAnew, IsBlock, IsPiece}
use Rattle.octseq_bgp_tool.specs.declared.engine.messages.Output.{Output}
use Rattle.octseq_bgp_tool.specs.declared.engine.messages.Output.TheVariants.{Text, Anew}
use Rattle.octseq_cli.specs.Frames.{stop_line}

-- by the law of offsets: octets that aren't a message have one note
module _ (one_stop : (s : SessionConfig) (octets : List ℕ) (x y : ℕ) → IsStop s octets x → IsStop s octets y → x ≡ y)
  where
    pub one_note : (what : List ℕ) (s : SessionConfig) (number : ℕ) (octets x y : List ℕ) (b : Bool)
        → IsNote what s number octets b x → IsNote what s number octets b y → x ≡ y
    one_note what s number octets x y true p q = p ∙ sym q
    one_note what s number octets x y false (here, is, e) (there, it, f) =
        e ∙ ap (stop_line what number) (one_stop s octets here there is it) ∙ sym f

-- by the laws of messages: octets are a message in one way, and a message has one text
module _ (one_message : (s : SessionConfig) (octets : List ℕ) (m n : Message) → IsMessage s octets m
    → IsMessage s octets n → m ≡ n)
    (one_text : (m : Message) (text other : List ℕ) → IsMessageText m text → IsMessageText m other → text ≡ other) where
  -- octets are shown in one way
  pub one_shown : (s : SessionConfig) (octets x y : List ℕ) (b c : Bool) → IsShown s octets b x → IsShown s octets c y
      → (x ≡ y) × (b ≡ c)
  one_shown s octets x y true true p q =
      let same = one_message s octets p.message q.message p.is_message q.is_message in
      (one_text q.message x y (subst (λ m. IsMessageText m x) same p.is_text) q.is_text, refl)
  one_shown s octets x y false false p q = (p.1 ∙ sym q.1, refl)
  one_shown s octets x y true false p q = absurd (q.0 p.message p.is_message)
  one_shown s octets x y false true p q = absurd (p.0 q.message q.is_message)

-- by both
module _ (one_shown : (s : SessionConfig) (octets x y : List ℕ) (b c : Bool) → IsShown s octets b x
    → IsShown s octets c y → (x ≡ y) × (b ≡ c))
    (one_note : (what : List ℕ) (s : SessionConfig) (number : ℕ) (octets x y : List ℕ) (b : Bool)
    → IsNote what s number octets b x → IsNote what s number octets b y → x ≡ y) where
  -- an input makes one piece
  pub one_message_piece : (s : SessionConfig) (number : ℕ) (octets x y e f : List ℕ) (a b : Bool)
      → IsMessagePiece s number octets a x e → IsMessagePiece s number octets b y f → (a ≡ b) × (x ≡ y) × (e ≡ f)
  one_message_piece s number octets x y e f a b (p, n) (q, m) =
      let same = one_shown s octets x y a b p q in
      let what = codes "message" in
      let moved = subst (λ a. IsNote what s number octets a e) same.1 n in
      (same.1, same.0, one_note what s number octets e f b moved m)

  -- a message of a stream that is shown makes one piece
  one_block : (s : SessionConfig) (number : ℕ) (octets x y e f : List ℕ) (a b : Bool)
      → IsBlock s number octets a x e → IsBlock s number octets b y f → (a ≡ b) × (x ≡ y) × (e ≡ f)
  one_block s number octets x y e f a b (is_message, shown, p, n, fine, w) (is_other, other, q, m, also, v) =
      let same = one_shown s octets shown other is_message is_other p q in
      let what = codes "message" in
      let moved = subst (λ b. IsNote what s number octets b e) same.1 n in (
        fine ∙ sym also,
        w ∙ ap (λ l. l ++ codes "\n") same.0 ∙ sym v,
        one_note what s number octets e f is_other moved m,
      )

  -- by the law of messages anew as well
  module _ (one_rewriting : (s : SessionConfig) (octets x y : List ℕ) → IsRewritten s octets x → IsRewritten s octets y
      → x ≡ y) where
    -- and so does one that is rewritten
    one_anew : (s : SessionConfig) (number : ℕ) (octets x y e f : List ℕ) (a b : Bool) → IsAnew s number octets a x e
        → IsAnew s number octets b y f → (a ≡ b) × (x ≡ y) × (e ≡ f)
    one_anew s number octets x y e f true true (p, n) (q, m) = (refl, one_rewriting s octets x y p q, n ∙ sym m)
    one_anew s number octets x y e f false false (p, none, n) (q, empty, m) =
        (refl, none ∙ sym empty, one_note (codes "message") s number octets e f false n m)
    one_anew s number octets x y e f true false (p, n) (q, empty, m) = absurd (q p.0 p.1)
    one_anew s number octets x y e f false true (p, none, n) (q, m) = absurd (p q.0 q.1)

    -- a message of a stream makes one piece
    pub one_piece : (o : Output) (s : SessionConfig) (number : ℕ) (octets x y e f : List ℕ) (a b : Bool)
        → IsPiece o s number octets a x e → IsPiece o s number octets b y f → (a ≡ b) × (x ≡ y) × (e ≡ f)
    one_piece Text = one_block
    one_piece Anew = one_anew
