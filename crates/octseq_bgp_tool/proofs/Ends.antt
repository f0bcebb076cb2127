-- What is made of the rest of a stream of messages.
use Rattle.std.proofs.Common.{◌≡◌, ◌+◌, ◌∙◌, ◌++◌, ℕ, Bool, true, false, List, [], length, inl, inr, sym, ap}
use Rattle.std.proofs.Common.{subst, arith}
use Rattle.std.proofs.lemmas.List.{append-nil, length-append}
use Rattle.octseq.specs.Code.{HasFront}
use Rattle.octseq_bgp.specs.Stream.{IsFrameCut, IsFramed, IsMisframed}
use Rattle.octseq_bgp.specs.declared.session.SessionConfig.{SessionConfig}
use Rattle.octseq_bgp_tool.specs.Out.{as_they_are}
use Rattle.octseq_bgp_tool.specs.Streams.{IsMessagesEnd}
use Rattle.octseq_bgp_tool.specs.declared.engine.messages.Output.{Output}
use Rattle.octseq_cli.proofs.Ends.{none_at_plain, one_plain_end}
use Rattle.octseq_cli.specs.Frames.{IsPlainEnd}

-- no octets aren't misframed
misframed_some : (s : SessionConfig) → IsMisframed s [] → ⊥
misframed_some s (inl other) = other (λ k d few. absurd (omega (arith, few)))
misframed_some s (inr (there, _)) = omega (arith, there)

-- a rest that is empty or a part of a message isn't misframed
plain_not_misframed : {P : Type 0} (s : SessionConfig) (text rest ending note : List ℕ) (is_fine : Bool)
    → IsPlainEnd (IsFrameCut s) text rest is_fine ending note → IsMisframed s rest → P
plain_not_misframed s text rest ending note true (none, o, n) bad =
    absurd (misframed_some s (subst (IsMisframed s) none bad))
plain_not_misframed s text rest ending note false (cut, o, n) bad = absurd (cut.1 bad)

-- a rest makes one piece
pub one_messages_end : (o : Output) (s : SessionConfig) (number : ℕ) (rest x y e f : List ℕ) (a b : Bool)
    → IsMessagesEnd o s number rest a x e → IsMessagesEnd o s number rest b y f → (a ≡ b) × (x ≡ y) × (e ≡ f)
one_messages_end out s number rest x y e f a b (inl p) (inl q) =
    one_plain_end (IsFrameCut s) (λ octets cut. cut.0) _ rest x y e f a b p q
one_messages_end out s number rest x y e f a b (inr (mis, fine, o, n)) (inr (also, all, p, m)) =
    (fine ∙ sym all, o ∙ sym p, n ∙ sym m)
one_messages_end out s number rest x y e f a b (inl p) (inr (mis, fine, o, n)) =
    plain_not_misframed s _ rest x e a p mis
one_messages_end out s number rest x y e f a b (inr (mis, fine, o, n)) (inl q) =
    plain_not_misframed s _ rest y f b q mis

-- no message is at the front of no octets
no_message : (s : SessionConfig) → ¬ HasFront (IsFramed s) as_they_are []
no_message s (a, more, framed, e) =
    let least = framed.least in
    let none : 0 ≡ length a + length more = ap length e ∙ length-append a more in
    omega (arith, least, none)

-- by the law of framed messages: none begins with misframed octets
module _ (misframed : (s : SessionConfig) (octets more : List ℕ) → IsMisframed s octets
    → ¬ HasFront (IsFramed s) as_they_are (octets ++ more)) where
  -- no message is at the front of a rest
  pub none_at_messages_end : (o : Output) (s : SessionConfig) (number : ℕ) (octets written note : List ℕ)
      (is_fine : Bool) → IsMessagesEnd o s number octets is_fine written note
      → ¬ HasFront (IsFramed s) as_they_are octets
  none_at_messages_end out s number octets written note is_fine (inl p) =
      none_at_plain (IsFrameCut s) (IsFramed s) as_they_are (no_message s)
      (λ octets cut. cut.2) _ octets written note is_fine p
  none_at_messages_end out s number octets written note is_fine (inr (mis, fine, o, n)) =
      subst (λ l. ¬ HasFront (IsFramed s) as_they_are l) (append-nil octets) (misframed s octets [] mis)
