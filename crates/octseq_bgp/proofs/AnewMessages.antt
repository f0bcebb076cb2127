-- A message that is written anew has no more octets than it had, and the same ones if it is minimal.
use Rattle.std.proofs.Common.{◌≡◌, ℕ, ◌≤◌, List, length, sym, ap, ◌∙◌, subst, arith}
use Rattle.octseq.specs.Window.{rest}
use Rattle.octseq_format.specs.Canonical.{AreOctets}
use Rattle.octseq_bgp.specs.Composed.{message_octets}
use Rattle.octseq_bgp.specs.Message.{IsMessage, Message}
use Rattle.octseq_bgp.specs.Minimal.{IsBodyMinimal, IsMinimalMessage}
use Rattle.octseq_bgp.specs.Rewritten.{IsMessageRewritten, IsRewritten}
use Rattle.octseq_bgp.specs.declared.session.SessionConfig.{SessionConfig}
use Rattle.octseq_bgp.proofs.Anew.{Shrinks}
use Rattle.octseq_bgp.proofs.AnewOpens.{open_shrinks}
use Rattle.octseq_bgp.proofs.AnewUpdates.{update_shrinks}
use Rattle.octseq_bgp.proofs.OneMessage.{one_message}
use Rattle.octseq_bgp.proofs.WrittenBack.{message_back}

same_shrinks : {M : Type 0} (new old : List ℕ) → new ≡ old → Shrinks M new old
same_shrinks new old is = record { short = let same = ap length is in omega (arith, same); same = λ _. is }

message_shrinks : (s : SessionConfig) (octets out : List ℕ) (m : Message) → AreOctets octets
    → (is : IsMessage s octets m) → IsMessageRewritten octets m out → Shrinks (IsBodyMinimal is.body m) out octets
message_shrinks s octets out (Message.opens o) each is anew =
    let back = message_back each is in
    let all = back.0 ∙ ap (λ k. message_octets k (rest is.body)) is.is.0 in
    subst (Shrinks (IsBodyMinimal is.body (Message.opens o)) out) (sym all)
    (open_shrinks is.body o out back.1 is.is.1 anew)
message_shrinks s octets out (Message.update u) each is anew =
    let back = message_back each is in
    let all = back.0 ∙ ap (λ k. message_octets k (rest is.body)) is.is.0 in
    subst (Shrinks (IsBodyMinimal is.body (Message.update u)) out) (sym all)
    (update_shrinks s is.body u out back.1 is.is.1 anew)
message_shrinks s octets out _ each is anew = same_shrinks out octets anew

pub no_longer : (s : SessionConfig) (octets out : List ℕ) → AreOctets octets → IsRewritten s octets out
    → length out ≤ length octets
no_longer s octets out each anew = (message_shrinks s octets out anew.0 each anew.1 anew.2).short

pub minimal_stays : (s : SessionConfig) (octets out : List ℕ) → AreOctets octets → IsMinimalMessage s octets
    → IsRewritten s octets out → out ≡ octets
minimal_stays s octets out each minimal anew =
    let m = minimal.message in
    let same = one_message s octets anew.0 m anew.1 minimal.is in
    (message_shrinks s octets out m each minimal.is (subst (λ m. IsMessageRewritten octets m out) same anew.2)).same
    minimal.minimal
