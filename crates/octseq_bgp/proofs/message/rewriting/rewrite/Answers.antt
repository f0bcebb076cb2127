use Rattle.std.proofs.Common.{◌≡◌, List, ℕ, refl, sym, subst}
use Rattle.octseq_bgp.specs.Message as said
use Rattle.octseq_bgp.specs.Message.{IsMessage}
use Rattle.octseq_bgp.specs.Rewritten.{IsMessageRewritten, IsRewritten}
use Rattle.octseq_bgp.specs.declared.session.SessionConfig.{SessionConfig}
use Rattle.octseq_bgp.proofs.OneMessage.{one_message}
use Rattle.octseq_bgp.proofs.message.rewriting.rewrite.Goals as goal

-- what is written of octets is written of the message that they are
of_message : (s : SessionConfig) (octets all out : List ℕ) (m : said.Message) → octets ≡ all → IsMessage s all m
    → IsRewritten s all out → IsMessageRewritten octets m out
of_message s octets all out m same is (n, also, anew) =
    subst (λ o. IsMessageRewritten o m out) (sym same)
    (subst (λ n. IsMessageRewritten all n out) (one_message s all n m also is) anew)

pub returns-in_default-clause-malformed : goal.returns-in_default-clause-malformed
returns-in_default-clause-malformed g c = (λ _. c.in_default.ensures.malformed refl, λ _. tt)

pub returns-in_default-clause-short : goal.returns-in_default-clause-short
returns-in_default-clause-short g c =
    (λ none. absurd none, λ it. absurd (c.in_default.ensures.malformed refl it.1.0 it.1.1))

pub returns-in-Ok-rewrite_message-clause-short : goal.returns-in-Ok-rewrite_message-clause-short
returns-in-Ok-rewrite_message-clause-short g c = (
  λ none. absurd none,
  λ it. c.in-Ok-rewrite_message.ensures.short.1 (
    it.0,
    of_message c.args.session c.as_ref.result.now (g.R.AsOctets.content c.args.octets) it.0 _ c.as_ref.ensures.value
        c.in-Ok.ensures.message it.1,
    it.2,
  ),
)

pub returns-in-Err-Memory-clause-short : goal.returns-in-Err-Memory-clause-short
returns-in-Err-Memory-clause-short g c =
    let said = rw c.in-Err-Memory.field-0-is at c.in-Err-Memory.ensures in (
      λ none. absurd none,
      λ it. said.short.1 (
        it.0,
        of_message c.args.session c.as_ref.result.now (g.R.AsOctets.content c.args.octets) it.0 _
            c.as_ref.ensures.value c.in-Ok.ensures.message it.1,
        it.2,
      ),
    )
