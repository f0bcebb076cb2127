-- A message is composed anew in one way.
use Rattle.std.proofs.Common.{◌≡◌, ℕ, List, [], ◌∷◌, ◌++◌, ◌⊎◌, inl, inr, refl, ap, sym, ◌∙◌, subst}
use Rattle.octseq_dns.specs.Contents as contents
use Rattle.octseq_dns.specs.Contents.{message_octets}
use Rattle.octseq_dns.specs.Message.{IsMessage}
use Rattle.octseq_dns.specs.Moved.{CanMove}
use Rattle.octseq.specs.Refusal.{Is, Refusal}
use Rattle.octseq_dns.specs.Rewritten.{IsMessageOf, rewrite_error}
use Rattle.octseq_dns.specs.declared.rewriting.RewriteError.{RewriteError}
use Rattle.octseq_dns.proofs.Stages.{one_contents}
use Rattle.octseq_dns_message.specs.Entry.{Question, Record}
use Rattle.octseq_dns_message.specs.declared.header.Header.{Header}
use Rattle.octseq_dns_message.proofs.Messages.{said_once}
use Rattle.octseq_c.specs.Made.{IsImmovable, IsRewritten, offsets_kept}

-- what is composed from one message is composed from the other, if both are one
pub moved_contents : {h k : Header} {q r : List Question} {a x b y d z : List Record} (m : contents.Message) → k ≡ h
    → r ≡ q
    → x ≡ a → y ≡ b → z ≡ d → IsMessageOf k r x y z m → IsMessageOf h q a b d m
moved_contents m h q a b d is = subst (λ i. i) (λ i. IsMessageOf (h i) (q i) (a i) (b i) (d i) m) is

-- so is whether its data can be moved
pub moved_can : {a x b y d z : List Record} → x ≡ a → y ≡ b → z ≡ d → CanMove (x ++ (y ++ z))
    → CanMove (a ++ (b ++ d))
moved_can a b d is = subst (λ i. i) (λ i. CanMove (a i ++ (b i ++ d i))) is

pub one_rewriting : (octets made other : List ℕ) → IsRewritten octets made → IsRewritten octets other → made ≡ other
one_rewriting octets made other a b =
    let same = said_once octets _ _ _ _ _ _ _ _ _ _ b.message a.message in
    let contents = one_contents _ _ _ _ _ a.contents b.contents a.same
    (moved_contents b.contents same.0 same.1 same.2 same.3 same.4 b.same) in
    a.made_is ∙ ap (message_octets offsets_kept) contents ∙ sym b.made_is

-- data can't both be movable and not movable
pub not_both : (octets made : List ℕ) → IsRewritten octets made → ¬ IsImmovable octets
not_both octets made a b =
    let same = said_once octets _ _ _ _ _ _ _ _ _ _ a.message b.message in
    b.stays (moved_can same.2 same.3 same.4 a.moved)

-- ---- data that isn't immovable can be moved

pub stable : (records : List Record) → ¬ ¬ CanMove records → CanMove records
stable [] nn = tt
stable (r ∷ records) nn =
    ((λ unknown some names. nn (λ all. all.0 unknown some names)), stable records (λ n. nn (λ all. n all.1)))

-- what is composed from a message that was read is composed from its octets
pub rewriting_of : {octets : List ℕ} {header : Header} {questions : List Question}
    {answers authorities additionals : List Record} → IsMessage octets header questions answers authorities additionals
    → ¬ ¬ CanMove (answers ++ (authorities ++ additionals)) → (m : contents.Message)
    → IsMessageOf header questions answers authorities additionals m
    → IsRewritten octets (message_octets offsets_kept m)
rewriting_of message can m same = record {
  header = _;
  questions = _;
  answers = _;
  authorities = _;
  additionals = _;
  message = message;
  moved = stable _ can;
  contents = m;
  same = same;
  made_is = refl;
}

-- ---- a refusal is never for memory

pub no_memory : {A : Type 0} (e : RewriteError) → e ≡ RewriteError.Memory → (A → ⊥)
    → A ⊎ (Is Refusal.malformed (rewrite_error e) ⊎ Is Refusal.short (rewrite_error e)) → ⊥
no_memory e is never (inl a) = never a
no_memory e is never (inr (inl reported)) = subst (λ e. Is Refusal.malformed (rewrite_error e)) is reported
no_memory e is never (inr (inr reported)) = subst (λ e. Is Refusal.short (rewrite_error e)) is reported
