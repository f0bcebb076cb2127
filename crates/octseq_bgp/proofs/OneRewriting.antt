-- A message is written anew in one way.
use Rattle.std.proofs.Common.{◌≡◌, ℕ, List, sym, ap, ◌∙◌, subst}
use Rattle.octseq_bgp.specs.Message.{Message}
use Rattle.octseq_bgp.specs.Parts.{Attribute, type_of, inside_of}
use Rattle.octseq_bgp.specs.Rewritten.{AreAttributesAnew, IsMessageRewritten, IsRewritten, IsUpdateRewritten}
use Rattle.octseq_bgp.specs.Rewritten.{IsAttributeAnew, attribute_anew, prefixes_anew}
use Rattle.octseq_bgp.specs.Update.{Update}
use Rattle.octseq_bgp.specs.Written.{WrittenAttribute, update_octets}
use Rattle.octseq_bgp.specs.declared.session.SessionConfig.{SessionConfig}
use Rattle.octseq_bgp.proofs.OneMessage.{one_message}
use Rattle.octseq_bgp.proofs.RewrittenOpens.{one_each, one_rewritten}
use Rattle.octseq_bgp.proofs.Values.{one_value}

one_attribute : (s : SessionConfig) (it : Attribute) (a b : WrittenAttribute) → IsAttributeAnew s it a
    → IsAttributeAnew s it b → a ≡ b
one_attribute s it a b is other =
    is.2 ∙ ap (attribute_anew it) (one_value s (type_of it) (inside_of it) is.0 other.0 is.1 other.1) ∙ sym other.2

pub one_attributes : (s : SessionConfig) (row : List Attribute) (x y : List WrittenAttribute)
    → AreAttributesAnew s row x → AreAttributesAnew s row y → x ≡ y
one_attributes s = one_each (one_attribute s)

pub one_rewritten_update : (u : Update) (x y : List ℕ) → IsUpdateRewritten u x → IsUpdateRewritten u y → x ≡ y
one_rewritten_update u x y a b =
    a.2 ∙ ap (λ row. update_octets (record {
      withdrawn = prefixes_anew u.withdrawn;
      attributes = row;
      announced = prefixes_anew u.announced;
    })) (one_attributes u.session u.attributes a.0 b.0 a.1 b.1) ∙ sym b.2

one_message_rewritten : (octets : List ℕ) (m : Message) (x y : List ℕ) → IsMessageRewritten octets m x
    → IsMessageRewritten octets m y → x ≡ y
one_message_rewritten octets (Message.opens o) x y a b = one_rewritten o x y a b
one_message_rewritten octets (Message.update u) x y a b = one_rewritten_update u x y a b
one_message_rewritten octets _ x y a b = a ∙ sym b

pub one_rewriting : (s : SessionConfig) (octets x y : List ℕ) → IsRewritten s octets x → IsRewritten s octets y → x ≡ y
one_rewriting s octets x y a b =
    let same = one_message s octets a.0 b.0 a.1 b.1 in
    one_message_rewritten octets b.0 x y (subst (λ m. IsMessageRewritten octets m x) same a.2) b.2
