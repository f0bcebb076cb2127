-- A message has one text.
use Rattle.std.proofs.Common.{◌≡◌, ℕ, List, [], ◌∷◌, ◌++◌, codes, sym, ap, ◌∙◌, subst}
use Rattle.octseq.specs.Window.{Window}
use Rattle.octseq_format.specs.Counted.{Counted, one_counted}
use Rattle.octseq_format.specs.Laws.{IsOne}
use Rattle.octseq_format.specs.Text.{IsText, one_text}
use Rattle.octseq_bgp.specs.Capability.{ParameterValue, IsParameterValue}
use Rattle.octseq_bgp.specs.CapabilityText.{capability_text}
use Rattle.octseq_bgp.specs.Message.{Message}
use Rattle.octseq_bgp.specs.MessageText.{line, nlri_lines, attribute_lines, AreAttributeLines, IsUpdateText}
use Rattle.octseq_bgp.specs.MessageText.{AreCapabilityLines, AreParameterValueLines, AreParameterLines, IsOpenText}
use Rattle.octseq_bgp.specs.MessageText.{open_text, notification_text, IsNotificationText, IsMessageText}
use Rattle.octseq_bgp.specs.Notification.{NotificationData, IsNotificationData}
use Rattle.octseq_bgp.specs.OneParts.{one_tlv}
use Rattle.octseq_bgp.specs.Open.{Open}
use Rattle.octseq_bgp.specs.Parts.{Attribute, type_of, inside_of}
use Rattle.octseq_bgp.specs.Update.{Update}
use Rattle.octseq_bgp.specs.declared.session.SessionConfig.{SessionConfig}
use Rattle.octseq_bgp.proofs.Moves.{tlv_moves}
use Rattle.octseq_bgp.proofs.OneCapability.{one_capability_value}
use Rattle.octseq_bgp.proofs.Values.{one_value}
use Rattle.octseq_bgp.proofs.Wholes.{one_whole, one_fills}

one_attributes : (s : SessionConfig) (row : List Attribute) (text other : List ℕ) → AreAttributeLines s row text
    → AreAttributeLines s row other → text ≡ other
one_attributes s [] text other a b = a ∙ sym b
one_attributes s (e ∷ more) text other a b =
    let values = one_value s (type_of e) (inside_of e) a.0 b.0 a.2 b.2 in
    let rests = one_attributes s more a.1 b.1 a.3 b.3 in
    a.4 ∙ ap (λ v. attribute_lines e v ++ a.1) values ∙ ap (λ rest. attribute_lines e b.0 ++ rest) rests ∙ sym b.4

pub one_update_text : (u : Update) (text other : List ℕ) → IsUpdateText u text → IsUpdateText u other → text ≡ other
one_update_text u text other a b =
    a.2 ∙ ap (λ attributes. codes "update\n" ++ nlri_lines (codes "withdrawn") u.withdrawn ++ attributes
    ++ nlri_lines (codes "announced") u.announced) (one_attributes u.session u.attributes a.0 b.0 a.1 b.1) ∙ sym b.2

one_capabilities : (row : List (ℕ × Window)) (text other : List ℕ) → AreCapabilityLines row text
    → AreCapabilityLines row other
    → text ≡ other
one_capabilities [] text other a b = a ∙ sym b
one_capabilities (e ∷ more) text other a b =
    let values = one_capability_value e.0 e.1 a.0 b.0 a.2 b.2 in
    let rests = one_capabilities more a.1 b.1 a.3 b.3 in
    a.4 ∙ ap (λ v. line (codes "capability") (capability_text e.0 v) ++ a.1) values
    ∙ ap (λ rest. line (codes "capability") (capability_text e.0 b.0) ++ rest) rests ∙ sym b.4

-- a parameter has at most one value
pub one_parameter_value : (kind : ℕ) (w : Window) (a b : ParameterValue) → IsParameterValue kind w a
    → IsParameterValue kind w b → a ≡ b
one_parameter_value kind w (ParameterValue.capabilities row) (ParameterValue.capabilities others) a b =
    ap ParameterValue.capabilities (one_fills (one_tlv 1) (tlv_moves 1) w row others a.1 b.1)
one_parameter_value kind w (ParameterValue.capabilities row) (ParameterValue.opaque octets) a b = absurd (b.1 row a)
one_parameter_value kind w (ParameterValue.opaque octets) (ParameterValue.capabilities row) a b = absurd (a.1 row b)
one_parameter_value kind w (ParameterValue.opaque octets) (ParameterValue.opaque others) a b =
    ap ParameterValue.opaque (a.0 ∙ sym b.0)

one_value_lines : (kind : ℕ) (v : ParameterValue) (text other : List ℕ) → AreParameterValueLines kind v text
    → AreParameterValueLines kind v other → text ≡ other
one_value_lines kind (ParameterValue.capabilities row) text other a b = one_capabilities row text other a b
one_value_lines kind (ParameterValue.opaque octets) text other a b = a ∙ sym b

one_parameters : (row : List (ℕ × Window)) (text other : List ℕ) → AreParameterLines row text
    → AreParameterLines row other
    → text ≡ other
one_parameters [] text other a b = a ∙ sym b
one_parameters (p ∷ more) text other a b =
    let values = one_parameter_value p.0 p.1 a.0 b.0 a.3 b.3 in
    let heres = one_value_lines p.0 b.0 a.1 b.1 (subst (λ v. AreParameterValueLines p.0 v a.1) values a.4) b.4 in
    let rests = one_parameters more a.2 b.2 a.5 b.5 in
    a.6 ∙ ap (λ here. here ++ a.2) heres ∙ ap (λ rest. b.1 ++ rest) rests ∙ sym b.6

pub one_open_text : (o : Open) (text other : List ℕ) → IsOpenText o text → IsOpenText o other → text ≡ other
one_open_text o text other a b =
    a.2 ∙ ap (λ parameters. line (codes "open") (open_text o) ++ parameters)
    (one_parameters o.parameters a.0 b.0 a.1 b.1)
    ∙ sym b.2

one_communication : IsOne (Counted 1 0 IsText)
one_communication = one_counted one_text

-- the data says at most one thing
one_data : (code subcode : ℕ) (w : Window) (a b : NotificationData) → IsNotificationData code subcode w a
    → IsNotificationData code subcode w b → a ≡ b
one_data code subcode w (NotificationData.shutdown text) (NotificationData.shutdown other) a b =
    ap NotificationData.shutdown (one_whole (Counted 1 0 IsText) one_communication w text other a.1 b.1)
one_data code subcode w (NotificationData.shutdown text) (NotificationData.opaque octets) a b = absurd (b.1 text a)
one_data code subcode w (NotificationData.opaque octets) (NotificationData.shutdown text) a b = absurd (a.1 text b)
one_data code subcode w (NotificationData.opaque octets) (NotificationData.opaque others) a b =
    ap NotificationData.opaque (a.0 ∙ sym b.0)

pub one_notification_text : (n : ℕ × (ℕ × Window)) (text other : List ℕ) → IsNotificationText n text
    → IsNotificationText n other → text ≡ other
one_notification_text n text other a b =
    a.2 ∙ ap (λ it. line (codes "notification") (notification_text n.0 n.1.0 it))
    (one_data n.0 n.1.0 n.1.1 a.0 b.0 a.1 b.1)
    ∙ sym b.2

pub one_message_text : (m : Message) (text other : List ℕ) → IsMessageText m text → IsMessageText m other → text ≡ other
one_message_text (Message.opens o) text other a b = one_open_text o text other a b
one_message_text (Message.update u) text other a b = one_update_text u text other a b
one_message_text (Message.notification n) text other a b = one_notification_text n text other a b
one_message_text Message.keepalive text other a b = a ∙ sym b
one_message_text (Message.route_refresh r) text other a b = a ∙ sym b
