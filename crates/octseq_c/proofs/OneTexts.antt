-- One name is at an offset, and one is spelled by a text. Data at an offset has one text. Octets are one message,
-- which has one text and one list of rows.
use Rattle.std.proofs.Common.{◌≡◌, ℕ, List, ◌++◌, ap, sym, ◌∙◌, refl, subst}
use Rattle.octseq.specs.Integer.{octets_be}
use Rattle.octseq_dns_data.proofs.Rdata.{one_said}
use Rattle.octseq_dns_data.specs.RdataText.{rdata_text}
use Rattle.octseq_dns_message.proofs.MessageTexts.{one_message_text}
use Rattle.octseq_dns_message.proofs.Messages.{said_once}
use Rattle.octseq_dns_message.specs.Entry.{Question, Record}
use Rattle.octseq_dns_message.specs.Message.{IsMessage}
use Rattle.octseq_dns_message.specs.MessageText.{IsMessageText}
use Rattle.octseq_dns_message.specs.declared.header.Header.{Header}
use Rattle.octseq_dns_name.proofs.Readings.{name_once}
use Rattle.octseq_dns_name.specs.OneName.{one_name}
use Rattle.octseq_dns_name.specs.Text.{name_text}
use Rattle.octseq_dns_name.specs.Wire.{wire}
use Rattle.octseq_c.specs.Made.{IsQuery, query_header}
use Rattle.octseq_c.specs.Rows.{AreRowsOf, rows_of}
use Rattle.octseq_c.specs.Texts.{IsNameAt, IsNameText, IsNameWire, IsSpelledWire, SpellsNameText, IsDataTextAt}
use Rattle.octseq_c.specs.Texts.{IsTextOf}
use Rattle.octseq_c.specs.declared.rows.Row.{Row}

pub one_at : {octets : List ℕ} {offset : ℕ} {labels others : List (List ℕ)} → IsNameAt octets offset labels
    → IsNameAt octets offset others → labels ≡ others
one_at a b = (one_name _ _ _ _ _ a.name b.name).0

pub one_name_text : (octets : List ℕ) (offset : ℕ) (text other : List ℕ) → IsNameText octets offset text
    → IsNameText octets offset other → text ≡ other
one_name_text octets offset text other (labels, a, is) (others, b, it) = is ∙ ap name_text (one_at a b) ∙ sym it

pub one_name_wire : (octets : List ℕ) (offset : ℕ) (made other : List ℕ) → IsNameWire octets offset made
    → IsNameWire octets offset other → made ≡ other
one_name_wire octets offset made other (labels, a, is) (others, b, it) = is ∙ ap wire (one_at a b) ∙ sym it

pub one_spelled : {text : List ℕ} {labels others : List (List ℕ)} → SpellsNameText text labels
    → SpellsNameText text others
    → labels ≡ others
one_spelled a b = name_once _ _ _ a.labels_are b.labels_are a.spelled b.spelled

pub one_spelled_wire : (text made other : List ℕ) → IsSpelledWire text made → IsSpelledWire text other → made ≡ other
one_spelled_wire text made other (labels, a, is) (others, b, it) = is ∙ ap wire (one_spelled a b) ∙ sym it

pub one_query : (id flags : ℕ) (text : List ℕ) (qtype qclass : ℕ) (made other : List ℕ)
    → IsQuery id flags text qtype qclass made → IsQuery id flags text qtype qclass other → made ≡ other
one_query id flags text qtype qclass made other a b =
    a.made_is ∙ ap (λ labels. query_header id flags ++ (wire labels ++ (octets_be 2 qtype ++ octets_be 2 qclass)))
    (one_spelled a.spelled b.spelled) ∙ sym b.made_is

pub one_data_text : (octets : List ℕ) (offset n rtype class : ℕ) (text other : List ℕ)
    → IsDataTextAt octets offset n rtype class text → IsDataTextAt octets offset n rtype class other → text ≡ other
one_data_text octets offset n rtype class text other (rdata, a, is) (others, b, it) =
    is ∙ ap rdata_text (one_said _ _ _ _ _ _ a.says b.says) ∙ sym it

-- the text of one message is the text of the other, if both are one
pub moved_text : {h k : Header} {q r : List Question} {a x b y d z : List Record} {text : List ℕ} → k ≡ h → r ≡ q
    → x ≡ a
    → y ≡ b → z ≡ d → IsMessageText k r x y z text → IsMessageText h q a b d text
moved_text {text = text} h q a b d is = subst (λ i. i) (λ i. IsMessageText (h i) (q i) (a i) (b i) (d i) text) is

pub one_text_of : (octets text other : List ℕ) → IsTextOf octets text → IsTextOf octets other → text ≡ other
one_text_of octets text other a b =
    let same = said_once octets _ _ _ _ _ _ _ _ _ _ b.message a.message in
    one_message_text _ _ _ _ _ text other a.text_is
    (moved_text same.0 same.1 same.2 same.3 same.4 b.text_is)

-- a message has its rows
pub are_rows : {octets : List ℕ} {h : Header} {q : List Question} {a n d : List Record} → IsMessage octets h q a n d
    → AreRowsOf octets (rows_of q a n d)
are_rows is = record {
  header = _;
  questions = _;
  answers = _;
  authorities = _;
  additionals = _;
  message = is;
  rows_are = refl;
}

pub one_rows_of : (octets : List ℕ) (rows others : List Row) → AreRowsOf octets rows → AreRowsOf octets others
    → rows ≡ others
one_rows_of octets rows others a b =
    let same = said_once octets _ _ _ _ _ _ _ _ _ _ a.message b.message in
    a.rows_are ∙ (λ i. rows_of (same.1 i) (same.2 i) (same.3 i) (same.4 i)) ∙ sym b.rows_are
