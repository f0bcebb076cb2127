-- Octets are one BGP message of a session, which has one text and one list of rows.
use Rattle.std.proofs.Common.{◌≡◌, ◌++◌, ℕ, List, [], ◌∷◌, map, refl, ap, sym, ◌∙◌, subst, append_assoc, append-nil}
use Rattle.octseq_bgp.proofs.OneMessage.{one_message}
use Rattle.octseq_bgp.proofs.Texts.{one_message_text}
use Rattle.octseq_bgp.proofs.Values.{one_value}
use Rattle.octseq_bgp.specs.Message.{Message, IsMessage}
use Rattle.octseq_bgp.specs.MessageText.{IsMessageText}
use Rattle.octseq_bgp.specs.Parts.{Attribute, type_of, inside_of}
use Rattle.octseq_bgp.specs.Update.{Update}
use Rattle.octseq_bgp.specs.Value.{Value, IsValue}
use Rattle.octseq_bgp.specs.declared.session.SessionConfig.{SessionConfig}
use Rattle.octseq_c.specs.BgpRows.{AreAttributeRows, AreBgpRowsOf, AreMessageRows, AreUpdateRows, IsBgpTextOf}
use Rattle.octseq_c.specs.BgpRows.{row_of_prefix, rows_of_attribute}
use Rattle.octseq_c.specs.declared.bgp.rows.BgpRow.{BgpRow}

-- ---- the text

pub one_bgp_text : (s : SessionConfig) (octets text other : List ℕ) → IsBgpTextOf s octets text
    → IsBgpTextOf s octets other → text ≡ other
one_bgp_text s octets text other a b =
    let same = one_message s octets a.message b.message a.is b.is in
    one_message_text b.message text other (subst (λ m. IsMessageText m text) same a.text_is) b.text_is

-- a text of octets is one of the message that they are
pub text_of_it : {s : SessionConfig} {octets text : List ℕ} (m : Message) → IsMessage s octets m
    → IsBgpTextOf s octets text → IsMessageText m text
text_of_it {s} {octets} {text} m is a =
    subst (λ m. IsMessageText m text) (one_message s octets a.message m a.is is) a.text_is

-- ---- rows

pub one_attribute_rows : (s : SessionConfig) (row : List Attribute) (rows others : List BgpRow)
    → AreAttributeRows s row rows → AreAttributeRows s row others → rows ≡ others
one_attribute_rows s [] rows others a b = a ∙ sym b
one_attribute_rows s (e ∷ more) rows others a b =
    let values = one_value s (type_of e) (inside_of e) a.0 b.0 a.2 b.2 in
    let rests = one_attribute_rows s more a.1 b.1 a.3 b.3 in
    a.4 ∙ ap (λ v. rows_of_attribute e v ++ a.1) values ∙ ap (λ rest. rows_of_attribute e b.0 ++ rest) rests ∙ sym b.4

one_update_rows : (u : Update) (rows others : List BgpRow) → AreUpdateRows u rows → AreUpdateRows u others
    → rows ≡ others
one_update_rows u rows others a b =
    a.2 ∙ ap (λ attributes. map (row_of_prefix 0 1) u.withdrawn ++ (attributes
    ++ map (row_of_prefix 2 1) u.announced)) (one_attribute_rows u.session u.attributes a.0 b.0 a.1 b.1) ∙ sym b.2

pub one_message_rows : (m : Message) (rows others : List BgpRow) → AreMessageRows m rows → AreMessageRows m others
    → rows ≡ others
one_message_rows (Message.opens o) rows others a b = a ∙ sym b
one_message_rows (Message.update u) rows others a b = one_update_rows u rows others a b
one_message_rows (Message.notification n) rows others a b = a ∙ sym b
one_message_rows Message.keepalive rows others a b = a ∙ sym b
one_message_rows (Message.route_refresh r) rows others a b = a ∙ sym b

pub one_bgp_rows : (s : SessionConfig) (octets : List ℕ) (rows others : List BgpRow) → AreBgpRowsOf s octets rows
    → AreBgpRowsOf s octets others → rows ≡ others
one_bgp_rows s octets rows others a b =
    let same = one_message s octets a.message b.message a.is b.is in
    one_message_rows b.message rows others (subst (λ m. AreMessageRows m rows) same a.rows_are) b.rows_are

-- ---- the rows of attributes, one attribute after another

module _ (s : SessionConfig) {row more : List Attribute} (e : Attribute) (v : Value) (is_cons : row ≡ e ∷ more)
    (says : IsValue s (type_of e) (inside_of e) v) where
  -- rows of some attributes are those of the first, and those of the others
  pub first_rows : (rows : List BgpRow) → AreAttributeRows s row rows
      → (rest : List BgpRow) × AreAttributeRows s more rest × (rows ≡ rows_of_attribute e v ++ rest)
  first_rows rows are =
      let here = subst (λ row. AreAttributeRows s row rows) is_cons are in
      let same = one_value s (type_of e) (inside_of e) here.0 v here.2 says in
      (here.1, here.3, here.4 ∙ ap (λ v. rows_of_attribute e v ++ here.1) same)

  -- If some rows, and any rows of the attributes that are left, are rows of all, then so they are with those of one
  -- more.
  pub more_rows : (all : List Attribute) (done : List BgpRow)
      → ((rest : List BgpRow) → AreAttributeRows s row rest → AreAttributeRows s all (done ++ rest))
      → (rest : List BgpRow) → AreAttributeRows s more rest
      → AreAttributeRows s all ((done ++ rows_of_attribute e v) ++ rest)
  more_rows all done whole rest are =
      let rows = rows_of_attribute e v in
      let ahead = subst (λ row. AreAttributeRows s row (rows ++ rest)) (sym is_cons) (v, rest, says, are, refl) in
      subst (AreAttributeRows s all) (sym (append_assoc done rows rest)) (whole (rows ++ rest) ahead)

-- and once none are left, they are the rows of all
pub last_rows : (s : SessionConfig) {row : List Attribute} (all : List Attribute) (done : List BgpRow) → row ≡ []
    → ((rest : List BgpRow) → AreAttributeRows s row rest → AreAttributeRows s all (done ++ rest))
    → AreAttributeRows s all done
last_rows s all done is_nil whole =
    subst (AreAttributeRows s all) (append-nil done)
    (whole [] (subst (λ row. AreAttributeRows s row []) (sym is_nil) refl))

-- a message has its rows
pub are_rows : {s : SessionConfig} {octets : List ℕ} {rows : List BgpRow} {m : Message} → IsMessage s octets m
    → AreMessageRows m rows → AreBgpRowsOf s octets rows
are_rows {m = m} is are = record { message = m; is = is; rows_are = are }
