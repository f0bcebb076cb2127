-- A text is one record, or one message.
use Rattle.std.proofs.Common.{◌≡◌, ℕ, None, List, ◌++◌, length, refl, ap, sym, ◌∙◌, subst}
use Rattle.octseq.specs.Integer.{octets_be}
use Rattle.octseq_dns.specs.Contents.{message_octets}
use Rattle.octseq_dns_compose.proofs.OneMessage.{message_once, record_once}
use Rattle.octseq_dns_compose.specs.MessageText.{RecordLine}
use Rattle.octseq_dns_compose.specs.RecordText.{IsRecordText}
use Rattle.octseq_dns_scan.proofs.Taken.{words_once}
use Rattle.octseq_c.specs.FromText.{IsRecordWire, IsTextWire, record_front}
use Rattle.octseq_c.specs.Made.{offsets_kept}

pub four_long : (n : ℕ) → length (octets_be 4 n) ≡ 4
unfolding octets_be
four_long n = refl

pub one_record_wire : (text made other : List ℕ) → IsRecordWire text made → IsRecordWire text other → made ≡ other
one_record_wire text made other a b =
    let words = words_once a.words b.words text a.are b.are in
    let one : RecordLine = record { head = a.head; octets = a.data_octets } in
    let two : RecordLine = record { head = b.head; octets = b.data_octets } in
    let same = record_once one two b.words (subst (λ words. IsRecordText None a.head words a.data_octets) words a.is)
    b.is in
    a.made_is ∙ ap (λ (said : RecordLine). record_front said.head (length said.octets) ++ said.octets) same
    ∙ sym b.made_is

pub one_text_wire : (text made other : List ℕ) → IsTextWire text made → IsTextWire text other → made ≡ other
one_text_wire text made other a b =
    a.made_is ∙ ap (message_octets offsets_kept) (message_once text a.message b.message a.is b.is) ∙ sym b.made_is
