-- What is written for DNS messages, names and data.
use Rattle.std.specs.Prelude.{◌≡◌, ℕ, ◌+◌, ◌≤◌, List, length}
use Rattle.octseq.specs.Text.{IsWellFormed}
use Rattle.octseq.specs.Window.{Window, at, nested, whole}
use Rattle.octseq_dns.specs.Data.{ParsedRdata, IsTypedData, SaysData}
use Rattle.octseq_dns.specs.Entry.{Question, Record}
use Rattle.octseq_dns.specs.Message.{IsMessage}
use Rattle.octseq_dns.specs.MessageText.{IsMessageText}
use Rattle.octseq_dns.specs.Name.{IsName, wire_length}
use Rattle.octseq_dns.specs.RdataText.{rdata_text}
use Rattle.octseq_dns.specs.Spelling.{SpellsName}
use Rattle.octseq_dns.specs.Text.{name_text}
use Rattle.octseq_dns.specs.Wire.{wire, AreLabels}
use Rattle.octseq_dns_message.specs.declared.header.Header.{Header}

-- The octets are a message, and this is its text.
pub record IsTextOf (octets text : List ℕ) : Type 0 where
  pub header : Header
  pub questions : List Question
  pub answers : List Record
  pub authorities : List Record
  pub additionals : List Record
  pub message : IsMessage octets header questions answers authorities additionals
  pub text_is : IsMessageText header questions answers authorities additionals text

-- A name is at an offset of the octets, and has these labels.
pub record IsNameAt (octets : List ℕ) (offset : ℕ) (labels : List (List ℕ)) : Type 0 where
  pub within : offset ≤ length octets
  pub end : Window
  pub name : IsName (at offset (whole octets)) labels end

-- its text
abbrev pub IsNameText : List ℕ → ℕ → List ℕ → Type 0
IsNameText octets offset text = (labels : List (List ℕ)) × IsNameAt octets offset labels × (text ≡ name_text labels)

-- its wire form
abbrev pub IsNameWire : List ℕ → ℕ → List ℕ → Type 0
IsNameWire octets offset made = (labels : List (List ℕ)) × IsNameAt octets offset labels × (made ≡ wire labels)

-- A text spells a name, which has these labels.
pub record SpellsNameText (text : List ℕ) (labels : List (List ℕ)) : Type 0 where
  pub well_formed : IsWellFormed text
  pub labels_are : AreLabels labels
  pub short : wire_length labels ≤ 255
  pub spelled : SpellsName labels text

-- the wire form of the name that a text spells
abbrev pub IsSpelledWire : List ℕ → List ℕ → Type 0
IsSpelledWire text made = (labels : List (List ℕ)) × SpellsNameText text labels × (made ≡ wire labels)

-- Data of a type and a class, of n octets, is at an offset of the octets, and says this.
pub record IsDataAt (octets : List ℕ) (offset n rtype class : ℕ) (rdata : ParsedRdata) : Type 0 where
  pub within : offset + n ≤ length octets
  pub says : SaysData rtype class (at offset (whole octets)) (nested n (at offset (whole octets))) rdata

-- it has the form of its type
pub record IsTypedAt (octets : List ℕ) (offset n rtype class : ℕ) (rdata : ParsedRdata) : Type 0 where
  pub within : offset + n ≤ length octets
  pub typed : IsTypedData rtype class (at offset (whole octets)) (nested n (at offset (whole octets))) rdata

-- the text of data
abbrev pub IsDataTextAt : List ℕ → ℕ → ℕ → ℕ → ℕ → List ℕ → Type 0
IsDataTextAt octets offset n rtype class text =
    (rdata : ParsedRdata) × IsDataAt octets offset n rtype class rdata × (text ≡ rdata_text rdata)
