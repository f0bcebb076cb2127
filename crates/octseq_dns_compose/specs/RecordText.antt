-- The text of a record: RFC 1035, 5.1.
use Rattle.std.specs.Prelude.{◌≡◌, ℕ, ◌≤◌, ◌⊎◌, Option, Some, None, List, [], length, true}
use Rattle.std.specs.Str.Parse.{IsNumeral, digits_value}
use Rattle.octseq_dns_data.specs.Mnemonic.{ReadsClass, ReadsRtype}
use Rattle.octseq_dns_name.specs.Name.{wire_length}
use Rattle.octseq_dns_name.specs.Origin.{SpellsWithOrigin}
use Rattle.octseq_dns_name.specs.Spelling.{SpellsName}
use Rattle.octseq_dns_name.specs.Wire.{AreLabels}
use Rattle.octseq_dns_text.specs.DataText.{IsDataText, ends_in_list}
use Rattle.octseq_dns_text.specs.Layouts.{layout_of}
use Rattle.octseq_dns_text.specs.Scans.{BeginsWithWords}
use Rattle.octseq_dns_compose.specs.Take.{Then}

-- What a record says before its data: the labels of its owner, its TTL, its class and its type.
pub record Head : Type 0 where
  pub labels : List (List ℕ)
  pub ttl : ℕ
  pub class : ℕ
  pub rtype : ℕ

-- a word spells a name, which is whole, or relative to an origin
abbrev pub SpellsOwner : Option (List (List ℕ)) → List (List ℕ) → List ℕ → Type 0
SpellsOwner None labels word = SpellsName labels word
SpellsOwner (Some origin) labels word = SpellsWithOrigin origin labels word

abbrev pub IsOwnerWord : Option (List (List ℕ)) → List (List ℕ) → List ℕ → Type 0
IsOwnerWord origin labels word = AreLabels labels × (wire_length labels ≤ 255) × SpellsOwner origin labels word

-- a TTL has one to ten digits
abbrev pub IsTtlWord : ℕ → List ℕ → Type 0
IsTtlWord ttl word = IsNumeral 10 word × (length word ≤ 10) × (digits_value 10 word ≡ ttl) × (ttl ≤ 4294967295)

abbrev pub IsClassWord : ℕ → List ℕ → Type 0
IsClassWord class word = ReadsClass word class

abbrev pub IsRecordTypeWord : ℕ → List ℕ → Type 0
IsRecordTypeWord rtype word = ReadsRtype word rtype

-- a TTL and a class, in either order
abbrev pub TtlAndClass : ℕ → ℕ → (List (List ℕ) → Type 0) → List (List ℕ) → Type 0
TtlAndClass ttl class Rest words =
    Then (IsTtlWord ttl) (Then (IsClassWord class) Rest) words
    ⊎ Then (IsClassWord class) (Then (IsTtlWord ttl) Rest) words

-- Words are the text of a record: its owner, its TTL and its class, its type, and data of these octets.
abbrev pub IsRecordText : Option (List (List ℕ)) → Head → List (List ℕ) → List ℕ → Type 0
IsRecordText origin head words octets = Then (IsOwnerWord origin head.labels) (TtlAndClass head.ttl head.class
    (Then (IsRecordTypeWord head.rtype) (λ more. IsDataText origin head.rtype head.class more octets))) words

-- of any record
abbrev pub IsAnyRecord : Option (List (List ℕ)) → List (List ℕ) → List ℕ → Type 0
IsAnyRecord origin words octets = (head : Head) × IsRecordText origin head words octets

-- ---- data that ends in a list

-- words are those of a record before its data
abbrev pub IsHeadText : Option (List (List ℕ)) → Head → List (List ℕ) → Type 0
IsHeadText origin head = Then (IsOwnerWord origin head.labels) (TtlAndClass head.ttl head.class
    (Then (IsRecordTypeWord head.rtype) (λ more. more ≡ [])))

-- A text begins with these words of a record whose data ends in a list: of types, or of parameters.
pub record BeginsWithList (origin : Option (List (List ℕ))) (text : List ℕ) : Type 0 where
  pub head : Head
  pub words : List (List ℕ)
  pub rest : List ℕ
  pub begins : BeginsWithWords words text rest
  pub is : IsHeadText origin head words
  pub list : ends_in_list (layout_of head.rtype head.class) ≡ true
