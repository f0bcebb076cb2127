-- The fields of the data of a DNS record, as rows of numbers.
use Rattle.std.specs.Prelude.{◌≡◌, ◌⊎◌, ℕ, ◌+◌, ◌-◌, ◌≤◌, List, [], ◌∷◌, ◌++◌, length, map, Some}
use Rattle.octseq.specs.Integer.{be}
use Rattle.octseq.specs.Window.{Window, left, at, nested, past, whole}
use Rattle.octseq_dns_data.specs.Data.{ParsedRdata, IsTypedData}
use Rattle.octseq_dns_data.specs.Layout.{TextLayout, layout_value}
use Rattle.octseq_dns_data.specs.Typed.{layout_of}
use Rattle.octseq_dns_data.specs.declared.layout.Field.{Field}
use Rattle.octseq_dns_data.specs.declared.layout.Field.TheVariants as field
use Rattle.octseq_dns_data.specs.declared.layout.Tail.{Tail}
use Rattle.octseq_dns_data.specs.declared.layout.Tail.TheVariants as tail
use Rattle.octseq_dns_name.specs.Name.{HasName, Name}
use Rattle.octseq_format.specs.Counted.{Counted}
use Rattle.octseq_format.specs.Fixed.{IsFixed}
use Rattle.octseq_format.specs.Laws.{Relation}
use Rattle.octseq_format.specs.Pair.{◌then◌}
use Rattle.octseq_format.specs.Rest.{IsRest}
use Rattle.octseq_format.specs.Row.{Moved, RowTo}
use Rattle.octseq_c.specs.declared.fields.FieldRow.{FieldRow}

-- ---- rows. Kind 0 is a number, 1 a name, 2 an address, 3 a character string, 4 octets, 5 a set of types, and 6 a
-- parameter.

abbrev pub number_row : ℕ → FieldRow
number_row n = record { at = 0; len = 0; number = n; kind = 0 }

-- the octets of a window
abbrev pub range_row : ℕ → Window → FieldRow
range_row kind w = record { at = w.position; len = left w; number = 0; kind = kind }

-- the name between two windows
abbrev pub name_row : Window → Window → FieldRow
name_row w v = record { at = w.position; len = left w - left v; number = 0; kind = 1 }

-- a key, and the octets of its value
abbrev pub parameter_row : ℕ × Window → FieldRow
parameter_row param = record { at = param.1.position; len = left param.1; number = param.0; kind = 6 }

-- ---- a field

-- a number of k octets
abbrev pub IsNumberField : ℕ → Relation FieldRow
IsNumberField k w row v = (n : ℕ) × IsFixed k be w n v × (row ≡ number_row n)

-- an address of k octets
abbrev pub IsAddressField : ℕ → Relation FieldRow
IsAddressField k w row v = (k ≤ left w) × (row ≡ range_row 2 (nested k w)) × (v ≡ past k w)

-- a domain name, which may have pointers
abbrev pub IsNameField : Relation FieldRow
IsNameField w row v = (name : Name) × HasName w name v × (row ≡ name_row w v)

-- octets after their length, which has one octet
abbrev pub IsCharacterString : Relation Window
IsCharacterString = Counted 1 0 IsRest

abbrev pub IsStringField : Relation FieldRow
IsStringField w row v = (inside : Window) × IsCharacterString w inside v × (row ≡ range_row 3 inside)

abbrev pub IsField : Field → Relation FieldRow
IsField field.U8 = IsNumberField 1
IsField field.U16 = IsNumberField 2
IsField field.U32 = IsNumberField 4
IsField field.Rtype = IsNumberField 2
IsField field.Time = IsNumberField 4
IsField field.Ipv4 = IsAddressField 4
IsField field.Ipv6 = IsAddressField 16
IsField field.Name = IsNameField
IsField field.String = IsStringField
IsField field.Tag = IsStringField
IsField field.Salt = IsStringField
IsField field.OwnerHash = IsStringField

-- one after another
abbrev pub AreFieldRows : List Field → Relation (List FieldRow)
AreFieldRows [] w rows v = (rows ≡ []) × (v ≡ w)
AreFieldRows (f ∷ fields) w rows v = (row : FieldRow) × (more : List FieldRow) × (u : Window)
    × IsField f w row u × AreFieldRows fields u more v × (rows ≡ row ∷ more)

-- ---- what comes after them

-- character strings up to the end
abbrev pub AreStringRows : Window → List FieldRow → Type 0
AreStringRows w rows = (strings : List Window) × (v : Window) × RowTo (Moved IsCharacterString) w strings v
    × (rows ≡ map (range_row 3) strings)

-- a key of 2 octets, and octets after their length, which has 2 octets
abbrev pub IsParameter : Relation (ℕ × Window)
IsParameter = IsFixed 2 be then Counted 2 0 IsRest

-- parameters up to the end
abbrev pub AreParameters : Window → List FieldRow → Type 0
AreParameters w rows = (params : List (ℕ × Window)) × (v : Window) × RowTo (Moved IsParameter) w params v
    × (rows ≡ map parameter_row params)

abbrev pub AreTailRows : Tail → Window → List FieldRow → Type 0
AreTailRows tail.Nothing w rows = rows ≡ []
AreTailRows tail.Value w rows = rows ≡ range_row 4 w ∷ []
AreTailRows tail.Target w rows = rows ≡ range_row 4 w ∷ []
AreTailRows tail.Strings w rows = AreStringRows w rows
AreTailRows tail.Hex w rows = rows ≡ range_row 4 w ∷ []
AreTailRows tail.Base64 w rows = rows ≡ range_row 4 w ∷ []
AreTailRows tail.Types w rows = rows ≡ range_row 5 w ∷ []
AreTailRows tail.Params w rows = AreParameters w rows

-- ---- data

-- These are the rows of a layout.
pub record AreLayoutRows (layout : TextLayout) (w : Window) (rows : List FieldRow) : Type 0 where
  pub front : List FieldRow
  pub back : List FieldRow
  pub end : Window
  pub fields : AreFieldRows layout.fields w front end
  pub after : AreTailRows layout.tail end back
  pub rows_are : rows ≡ front ++ back

-- The data has the form of its type, and these are its fields.
pub record AreTypedFields (message inside : Window) (rtype class : ℕ) (rows : List FieldRow) : Type 0 where
  pub rdata : ParsedRdata
  pub typed : IsTypedData rtype class message inside rdata
  pub layout : TextLayout
  pub layout_is : layout_of rtype class ≡ Some layout
  pub fields : AreLayoutRows layout inside rows

-- the data of an OPT record is options, which are parameters: RFC 6891, 6.1.2
abbrev pub AreOptionRows : Window → ℕ → List FieldRow → Type 0
AreOptionRows inside rtype rows = (rtype ≡ 41) × AreLayoutRows (layout_value [] tail.Params) inside rows

abbrev pub AreKnownFields : Window → Window → ℕ → ℕ → List FieldRow → Type 0
AreKnownFields message inside rtype class rows =
    AreTypedFields message inside rtype class rows ⊎ AreOptionRows inside rtype rows

-- the fields of data; data without a known form is one field of octets
abbrev pub AreFieldsIn : Window → Window → ℕ → ℕ → List FieldRow → Type 0
AreFieldsIn message inside rtype class rows = AreKnownFields message inside rtype class rows
    ⊎ ((others : List FieldRow) → ¬ AreKnownFields message inside rtype class others)
    × (rows ≡ range_row 4 inside ∷ [])

-- Data of a type and a class, of n octets, is at an offset of the octets, and these are its fields.
pub record AreFieldsOf (octets : List ℕ) (offset n rtype class : ℕ) (rows : List FieldRow) : Type 0 where
  pub within : offset + n ≤ length octets
  pub fields : AreFieldsIn (at offset (whole octets)) (nested n (at offset (whole octets))) rtype class rows
