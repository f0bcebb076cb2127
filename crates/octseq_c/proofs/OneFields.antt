-- Data has one list of fields.
use Rattle.std.proofs.Common.{◌≡◌, ℕ, List, [], ◌∷◌, ◌++◌, map, inl, inr, ap, sym}
use Rattle.std.proofs.Common.{◌∙◌, subst}
use Rattle.std.specs.Prelude.{Option, Some, None}
use Rattle.octseq.specs.Integer.{be}
use Rattle.octseq.specs.Window.{Window}
use Rattle.octseq_dns_data.specs.Layout.{TextLayout, layout_value}
use Rattle.octseq_dns_data.specs.Typed.{layout_of}
use Rattle.octseq_dns_data.specs.declared.layout.Field.{Field}
use Rattle.octseq_dns_data.specs.declared.layout.Field.TheVariants as field
use Rattle.octseq_dns_data.specs.declared.layout.Tail.{Tail}
use Rattle.octseq_dns_data.specs.declared.layout.Tail.TheVariants as tail
use Rattle.octseq_dns_name.specs.NameFormat.{one_named}
use Rattle.octseq_format.specs.Counted.{one_counted}
use Rattle.octseq_format.specs.Fixed.{one_fixed}
use Rattle.octseq_format.specs.Laws.{IsOne}
use Rattle.octseq_format.specs.Pair.{◌one_then◌}
use Rattle.octseq_format.specs.Rest.{one_rest}
use Rattle.octseq_format.specs.Row.{Moved, moving_moved, one_moved, one_to}
use Rattle.octseq_c.specs.Fields.{AreFieldRows, AreFieldsIn, AreFieldsOf, AreKnownFields, AreLayoutRows}
use Rattle.octseq_c.specs.Fields.{AreParameters, AreStringRows, AreTailRows, AreTypedFields, IsAddressField}
use Rattle.octseq_c.specs.Fields.{IsCharacterString}
use Rattle.octseq_c.specs.Fields.{IsField, IsNameField, IsNumberField, IsParameter, IsStringField}
use Rattle.octseq_c.specs.Fields.{name_row, number_row, parameter_row, range_row}
use Rattle.octseq_c.specs.declared.fields.FieldRow.{FieldRow}

-- ---- a field

one_number : (k : ℕ) → IsOne (IsNumberField k)
one_number k = record {
  same = λ w row other u v (n, is, shown) (m, it, told).
      let same = (one_fixed k be).same w n m u v is it in
      (shown ∙ ap number_row same.0 ∙ sym told, same.1);
}

one_address : (k : ℕ) → IsOne (IsAddressField k)
one_address k = record { same = λ w row other u v a b. (a.1 ∙ sym b.1, a.2 ∙ sym b.2) }

one_name_field : IsOne IsNameField
one_name_field = record {
  same = λ w row other u v (n, is, shown) (m, it, told).
      let same = one_named.same w n m u v is it in
      (shown ∙ ap (name_row w) same.1 ∙ sym told, same.1);
}

one_character_string : IsOne IsCharacterString
one_character_string = one_counted one_rest

one_string : IsOne IsStringField
one_string = record {
  same = λ w row other u v (n, is, shown) (m, it, told).
      let same = one_character_string.same w n m u v is it in
      (shown ∙ ap (range_row 3) same.0 ∙ sym told, same.1);
}

pub one_field : (f : Field) → IsOne (IsField f)
one_field field.U8 = one_number 1
one_field field.U16 = one_number 2
one_field field.U32 = one_number 4
one_field field.Rtype = one_number 2
one_field field.Time = one_number 4
one_field field.Ipv4 = one_address 4
one_field field.Ipv6 = one_address 16
one_field field.Name = one_name_field
one_field field.String = one_string
one_field field.Tag = one_string
one_field field.Salt = one_string
one_field field.OwnerHash = one_string

-- ---- fields

pub one_fields : (fields : List Field) → IsOne (AreFieldRows fields)
one_fields [] = record { same = λ w rows others u v a b. (a.0 ∙ sym b.0, a.1 ∙ sym b.1) }
one_fields (f ∷ fields) = record {
  same = λ w rows others u v (row, more, x, is, are, shown) (other, rest, y, it, also, told).
      let first = (one_field f).same w row other x y is it in
      let then = (one_fields fields).same y more rest u v
      (subst (λ x. AreFieldRows fields x more u) first.1 are) also in
      (shown ∙ ap (λ row. row ∷ more) first.0 ∙ ap (λ more. other ∷ more) then.0 ∙ sym told, then.1);
}

-- ---- the last part

one_strings : (w : Window) (rows others : List FieldRow) → AreStringRows w rows → AreStringRows w others → rows ≡ others
one_strings w rows others (strings, u, is, shown) (same, v, it, told) =
    let one = one_to (Moved IsCharacterString) (one_moved one_character_string) (moving_moved IsCharacterString) in
    shown ∙ ap (map (range_row 3)) (one.same w strings same u v is it).0 ∙ sym told

one_parameter : IsOne IsParameter
one_parameter = one_fixed 2 be one_then one_counted one_rest

one_parameters : (w : Window) (rows others : List FieldRow) → AreParameters w rows → AreParameters w others
    → rows ≡ others
one_parameters w rows others (params, u, is, shown) (same, v, it, told) =
    let one = one_to (Moved IsParameter) (one_moved one_parameter) (moving_moved IsParameter) in
    shown ∙ ap (map parameter_row) (one.same w params same u v is it).0 ∙ sym told

one_tail : (t : Tail) (w : Window) (rows others : List FieldRow) → AreTailRows t w rows → AreTailRows t w others
    → rows ≡ others
one_tail tail.Nothing w rows others a b = a ∙ sym b
one_tail tail.Value w rows others a b = a ∙ sym b
one_tail tail.Target w rows others a b = a ∙ sym b
one_tail tail.Strings w rows others a b = one_strings w rows others a b
one_tail tail.Hex w rows others a b = a ∙ sym b
one_tail tail.Base64 w rows others a b = a ∙ sym b
one_tail tail.Types w rows others a b = a ∙ sym b
one_tail tail.Params w rows others a b = one_parameters w rows others a b

-- ---- data

one_layout : (layout : TextLayout) (w : Window) (rows others : List FieldRow) → AreLayoutRows layout w rows
    → AreLayoutRows layout w others → rows ≡ others
one_layout layout w rows others a b =
    let front = (one_fields layout.fields).same w a.front b.front a.end b.end a.fields b.fields in
    let back =
    one_tail layout.tail b.end a.back b.back (subst (λ end. AreTailRows layout.tail end a.back) front.1 a.after)
    b.after in
    a.rows_are ∙ ap (λ front. front ++ a.back) front.0 ∙ ap (λ back. b.front ++ back) back ∙ sym b.rows_are

some_of : {A : Type 0} (default : A) → Option A → A
some_of default None = default
some_of default (Some a) = a

-- a type and a class have one layout
pub same_layout : (rtype class : ℕ) {layout other : TextLayout} → layout_of rtype class ≡ Some layout
    → layout_of rtype class ≡ Some other → layout ≡ other
unfolding some_of
same_layout rtype class {layout = layout} a b = ap (some_of layout) (sym a ∙ b)

-- OPT has none
pub no_options : (class : ℕ) (layout : TextLayout) → layout_of 41 class ≡ Some layout → ⊥
unfolding layout_of
no_options class layout is = let none : None ≡ Some layout = is in cc

one_typed : (message inside : Window) (rtype class : ℕ) (rows others : List FieldRow)
    → AreTypedFields message inside rtype class rows → AreTypedFields message inside rtype class others → rows ≡ others
one_typed message inside rtype class rows others a b =
    one_layout b.layout inside rows others
    (subst (λ layout. AreLayoutRows layout inside rows) (same_layout rtype class a.layout_is b.layout_is) a.fields)
    b.fields

-- typed data is not OPT
not_options : {message inside : Window} {rtype class : ℕ} {rows : List FieldRow}
    → AreTypedFields message inside rtype class rows → rtype ≡ 41 → ⊥
not_options {class = class} a is =
    no_options class a.layout (subst (λ rtype. layout_of rtype class ≡ Some a.layout) is a.layout_is)

one_known : (message inside : Window) (rtype class : ℕ) (rows others : List FieldRow)
    → AreKnownFields message inside rtype class rows → AreKnownFields message inside rtype class others → rows ≡ others
one_known message inside rtype class rows others (inl a) (inl b) = one_typed message inside rtype class rows others a b
one_known message inside rtype class rows others (inl a) (inr b) = absurd (not_options a b.0)
one_known message inside rtype class rows others (inr a) (inl b) = absurd (not_options b a.0)
one_known message inside rtype class rows others (inr a) (inr b) =
    one_layout (layout_value [] tail.Params) inside rows others a.1 b.1

one_fields_in : (message inside : Window) (rtype class : ℕ) (rows others : List FieldRow)
    → AreFieldsIn message inside rtype class rows → AreFieldsIn message inside rtype class others → rows ≡ others
one_fields_in message inside rtype class rows others (inl a) (inl b) =
    one_known message inside rtype class rows others a b
one_fields_in message inside rtype class rows others (inl a) (inr (none, b)) = absurd (none rows a)
one_fields_in message inside rtype class rows others (inr (none, a)) (inl b) = absurd (none others b)
one_fields_in message inside rtype class rows others (inr (none, a)) (inr (also, b)) = a ∙ sym b

pub one_fields_of : (octets : List ℕ) (offset n rtype class : ℕ) (rows others : List FieldRow)
    → AreFieldsOf octets offset n rtype class rows → AreFieldsOf octets offset n rtype class others → rows ≡ others
one_fields_of octets offset n rtype class rows others a b =
    one_fields_in _ _ rtype class rows others a.fields b.fields
