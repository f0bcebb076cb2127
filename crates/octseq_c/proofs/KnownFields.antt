-- Which data has fields of its own, and how many a layout has before its last part.
use Rattle.std.proofs.Common.{◌≡◌, ◌≢◌, ℕ, ◌≤◌, List, [], ◌∷◌, length, inl, inr, sym, ◌∙◌, subst, arith}
use Rattle.std.proofs.Common.{cond}
use Rattle.std.specs.Prelude.{Bool, true, false, Option, Some, None, ◌&&◌, not, nat_eq}
use Rattle.octseq.specs.Window.{Window}
use Rattle.octseq_dns_data.specs.Data.{ParsedRdata, IsTypedData}
use Rattle.octseq_dns_data.specs.Layout.{TextLayout, layout_value}
use Rattle.octseq_dns_data.specs.Typed.{KnownType, all_types, layout_in, layout_of, reading_in}
use Rattle.octseq_dns_data.specs.declared.layout.Tail.TheVariants as tail
use Rattle.octseq_c.specs.Fields.{AreKnownFields, AreLayoutRows}
use Rattle.octseq_c.specs.declared.fields.FieldRow.{FieldRow}
use Rattle.octseq_c.proofs.OneFields.{no_options, same_layout}

-- ---- at most eight fields

abbrev Few : TextLayout → Type 0
Few layout = length layout.fields ≤ 8

abbrev FewRead : Option (Bool × TextLayout) → Type 0
FewRead None = Unit {0}
FewRead (Some reading) = Few reading.1

abbrev FewFound : Option TextLayout → Type 0
FewFound None = Unit {0}
FewFound (Some layout) = Few layout

abbrev AllFew : List KnownType → Type 0
AllFew [] = Unit {0}
AllFew (it ∷ more) = Few it.layout × AllFew more

either : (P : Option (Bool × TextLayout) → Type 0) (b : Bool) (x y : Option (Bool × TextLayout)) → P x → P y
    → P (cond b x y)
either P true x y p q = p
either P false x y p q = q

few_in : (types : List KnownType) → AllFew types → (n : ℕ) → FewRead (reading_in types n)
few_in [] few n = tt
few_in (it ∷ more) (one, few) n =
    either FewRead (nat_eq it.number n) (Some (it.is_of_class_in, it.layout)) (reading_in more n) one
    (few_in more few n)

infixr 5 ◌and◌
◌and◌ : {A B : Type 0} → A → B → A × B
one and more = (one, more)

-- the layouts of all types, one by one
all_few : AllFew all_types
all_few =
    omega arith and omega arith and omega arith and omega arith and omega arith and omega arith and omega arith and
    omega arith and omega arith and omega arith and omega arith and omega arith and omega arith and omega arith and
    omega arith and omega arith and omega arith and omega arith and omega arith and omega arith and omega arith and
    omega arith and omega arith and omega arith and omega arith and omega arith and omega arith and omega arith and
    omega arith and omega arith and tt

few_unless : (b : Bool) (layout : TextLayout) → Few layout → FewFound (cond b None (Some layout))
few_unless true layout few = tt
few_unless false layout few = few

few_found : (class : ℕ) (reading : Option (Bool × TextLayout)) → FewRead reading → FewFound (layout_in class reading)
few_found class None few = tt
few_found class (Some (is_of_class_in, layout)) few = few_unless (is_of_class_in && not (nat_eq class 1)) layout few

pub layout_few : (rtype class : ℕ) (layout : TextLayout) → layout_of rtype class ≡ Some layout
    → length layout.fields ≤ 8
unfolding layout_of
layout_few rtype class layout is =
    subst FewFound is (few_found class (reading_in all_types rtype) (few_in all_types all_few rtype))

-- ---- data without fields of its own

not_both : {layout : TextLayout} → None ≡ Some layout → ⊥
not_both e = cc

module _ {message inside : Window} {rtype class : ℕ} where
  -- octets of OPT that are no options
  pub no_list_of_options : rtype ≡ 41
      → ((rows : List FieldRow) → ¬ AreLayoutRows (layout_value [] tail.Params) inside rows)
      → (rows : List FieldRow) → ¬ AreKnownFields message inside rtype class rows
  no_list_of_options is none rows (inl typed) =
      no_options class typed.layout (subst (λ rtype. layout_of rtype class ≡ Some typed.layout) is typed.layout_is)
  no_list_of_options is none rows (inr (it, are)) = none rows are

  -- data without the form of its type
  pub no_form : rtype ≢ 41 → ((rdata : ParsedRdata) → ¬ IsTypedData rtype class message inside rdata)
      → (rows : List FieldRow) → ¬ AreKnownFields message inside rtype class rows
  no_form other none rows (inl typed) = none typed.rdata typed.typed
  no_form other none rows (inr (is, are)) = other is

  -- data of a type without a layout
  pub no_layout : rtype ≢ 41 → layout_of rtype class ≡ None
      → (rows : List FieldRow) → ¬ AreKnownFields message inside rtype class rows
  no_layout other none rows (inl typed) = not_both (sym none ∙ typed.layout_is)
  no_layout other none rows (inr (is, are)) = other is

  -- data that isn't as the layout of its type has it
  pub no_layout_rows : rtype ≢ 41 → (layout : TextLayout) → layout_of rtype class ≡ Some layout
      → ((rows : List FieldRow) → ¬ AreLayoutRows layout inside rows)
      → (rows : List FieldRow) → ¬ AreKnownFields message inside rtype class rows
  no_layout_rows other layout is none rows (inl typed) =
      let same = same_layout rtype class typed.layout_is is in
      none rows (subst (λ layout. AreLayoutRows layout inside rows) same typed.fields)
  no_layout_rows other layout is none rows (inr (it, are)) = other it
