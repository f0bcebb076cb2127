-- The form of data follows from its type: what is there for each type, and where there is none.
use Rattle.std.proofs.Common.{◌≡◌, ◌≢◌, ◌⊎◌, ℕ, true, false, if◌then◌else◌, nat_eq, refl, sym, ap, ◌∙◌, subst, arith}
use Rattle.std.proofs.Common.{List, [], ◌∷◌, None}
use Rattle.std.proofs.Math.Bool.{true≢false}
use Rattle.std.proofs.lemmas.Bool.{eqb-true, ne_eqb, or_cases}
use mathlib.Core.Logic.{inl, inr}
use Rattle.octseq.specs.Window.{Window}
use Rattle.octseq_dns_data.specs.Data.{ParsedRdata, Mx, Soa, Srv, Naptr, HasRdata, HasOctetCount, HasStrings}
use Rattle.octseq_dns_data.specs.Data.{HasMx, HasSoa, HasSrv, HasNaptr, IsInMessage, IsTypedData, SaysData}
use Rattle.octseq_dns_data.specs.Data.{is_in_message, naptr_form, naptr_parts, rtype_of}
use Rattle.octseq_dns_data.specs.Local.{IsLocal, TakesWindow, NoneLocal, form}
use Rattle.octseq_dns_data.specs.Typed.{KnownType, has_number, known_in, known_types, pick, all_types, layout_of}
use Rattle.octseq_dns_data.specs.Typed.{message_types}
use Rattle.octseq_dns_data.specs.Typed.{reading_in, mx_form, mx_parts, soa_form, soa_parts, srv_form, srv_parts}
use Rattle.octseq_dns_name.specs.Name.{Name, HasName}
use Rattle.octseq_dns_name.specs.NameFormat.{one_named}
use Rattle.octseq_dns_data.specs.OneRow.{one_row_at, string_item}
use Rattle.octseq_dns_data.specs.Strings.{HasString}
use Rattle.octseq_format.specs.Fixed.{one_fixed}
use Rattle.octseq_format.specs.Laws.{Relation, IsOne, NoneAt, one_by}

-- ---- each form is of one type

-- the types that have a form here
pub data Kind : Type 0 where
  of_a : Kind
  of_aaaa : Kind
  of_ns : Kind
  of_cname : Kind
  of_ptr : Kind
  of_mx : Kind
  of_soa : Kind
  of_txt : Kind
  of_srv : Kind
  of_naptr : Kind

abbrev pub number : Kind → ℕ
number Kind.of_a = 1
number Kind.of_aaaa = 28
number Kind.of_ns = 2
number Kind.of_cname = 5
number Kind.of_ptr = 12
number Kind.of_mx = 15
number Kind.of_soa = 6
number Kind.of_txt = 16
number Kind.of_srv = 33
number Kind.of_naptr = 35

-- their numbers differ
abbrev kind_of : ℕ → Kind
kind_of n = if nat_eq n 1 then Kind.of_a else if nat_eq n 28 then Kind.of_aaaa
    else if nat_eq n 2 then Kind.of_ns else if nat_eq n 5 then Kind.of_cname
    else if nat_eq n 12 then Kind.of_ptr else if nat_eq n 15 then Kind.of_mx
    else if nat_eq n 6 then Kind.of_soa else if nat_eq n 16 then Kind.of_txt
    else if nat_eq n 33 then Kind.of_srv else Kind.of_naptr

kind_again : (k : Kind) → kind_of (number k) ≡ k
kind_again Kind.of_a = refl
kind_again Kind.of_aaaa = refl
kind_again Kind.of_ns = refl
kind_again Kind.of_cname = refl
kind_again Kind.of_ptr = refl
kind_again Kind.of_mx = refl
kind_again Kind.of_soa = refl
kind_again Kind.of_txt = refl
kind_again Kind.of_srv = refl
kind_again Kind.of_naptr = refl

one_kind : (k l : Kind) → number k ≡ number l → k ≡ l
one_kind k l same = sym (kind_again k) ∙ ap kind_of same ∙ kind_again l

-- data made from a value that is there
abbrev pub Made : {A : Type 0} → (A → ParsedRdata) → Relation A → Relation ParsedRdata
Made {A} make Has w rdata v = (one : A) × (rdata ≡ make one) × Has w one v

-- the form of each type
abbrev pub Shape : Kind → Relation ParsedRdata
Shape Kind.of_a = Made ParsedRdata.a (HasOctetCount 4)
Shape Kind.of_aaaa = Made ParsedRdata.aaaa (HasOctetCount 16)
Shape Kind.of_ns = Made ParsedRdata.ns HasName
Shape Kind.of_cname = Made ParsedRdata.cname HasName
Shape Kind.of_ptr = Made ParsedRdata.ptr HasName
Shape Kind.of_mx = Made ParsedRdata.mx HasMx
Shape Kind.of_soa = Made ParsedRdata.soa HasSoa
Shape Kind.of_txt = Made ParsedRdata.txt HasStrings
Shape Kind.of_srv = Made ParsedRdata.srv HasSrv
Shape Kind.of_naptr = Made ParsedRdata.naptr HasNaptr

shape_of : (rtype class : ℕ) (w v : Window) (rdata : ParsedRdata) → HasRdata rtype class w rdata v → (k : Kind)
    × (rtype ≡ number k) × Shape k w rdata v
shape_of rtype class w v (ParsedRdata.a x) is = (Kind.of_a, is.0, (x, refl, is.2))
shape_of rtype class w v (ParsedRdata.aaaa x) is = (Kind.of_aaaa, is.0, (x, refl, is.2))
shape_of rtype class w v (ParsedRdata.ns x) is = (Kind.of_ns, is.0, (x, refl, is.1))
shape_of rtype class w v (ParsedRdata.cname x) is = (Kind.of_cname, is.0, (x, refl, is.1))
shape_of rtype class w v (ParsedRdata.ptr x) is = (Kind.of_ptr, is.0, (x, refl, is.1))
shape_of rtype class w v (ParsedRdata.mx x) is = (Kind.of_mx, is.0, (x, refl, is.1))
shape_of rtype class w v (ParsedRdata.soa x) is = (Kind.of_soa, is.0, (x, refl, is.1))
shape_of rtype class w v (ParsedRdata.txt x) is = (Kind.of_txt, is.0, (x, refl, is.1))
shape_of rtype class w v (ParsedRdata.srv x) is = (Kind.of_srv, is.0, (x, refl, is.2))
shape_of rtype class w v (ParsedRdata.naptr x) is = (Kind.of_naptr, is.0, (x, refl, is.2))
shape_of rtype class w v (ParsedRdata.local k x) is = absurd is
shape_of rtype class w v (ParsedRdata.unknown other x) is = absurd is

-- data of a type has that type's form
pub shape_by : (k : Kind) (rtype class : ℕ) (w v : Window) (rdata : ParsedRdata) → rtype ≡ number k
    → HasRdata rtype class w rdata v → Shape k w rdata v
shape_by k rtype class w v rdata of is =
    let found = shape_of rtype class w v rdata is in
    subst (λ l. Shape l w rdata v) (one_kind found.0 k (sym found.1 ∙ of)) found.2

-- ---- where there is no form

-- there is none of a record if its parts aren't there
pub no_mx : (w : Window) → NoneAt mx_form.Is w → NoneAt HasMx w
no_mx w none mx v is = none (mx_parts mx) v is

pub no_srv : (w : Window) → NoneAt srv_form.Is w → NoneAt HasSrv w
no_srv w none srv v is = none (srv_parts srv) v is

pub no_naptr : (w : Window) → NoneAt naptr_form.Is w → NoneAt HasNaptr w
no_naptr w none naptr v is = none (naptr_parts naptr) v is

pub no_soa : (w : Window) → NoneAt soa_form.Is w → NoneAt HasSoa w
no_soa w none soa v is = none (soa_parts soa) v is

-- there is none of a type if its form isn't there
pub none_by : (k : Kind) (rtype class : ℕ) (w : Window) → rtype ≡ number k → NoneAt (Shape k) w
    → NoneAt (HasRdata rtype class) w
none_by k rtype class w of none rdata v is = none rdata v (shape_by k rtype class w v rdata of is)

-- there is no form made from a value if the value isn't there
pub none_made : {A : Type 0} (make : A → ParsedRdata) (Has : Relation A) (w : Window) → NoneAt Has w
    → NoneAt (Made make Has) w
none_made make Has w none rdata v is = none is.0 v is.2

-- ---- at most one is at a place

one_mx : IsOne HasMx
one_mx = one_by mx_parts (λ c. record { preference = c.0; exchange = c.1 }) (λ _. refl) mx_form.one

one_srv : IsOne HasSrv
one_srv = one_by srv_parts
    (λ c. record { priority = c.0; weight = c.1.0; port = c.1.1.0; target = c.1.1.1 }) (λ _. refl) srv_form.one

abbrev pub naptr_from : ℕ × (ℕ × (Window × (Window × (Window × Name)))) → Naptr
naptr_from naptr = record {
  order = naptr.0;
  preference = naptr.1.0;
  flags = naptr.1.1.0;
  services = naptr.1.1.1.0;
  regexp = naptr.1.1.1.1.0;
  replacement = naptr.1.1.1.1.1;
}

one_naptr : IsOne HasNaptr
one_naptr = one_by naptr_parts naptr_from (λ _. refl) naptr_form.one

abbrev soa_from : Name × (Name × (ℕ × (ℕ × (ℕ × (ℕ × ℕ))))) → Soa
soa_from soa = record {
  mname = soa.0;
  rname = soa.1.0;
  serial = soa.1.1.0;
  refresh = soa.1.1.1.0;
  retry = soa.1.1.1.1.0;
  expire = soa.1.1.1.1.1.0;
  minimum = soa.1.1.1.1.1.1;
}

one_soa : IsOne HasSoa
one_soa = one_by soa_parts soa_from (λ _. refl) soa_form.one

one_made : {A : Type 0} (make : A → ParsedRdata) (Has : Relation A) → IsOne Has → IsOne (Made make Has)
one_made make Has one = record {
  same = λ w rdata other u v a b.
      let it = one.same w a.0 b.0 u v a.2 b.2 in
      (a.1 ∙ ap make it.0 ∙ sym b.1, it.1);
}

-- for any type but TXT
one_shape : (k : Kind) → (number k ≡ 16 → ⊥) → IsOne (Shape k)
one_shape Kind.of_a other_type = one_made ParsedRdata.a (HasOctetCount 4) (one_fixed 4 (λ octets. octets))
one_shape Kind.of_aaaa other_type = one_made ParsedRdata.aaaa (HasOctetCount 16) (one_fixed 16 (λ octets. octets))
one_shape Kind.of_ns other_type = one_made ParsedRdata.ns HasName one_named
one_shape Kind.of_cname other_type = one_made ParsedRdata.cname HasName one_named
one_shape Kind.of_ptr other_type = one_made ParsedRdata.ptr HasName one_named
one_shape Kind.of_mx other_type = one_made ParsedRdata.mx HasMx one_mx
one_shape Kind.of_soa other_type = one_made ParsedRdata.soa HasSoa one_soa
one_shape Kind.of_txt other_type = absurd (other_type refl)
one_shape Kind.of_srv other_type = one_made ParsedRdata.srv HasSrv one_srv
one_shape Kind.of_naptr other_type = one_made ParsedRdata.naptr HasNaptr one_naptr

-- for TXT, if they end at the same place
one_text : (w u v : Window) (rdata other : ParsedRdata) → u.position ≡ v.position → Shape Kind.of_txt w rdata u
    → Shape Kind.of_txt w other v → rdata ≡ other
one_text w u v rdata other same a b =
    a.1 ∙ ap ParsedRdata.txt (one_row_at HasString string_item w u v a.0 b.0 same a.2.1 b.2.1) ∙ sym b.1

one_ending : (k : Kind) (w u v : Window) (rdata other : ParsedRdata) → u.position ≡ v.position → Shape k w rdata u
    → Shape k w other v → rdata ≡ other
one_ending Kind.of_txt w u v rdata other same a b = one_text w u v rdata other same a b
one_ending k w u v rdata other same a b = ((one_shape k (λ is. omega (arith, is))).same w rdata other u v a b).0

-- so data in a message has at most one form
one_in_message : (rtype class : ℕ) (w inside : Window) (rdata other : ParsedRdata)
    → IsInMessage rtype class w inside rdata → IsInMessage rtype class w inside other → rdata ≡ other
one_in_message rtype class w inside rdata other a b =
    let found = shape_of rtype class w a.end rdata a.rdata_is in
    one_ending found.0 w a.end b.end rdata other (a.ends ∙ sym b.ends) found.2
    (shape_by found.0 rtype class w b.end other found.1 b.rdata_is)

-- a form that is there is of its type
typed_rtype : (rtype class : ℕ) (w v : Window) (rdata : ParsedRdata) → HasRdata rtype class w rdata v
    → rtype_of rdata ≡ rtype
typed_rtype rtype class w v (ParsedRdata.a x) is = sym is.0
typed_rtype rtype class w v (ParsedRdata.aaaa x) is = sym is.0
typed_rtype rtype class w v (ParsedRdata.ns x) is = sym is.0
typed_rtype rtype class w v (ParsedRdata.cname x) is = sym is.0
typed_rtype rtype class w v (ParsedRdata.ptr x) is = sym is.0
typed_rtype rtype class w v (ParsedRdata.mx x) is = sym is.0
typed_rtype rtype class w v (ParsedRdata.soa x) is = sym is.0
typed_rtype rtype class w v (ParsedRdata.txt x) is = sym is.0
typed_rtype rtype class w v (ParsedRdata.srv x) is = sym is.0
typed_rtype rtype class w v (ParsedRdata.naptr x) is = sym is.0
typed_rtype rtype class w v (ParsedRdata.local k x) is = absurd is
typed_rtype rtype class w v (ParsedRdata.unknown other x) is = absurd is

-- ---- data in its own window

-- a fact of the number of each type
abbrev AllOf : (ℕ → Type 0) → List KnownType → Type 0
AllOf P [] = Unit {0}
AllOf P (it ∷ more) = P it.number × AllOf P more

-- is a fact of the number of one of them
in_list : (P : ℕ → Type 0) (types : List KnownType) (n : ℕ) → AllOf P types
    → has_number types n ≡ true → P n
in_list P [] n all is = absurd (true≢false (sym is))
in_list P (it ∷ more) n all is =
    elim (or_cases (nat_eq it.number n) (has_number more n) is) [
      | inl same ↦ subst P (eqb-true it.number n same) all.0
      | inr later ↦ in_list P more n all.1 later
    ]

-- none of the types that are read in the message has a form of its own
no_form_in_message : (rtype : ℕ) → is_in_message rtype ≡ true → (w v : Window) (found : (form rtype).Found)
    → (form rtype).Is w found v → ⊥
no_form_in_message rtype is =
    let none : Window → Window → Unit {0} → ⊥ → ⊥ = λ _ _ _ is. is in
    in_list (λ n. (w v : Window) (found : (form n).Found) → (form n).Is w found v → ⊥) message_types rtype
    (none, (none, (none, (none, (none, (none, (none, (none, (none, (none, tt)))))))))) is

-- a number differs from those of all these types
abbrev pub AreOthers : List KnownType → ℕ → Type 0
AreOthers [] n = Unit {0}
AreOthers (it ∷ more) n = (n ≢ it.number) × AreOthers more n

-- then it has no form
none_known : (types : List KnownType) (n : ℕ) → AreOthers types n → (w v : Window)
    (found : (known_in types n).form.Found) → (known_in types n).form.Is w found v → ⊥
none_known [] n others = λ w v found is. is
none_known (it ∷ more) n others =
    subst (λ b. (w v : Window) (found : (pick b it (known_in more n)).form.Found)
    → (pick b it (known_in more n)).form.Is w found v → ⊥) (sym (ne_eqb it.number n (λ same. others.0 (sym same))))
    (none_known more n others.1)

-- and no layout
none_read : (types : List KnownType) (n : ℕ) → AreOthers types n → reading_in types n ≡ None
none_read [] n others = refl
none_read (it ∷ more) n others =
    rw (ne_eqb it.number n (λ same. others.0 (sym same))) (none_read more n others.1)

pub no_layout : (n class : ℕ) → AreOthers all_types n → layout_of n class ≡ None
unfolding layout_of
no_layout n class others = rw (none_read all_types n others) refl

pub none_other : (rtype class : ℕ) (inside : Window) → AreOthers known_types rtype → NoneLocal rtype class inside
none_other rtype class inside others k found is =
    none_known known_types k (subst (AreOthers known_types) is.rtype_is others) inside _ found is.whole

-- the types of the records above are read in the message
kind_in_message : (k : Kind) → is_in_message (number k) ≡ true
kind_in_message Kind.of_a = refl
kind_in_message Kind.of_aaaa = refl
kind_in_message Kind.of_ns = refl
kind_in_message Kind.of_cname = refl
kind_in_message Kind.of_ptr = refl
kind_in_message Kind.of_mx = refl
kind_in_message Kind.of_soa = refl
kind_in_message Kind.of_txt = refl
kind_in_message Kind.of_srv = refl
kind_in_message Kind.of_naptr = refl

-- at most one value of a form takes the whole window
one_whole : (k l : ℕ) (a : (form k).Found) (b : (form l).Found) (w : Window) → k ≡ l
    → TakesWindow (form k).Is w a → TakesWindow (form l).Is w b → ParsedRdata.local k a ≡ ParsedRdata.local l b
one_whole k l a b w same here there =
    subst (λ (l : ℕ). (b : (form l).Found) → TakesWindow (form l).Is w b
    → ParsedRdata.local k a ≡ ParsedRdata.local l b) same
    (λ b there. ap (ParsedRdata.local k) ((form k).one.same w a b _ _ here there).0) b there

one_local : (rtype class : ℕ) (w : Window) (k l : ℕ) (a : (form k).Found) (b : (form l).Found)
    → IsLocal rtype class w k a → IsLocal rtype class w l b → ParsedRdata.local k a ≡ ParsedRdata.local l b
one_local rtype class w k l a b here there =
    one_whole k l a b w (sym here.rtype_is ∙ there.rtype_is) here.whole there.whole

-- data that is read in the message isn't read in its own window
pub none_by_itself : (rtype class : ℕ) (inside : Window) → is_in_message rtype ≡ true
    → NoneLocal rtype class inside
none_by_itself rtype class inside reported k found is =
    no_form_in_message k (sym (ap is_in_message is.rtype_is) ∙ reported) inside _ found is.whole

-- nor the other way round
pub apart : (rtype class : ℕ) (w inside : Window) (rdata : ParsedRdata) (k : ℕ) (found : (form k).Found)
    → IsLocal rtype class inside k found → IsInMessage rtype class w inside rdata → ⊥
apart rtype class w inside rdata k found is there =
    let kind = shape_of rtype class w there.end rdata there.rdata_is in
    none_by_itself rtype class inside (ap is_in_message kind.1 ∙ kind_in_message kind.0) k found is

pub none_in_message : (rtype class : ℕ) (w inside : Window) → is_in_message rtype ≡ false → (rdata : ParsedRdata)
    → IsInMessage rtype class w inside rdata → ⊥
none_in_message rtype class w inside reported rdata is =
    let found = shape_of rtype class w is.end rdata is.rdata_is in
    true≢false (sym (kind_in_message found.0) ∙ ap is_in_message (sym found.1) ∙ reported)

-- ---- data

-- it is in the message or in its own window
abbrev pub IsEither : (rtype class : ℕ) (w inside : Window) → ParsedRdata → Type 0
IsEither rtype class w inside rdata = IsInMessage rtype class w inside rdata
    ⊎ ((k : ℕ) × (found : (form k).Found) × (rdata ≡ ParsedRdata.local k found)
    × IsLocal rtype class inside k found)

pub either : (rtype class : ℕ) (w inside : Window) (rdata : ParsedRdata) → IsTypedData rtype class w inside rdata
    → IsEither rtype class w inside rdata
either rtype class w inside (ParsedRdata.a x) is = inl is
either rtype class w inside (ParsedRdata.aaaa x) is = inl is
either rtype class w inside (ParsedRdata.ns x) is = inl is
either rtype class w inside (ParsedRdata.cname x) is = inl is
either rtype class w inside (ParsedRdata.ptr x) is = inl is
either rtype class w inside (ParsedRdata.mx x) is = inl is
either rtype class w inside (ParsedRdata.soa x) is = inl is
either rtype class w inside (ParsedRdata.txt x) is = inl is
either rtype class w inside (ParsedRdata.srv x) is = inl is
either rtype class w inside (ParsedRdata.naptr x) is = inl is
either rtype class w inside (ParsedRdata.local k found) is = inr (k, found, refl, is)
either rtype class w inside (ParsedRdata.unknown other x) is = inl is

-- what is in the message has the form of its type
pub in_message : (rtype class : ℕ) (w inside : Window) (rdata : ParsedRdata) → IsInMessage rtype class w inside rdata
    → IsTypedData rtype class w inside rdata
in_message rtype class w inside (ParsedRdata.a x) is = is
in_message rtype class w inside (ParsedRdata.aaaa x) is = is
in_message rtype class w inside (ParsedRdata.ns x) is = is
in_message rtype class w inside (ParsedRdata.cname x) is = is
in_message rtype class w inside (ParsedRdata.ptr x) is = is
in_message rtype class w inside (ParsedRdata.mx x) is = is
in_message rtype class w inside (ParsedRdata.soa x) is = is
in_message rtype class w inside (ParsedRdata.txt x) is = is
in_message rtype class w inside (ParsedRdata.srv x) is = is
in_message rtype class w inside (ParsedRdata.naptr x) is = is
in_message rtype class w inside (ParsedRdata.local k found) is = absurd is.rdata_is
in_message rtype class w inside (ParsedRdata.unknown other x) is = is

-- there is none of a type that is read in the message if none ends with the data
pub none_typed : (rtype class : ℕ) (w inside : Window) (end : ℕ) → is_in_message rtype ≡ true → end ≡ inside.end
    → ((rdata : ParsedRdata) (v : Window) → HasRdata rtype class w rdata v → v.position ≡ end → ⊥)
    → (rdata : ParsedRdata) → IsTypedData rtype class w inside rdata → ⊥
none_typed rtype class w inside end reported same none rdata is = apart_from (either rtype class w inside rdata is)
  where
    apart_from : IsEither rtype class w inside rdata → ⊥
    apart_from (inl a) = none rdata a.end a.rdata_is (a.ends ∙ sym same)
    apart_from (inr b) = none_by_itself rtype class inside reported b.0 b.1 b.3

-- nor of any other type if there is none in its own window
pub none_typed_local : (rtype class : ℕ) (w inside : Window) → is_in_message rtype ≡ false
    → NoneLocal rtype class inside → (rdata : ParsedRdata) → IsTypedData rtype class w inside rdata → ⊥
none_typed_local rtype class w inside reported none rdata is = apart_from (either rtype class w inside rdata is)
  where
    apart_from : IsEither rtype class w inside rdata → ⊥
    apart_from (inl a) = none_in_message rtype class w inside reported rdata a
    apart_from (inr b) = none b.0 b.1 b.3

-- data has at most one form
one_either : (rtype class : ℕ) (w inside : Window) (rdata other : ParsedRdata) → IsEither rtype class w inside rdata
    → IsEither rtype class w inside other → rdata ≡ other
one_either rtype class w inside rdata other (inl a) (inl b) = one_in_message rtype class w inside rdata other a b
one_either rtype class w inside rdata other (inl a) (inr b) =
    absurd (apart rtype class w inside rdata b.0 b.1 b.3 a)
one_either rtype class w inside rdata other (inr a) (inl b) =
    absurd (apart rtype class w inside other a.0 a.1 a.3 b)
one_either rtype class w inside rdata other (inr a) (inr b) =
    a.2 ∙ one_local rtype class inside a.0 b.0 a.1 b.1 a.3 b.3 ∙ sym b.2

one_typed : (rtype class : ℕ) (w inside : Window) (rdata other : ParsedRdata) → IsTypedData rtype class w inside rdata
    → IsTypedData rtype class w inside other → rdata ≡ other
one_typed rtype class w inside rdata other a b =
    one_either rtype class w inside rdata other (either rtype class w inside rdata a)
    (either rtype class w inside other b)

-- and says at most one thing
pub one_said : (rtype class : ℕ) (w inside : Window) (rdata other : ParsedRdata) → SaysData rtype class w inside rdata
    → SaysData rtype class w inside other → rdata ≡ other
one_said rtype class w inside rdata other (inl a) (inl b) = one_typed rtype class w inside rdata other a b
one_said rtype class w inside rdata other (inl a) (inr b) = absurd (b.1 rdata a)
one_said rtype class w inside rdata other (inr a) (inl b) = absurd (a.1 other b)
one_said rtype class w inside rdata other (inr a) (inr b) = a.0 ∙ sym b.0

either_rtype : (rtype class : ℕ) (w inside : Window) (rdata : ParsedRdata) → IsEither rtype class w inside rdata
    → rtype_of rdata ≡ rtype
either_rtype rtype class w inside rdata (inl is) = typed_rtype rtype class w is.end rdata is.rdata_is
either_rtype rtype class w inside rdata (inr is) = ap rtype_of is.2 ∙ sym is.3.rtype_is

-- what data says has its type
pub said_rtype : (rtype class : ℕ) (w inside : Window) (rdata : ParsedRdata) → SaysData rtype class w inside rdata
    → rtype_of rdata ≡ rtype
said_rtype rtype class w inside rdata (inl is) =
    either_rtype rtype class w inside rdata (either rtype class w inside rdata is)
said_rtype rtype class w inside rdata (inr is) = ap rtype_of is.0

-- data of any type but TXT ends at one place
pub one_end : (rtype class : ℕ) (w u v : Window) (rdata other : ParsedRdata) → (rtype ≡ 16 → ⊥)
    → HasRdata rtype class w rdata u
    → HasRdata rtype class w other v → u ≡ v
one_end rtype class w u v rdata other unreported a b =
    let found = shape_of rtype class w u rdata a in
    ((one_shape found.0 (λ is. unreported (found.1 ∙ is))).same w rdata other u v found.2
    (shape_by found.0 rtype class w v other found.1 b)).1

-- if the value that is there doesn't end at a place, none does
pub none_ends : (rtype class : ℕ) (w u v : Window) (rdata other : ParsedRdata) (end : ℕ) → (rtype ≡ 16 → ⊥)
    → HasRdata rtype class w rdata u → (u.position ≡ end → ⊥)
    → HasRdata rtype class w other v → v.position ≡ end → ⊥
none_ends rtype class w u v rdata other end unreported a elsewhere b ends =
    elsewhere (ap (λ v. v.position) (one_end rtype class w u v rdata other unreported a b) ∙ ends)
