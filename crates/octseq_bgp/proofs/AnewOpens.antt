-- An OPEN that is written anew has no more octets than it had, and the same ones if it is minimal.
use Rattle.std.proofs.Common.{◌≡◌, ◌≢◌, ℕ, ◌+◌, ◌*◌, ◌/◌, ◌%◌, ◌<◌, ◌≤◌, inl, inr, Bool, true, false, List, [], ◌∷◌}
use Rattle.std.proofs.Common.{◌++◌}
use Rattle.std.proofs.Common.{length, map, refl, sym, ap, ◌∙◌, subst, arith, append_assoc, length-append}
use Rattle.std.proofs.lemmas.Bool.Decides.{nat_tests}
use Rattle.std.specs.List.{AllByRecursion}
use Rattle.std.specs.Prelude.{◌||◌, nat_eq, nat_le, not}
use Rattle.octseq.proofs.Written.{length_be}
use Rattle.octseq.specs.Integer.{be, octets_be}
use Rattle.octseq.specs.Part.{part_of}
use Rattle.octseq.specs.Window.{Window, left, next, past, rest}
use Rattle.octseq_format.proofs.Parts.{part_of_counted}
use Rattle.octseq_format.specs.Canonical.{IsSoundWindow, many_rest}
use Rattle.octseq_format.specs.Fixed.{canonical_fixed}
use Rattle.octseq_format.specs.Pair.{same_pair}
use Rattle.octseq_bgp.specs.Capability.{CapabilityValue, HasCode, IsCapabilityValue, ParameterValue}
use Rattle.octseq_bgp.specs.Composed.{header_octets, long_after, message_octets}
use Rattle.octseq_bgp.specs.Fills.{Fills}
use Rattle.octseq_bgp.specs.ItemOctets.{are_tuple, tuple_octets}
use Rattle.octseq_bgp.specs.Minimal.{HasNoReserved, IsCapabilityMinimal, IsFormMinimal, IsOpenMinimal}
use Rattle.octseq_bgp.specs.Minimal.{IsParameterMinimal}
use Rattle.octseq_bgp.specs.OneOpen.{says_parameter}
use Rattle.octseq_bgp.specs.Open.{HasParameters, IsLong, IsOpen, Open}
use Rattle.octseq_bgp.specs.Parts.{IsCounted, IsTlv}
use Rattle.octseq_bgp.specs.RewrittenOpen.{AppendedRow, AreItemsSound, Each, IsCapabilityAnew, IsOpenRewritten}
use Rattle.octseq_bgp.specs.RewrittenOpen.{IsParameterAnew, bits_anew, capability_anew}
use Rattle.octseq_bgp.specs.RewrittenOpen.{family_anew, needs_long, open_form, open_front, open_numbers, said_octets}
use Rattle.octseq_bgp.specs.WrittenOpen.{WrittenParameter, front_len, is_apart, lengths, parameter_octets}
use Rattle.octseq_bgp.specs.WrittenOpen.{parameters_octets}
use Rattle.octseq_bgp.specs.declared.capability.capability_type.CapabilityType.{CapabilityType}
use Rattle.octseq_bgp.specs.declared.capability.capability_type.CapabilityType.TheVariants as code
use Rattle.octseq_bgp.proofs.Anew.{Kept, Shrinks, both_kept, kept_as, kept_by, row_kept}
use Rattle.octseq_bgp.proofs.Octets.{one_octet}
use Rattle.octseq_bgp.proofs.RewrittenOpens.{form_long, long_row, row_cons}
use Rattle.octseq_bgp.proofs.WrittenBack.{◌back_and◌, IsItemSound, counted_back, fills_back, items_back, number_back}
use Rattle.octseq_bgp.proofs.WrittenBack.{of_canonical, rest_back, whole_back}
use Rattle.octseq_bgp.proofs.WrittenOpens.{length_parameter}

-- ---- values of capabilities

tuple_long : (t : ℕ × (ℕ × ℕ)) → length (tuple_octets t) ≡ 4
unfolding octets_be
tuple_long t = refl

family_kept : (t : ℕ × (ℕ × ℕ)) → Kept (t.1.1 % 128 ≡ 0) (tuple_octets (family_anew t)) (tuple_octets t)
family_kept t = record {
  long = tuple_long (family_anew t) ∙ sym (tuple_long t);
  same = λ none.
      let flags : t.1.1 / 128 * 128 ≡ t.1.1 = omega (arith, none) in
      ap (λ f. tuple_octets (t.0, (t.1.0, f))) flags;
}

coded_kept : (c : CapabilityType) (w : Window) (v : CapabilityValue) → IsSoundWindow w → HasCode c w v
    → Kept (HasNoReserved v) (capability_anew v (rest w)) (rest w)
coded_kept code.MultiProtocol w v sound is =
    let t = is.0 in
    let all = whole_back (number_back 2 back_and number_back 1 back_and number_back 1) w t sound is.2 in
    let new = tuple_octets (t.0, (0, t.1.1)) in
    let kept : Kept (t.1.0 ≡ 0) new (tuple_octets t) = record {
      long = tuple_long (t.0, (0, t.1.1)) ∙ sym (tuple_long t);
      same = λ none. ap (λ r. tuple_octets (t.0, (r, t.1.1))) (sym none);
    } in
    subst (λ v. Kept (HasNoReserved v) (capability_anew v (rest w)) (rest w)) (sym is.1)
    (kept_by refl all.0 (λ m. m) kept)
coded_kept code.GracefulRestart w v sound is =
    let r = is.0 in
    let front = whole_back (number_back 2 back_and rest_back) w (r.bits, is.2.rest) sound is.2.front in
    let families = fills_back (of_canonical (canonical_fixed are_tuple)) is.2.rest r.families front.1.1 is.2.families in
    let bits : Kept (r.bits / 4096 % 4 ≡ 0) (octets_be 2 (bits_anew r.bits)) (octets_be 2 r.bits) = record {
      long = length_be 2 (bits_anew r.bits) ∙ sym (length_be 2 r.bits);
      same = λ none.
          let same : bits_anew r.bits ≡ r.bits = omega (arith, none) in
          ap (octets_be 2) same;
    } in
    subst (λ v. Kept (HasNoReserved v) (capability_anew v (rest w)) (rest w)) (sym is.1)
    (kept_by refl (front.0 ∙ ap (λ o. octets_be 2 r.bits ++ o) families.0) (λ m. m) (both_kept bits
    (row_kept tuple_octets family_anew tuple_octets (λ t. t.1.1 % 128 ≡ 0) _ (λ t _. family_kept t) r.families
    families.1)))
coded_kept code.RouteRefresh w v sound is =
    subst (λ v. Kept (HasNoReserved v) (capability_anew v (rest w)) (rest w)) (sym is.0) (kept_as refl)
coded_kept code.ExtendedMessage w v sound is =
    subst (λ v. Kept (HasNoReserved v) (capability_anew v (rest w)) (rest w)) (sym is.0) (kept_as refl)
coded_kept code.EnhancedRouteRefresh w v sound is =
    subst (λ v. Kept (HasNoReserved v) (capability_anew v (rest w)) (rest w)) (sym is.0) (kept_as refl)
coded_kept _ w v sound is =
    subst (λ v. Kept (HasNoReserved v) (capability_anew v (rest w)) (rest w)) (sym is.1) (kept_as refl)

pub value_kept : (number : ℕ) (w : Window) (v : CapabilityValue) → IsSoundWindow w → IsCapabilityValue number w v
    → Kept (HasNoReserved v) (capability_anew v (rest w)) (rest w)
value_kept number w v sound (inl is) = coded_kept is.0 w v sound is.2
value_kept number w v sound (inr is) =
    subst (λ v. Kept (HasNoReserved v) (capability_anew v (rest w)) (rest w)) (sym is.0) (kept_as refl)

-- ---- parameters and capabilities

-- It has the type or the code that it had.
pub record ItemKept (Minimal : Type 0) (new old : WrittenParameter) : Type 0 where
  pub kind : new.0 ≡ old.0
  pub octets : Kept Minimal new.1 old.1

-- A row has as many octets as it had, in both forms, and needs the same one.
pub record ItemsKept (Minimal : Type 0) (new old : List WrittenParameter) : Type 0 where
  pub long : (l : Bool) → length (parameters_octets l new) ≡ length (parameters_octets l old)
  pub first : is_apart false new ≡ is_apart false old
  pub same : Minimal → new ≡ old

pub items_kept : {Is : ℕ × Window → WrittenParameter → Type 0} {Minimal : ℕ × Window → Type 0}
    → ((p : ℕ × Window) (x : WrittenParameter) → IsItemSound p → Is p x → ItemKept (Minimal p) x (says_parameter p))
    → (row : List (ℕ × Window)) (new : List WrittenParameter) → AllByRecursion IsItemSound row → Each Is row new
    → ItemsKept (AllByRecursion Minimal row) new (map says_parameter row)
items_kept each [] new sound is = record {
  long = λ l. ap (λ row. length (parameters_octets l row)) is;
  first = ap (is_apart false) is;
  same = λ _. is;
}
items_kept each (p ∷ row) new sound is =
    let here = each p is.0 sound.0 is.2 in
    let there = items_kept each row is.1 sound.1 is.3 in
    let first = here.octets in
    record {
      long = λ l.
          let x = ap (λ row. length (parameters_octets l row)) is.4 ∙ row_cons l is.0 is.1 in
          let y = row_cons l (says_parameter p) (map says_parameter row) in
          let a = length_parameter l is.0 in
          let b = length_parameter l (says_parameter p) in
          let more = there.long l in
          omega (arith, x, y, a, b, more, first.long);
      first = ap (is_apart false) is.4 ∙ ap (λ k. not (nat_eq k 255)) here.kind;
      same = λ m. is.4 ∙ ap (λ x. x ∷ is.1) (same_pair here.kind (first.same m.0))
          ∙ ap (λ more. says_parameter p ∷ more) (there.same m.1);
    }

needs_kept : {M : Type 0} {new old : List WrittenParameter} → ItemsKept M new old → needs_long new ≡ needs_long old
needs_kept {new = new} {old = old} kept =
    ap (λ b. not b || nat_le 256 (length (parameters_octets false new))) kept.first
    ∙ ap (λ n. not (is_apart false old) || nat_le 256 n) (kept.long false)

pub capability_kept : (c : ℕ × Window) (x : WrittenParameter) → IsItemSound c → IsCapabilityAnew c x
    → ItemKept (IsCapabilityMinimal c) x (says_parameter c)
capability_kept c x sound is =
    let v = is.0 in
    let kept = value_kept c.0 c.1 v sound is.1 in
    subst (λ x. ItemKept (IsCapabilityMinimal c) x (says_parameter c)) (sym is.2)
    (record { kind = refl; octets = kept_by refl refl (λ m. m v is.1) kept })

pub parameter_kept : (p : ℕ × Window) (x : WrittenParameter) → IsItemSound p → IsParameterAnew p x
    → ItemKept (IsParameterMinimal p) x (says_parameter p)
parameter_kept p x sound (ParameterValue.capabilities row, octets, has, inside, is) =
    let all = items_back false p.1 row sound has.1 in
    let kept = items_kept capability_kept row inside.0 all.1 inside.1 in
    subst (λ x. ItemKept (IsParameterMinimal p) x (says_parameter p)) (sym is) (record {
      kind = refl;
      octets = record {
        long = ap length inside.2 ∙ kept.long false ∙ sym (ap length all.0);
        same = λ m. inside.2 ∙ ap (parameters_octets false) (kept.same (m row has)) ∙ sym all.0;
      };
    })
parameter_kept p x sound (ParameterValue.opaque w, octets, has, inside, is) =
    subst (λ x. ItemKept (IsParameterMinimal p) x (says_parameter p)) (sym is)
    (record { kind = refl; octets = kept_as (inside ∙ ap rest has.0) })

-- ---- what has parameters

-- What parameters were read from: a front, and their octets. They are in the long form if they need it.
record ParametersBack (w : Window) (row : List (ℕ × Window)) (has : HasParameters w row) : Type 0 where
  long : Bool
  front : List ℕ
  are : rest w ≡ front ++ parameters_octets long (map says_parameter row)
  many : 28 + length front ≡ front_len long
  needs : needs_long (map says_parameter row) ≡ true → long ≡ true
  same : IsFormMinimal w row has → (needs_long (map says_parameter row) ≡ long)
      × (front ≡ lengths long (length (parameters_octets long (map says_parameter row))))
  sound : AllByRecursion IsItemSound row

-- the first of parameters in the short form isn't of type 255
first_apart : (w inside end v : Window) (row : List (ℕ × Window)) → ¬ IsLong w → IsCounted 1 w inside end
    → Fills (IsTlv 1) inside row → is_apart false (map says_parameter row) ≡ true
first_apart w inside end v [] not part fills = refl
first_apart w inside end v (p ∷ row) not part fills =
    let it = part_of_counted 1 w inside end part in
    let first = fills.1.0.1.1 in
    let kind : p.0 ≡ be (next 1 (past 1 w)) = first.1 ∙ ap (λ i. be (next 1 i)) it.1 in
    let size = ap left it.1 in
    let room = first.0 in
    let here = it.0.1 in
    let isnt : p.0 ≢ 255 = λ same. not (omega (arith, size, room, here), omega (arith, size, room), sym kind ∙ same) in
    grind (arith, nat_tests, isnt)

short_enough : (row : List WrittenParameter) → is_apart false row ≡ true → length (parameters_octets false row) < 256
    → needs_long row ≡ false
short_enough row apart few =
    let short : nat_le 256 (length (parameters_octets false row)) ≡ false = grind (arith, nat_tests) in
    ap (λ b. not b || nat_le 256 (length (parameters_octets false row))) apart ∙ short

parameters_back : (w : Window) (row : List (ℕ × Window)) → IsSoundWindow w → (has : HasParameters w row)
    → ParametersBack w row has
parameters_back w row sound (HasParameters.short not inside is fills) =
    let said = map says_parameter row in
    let all = whole_back (counted_back 1) w inside sound is in
    let items = items_back false inside row all.1.0 fills in
    let many = ap length items.0 in
    let few = all.1.1 in
    let short = short_enough said (first_apart w inside is.0 w row not is.1 fills) (omega (arith, many, few)) in
    record {
      long = false;
      front = octets_be 1 (length (parameters_octets false said));
      are = all.0 ∙ ap (part_of 1) items.0;
      many = ap (λ n. 28 + n) (length_be 1 (length (parameters_octets false said)));
      needs = λ is. sym short ∙ is;
      same = λ _. (short, refl);
      sound = items.1;
    }
parameters_back w row sound (HasParameters.long long marks is fills) =
    let said = map says_parameter row in
    let all = whole_back (number_back 1 back_and number_back 1 back_and counted_back 2) w marks sound is in
    let items = items_back true marks.1.1 row all.1.1.1.0 fills in
    let n = length (parameters_octets true said) in
    let mark : marks.1.0 ≡ 255 =
    is.1.2.1.1 ∙ ap (λ u. be (next 1 u)) is.1.1.2 ∙ long.2 in
    let a = octets_be 1 marks.0 in
    let b = octets_be 1 marks.1.0 in
    let outer = length-append a (b ++ octets_be 2 n) in
    let inner = length-append b (octets_be 2 n) in
    let x = length_be 1 marks.0 in
    let y = length_be 1 marks.1.0 in
    let z = length_be 2 n in
    record {
      long = true;
      front = a ++ (b ++ octets_be 2 n);
      are = all.0 ∙ ap (λ o. a ++ (b ++ part_of 2 o)) items.0
          ∙ apart a b (octets_be 2 n) (parameters_octets true said);
      many = omega (arith, outer, inner, x, y, z);
      needs = λ _. refl;
      same = λ m. (
        m.1,
        ap (λ k. octets_be 1 k ++ (b ++ octets_be 2 n)) m.0
            ∙ ap (λ k. octets_be 1 255 ++ (octets_be 1 k ++ octets_be 2 n)) mark
            ∙ ap (λ o. o ++ (o ++ octets_be 2 n)) (one_octet 255 (omega arith)),
      );
      sound = items.1;
    } where
      apart : (a b c d : List ℕ) → a ++ (b ++ (c ++ d)) ≡ (a ++ (b ++ c)) ++ d
      apart a b c d = simp append_assoc

-- ---- an OPEN

-- What an OPEN was read from: its numbers, and its parameters.
record OpenBack (w : Window) (o : Open) (is : IsOpen w o) : Type 0 where
  parameters : ParametersBack is.rest o.parameters is.parameters
  are : rest w ≡ open_numbers o ++ (parameters.front ++ parameters_octets parameters.long
      (map says_parameter o.parameters))

open_back : (w : Window) (o : Open) → IsSoundWindow w → (is : IsOpen w o) → OpenBack w o is
open_back w o sound is =
    let front = whole_back (number_back 1 back_and number_back 2 back_and number_back 2 back_and number_back 4
    back_and rest_back)
    w _ sound is.front in
    let parameters = parameters_back is.rest o.parameters front.1.1.1.1.1 is.parameters in
    record {
      parameters = parameters;
      are = front.0 ∙ apart (octets_be 1 o.version) (octets_be 2 o.my_asn) (octets_be 2 o.holdtime)
          (octets_be 4 o.identifier) (rest is.rest)
          ∙ ap (λ p. open_numbers o ++ p) parameters.are;
    } where
      apart : (a b c d e : List ℕ) → a ++ (b ++ (c ++ (d ++ e))) ≡ (a ++ (b ++ (c ++ d))) ++ e
      apart a b c d e = simp append_assoc

numbers_long : (o : Open) → length (open_numbers o) ≡ 9
unfolding octets_be
numbers_long o = refl

-- the form that is needed has no more octets than the one that was read
form_fewer : (row : List WrittenParameter) (needs long : Bool) → (needs ≡ true → long ≡ true)
    → front_len needs + length (parameters_octets needs row) ≤ front_len long + length (parameters_octets long row)
form_fewer row true long so = subst (λ l. front_len true + length (parameters_octets true row)
    ≤ front_len l + length (parameters_octets l row)) (sym (so refl)) (omega arith)
form_fewer row false true so = let long = long_row row in omega (arith, long)
form_fewer row false false so = omega arith

form_parts : (h n l p : List ℕ) → (h ++ (n ++ l)) ++ p ≡ h ++ (n ++ (l ++ p))
form_parts h n l p = simp append_assoc

pub open_shrinks : (w : Window) (o : Open) (out : List ℕ) → IsSoundWindow w → IsOpen w o → IsOpenRewritten o out
    → Shrinks (IsOpenMinimal w o) out (message_octets 1 (rest w))
open_shrinks w o out sound is anew =
    let back = open_back w o sound is in
    let p = back.parameters in
    let said = map says_parameter o.parameters in
    let kept = items_kept parameter_kept o.parameters anew.0 p.sound anew.1 in
    let needs = needs_long anew.0 in
    let same = needs_kept kept in
    let ps = parameters_octets p.long said in
    let new = ap length anew.2 ∙ form_long o needs anew.0 in
    let many = kept.long needs in
    let fewer = form_fewer said needs p.long (λ is. p.needs (sym same ∙ is)) in
    let one = ap length back.are ∙ length-append (open_numbers o) (p.front ++ ps) in
    let two = length-append p.front ps in
    let numbers = numbers_long o in
    let front = p.many in
    let all : 19 + length (rest w) ≡ front_len p.long + length ps = omega (arith, one, two, numbers, front) in
    let old = long_after (19 + length (rest w)) 1 (rest w) in
    record {
      short = omega (arith, new, many, fewer, all, old);
      same = λ m.
          let form = p.same (m.0 is) in
          anew.2 ∙ ap (λ l. open_form o l anew.0) (same ∙ form.0) ∙ ap (open_form o p.long) (kept.same m.1)
          ∙ ap (λ l. (header_octets (front_len p.long + length ps) 1 ++ (open_numbers o ++ l)) ++ ps) (sym form.1)
          ∙ form_parts (header_octets (front_len p.long + length ps) 1) (open_numbers o) p.front ps
          ∙ ap (λ o. header_octets (front_len p.long + length ps) 1 ++ o) (sym back.are)
          ∙ ap (λ n. header_octets n 1 ++ rest w) (sym all);
    }

-- ---- while it is written

short_fewer : (long : Bool) (row : List WrittenParameter)
    → length (parameters_octets false row) ≤ length (parameters_octets long row)
short_fewer true row = let long = long_row row in omega (arith, long)
short_fewer false row = omega arith

pub open_ready : (w : Window) (o : Open) → IsSoundWindow w → IsOpen w o
    → AreItemsSound o.parameters × (length (said_octets false o.parameters) ≤ left w)
open_ready w o sound is =
    let back = open_back w o sound is in
    let p = back.parameters in
    let ps = parameters_octets p.long (map says_parameter o.parameters) in
    let one = ap length back.are ∙ length-append (open_numbers o) (p.front ++ ps) in
    let two = length-append p.front ps in
    let fewer = short_fewer p.long (map says_parameter o.parameters) in
    let many = many_rest w sound in
    (p.sound, omega (arith, one, two, fewer, many))

module _ (o : Open) (long : Bool) (len : ℕ) (sound : AreItemsSound o.parameters)
    (form : long ≡ needs_long (map says_parameter o.parameters))
    (many : len ≡ length (said_octets long o.parameters)) where
  -- an OPEN anew has as many octets
  pub open_long : (n : ℕ) → n ≡ front_len long → (out : List ℕ) → IsOpenRewritten o out → length out ≡ n + len
  open_long n size out anew =
      let said = map says_parameter o.parameters in
      let kept = items_kept parameter_kept o.parameters anew.0 sound anew.1 in
      let all : n + len ≡ front_len long + length (parameters_octets long said) = omega (arith, many, size) in
      ap length anew.2 ∙ form_long o (needs_long anew.0) anew.0
      ∙ ap (λ n. front_len (needs_long anew.0) + n) (kept.long (needs_long anew.0))
      ∙ ap (λ l. front_len l + length (parameters_octets l said)) (needs_kept kept ∙ sym form) ∙ sym all

  -- what comes before its parameters, and then these, are the OPEN
  pub open_put : (old front all : List ℕ) → old ≡ [] → front ≡ old ++ open_front o long len
      → AppendedRow IsParameterAnew (parameter_octets long) o.parameters front all → IsOpenRewritten o all
  open_put old front all none first put =
      let kept = items_kept parameter_kept o.parameters put.0 sound put.1 in
      let ps = parameters_octets long put.0 in (
        put.0,
        put.1,
        put.2 ∙ ap (λ f. f ++ ps) (first ∙ ap (λ n. n ++ open_front o long len) none)
            ∙ ap (λ n. open_front o long n ++ ps) (many ∙ sym (kept.long long))
            ∙ ap (λ l. open_form o l put.0) (form ∙ sym (needs_kept kept)),
      )
