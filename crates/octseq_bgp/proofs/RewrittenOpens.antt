-- OPENs that are written anew, while they are.
use Rattle.std.proofs.Common.{◌≡◌, ℕ, ◌+◌, ◌/◌, ◌%◌, ◌^◌, ◌≤◌, Bool, true, false, Option, List}
use Rattle.std.proofs.Common.{[], ◌∷◌, ◌++◌, length, map}
use Rattle.std.proofs.Common.{refl, ap, sym, subst, ◌∙◌, arith, append_assoc, length-append}
use Rattle.std.proofs.lemmas.Bool.Decides.{nat_tests}
use Rattle.std.proofs.lemmas.List.Concat.{flat_map-cons}
use Rattle.std.specs.Prelude.{◌<◌, ◌||◌, nat_le, not}
use Rattle.octseq.proofs.Written.{length_be}
use Rattle.octseq.specs.Integer.{octets_be}
use Rattle.octseq.specs.Limit.{IsWithin}
use Rattle.octseq.specs.Window.{Window, rest}
use Rattle.octseq_bgp.specs.Capability.{ParameterValue}
use Rattle.octseq_bgp.specs.Composed.{header_octets}
use Rattle.octseq_bgp.specs.OneOpen.{says_parameter}
use Rattle.octseq_bgp.specs.Open.{Open, length_octets}
use Rattle.octseq_bgp.specs.RewrittenOpen.{Each, IsCapabilityAnew, IsOpenRewritten, IsParameterAnew, IsValueAnew}
use Rattle.octseq_bgp.specs.RewrittenOpen.{capability_anew, needs_long, open_form, open_front, said_octets}
use Rattle.octseq_bgp.specs.WrittenOpen.{WrittenParameter, front_len, is_apart, most_parameters, parameter_octets}
use Rattle.octseq_bgp.specs.WrittenOpen.{parameters_octets}
use Rattle.octseq_bgp.proofs.Appending.{within_less}
use Rattle.octseq_bgp.proofs.OneCapability.{one_capability_value}
use Rattle.octseq_bgp.proofs.Texts.{one_parameter_value}
use Rattle.octseq_bgp.proofs.WrittenOpens.{length_parameter}

-- ---- at most one

pub one_each : {A B : Type 0} {Is : A → B → Type 0} → ((a : A) (b c : B) → Is a b → Is a c → b ≡ c)
    → (row : List A) (x y : List B) → Each Is row x → Each Is row y → x ≡ y
one_each one [] x y a b = a ∙ sym b
one_each one (e ∷ row) x y a b =
    a.4 ∙ ap (λ first. first ∷ a.1) (one e a.0 b.0 a.2 b.2)
    ∙ ap (λ more. b.0 ∷ more) (one_each one row a.1 b.1 a.3 b.3) ∙ sym b.4

pub one_capability : (c : ℕ × Window) (x y : WrittenParameter) → IsCapabilityAnew c x → IsCapabilityAnew c y → x ≡ y
one_capability c x y a b =
    a.2 ∙ ap (λ v. (c.0, capability_anew v (rest c.1))) (one_capability_value c.0 c.1 a.0 b.0 a.1 b.1) ∙ sym b.2

one_value : (v : ParameterValue) (x y : List ℕ) → IsValueAnew v x → IsValueAnew v y → x ≡ y
one_value (ParameterValue.capabilities row) x y a b =
    a.2 ∙ ap (parameters_octets false) (one_each one_capability row a.0 b.0 a.1 b.1) ∙ sym b.2
one_value (ParameterValue.opaque w) x y a b = a ∙ sym b

pub one_parameter : (p : ℕ × Window) (x y : WrittenParameter) → IsParameterAnew p x → IsParameterAnew p y → x ≡ y
one_parameter p x y a b =
    let same = one_parameter_value p.0 p.1 a.0 b.0 a.2 b.2 in
    a.4 ∙ ap (λ octets. (p.0, octets)) (one_value b.0 a.1 b.1 (subst (λ v. IsValueAnew v a.1) same a.3) b.3) ∙ sym b.4

-- an OPEN is written anew in one way
pub one_rewritten : (o : Open) (x y : List ℕ) → IsOpenRewritten o x → IsOpenRewritten o y → x ≡ y
one_rewritten o x y a b =
    a.2 ∙ ap (λ row. open_form o (needs_long row) row) (one_each one_parameter o.parameters a.0 b.0 a.1 b.1) ∙ sym b.2

-- the last octet of a number is that of its octets
pub low_octet : (n : ℕ) → octets_be 1 (n % 256) ≡ octets_be 1 n
unfolding octets_be
low_octet n = let same : n % 256 / 256 ^ 0 % 256 ≡ n / 256 ^ 0 % 256 = omega arith in ap (λ octet. octet ∷ []) same

-- ---- rows in both forms

pub row_cons : (long : Bool) (p : WrittenParameter) (row : List WrittenParameter)
    → length (parameters_octets long (p ∷ row)) ≡ length (parameter_octets long p) + length (parameters_octets long row)
row_cons long p row =
    ap length (flat_map-cons (parameter_octets long) p row)
    ∙ length-append (parameter_octets long p) (parameters_octets long row)

-- how many octets a row had, by its first
pub said_first : (long : Bool) {row more : List (ℕ × Window)} {p : ℕ × Window} → row ≡ p ∷ more
    → length (said_octets long row) ≡ 1 + (length_octets long + length (rest p.1)) + length (said_octets long more)
said_first long {row} {more} {p} steps =
    ap (λ row. length (said_octets long row)) steps ∙ row_cons long (says_parameter p) (map says_parameter more)
    ∙ ap (λ n. n + length (said_octets long more)) (length_parameter long (says_parameter p))

pub many_said : (row : List (ℕ × Window)) → length row ≤ length (said_octets false row)
many_said [] = omega arith
many_said (p ∷ row) =
    let first = said_first false {row = p ∷ row} {more = row} {p = p} refl in
    let more = many_said row in
    omega (arith, first, more)

-- each parameter has an octet more in the long form
pub long_row : (row : List WrittenParameter)
    → length (parameters_octets true row) ≡ length (parameters_octets false row) + length row
long_row [] = refl
long_row (p ∷ row) =
    let here = length_parameter true p in
    let there = length_parameter false p in
    let x = row_cons true p row in
    let y = row_cons false p row in
    let more = long_row row in
    omega (arith, here, there, x, y, more)

or_true : (a : Bool) → a || true ≡ true
or_true true = refl
or_true false = refl

or_false : (a : Bool) → a || false ≡ a
or_false true = refl
or_false false = refl

-- the long form is needed if there are too many octets, or else if the first isn't apart
pub needed_by_len : (row : List WrittenParameter) (n : ℕ) → n ≡ length (parameters_octets false row) → 255 < n
    → true ≡ needs_long row
needed_by_len row n many more =
    let long : nat_le 256 n ≡ true = grind (arith, nat_tests) in
    sym (or_true (not (is_apart false row))) ∙ ap (λ b. not (is_apart false row) || b) (sym long)
    ∙ ap (λ n. not (is_apart false row) || nat_le 256 n) many

pub needed_by_first : (row : List WrittenParameter) (n : ℕ) (apart : Bool) → n ≡ length (parameters_octets false row)
    → n ≤ 255 → apart ≡ is_apart false row → not apart ≡ needs_long row
needed_by_first row n apart many few same =
    let short : nat_le 256 n ≡ false = grind (arith, nat_tests) in
    ap not same ∙ sym (or_false (not (is_apart false row))) ∙ ap (λ b. not (is_apart false row) || b) (sym short)
    ∙ ap (λ n. not (is_apart false row) || nat_le 256 n) many

-- ---- limits

-- a head of a type and a length, and what comes after it, are within a limit that a parameter is within
pub head_within : (limit : Option ℕ) (long : Bool) (old : List ℕ) (p : WrittenParameter) (kind n : ℕ)
    → IsWithin limit (length old + length (parameter_octets long p))
    → IsWithin limit (length old + length (octets_be 1 kind ++ octets_be (length_octets long) n))
head_within limit long old p kind n within =
    let all = length_parameter long p in
    let both = length-append (octets_be 1 kind) (octets_be (length_octets long) n) in
    let one = length_be 1 kind in
    let more = length_be (length_octets long) n in
    within_less limit _ _ (omega (arith, all, both, one, more)) within

pub inside_within : (limit : Option ℕ) (long : Bool) (old mid : List ℕ) (p : WrittenParameter) (kind n : ℕ)
    → IsWithin limit (length old + length (parameter_octets long p))
    → mid ≡ old ++ (octets_be 1 kind ++ octets_be (length_octets long) n) → IsWithin limit (length mid + length p.1)
inside_within limit long old mid p kind n within put =
    let head = octets_be 1 kind ++ octets_be (length_octets long) n in
    let all = length_parameter long p in
    let now = ap length put in
    let there = length-append old head in
    let both = length-append (octets_be 1 kind) (octets_be (length_octets long) n) in
    let one = length_be 1 kind in
    let more = length_be (length_octets long) n in
    within_less limit _ _ (omega (arith, all, now, there, both, one, more)) within

pub both_put : (long : Bool) (old mid new : List ℕ) (p : WrittenParameter) (kind n : ℕ) (inside : List ℕ)
    → mid ≡ old ++ (octets_be 1 kind ++ octets_be (length_octets long) n) → new ≡ mid ++ inside → kind ≡ p.0
    → octets_be (length_octets long) n ≡ octets_be (length_octets long) (length p.1) → inside ≡ p.1
    → new ≡ old ++ parameter_octets long p
both_put long old mid new p kind n inside head after type size is =
    let count = octets_be (length_octets long) (length p.1) in
    after ∙ ap (λ m. m ++ inside) head
    ∙ ap (λ i. (old ++ (octets_be 1 kind ++ octets_be (length_octets long) n)) ++ i) is
    ∙ ap (λ c. (old ++ (octets_be 1 kind ++ c)) ++ p.1) size
    ∙ ap (λ k. (old ++ (octets_be 1 k ++ count)) ++ p.1) type
    ∙ append_assoc old (octets_be 1 p.0 ++ count) p.1
    ∙ ap (λ o. old ++ o) (append_assoc (octets_be 1 p.0) count p.1)

-- the length of a parameter fits its octets
pub length_fits : (long : Bool) (p : WrittenParameter) → length (parameter_octets long p) ≤ most_parameters long
    → length p.1 < 256 ^ length_octets long
length_fits true p few = let all = length_parameter true p in omega (arith, all, few)
length_fits false p few = let all = length_parameter false p in omega (arith, all, few)

-- ---- all octets

pub front_long : (o : Open) (long : Bool) (n : ℕ) → length (open_front o long n) ≡ front_len long
unfolding header_octets octets_be
front_long o true n = refl
front_long o false n = refl

-- an OPEN has the octets of its parameters, and those before them
pub form_long : (o : Open) (long : Bool) (row : List WrittenParameter)
    → length (open_form o long row) ≡ front_len long + length (parameters_octets long row)
form_long o long row =
    let many = length (parameters_octets long row) in
    length-append (open_front o long many) (parameters_octets long row)
    ∙ ap (λ n. n + many) (front_long o long many)
