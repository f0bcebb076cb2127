-- OPENs that get another parameter.
use Rattle.std.proofs.Common.{◌≡◌, ℕ, ◌+◌, ◌<◌, ◌≤◌, Bool, true, false, Option, Some, None, List, [], ◌∷◌, ◌++◌}
use Rattle.std.proofs.Common.{length, refl, ap, sym, ◌∙◌, subst, arith, append_assoc, length-append, append-nil}
use Rattle.std.proofs.lemmas.Grind.{flat_map-append}
use Rattle.std.proofs.lemmas.List.Concat.{flat_map-cons}
use Rattle.std.proofs.Math.Nat.{lt_of_not-le}
use Rattle.std.specs.Prelude.{◌↔◌, Result, OnOk, OnErr}
use Rattle.octseq.proofs.Repeats.{each_snoc}
use Rattle.octseq.proofs.Written.{length_be}
use Rattle.octseq.specs.Integer.{octets_be}
use Rattle.octseq.specs.Refusal.{IsShort, write_error}
use Rattle.octseq.specs.declared.error.WriteError.{WriteError}
use Rattle.octseq_bgp.specs.Composed.{Extends, header_octets, header_long, least, long_after, message_octets}
use Rattle.octseq_bgp.specs.Open.{length_octets}
use Rattle.octseq_bgp.specs.WrittenCapability.{WrittenCapability, capability_octets, written_code, written_value}
use Rattle.octseq_bgp.specs.WrittenOpen.{CanFollow, FitsOpen, FitsParameter, HasRoom, IsOpenWritten}
use Rattle.octseq_bgp.specs.WrittenOpen.{PushesParameter, WrittenOpen, WrittenParameter, apart_at, bare_open, front_len}
use Rattle.octseq_bgp.specs.WrittenOpen.{is_apart, lengths, most_parameters, numbers_octets, open_max, open_octets}
use Rattle.octseq_bgp.specs.WrittenOpen.{open_with, parameter_octets, parameters_octets, with_parameter}
use Rattle.octseq_bgp.proofs.Composing.{least_most}

-- ---- octets

numbers_long : (o : WrittenOpen) → length (numbers_octets o) ≡ 9
unfolding octets_be
numbers_long o = refl

body_long : (long : Bool) (o : WrittenOpen) (ps : List ℕ)
    → 19 + length (numbers_octets o ++ (lengths long (length ps) ++ ps)) ≡ front_len long + length ps
unfolding octets_be
body_long true o ps = omega arith
body_long false o ps = omega arith

-- what follows its header
abbrev pub open_body : WrittenOpen → List ℕ
open_body o =
    let ps = parameters_octets o.long o.parameters in
    numbers_octets o ++ (lengths o.long (length ps) ++ ps)

-- an OPEN has so many octets more than its parameters
pub length_open : (o : WrittenOpen) (ps : List ℕ) → length (open_with o ps) ≡ front_len o.long + length ps
length_open o ps =
    let body = numbers_octets o ++ (lengths o.long (length ps) ++ ps) in
    long_after (19 + length body) 1 body ∙ body_long o.long o ps

pub row_more : (long : Bool) (row : List WrittenParameter) (p : WrittenParameter)
    → parameters_octets long (row ++ p ∷ []) ≡ parameters_octets long row ++ parameter_octets long p
row_more long row p =
    flat_map-append (parameter_octets long) row (p ∷ [])
    ∙ ap (λ o. parameters_octets long row ++ o)
    (flat_map-cons (parameter_octets long) p [] ∙ append-nil (parameter_octets long p))

-- an OPEN and the octets of a parameter after it, whose length was then written
pub open_more : (long : Bool) (o : WrittenOpen) (p : WrittenParameter) {old between new : List ℕ}
    → IsOpenWritten long old o
    → ((kind : ℕ) (body : List ℕ) → old ≡ message_octets kind body
    → between ≡ message_octets kind (body ++ parameter_octets long p))
    → ((a ps : List ℕ) (n : ℕ) → between ≡ a ++ (lengths long n ++ ps) → length a ≡ 28
    → new ≡ a ++ (lengths long (length ps) ++ ps))
    → new ≡ open_octets (with_parameter o p)
open_more long o p was extends count =
    let here : WrittenOpen = record o { long = long } in
    let same : here ≡ o = ap (λ l. record o { long = l }) (sym was.form) in
    let ps = parameters_octets long o.parameters in
    let more = parameter_octets long p in
    let n = numbers_octets o in
    let body = n ++ (lengths long (length ps) ++ ps) in
    let h = header_octets (19 + length (body ++ more)) 1 in
    let rest = lengths long (length (ps ++ more)) ++ (ps ++ more) in
    let extended = extends 1 body (was.are ∙ ap open_octets (sym same)) in
    let front = length-append h n in
    let counted = count (h ++ n) (ps ++ more) (length ps) (extended ∙ simp append_assoc)
    (omega (arith, front, header_long (19 + length (body ++ more)) 1, numbers_long o)) in
    let all : 19 + length (body ++ more) ≡ 19 + length (n ++ rest) =
    omega (arith, length-append body more, length-append ps more, body_long long o ps, body_long long o (ps ++ more)) in
    counted ∙ append_assoc h n rest ∙ ap (λ k. header_octets k 1 ++ (n ++ rest)) all
    ∙ ap (open_with here) (sym (row_more long o.parameters p)) ∙ ap (λ x. open_octets (with_parameter x p)) same

-- ---- numbers

-- a parameter has two octets or three more than it says
pub length_parameter : (long : Bool) (p : WrittenParameter)
    → length (parameter_octets long p) ≡ 1 + (length_octets long + length p.1)
length_parameter long p =
    let head = octets_be 1 p.0 in
    let count = octets_be (length_octets long) (length p.1) in
    let outer = length-append head (count ++ p.1) in
    let inner = length-append count p.1 in
    let one = length_be 1 p.0 in
    let many = length_be (length_octets long) (length p.1) in
    omega (arith, outer, inner, one, many)

pub long_parameter : (long : Bool) (p : WrittenParameter) → long ≡ true
    → length (parameter_octets long p) ≡ 3 + length p.1
long_parameter long p is =
    let many = length_parameter long p in
    let two : length_octets long ≡ 2 = ap length_octets is in
    omega (arith, many, two)

pub short_parameter : (long : Bool) (p : WrittenParameter) → long ≡ false
    → length (parameter_octets long p) ≡ 2 + length p.1
short_parameter long p isnt =
    let many = length_parameter long p in
    let one : length_octets long ≡ 1 = ap length_octets isnt in
    omega (arith, many, one)

-- a capability has two octets more than its value
pub length_capability : (c : WrittenCapability) → length (capability_octets c) ≡ 2 + length (written_value c)
length_capability c =
    let many = length_parameter false (written_code c, written_value c) in
    omega (arith, many)

-- ---- the first parameter

front_few : (long : Bool) → front_len long ≤ 32
front_few true = omega arith
front_few false = omega arith

none_apart : (long : Bool) → is_apart long [] ≡ true
none_apart true = refl
none_apart false = refl

-- parameters have octets if there are some
some_octets : (long : Bool) (p : WrittenParameter) (row : List WrittenParameter)
    → 0 < length (parameters_octets long (p ∷ row))
some_octets long p row =
    let both = ap length (flat_map-cons (parameter_octets long) p row) in
    let all = length-append (parameter_octets long p) (parameters_octets long row) in
    let one = length_parameter long p in
    omega (arith, both, all, one)

row_apart : (long : Bool) (row : List WrittenParameter) (p : WrittenParameter) (first : Bool)
    → is_apart long row ≡ true → ((first ≡ true) ↔ (length (parameters_octets long row) ≡ 0))
    → is_apart long (row ++ p ∷ []) ≡ apart_at long first p.0
row_apart true [] p first apart is = refl
row_apart true (q ∷ row) p first apart is = refl
row_apart false [] p first apart is = ap (λ first. apart_at false first p.0) (sym (is.1 refl))
row_apart false (q ∷ row) p true apart is =
    let none = is.0 refl in
    let some = some_octets false q row in
    absurd (omega (arith, none, some))
row_apart false (q ∷ row) p false apart is = apart

-- another parameter is apart if it may be there
pub next_apart : (o : WrittenOpen) (p : WrittenParameter) (first : Bool) → FitsOpen o
    → ((first ≡ true) ↔ (length (open_octets o) ≡ front_len o.long))
    → is_apart o.long (o.parameters ++ p ∷ []) ≡ apart_at o.long first p.0
next_apart o p first fits is =
    let long = length_open o (parameters_octets o.long o.parameters) in
    row_apart o.long o.parameters p first fits.apart (
      (λ yes. let same = is.0 yes in omega (arith, same, long)),
      (λ none. is.1 (omega (arith, none, long))),
    )

-- ---- room

-- so many octets of parameters are too many exactly if the OPEN is too long
room_of : (limit : Option ℕ) (long : Bool) (n : ℕ) → (least (open_max long) limit < front_len long + n)
    ↔ ¬ ((n ≤ most_parameters long) × (front_len long + n ≤ least 4096 limit))
room_of None long n = (
  λ past has. omega (arith, past, has),
  λ none. lt_of_not-le (λ fits. none (omega (arith, fits), omega (arith, fits))),
)
room_of (Some most) long n = (
  λ past has. omega (arith, past, has),
  λ none. lt_of_not-le (λ fits. none (omega (arith, fits), omega (arith, fits))),
)

-- ---- what an append does

-- a parameter may follow exactly if it fits, and may be there
pub can_follow : (long : Bool) (old : List ℕ) (o : WrittenOpen) (p : WrittenParameter) (first : Bool)
    → IsOpenWritten long old o → ((first ≡ true) ↔ (length old ≡ front_len long))
    → CanFollow o p ↔ (FitsParameter long p × (apart_at long first p.0 ≡ true))
can_follow long old o p first was is =
    let many = ap length was.are in
    let form = ap front_len was.form in
    let next = next_apart o p first was.fits (
      (λ yes. let same = is.0 yes in omega (arith, same, many, form)),
      (λ none. is.1 (omega (arith, none, many, form))),
    ) ∙ ap (λ l. apart_at l first p.0) was.form in (
      (λ can. (subst (λ l. FitsParameter l p) was.form can.0, sym next ∙ can.1)),
      (λ fits. (subst (λ l. FitsParameter l p) (sym was.form) fits.0, next ∙ fits.1)),
    )

-- ---- an OPEN that is extended

-- it has the octets of a header, and not too many
pub open_within : (long : Bool) (o : WrittenOpen) {old : List ℕ} → IsOpenWritten long old o
    → (19 ≤ length old) × (front_len long ≤ length old) × (length old ≤ open_max long)
open_within long o was =
    let all = ap length was.are in
    let many = length_open o (parameters_octets o.long o.parameters) in
    let form = ap front_len was.form in
    let most = ap most_parameters was.form in (
      omega (arith, all, long_after (19 + length (open_body o)) 1 (open_body o)),
      omega (arith, all, many, form),
      omega (arith, all, many, form, most, was.fits.few, was.fits.short),
    )

module _ (long : Bool) (o : WrittenOpen) (p : WrittenParameter) {old : List ℕ} (was : IsOpenWritten long old o) where
  -- its body, and the octets of a parameter
  abbrev extended : List ℕ
  extended = open_body o ++ parameter_octets long p

  extended_long : length (message_octets 1 extended)
      ≡ front_len long + length (parameters_octets o.long (o.parameters ++ p ∷ []))
  extended_long =
      let ps = parameters_octets o.long o.parameters in
      let row = ap length (row_more o.long o.parameters p) in
      let both = length-append ps (parameter_octets o.long p) in
      let all = length-append (open_body o) (parameter_octets long p) in
      let form = ap (λ l. length (parameter_octets l p)) was.form in
      omega (
        arith,
        long_after (19 + length extended) 1 extended,
        body_long o.long o ps,
        row,
        both,
        all,
        form,
        ap front_len was.form,
      )

  more_long : length (open_octets (with_parameter o p))
      ≡ front_len long + length (parameters_octets o.long (o.parameters ++ p ∷ []))
  more_long =
      let ps = parameters_octets o.long (o.parameters ++ p ∷ []) in
      length_open (with_parameter o p) ps ∙ ap (λ l. front_len l + length ps) was.form

  module _ (limit : Option ℕ) {asks : Bool} {result : Result (Unit {0}) WriteError} {new : List ℕ}
      (done : Extends write_error (least (open_max long) limit) asks result (message_octets 1 extended) old new) where
    -- it was too long for the call exactly if it has no room
    pub no_room : IsShort write_error result ↔ ¬ HasRoom limit (with_parameter o p)
    no_room =
        let room = room_of limit long (length (parameters_octets o.long (o.parameters ++ p ∷ []))) in
        let most = ap most_parameters was.form in (
          (λ short has. let past = done.short.0 short in
              room.0 (omega (arith, past, extended_long)) (omega (arith, has, most), omega (arith, has, more_long))),
          (λ none. let past = room.1 (λ fits. none (omega (arith, fits, most), omega (arith, fits, more_long))) in
              done.short.1 (omega (arith, past, extended_long))),
        )

    -- what a push is that extended it, or left it
    pub pushed : {Has : Type 0} (now : WrittenOpen) → Has × CanFollow o p → OnOk result (now ≡ with_parameter o p)
        → OnErr result (now ≡ o) → PushesParameter limit asks (Has × CanFollow o p) result p o now
    pushed now can ok err = record {
      ok = ok;
      err = err;
      malformed = (λ bad. absurd (done.fits bad), λ no. absurd (no can));
      short = (λ short. (can, no_room.0 short), λ short. no_room.1 short.1);
      memory = done.memory;
    }

  pub extended_within : (limit : Option ℕ) {between : List ℕ} → between ≡ message_octets 1 extended
      → ¬ (least (open_max long) limit < length (message_octets 1 extended))
      → (front_len long ≤ length between) × (length between ≤ open_max long)
  extended_within limit is fits =
      let within = lt_of_not-le fits in
      let same = ap length is in
      (omega (arith, same, extended_long), omega (arith, same, within, least_most (open_max long) limit))

  -- octets that were an OPEN are one with another parameter
  pub written_more : (limit : Option ℕ) {now : List ℕ} → CanFollow o p
      → ¬ (least (open_max long) limit < length (message_octets 1 extended)) → now ≡ open_octets (with_parameter o p)
      → IsOpenWritten long now (with_parameter o p)
  written_more limit can fits is =
      let within = lt_of_not-le fits in
      let most = ap most_parameters was.form in
      let fewer = least_most (open_max long) limit in
      record {
        form = was.form;
        are = is;
        fits = record {
          my_asn = was.fits.my_asn;
          holdtime = was.fits.holdtime;
          identifier = was.fits.identifier;
          parameters = each_snoc (FitsParameter o.long) o.parameters p was.fits.parameters can.0;
          apart = can.1;
          few = omega (arith, within, extended_long, most, fewer);
          short = omega (arith, within, extended_long, more_long, fewer);
        };
      }

-- ---- the octets before the parameters

pub bare_written : (long : Bool) (my_asn holdtime identifier : ℕ) (octets : List ℕ) → my_asn < 65536
    → holdtime < 65536 → identifier < 4294967296 → octets ≡ open_octets (bare_open long my_asn holdtime identifier)
    → IsOpenWritten long octets (bare_open long my_asn holdtime identifier)
bare_written long my_asn holdtime identifier octets asn hold id are =
    let many = length_open (bare_open long my_asn holdtime identifier) [] in
    let front = front_few long in
    record {
      form = refl;
      are = are;
      fits = record {
        my_asn = asn;
        holdtime = hold;
        identifier = id;
        parameters = tt;
        apart = none_apart long;
        few = omega arith;
        short = omega (arith, many, front);
      };
    }
