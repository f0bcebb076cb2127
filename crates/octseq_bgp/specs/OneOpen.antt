-- Octets are at most one OPEN that was written.
use Rattle.std.specs.Prelude.{◌≡◌, ℕ, ◌+◌, ◌<◌, ◌^◌, Bool, true, false, List, ◌++◌, length, take, drop, map, refl}
use Rattle.std.proofs.Common.{ap, sym, subst, ◌∙◌, arith}
use Rattle.std.proofs.Props.{props}
use Rattle.std.specs.List.{AllByRecursion}
use mathlib.Core.HLevel.{Σ_prop_path}
use Rattle.octseq.proofs.Written.{value_be}
use Rattle.octseq.specs.Integer.{be, octets_be}
use Rattle.octseq.specs.Window.{Window, rest, past, whole}
use Rattle.octseq.proofs.Codes.{rest_whole}
use Rattle.octseq_format.specs.Counted.{counted_octets, CountFits, delimited_counted, onward_counted}
use Rattle.octseq_format.specs.Fixed.{delimited_fixed, onward_fixed}
use Rattle.octseq_format.specs.Integers.{are_be}
use Rattle.octseq_format.specs.Laws.{IsDelimited, IsMoving, moving_of}
use Rattle.octseq_format.specs.Pair.{◌also◌, ◌and◌, ◌before◌, ◌delimited_then◌, ◌onward_then◌, both_octets, both_say}
use Rattle.octseq_format.specs.Rest.{IsRest, rest_read_back}
use Rattle.octseq_format.specs.Row.{one_to, to_read_back}
use Rattle.octseq_bgp.specs.Composed.{header_octets, message_octets}
use Rattle.octseq_bgp.specs.OneParts.{one_tlv}
use Rattle.octseq_bgp.specs.Parts.{IsTlv}
use Rattle.octseq_bgp.specs.Open.{Open, length_octets}
use Rattle.octseq_bgp.specs.WrittenOpen.{FitsParameter, HoldsOpen, IsOpenWritten, WrittenOpen, WrittenParameter}
use Rattle.octseq_bgp.specs.WrittenOpen.{front_len, lengths, numbers_octets, open_octets}
use Rattle.octseq_bgp.specs.WrittenOpen.{parameter_octets, parameters_octets}

-- ---- parameters are read back

-- what a parameter that was read says
abbrev pub says_parameter : ℕ × Window → WrittenParameter
says_parameter it = (it.0, rest it.1)

-- what an OPEN that was read in the long form or the short one says
abbrev pub open_says : Bool → Open → WrittenOpen
open_says long o = record {
  long = long;
  my_asn = o.my_asn;
  holdtime = o.holdtime;
  identifier = o.identifier;
  parameters = map says_parameter o.parameters;
}

-- ---- lemmas: proved below this line, so what the words mean is read above it

-- ---- its parts are found in its octets
asn_in : (o : WrittenOpen) → o.my_asn < 65536 → be (take 2 (drop 20 (open_octets o))) ≡ o.my_asn
unfolding header_octets octets_be
asn_in o fits = value_be 2 o.my_asn fits

hold_in : (o : WrittenOpen) → o.holdtime < 65536 → be (take 2 (drop 22 (open_octets o))) ≡ o.holdtime
unfolding header_octets octets_be
hold_in o fits = value_be 2 o.holdtime fits

id_in : (o : WrittenOpen) → o.identifier < 4294967296 → be (take 4 (drop 24 (open_octets o))) ≡ o.identifier
unfolding header_octets octets_be
id_in o fits = value_be 4 o.identifier fits

dropped : (long : Bool) (o : WrittenOpen) (ps : List ℕ)
    → drop (front_len long) (message_octets 1 (numbers_octets o ++ (lengths long (length ps) ++ ps))) ≡ ps
unfolding header_octets octets_be
dropped true o ps = refl
dropped false o ps = refl

parameters_in : (o : WrittenOpen) → drop (front_len o.long) (open_octets o) ≡ parameters_octets o.long o.parameters
parameters_in o = dropped o.long o (parameters_octets o.long o.parameters)

raw_parameter : (k : ℕ) → IsDelimited (IsTlv k) ((λ n. n) and rest) (octets_be 1 before counted_octets k 0 (λ o. o))
    ((λ n. n < 256) also CountFits k 0 (λ o. o) (λ _. Unit {0}))
raw_parameter k = delimited_fixed (are_be 1) delimited_then delimited_counted rest_read_back

raw_octets : (long : Bool) (p : WrittenParameter)
    → (octets_be 1 before counted_octets (length_octets long) 0 (λ o. o)) p ≡ parameter_octets long p
unfolding both_octets
raw_octets long p =
    let same : 0 + length p.1 ≡ length p.1 = omega arith in
    ap (λ n. octets_be 1 p.0 ++ (octets_be (length_octets long) n ++ p.1)) same

raw_says : (it : ℕ × Window) → ((λ n. n) and rest) it ≡ says_parameter it
unfolding both_say
raw_says it = refl

raw_fits : (long : Bool) (p : WrittenParameter) → FitsParameter long p
    → ((λ n. n < 256) also CountFits (length_octets long) 0 (λ o. o) (λ _. Unit {0})) p
raw_fits long p fits =
    let same : length p.1 ≡ 0 + length p.1 = omega arith in
    record {
      first = fits.kind;
      second = record {
        tag_fits = subst (λ n. n < 256 ^ length_octets long) same fits.many;
        inside = record { inside = tt; many = refl };
      };
    }

pub delimited_parameter : (long : Bool)
    → IsDelimited (IsTlv (length_octets long)) says_parameter (parameter_octets long) (FitsParameter long)
delimited_parameter long = record {
  next = λ w p more fits is.
      let k = length_octets long in
      let same = raw_octets long p in
      let taken = (raw_parameter k).next w p more (raw_fits long p fits) (is ∙ ap (λ o. o ++ more) (sym same)) in
      record {
        it = taken.it;
        tells = sym (raw_says taken.it) ∙ taken.tells;
        is = subst (λ n. IsTlv k w taken.it (past n w)) (ap length same) taken.is;
      };
}

moving_tlv : (k : ℕ) → IsMoving (IsTlv k)
moving_tlv k =
    moving_of (onward_fixed 1 be onward_then onward_counted k 0 IsRest) (omega arith)

-- so octets are at most one list of them
row_once : (long : Bool) (a b : List WrittenParameter) → AllByRecursion (FitsParameter long) a
    → AllByRecursion (FitsParameter long) b → parameters_octets long a ≡ parameters_octets long b → a ≡ b
row_once long a b fits other same =
    let k = length_octets long in
    let o = parameters_octets long a in
    let w = whole o in
    let back = to_read_back (IsTlv k) says_parameter (parameter_octets long) (FitsParameter long)
    (delimited_parameter long) in
    let many : length o ≡ length (parameters_octets long b) = ap length same in
    let x = back.back w a fits (rest_whole o) (omega arith) in
    let y = back.back w b other (rest_whole o ∙ same) (omega (arith, many)) in
    let one = (one_to (IsTlv k) (one_tlv k) (moving_tlv k)).same w x.it y.it _ _ x.is y.is in
    sym x.tells ∙ ap (map says_parameter) one.0 ∙ y.tells

-- ---- at most one OPEN
found_same : {A : Type 0} (found : List ℕ → A) (read : WrittenOpen → A) (a b : WrittenOpen)
    → found (open_octets a) ≡ read a → found (open_octets b) ≡ read b → open_octets a ≡ open_octets b → read a ≡ read b
found_same found read a b x y same = sym x ∙ ap found same ∙ y

pub same_open : (long : Bool) (octets : List ℕ) (a b : WrittenOpen) → IsOpenWritten long octets a
    → IsOpenWritten long octets b → a ≡ b
same_open long octets a b x y =
    let all : open_octets a ≡ open_octets b = sym x.are ∙ y.are in
    let asn = found_same (λ o. be (take 2 (drop 20 o))) (λ o. o.my_asn) a b (asn_in a x.fits.my_asn)
    (asn_in b y.fits.my_asn) all in
    let hold = found_same (λ o. be (take 2 (drop 22 o))) (λ o. o.holdtime) a b (hold_in a x.fits.holdtime)
    (hold_in b y.fits.holdtime) all in
    let id = found_same (λ o. be (take 4 (drop 24 o))) (λ o. o.identifier) a b (id_in a x.fits.identifier)
    (id_in b y.fits.identifier) all in
    let octets_a = ap (λ l. drop (front_len l) (open_octets a)) (sym x.form) ∙ parameters_in a
    ∙ ap (λ l. parameters_octets l a.parameters) x.form in
    let octets_b = ap (λ l. drop (front_len l) (open_octets b)) (sym y.form) ∙ parameters_in b
    ∙ ap (λ l. parameters_octets l b.parameters) y.form in
    let rows = row_once long a.parameters b.parameters
    (subst (λ l. AllByRecursion (FitsParameter l) a.parameters) x.form x.fits.parameters)
    (subst (λ l. AllByRecursion (FitsParameter l) b.parameters) y.form y.fits.parameters)
    (sym octets_a ∙ ap (drop (front_len long)) all ∙ octets_b) in
    λ i. record {
      long = (x.form ∙ sym y.form) i;
      my_asn = asn i;
      holdtime = hold i;
      identifier = id i;
      parameters = rows i;
    }

pub open_once : (long : Bool) (octets : List ℕ) → IsProp (HoldsOpen long octets)
open_once long octets a b =
    Σ_prop_path (λ o. Prim.hlevel props) (same_open long octets a.0 b.0 a.1 b.1)
