-- The header of a message says how many octets the message has.
use Rattle.std.proofs.Common.{◌≡◌, ◌≤◌, ◌++◌, ◌∙◌, ℕ, zero, suc, List, [], ◌∷◌, length, take, inl, inr, sym, ap}
use Rattle.std.proofs.Common.{subst, arith}
use Rattle.std.proofs.lemmas.List.{length-append, take-append-le}
use Rattle.std.proofs.lemmas.List.Elements.{All-from_recursion, recursion_from_All}
use Rattle.std.specs.List.{All, AllByRecursion}
use Rattle.octseq.specs.Integer.{be}
use Rattle.octseq_bgp.specs.Stream.{IsMarked, IsFramed, BeginsFramed, IsMisframed, message_length}
use Rattle.octseq_bgp.specs.declared.session.SessionConfig.{SessionConfig}
use Rattle.octseq_stream.proofs.Headers.{range_in_front, range_of_front}

-- ---- lemmas: proved below this line, so what the words mean is read above it

-- the length of a message, whatever follows it
pub length_in_front : (x y : List ℕ) → 18 ≤ length x → message_length (x ++ y) ≡ message_length x
length_in_front x y long = ap be (range_in_front x y 16 18 (omega arith) long)

front_kept : (P : ℕ → Type 0) (n : ℕ) (x y : List ℕ) → AllByRecursion P (take n (x ++ y))
    → AllByRecursion P (take n x)
front_kept P zero x y each = tt
front_kept P (suc n) [] y each = tt
front_kept P (suc n) (a ∷ x) y each = (each.0, front_kept P n x y each.1)

-- a front of marked octets is marked
pub marked_front : (x y : List ℕ) → IsMarked (x ++ y) → IsMarked x
marked_front x y marked =
    let P = λ (octet : ℕ). octet ≡ 255 in
    All-from_recursion P (take 16 x) (front_kept P 16 x y (recursion_from_All P (take 16 (x ++ y)) marked))

-- octets after a marker don't matter
pub marked_more : (x y : List ℕ) → 16 ≤ length x → IsMarked x → IsMarked (x ++ y)
marked_more x y long marked =
    subst (All (λ octet. octet ≡ 255)) (sym (take-append-le 16 x y long)) marked

-- ---- laws

pub message_whole : (s : SessionConfig) (octets : List ℕ) → IsFramed s octets
    → (18 ≤ length octets) × (length octets ≡ message_length (take 18 octets))
message_whole s octets framed =
    let least = framed.least in
    let same : message_length octets ≡ message_length (take 18 octets) =
    ap be (range_of_front octets 18 16 18 (omega arith) (omega arith) (omega (arith, least))) in
    (omega (arith, least), framed.whole ∙ same)

-- the length in front of a framed message
begins_length : (s : SessionConfig) (octets a more : List ℕ) → 18 ≤ length octets → IsFramed s a
    → octets ≡ a ++ more → message_length octets ≡ length a
begins_length s octets a more there framed e =
    let least = framed.least in
    ap message_length e ∙ length_in_front a more (omega (arith, least)) ∙ sym framed.whole

-- no framed message begins with misframed octets
pub begins_none : (s : SessionConfig) (octets more : List ℕ) → IsMisframed s octets → ¬ BeginsFramed s (octets ++ more)
begins_none s octets more (inl other) (a, rest, framed, e) =
    let least = framed.least in
    other (marked_front octets more (subst IsMarked (sym e)
    (marked_more a rest (omega (arith, least)) framed.marked)))
begins_none s octets more (inr (there, inl few)) (a, rest, framed, e) =
    let both = length-append octets more in
    let says = begins_length s (octets ++ more) a rest (omega (arith, there, both)) framed e in
    let kept = length_in_front octets more there in
    let least = framed.least in
    omega (arith, says, kept, few, least)
begins_none s octets more (inr (there, inr many)) (a, rest, framed, e) =
    let both = length-append octets more in
    let says = begins_length s (octets ++ more) a rest (omega (arith, there, both)) framed e in
    let kept = length_in_front octets more there in
    let most = framed.most in
    omega (arith, says, kept, many, most)
