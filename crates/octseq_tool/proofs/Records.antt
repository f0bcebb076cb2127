-- Records are read from the front, and in one way.
use Rattle.std.proofs.Common.{◌≡◌, ◌⊎◌, ◌+◌, ◌-◌, ◌<◌, ◌≤◌, ◌∷◌, ◌++◌, ◌∙◌}
use Rattle.std.proofs.Common.{false, true, ℕ, suc, add-one, get_or, codes, subst, List, [], length, take, drop, refl}
use Rattle.std.proofs.Common.{sym, ap, inl, inr, append_assoc, arith}
use Rattle.std.proofs.Math.Seq.{drop-cons}
use Rattle.std.proofs.lemmas.List.{append-nil, length-append, length-take, length-drop}
use Rattle.std.proofs.lemmas.Grind.{flat_map-append}
use Rattle.std.specs.Prelude.{◌↔◌, Result, Ok, Err, IsOk, IfOk, OnOk, OnErr, slice_range}
use Rattle.octseq.specs.Integer.{be}
use Rattle.octseq.specs.Part.{part_length, HasPart, part, past_part}
use Rattle.octseq.specs.Window.{Window, left, rest, next, past, nested}
use Rattle.octseq.proofs.Codes.{halves}
use Rattle.octseq_tool.specs.Out.{HasText, records_of, IsCutRecord, HasLines}
use Rattle.octseq.proofs.Written.{be_one}

-- no whole record is at the front
abbrev pub IsRest : List ℕ → Type 0
IsRest rest = (rest ≡ []) ⊎ IsCutRecord rest

-- if no whole record is at the front, none is there
pub no_record : {P : Type 0} (rest part more : List ℕ) → IsRest rest → rest ≡ length part ∷ (part ++ more) → P
no_record [] part more h e = absurd (cc)
no_record (n ∷ octets) part more (inl none) e = absurd (cc)
no_record (n ∷ octets) part more (inr short) e =
    let first : n ≡ length part = cc in
    let after : octets ≡ part ++ more = cc in
    let long : length octets ≡ length part + length more = ap length after ∙ length-append part more in
    absurd (omega arith)

-- octets are whole records, and a rest with none at its front, in at most one way
pub one_reading : (parts others : List (List ℕ)) (x y : List ℕ) → IsRest x → IsRest y
    → records_of parts ++ x ≡ records_of others ++ y → (parts ≡ others) × (x ≡ y)
one_reading [] [] x y h k e = (refl, e)
one_reading [] (b ∷ others) x y h k e = no_record x b (records_of others ++ y) h (rw append_assoc at e)
one_reading (a ∷ parts) [] x y h k e = no_record y a (records_of parts ++ x) k (sym (rw append_assoc at e))
one_reading (a ∷ parts) (b ∷ others) x y h k e =
    let long : length a ≡ length b = cc in
    let after : (a ++ records_of parts) ++ x ≡ (b ++ records_of others) ++ y = cc in
    let both = halves a b (records_of parts ++ x) (records_of others ++ y) long
    (rw (append_assoc, append_assoc) at after) in
    let rest = one_reading parts others x y h k both.1 in
    (ap (λ p. p ∷ parts) both.0 ∙ ap (λ ps. b ∷ ps) rest.0, rest.1)

-- the first of the octets that are left, and those after it
first_octet : (w : Window) → 0 < left w → w.end ≤ length w.octets → rest w ≡ be (next 1 w) ∷ rest (past 1 w)
first_octet w some within =
    let b = get_or w.octets w.position 0 in
    let after = drop (w.position + 1) w.octets in
    let here : w.position < length w.octets = omega arith in
    let ahead : drop w.position w.octets ≡ b ∷ after = rw add-one (drop-cons w.octets w.position 0 here) in
    let one : w.position + 1 - w.position ≡ 1 = omega arith in
    let many : w.end - w.position ≡ suc (w.end - (w.position + 1)) = omega arith in
    let value : be (next 1 w) ≡ b =
    ap (λ n. be (take n (drop w.position w.octets))) one ∙ ap (λ octets. be (take 1 octets)) ahead ∙ be_one b in
    ap (λ n. take n (drop w.position w.octets)) many ∙ ap (take (suc (w.end - (w.position + 1)))) ahead
    ∙ ap (λ n. n ∷ rest (past 1 w)) (sym value)

-- the number of octets of a range
length_range : (octets : List ℕ) (from to : ℕ) → from ≤ to → to ≤ length octets
    → length (slice_range octets from to) ≡ to - from
length_range octets from to ordered within = omega (arith, length-take {A = ℕ}, length-drop {A = ℕ})

-- a whole record at the front
pub whole_record : (w : Window) (n : ℕ) → 0 < left w → w.end ≤ length w.octets → n ≡ be (next 1 w) → n ≤ left (past 1 w)
    → next n (past 1 w) ++ rest (past n (past 1 w)) ≡ rest (past 1 w)
    → rest w ≡ length (rest (nested n (past 1 w))) ∷ rest (nested n (past 1 w)) ++ rest (past n (past 1 w))
whole_record w n some within value fits joined =
    let long : length (next n (past 1 w)) ≡ n =
    length_range w.octets (w.position + 1) (w.position + 1 + n) (omega arith) (omega arith) ∙ omega arith in
    first_octet w some within ∙ ap (λ k. k ∷ rest (past 1 w)) (sym (long ∙ value))
    ∙ ap (λ octets. length (next n (past 1 w)) ∷ octets) (sym joined)

-- no whole record
pub cut_record : (w : Window) (n : ℕ) → 0 < left w → w.end ≤ length w.octets → n ≡ be (next 1 w) → left (past 1 w) < n
    → IsCutRecord (rest w)
cut_record w n some within value short =
    let long : length (rest (past 1 w)) ≡ w.end - (w.position + 1) =
    length_range w.octets (w.position + 1) w.end (omega arith) within in
    let few : length (rest (past 1 w)) < be (next 1 w) = omega arith in
    subst IsCutRecord (sym (first_octet w some within)) few

not_within : (n m : ℕ) → (n ≤ m → ⊥) → m < n
not_within n m short = omega arith

-- what a call that reads a part says of the record at the front

-- the part that a call read is the record at the front, followed by what is left
pub whole_part : {T E : Type 0} (result : Result T E) (view : T → Window) (w after : Window) → w.end ≤ length w.octets
    → (IsOk result ↔ HasPart 1 w) → OnOk result (after ≡ past_part 1 w) → IfOk result (λ taken. view taken ≡ part 1 w)
    → ((w : Window) (n : ℕ) → n ≤ left w → next n w ++ rest (past n w) ≡ rest w)
    → IfOk result (λ taken. rest w ≡ length (rest (view taken)) ∷ rest (view taken) ++ rest after)
whole_part (Ok taken) view w after within variant moved is_part law =
    let has : HasPart 1 w = variant.0 refl in
    rw (is_part, moved)
    (whole_record w (part_length 1 w) has.0 within refl has.1 (law (past 1 w) (part_length 1 w) has.1))
whole_part (Err e) view w after within variant moved is_part law = tt

-- if a call reads no part though octets are left, they begin with no whole record
pub cut_part : {T E : Type 0} (result : Result T E) (w : Window) → w.end ≤ length w.octets → (IsOk result ↔ HasPart 1 w)
    → OnErr result (0 < left w → IsCutRecord (rest w))
cut_part (Ok taken) w within variant = tt
cut_part (Err e) w within variant = λ some.
    let short : part_length 1 w ≤ left (past 1 w) → ⊥ = λ fits. let none : false ≡ true = variant.1 (some, fits) in
    absurd (cc) in
    cut_record w (part_length 1 w) some within refl (not_within (part_length 1 w) (left (past 1 w)) short)

-- The input was read as far as this rest, and the output has a line for each part.
pub record IsReadTo (input rest output : List ℕ) : Type 0 where
  pub parts : List (List ℕ)
  pub whole : input ≡ records_of parts ++ rest
  pub lines : HasLines parts output

-- a line more
lines_more : (parts : List (List ℕ)) (lines part line : List ℕ) → HasLines parts lines → HasText part line
    → HasLines (parts ++ part ∷ []) (lines ++ (line ++ codes "\n"))
lines_more [] lines part line none has =
    (line, [], has, refl, ap (λ l. l ++ (line ++ codes "\n")) none ∙ sym (append-nil _))
lines_more (p ∷ parts) lines part line (first, more, h, hs, e) has = (
  first,
  more ++ (line ++ codes "\n"),
  h,
  lines_more parts more part line hs has,
  ap (λ l. l ++ (line ++ codes "\n")) e ∙ append_assoc (first ++ codes "\n") more (line ++ codes "\n"),
)

-- one more record
pub read_more : (input before after part line output made : List ℕ) → IsReadTo input before output
    → before ≡ length part ∷ part ++ after → HasText part line
    → made ≡ output ++ (line ++ codes "\n") → IsReadTo input after made
read_more input before after part line output made so_far front has e = record {
  parts = so_far.parts ++ part ∷ [];
  whole = rw (so_far.whole, front) (simp (flat_map-append, append_assoc, append-nil));
  lines = rw e (lines_more so_far.parts output part line so_far.lines has);
}
