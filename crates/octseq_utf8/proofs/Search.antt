-- Where the finder is, the cost of its turns, and what a search finds.
use Rattle.std.proofs.Common.{◌≡◌, ℕ, ◌+◌, ◌-◌, ◌*◌, ◌<◌, ◌≤◌, List, [], ◌∷◌, ◌++◌, map, length, take, drop, get_or}
use Rattle.std.proofs.Common.{refl, arith, inl, inr, ap, sym, ◌∙◌, subst, append_assoc, length-append, length-take}
use Rattle.std.proofs.Common.{length-drop, Option, Some, zero, suc, ◌⊎◌, cond, leb, ◌/◌, ◌%◌, None}
use Rattle.std.specs.Prelude.{unwrap_or, IsNone, IfNone, IfSome, ◌↔◌}
use Rattle.std.proofs.lemmas.List.{take-append-drop, take_all, take-take, length-map, append-nil}
use Rattle.std.proofs.lemmas.List.{drop-take, drop-drop, get_or-take, get_or-drop, take-append-le}
use Rattle.std.proofs.lemmas.List.Elements.{All-head, All-tail, All-nil, All-cons, All-get_or, All-take, All-drop}
use Rattle.std.proofs.lemmas.Simd.{length-chunk, get_or-chunk}
use Rattle.std.proofs.Math.Seq.{take-add, drop-cons, get_or-append_right}
use Rattle.std.specs.List.{All, concat, AllByRecursion}
use Rattle.octseq_utf8.specs.Encoding.{IsEncoding, row_00_7F, number_of, row_C2_DF, row_E0, row_E1_EC, row_ED}
use Rattle.octseq_utf8.specs.Encoding.{row_EE_EF, row_F0, row_F1_F3, row_F4}
use Rattle.octseq_utf8.specs.Fault.{Fault, IsFault, fault_end, fault_from}
use Rattle.octseq_utf8.specs.FirstPart.{IsAtFront}
use Rattle.octseq_utf8.specs.Search.{IsAt, IsFaultAt, high_count, IsSearching, FewTurns, IsFound, IsAfter}
use Rattle.octseq_utf8.specs.Text.{Spells, IsWellFormed, chars}
use Rattle.octseq_utf8.specs.declared.finder.FirstPart.{FirstPart}
use Rattle.octseq_utf8.specs.declared.finder.FirstPart.TheVariants.{Encoding, Bad}
use Rattle.octseq_utf8.proofs.Fits.{length_of}
use Rattle.octseq_utf8.proofs.Faults.{front_is, fault_refutes, rest_of}
use Rattle.octseq_utf8.proofs.Spelling.{chars_of, spells_nothing, spells_one, spells-append}
use Rattle.octseq_utf8.proofs.Splitting.{bad_some}
use Rattle.octseq_utf8.proofs.Texts.{well_formed-append, chars-append}
use Rattle.std.proofs.lemmas.Bool.Decides.{nat_tests}
use Rattle.std.proofs.lemmas.List.Sums.{sum_by-append, sum_by-cons}

-- the finder is at the front before its first turn
pub at_start : (x : List ℕ) (t : ℕ) → IsAt x 0 t t
at_start x t = record {
  characters = [];
  within = omega arith;
  spelled = spells_nothing;
  turns = omega arith;
  few = omega arith;
  passed = omega arith;
}

-- what is at a place, given what is at the front of a slice from there
pub at_place : (x : List ℕ) (place : ℕ) (front : FirstPart) → IsAtFront (take (length x - place) (drop place x)) front
    → IsAtFront (drop place x) front
at_place x place front h = subst (λ y. IsAtFront y front) (rest_of x place) h

-- an encoding at that place has at least one octet
pub front_some : (x : List ℕ) (place len : ℕ) → IsAtFront (take (length x - place) (drop place x)) (Encoding len)
    → 1 ≤ len
front_some x place len h = omega (arith, h.0, length_of h.1, length-take len (take (length x - place) (drop place x)))

-- more characters, in at most one turn each, where a turn passes at most sixteen octets
at_spelled : (x cs : List ℕ) (place old now n more : ℕ) → IsAt x place old now → place + n ≤ length x
    → Spells (take n (drop place x)) cs → more ≤ length cs → more ≤ n → n ≤ 16 * more
    → IsAt x (place + n) old (now + more)
at_spelled x cs place old now n more at room spelled some few passed = record {
  characters = at.characters ++ cs;
  within = room;
  spelled = rw (take-add place n x) (spells-append at.spelled spelled);
  turns = omega (arith, at.turns, length-append at.characters cs);
  few = omega (arith, at.few);
  passed = omega (arith, at.passed);
}

-- one more encoding
at_more : (x : List ℕ) (place old now len : ℕ) → IsAt x place old now → IsAtFront (drop place x) (Encoding len)
    → IsAt x (place + len) old (now + 1)
at_more x place old now len at (within, e) =
    let long : (1 ≤ len) × (len ≤ 4) = omega (arith, length_of e, length-take len (drop place x)) in
    at_spelled x _ place old now len 1 at (omega (arith, at.within, length-drop place x)) (spells_one e) (omega arith)
    long.0 (omega arith)

-- an encoding at the front of a word of four octets
word_front : (x four : List ℕ) (place len : ℕ) → place + 4 ≤ length x → four ≡ take 4 (drop place x) → len ≤ 4
    → IsEncoding (take len four) → IsAtFront (drop place x) (Encoding len)
word_front x four place len room same few e =
    (omega (arith, length-drop place x), subst IsEncoding (ap (take len) same ∙ take-take len 4 (drop place x) few) e)

-- an octet below 80
pub octet_front : (x : List ℕ) (place : ℕ) → place < length x → get_or x place 0 < 0x80
    → IsAtFront (drop place x) (Encoding 1)
octet_front x place lt low =
    (omega (arith, length-drop place x), rw (drop-cons x place 0 lt) (row_00_7F {a = get_or x place 0} (omega arith)))

-- octets that are all below 80 spell one character for each octet
spells_low : (x : List ℕ) → All (λ o. o < 0x80) x → Spells x (map (λ o. number_of (o ∷ [])) x)
spells_low [] low = spells_nothing
spells_low (a ∷ x) low =
    spells-append (spells_one (row_00_7F {a = a} (omega (arith, All-head (λ o. o < 0x80) a x low))))
    (spells_low x (All-tail (λ o. o < 0x80) a x low))

-- octets that are all below 80 are passed in at most one turn each, and at most sixteen of them in a turn
at_low : (x : List ℕ) (place old now n more : ℕ) → IsAt x place old now → place + n ≤ length x
    → All (λ o. o < 0x80) (take n (drop place x)) → more ≤ n → n ≤ 16 * more → IsAt x (place + n) old (now + more)
at_low x place old now n more at room low few passed =
    let octets : List ℕ = take n (drop place x) in
    at_spelled x _ place old now n more at room (spells_low octets low)
    (omega (arith, length-map octets (λ o. number_of (o ∷ [])), length-chunk place n x room)) few passed

-- a search that reaches the end has passed well-formed octets, with at most one turn for each character
at_end : (x : List ℕ) (place old now : ℕ) → IsAt x place old now → length x ≤ place
    → IsWellFormed x × (now ≤ old + length (chars x))
at_end x place old now at past =
    let s : Spells x at.characters = subst (λ z. Spells z at.characters) (take_all place x past) at.spelled in
    ((at.characters, s), rw (chars_of s) at.turns)

-- what is found after a place is found in the whole

-- if the octets from the finder's place on are well formed, so are all of them, and their characters join
well_formed_after : (x : List ℕ) (place old now : ℕ) → IsAt x place old now → IsWellFormed (drop place x)
    → IsWellFormed x × (chars x ≡ chars (take place x) ++ chars (drop place x))
well_formed_after x place old now at w =
    let before : IsWellFormed (take place x) = (at.characters, at.spelled) in
    let whole = take-append-drop place x in
    (subst IsWellFormed whole (well_formed-append _ _ before w), ap chars (sym whole) ∙ chars-append _ _ before w)

-- if the well-formed rest takes at most one turn for each character, so does the whole
turns_after : (x : List ℕ) (place old mid now : ℕ) → IsAt x place old mid → IsWellFormed (drop place x)
    → now ≤ mid + length (chars (drop place x)) → now ≤ old + length (chars x)
turns_after x place old mid now at w turns =
    omega (
      arith,
      at.turns,
      ap length ((well_formed_after x place old mid at w).1),
      ap length (chars_of at.spelled),
      length-append (chars (take place x)) (chars (drop place x)),
    )

-- the fault of the octets from the finder's place on is the fault of the whole, within the turns that the whole allows
pub fault_after : (x : List ℕ) (place old mid now : ℕ) (fault : Fault) → IsAt x place old mid
    → IsFault (drop place x) fault → now ≤ mid + length (chars (take fault.place (drop place x))) + 1
    → fault_end (drop place x) fault + 16 * mid ≤ 16 * now
    → IsFaultAt x old now (record { place = place + fault.place; size = fault.size })
fault_after x place old mid now fault at f turns passed =
    let before : IsWellFormed (take place x) = (at.characters, at.spelled) in
    let good : IsWellFormed (take fault.place (drop place x)) =
    subst IsWellFormed (sym (front_is (drop place x) fault f)) f.good in
    let cs : List ℕ = chars (take fault.place (drop place x)) in
    let spelled : chars (take (place + fault.place) x) ≡ at.characters ++ cs =
    ap chars (take-add place fault.place x) ∙ chars-append _ _ before good ∙ ap (λ y. y ++ cs) (chars_of at.spelled) in
    let left : length (drop place x) - fault.place ≡ length x - (place + fault.place) =
    omega (arith, length-drop place x) in
    record {
      is_fault = record {
        before = take place x ++ f.before;
        bad = f.bad;
        after = f.after;
        whole = sym (take-append-drop place x) ∙ ap (λ y. take place x ++ y) f.whole
            ∙ sym (append_assoc (take place x) f.before (f.bad ++ f.after));
        good = well_formed-append _ _ before f.good;
        first = f.first;
        place = omega (arith, f.place, at.within, length-take place x, length-append (take place x) f.before);
        size = f.size;
      };
      turns = rw spelled (omega (arith, at.turns, length-append at.characters cs));
      passed = omega (arith, at.passed, ap (unwrap_or fault.size) left);
    }

-- a bad part at the finder's place is the fault there, found in one more turn
pub fault_at : (x : List ℕ) (place old now : ℕ) (size : Option ℕ) → IsAt x place old now
    → IsAtFront (drop place x) (Bad size) → IsFaultAt x old (now + 1) (record { place = place; size = size })
fault_at x place old now size at front =
    let y : List ℕ = drop place x in
    let n : ℕ = unwrap_or size (length y) in
    let cut : take n y ++ drop n y ≡ y = take-append-drop n y in
    let same : place + 0 ≡ place = omega arith in
    let all : length y - 0 ≡ length y = omega arith in
    subst (λ k. IsFaultAt x old (now + 1) (record { place = k; size = size })) same
    (fault_after x place old now (now + 1) _ at (record {
      before = [];
      bad = take n y;
      after = drop n y;
      whole = sym cut;
      good = ([], spells_nothing);
      first = rw cut front.bad;
      place = refl;
      size = front.size;
    }) (omega arith) (omega (arith, front.few, ap (unwrap_or size) all)))

-- the number of octets that are 80 or more

high-append : (x y : List ℕ) → high_count (x ++ y) ≡ high_count x + high_count y
high-append x y = sum_by-append (λ o. cond (leb 0x80 o) 1 0) x y

high-cons : (a : ℕ) (y : List ℕ) → high_count (a ∷ y) ≡ cond (leb 0x80 a) 1 0 + high_count y
high-cons a y = sum_by-cons (λ o. cond (leb 0x80 o) 1 0) a y

-- an encoding is one octet below 80, or at least two octets of which the first two and the last are 80 or more
abbrev IsNarrow : List ℕ → Type 0
IsNarrow e = (length e ≡ 1) × (get_or e 0 0 < 0x80) × (high_count e ≡ 0)

abbrev IsWide : List ℕ → Type 0
IsWide e = (2 ≤ length e) × (2 ≤ high_count e) × (0x80 ≤ get_or e (length e - 1) 0)

narrow_or_wide : {e : List ℕ} → IsEncoding e → IsNarrow e ⊎ IsWide e
narrow_or_wide (row_00_7F {a} p) = inl (grind (arith, nat_tests, high-cons))
narrow_or_wide (row_C2_DF {a} {b} p q) = inr (grind (arith, nat_tests, high-cons))
narrow_or_wide (row_E0 {a} {b} {c} p q r) = inr (grind (arith, nat_tests, high-cons))
narrow_or_wide (row_E1_EC {a} {b} {c} p q r) = inr (grind (arith, nat_tests, high-cons))
narrow_or_wide (row_ED {a} {b} {c} p q r) = inr (grind (arith, nat_tests, high-cons))
narrow_or_wide (row_EE_EF {a} {b} {c} p q r) = inr (grind (arith, nat_tests, high-cons))
narrow_or_wide (row_F0 {a} {b} {c} {d} p q r s) = inr (grind (arith, nat_tests, high-cons))
narrow_or_wide (row_F1_F3 {a} {b} {c} {d} p q r s) = inr (grind (arith, nat_tests, high-cons))
narrow_or_wide (row_F4 {a} {b} {c} {d} p q r s) = inr (grind (arith, nat_tests, high-cons))

wide_of : {e : List ℕ} → IsEncoding e → 2 ≤ length e → IsWide e
wide_of {e} h some = let one = narrow_or_wide h in grind arith

-- so well-formed octets have either none of 80 or more, or at least two, and have no more characters than octets

encodings_high : (es : List (List ℕ)) → AllByRecursion IsEncoding es
    → ((high_count (concat es) ≡ 0) ⊎ (2 ≤ high_count (concat es))) × (length es ≤ length (concat es))
encodings_high [] h = (inl refl, omega arith)
encodings_high (e ∷ es) h =
    let one = narrow_or_wide h.0 in
    let rest = encodings_high es h.1 in
    grind (arith, high-append e (concat es), length-append e (concat es))

spelled_high : {x cs : List ℕ} → Spells x cs → (high_count x ≡ 0) ⊎ (2 ≤ high_count x)
spelled_high {x} {cs} s =
    subst (λ y. (high_count y ≡ 0) ⊎ (2 ≤ high_count y)) s.joined (encodings_high s.encodings s.each).0

-- octets spell no more characters than there are octets
pub spelled_few : {x cs : List ℕ} → Spells x cs → length cs ≤ length x
spelled_few {x} {cs} s =
    let few = (encodings_high s.encodings s.each).1 in
    omega (arith, ap length s.joined, ap length s.numbers, length-map s.encodings number_of)

-- if some octets are 80 or more, not all are below 80
some_high : (y : List ℕ) → 1 ≤ high_count y → ¬ All (λ o. o < 0x80) y
some_high [] h all = absurd (omega arith)
some_high (a ∷ y) h all =
    let low : a < 0x80 = All-head (λ o. o < 0x80) a y all in
    some_high y (grind (arith, nat_tests, high-cons a y)) (All-tail (λ o. o < 0x80) a y all)

pub search_start : (x : List ℕ) (t : ℕ) → IsSearching x 0 t t
search_start x t = record { at = at_start x t; lanes = λ all. omega arith; low = λ h. omega arith; most = omega arith }

high_add : (x : List ℕ) (place n : ℕ)
    → high_count (take (place + n) x) ≡ high_count (take place x) + high_count (take n (drop place x))
high_add x place n = ap high_count (take-add place n x) ∙ high-append (take place x) (take n (drop place x))

-- a search goes on from a place to another, in the turns from now to later
abbrev pub Step : List ℕ → ℕ → ℕ → ℕ → ℕ → Type 0
Step x place now further later = (old : ℕ) → IsSearching x place old now → IsSearching x further old later

-- What a loop passed, and how many turns it took.
pub record Passes (x : List ℕ) (from place old now : ℕ) : Type 0 where
  pub past : from ≤ place
  pub passed : Step x from old place now

pub passes_on : {x : List ℕ} {from place further old now later : ℕ} → Passes x from place old now → place ≤ further
    → Step x place now further later → Passes x from further old later
passes_on p le step = record { past = omega (arith, p.past); passed = λ start s. step start (p.passed start s) }

-- the same place and turns in other words
step_at : {x : List ℕ} {place now further other later then : ℕ} → Step x place now further later → further ≡ other
    → later ≡ then → Step x place now other then
step_at {x} {other = other} {later} step p n old s =
    subst (λ k. IsSearching x other old k) n (subst (λ k. IsSearching x k old later) p (step old s))

-- the first of some octets below 80
first_low : (x : List ℕ) (place n : ℕ) → 1 ≤ n → place + n ≤ length x → All (λ o. o < 0x80) (take n (drop place x))
    → get_or x place 0 < 0x80
first_low x place n some room low =
    let at : place + 0 ≡ place = omega arith in
    subst (λ o. o < 0x80) (get_or-chunk place n x 0 0 some ∙ ap (λ k. get_or x k 0) at)
    (All-get_or (λ o. o < 0x80) (take n (drop place x)) 0 0 (omega (arith, length-chunk place n x room)) low)

-- a lane of octets below 80
pub search_lane : (x : List ℕ) (place now : ℕ) → place + 16 ≤ length x → All (λ o. o < 0x80) (take 16 (drop place x))
    → Step x place now (place + 16) (now + 1)
search_lane x place now room low old s =
    let before = s.low (first_low x place 16 (omega arith) room low) in
    let high = high_add x place 16 in
    record {
      at = at_low x place old now 16 1 s.at room low (omega arith) (omega arith);
      lanes = λ all. let same = s.lanes all in omega arith;
      low = λ h. omega arith;
      most = omega arith;
    }

-- two lanes of octets below 80
pub search_lanes : (x : List ℕ) (place now : ℕ) → place + 32 ≤ length x → All (λ o. o < 0x80) (take 32 (drop place x))
    → Step x place now (place + 32) (now + 2)
search_lanes x place now room low =
    let first = subst (All (λ o. o < 0x80)) (take-take 16 32 (drop place x) (omega arith))
    (All-take (λ o. o < 0x80) 16 _ low) in
    let second = subst (All (λ o. o < 0x80)) (drop-take 16 16 (drop place x) ∙ ap (take 16) (drop-drop 16 place x))
    (All-drop (λ o. o < 0x80) 16 _ low) in
    step_at (λ old s. search_lane x (place + 16) (now + 1) (omega arith) second old
    (search_lane x place now (omega arith) first old s)) (omega arith) (omega arith)

-- octets below 80 before one of 80 or more, one turn each
pub search_jump : (x : List ℕ) (place now n : ℕ) → n < 16 → place + n < length x
    → All (λ o. o < 0x80) (take n (drop place x)) → 0x80 ≤ get_or x (place + n) 0
    → Step x place now (place + n) (now + n)
search_jump x place now zero few room low high = step_at (λ old s. s) (omega arith) (omega arith)
search_jump x place now (suc n) few room low high = λ old s.
    let before = s.low (first_low x place (suc n) (omega arith) (omega arith) low) in
    let more = high_add x place (suc n) in
    record {
      at = at_low x place old now (suc n) (suc n) s.at (omega arith) low (omega arith) (omega arith);
      lanes = λ all. let below = All-get_or (λ o. o < 0x80) x (place + suc n) 0 room all in absurd (omega arith);
      low = λ h. absurd (omega arith);
      most = omega arith;
    }

-- one octet below 80 before one of 80 or more
pub search_octet : (x : List ℕ) (place now : ℕ) → place + 1 < length x → get_or x place 0 < 0x80
    → 0x80 ≤ get_or x (place + 1) 0 → Step x place now (place + 1) (now + 1)
search_octet x place now room low high =
    search_jump x place now 1 (omega arith) room
    (rw (drop-cons x place 0 (omega arith)) (All-cons (λ o. o < 0x80) _ [] low (All-nil (λ o. o < 0x80)))) high

-- an encoding of at least two octets
pub search_encoding : (x : List ℕ) (place now len : ℕ) → 2 ≤ len → IsAtFront (drop place x) (Encoding len)
    → Step x place now (place + len) (now + 1)
search_encoding x place now len wide (within, e) old s =
    let before = s.most in
    let high = high_add x place len in
    let z : List ℕ = take len (drop place x) in
    let two = wide_of e (omega (arith, length-take len (drop place x))) in
    record {
      at = at_more x place old now len s.at (within, e);
      lanes = λ all. absurd (some_high z (omega arith) (All-take (λ o. o < 0x80) len _ (All-drop (λ o. o < 0x80) place x
          all)));
      low = λ h. omega arith;
      most = omega arith;
    }

-- an encoding of at least two octets, found in a word
pub search_word : (x four : List ℕ) (place now len : ℕ) → place + 4 ≤ length x → four ≡ take 4 (drop place x)
    → (2 ≤ len) × (len ≤ 4) → IsEncoding (take len four) → Step x place now (place + len) (now + 1)
search_word x four place now len room same long e =
    search_encoding x place now len long.0 (word_front x four place len room same long.1 e)

-- two encodings of two octets, found in one word
pub search_two_twos : (x four : List ℕ) (place now : ℕ) → place + 4 ≤ length x → four ≡ take 4 (drop place x)
    → IsEncoding (take 2 four) → IsEncoding (drop 2 four) → Step x place now (place + 4) (now + 1 + 1)
search_two_twos x four place now room same first second =
    let last : drop 2 four ≡ take 2 (drop (place + 2) x) =
    ap (drop 2) same ∙ drop-take 2 2 (drop place x) ∙ ap (take 2) (drop-drop 2 place x) in
    step_at (λ old s. search_encoding x (place + 2) (now + 1) 2 (omega arith)
    (omega (arith, length-drop (place + 2) x), subst IsEncoding last second) old
    (search_word x four place now 2 room same (omega arith, omega arith) first old s)) (omega arith) refl

-- the octet at a place is the first of those from there on
at_front : (x : List ℕ) (place : ℕ) → get_or (drop place x) 0 0 ≡ get_or x place 0
at_front x place = get_or-drop place x 0 0 ∙ ap (λ k. get_or x k 0) (let e : place + 0 ≡ place = omega arith in e)

-- an encoding whose first octet is 80 or more has at least two octets
pub front_wide : (x : List ℕ) (place len : ℕ) → 0x80 ≤ get_or x place 0 → IsAtFront (drop place x) (Encoding len)
    → 2 ≤ len
front_wide x place len first (within, e) =
    let one = narrow_or_wide e in
    grind (arith, length-take len (drop place x), length_of e, get_or-take len (drop place x) 0 0, at_front x place)

high_cut : (x : List ℕ) (place : ℕ) → high_count x ≡ high_count (take place x) + high_count (drop place x)
high_cut x place = ap high_count (sym (take-append-drop place x)) ∙ high-append (take place x) (drop place x)

-- a fault at a place with sixteen octets left
pub search_fault : (x : List ℕ) (place old now : ℕ) (size : Option ℕ) → IsSearching x place old now
    → place + 4 ≤ length x → IsAtFront (drop place x) (Bad size)
    → IsFound x old (now + 1) (record { place = place; size = size })
search_fault x place old now size s room front =
    let before = s.most in
    record { at = fault_at x place old now size s.at front; few = omega (arith, high_cut x place) }

-- octets that begin with one of 80 or more have at least one of 80 or more, and the encodings at their front two
first_high : (before rest : List ℕ) → 0x80 ≤ get_or (before ++ rest) 0 0
    → (1 ≤ high_count (before ++ rest)) × ((length before ≡ 0) ⊎ (1 ≤ high_count before))
first_high [] [] h = absurd (omega arith)
first_high [] (a ∷ rest) h = (grind (arith, nat_tests, high-cons a rest), inl refl)
first_high (a ∷ before) rest h =
    (grind (arith, nat_tests, high-cons a (before ++ rest)), inr (grind (arith, nat_tests, high-cons a before)))

-- if fewer than sixteen octets are left
module _ (x : List ℕ) (place old mid : ℕ) (s : IsSearching x place old mid) (last : length x - 15 ≤ place) where
  few_to_the_end : (now : ℕ) → IsWellFormed (drop place x) → now ≤ mid + length (chars (drop place x))
      → FewTurns x old now
  few_to_the_end now (cs, sp) turns =
      let within = s.at.within in
      let most = s.most in
      let low = s.low in
      let high = first_high (drop place x) [] in
      let two = spelled_high sp in
      grind (
        arith,
        length-drop place x,
        spelled_few sp,
        ap length (chars_of sp),
        high_cut x place,
        at_front x place,
        append-nil (drop place x),
      )

  few_to_a_fault : (now : ℕ) (fault : Fault) → IsFault (drop place x) fault
      → now ≤ mid + length (chars (take fault.place (drop place x))) + 1 → FewTurns x old now
  few_to_a_fault now fault f turns =
      let within = s.at.within in
      let most = s.most in
      let low = s.low in
      let rest : List ℕ = f.bad ++ f.after in
      let high = first_high f.before rest in
      let two = spelled_high f.good.1 in
      grind (
        arith,
        length-drop place x,
        spelled_few f.good.1,
        ap length (ap chars (front_is (drop place x) fault f) ∙ chars_of f.good.1),
        bad_some f.first,
        ap length f.whole,
        length-append f.before rest,
        length-append f.bad f.after,
        high_cut x place,
        at_front x place,
        ap (λ y. get_or y 0 0) f.whole,
        ap high_count f.whole,
        high-append f.before rest,
      )

-- A search that begins at a place, and what it shows about the whole.

drop_further : {x : List ℕ} {from place old now : ℕ} → IsAfter x from place old now
    → drop place x ≡ drop (place - from) (drop from x)
drop_further {x} {from} {place} b =
    let e : place ≡ from + (place - from) = omega (arith, b.past) in
    ap (λ k. drop k x) e ∙ sym (drop-drop (place - from) from x)

-- an encoding at the place of a search is passed in one turn
pub after_more : (x : List ℕ) (from place old now len : ℕ) → IsAfter x from place old now
    → IsAtFront (drop place x) (Encoding len) → IsAfter x from (place + len) old (now + 1)
after_more x from place old now len b front = record {
  past = omega (arith, b.past);
  at = subst (λ k. IsAt (drop from x) k old (now + 1))
      (let e : place - from + len ≡ place + len - from = omega (arith, b.past) in e)
      (at_more (drop from x) (place - from) old now len b.at (rw (drop_further b) at front));
}

-- the same, found in a word
pub after_word : (x four : List ℕ) (from place old now len : ℕ) → IsAfter x from place old now → place + 4 ≤ length x
    → four ≡ take 4 (drop place x) → len ≤ 4 → IsEncoding (take len four) → IsAfter x from (place + len) old (now + 1)
after_word x four from place old now len b room same few e =
    after_more x from place old now len b (word_front x four place len room same few e)

-- and so has one that began at a place
pub after_end : (x : List ℕ) (from place old now : ℕ) → IsAfter x from place old now → length x ≤ place
    → IsWellFormed (drop from x) × (now ≤ old + length (chars (drop from x)))
after_end x from place old now b past =
    at_end (drop from x) (place - from) old now b.at (omega (arith, length-drop from x))

-- a bad part at the place of a search is the fault of the octets that it searches, found in one more turn
pub after_fault : (x : List ℕ) (from place old now : ℕ) (size : Option ℕ) → IsAfter x from place old now
    → IsAtFront (drop place x) (Bad size)
    → IsFaultAt (drop from x) old (now + 1) (fault_from from (record { place = place; size = size }))
after_fault x from place old now size b front =
    fault_at (drop from x) (place - from) old now size b.at (rw (drop_further b) at front)

-- octets that are all below 80 are well formed, one character each
pub low_well_formed : (y : List ℕ) → All (λ o. o < 0x80) y → IsWellFormed y × (length (chars y) ≡ length y)
low_well_formed y low = (
  (map (λ o. number_of (o ∷ [])) y, spells_low y low),
  ap length (chars_of (spells_low y low)) ∙ length-map y (λ o. number_of (o ∷ [])),
)

-- What a search of all octets finds.
abbrev pub Finds : List ℕ → ℕ → ℕ → Option Fault → Type 0
Finds x old now r = (IsNone r ↔ IsWellFormed x) × IfSome r (IsFaultAt x old now)
    × IfNone r (now ≤ old + length (chars x)) × FewTurns x old now

-- a fault found is a fault
finds_fault : (x : List ℕ) (old now : ℕ) (fault : Fault) → IsFaultAt x old now fault → FewTurns x old now
    → Finds x old now (Some fault)
finds_fault x old now fault f few = ((λ h. absurd (cc), λ w. absurd (fault_refutes f.is_fault w)), f, tt, few)

-- and what a search of the octets from a place on shows
pub tail : (x : List ℕ) (place old mid now : ℕ) (r : Option Fault) → IsSearching x place old mid
    → length x - 15 ≤ place → IsNone r ↔ IsWellFormed (drop place x) → IfSome r (λ fault. place ≤ fault.place)
    → IfSome r (λ fault. IsFault (drop place x) (fault_from place fault))
    → IfNone r (now ≤ mid + length (chars (drop place x)))
    → IfSome r (λ fault. now ≤ mid + length (chars (take (fault.place - place) (drop place x))) + 1)
    → IfSome r (λ fault. fault_end (drop place x) (fault_from place fault) + 16 * mid ≤ 16 * now) → Finds x old now r
tail x place old mid now None s last none past f turns turns_to passed =
    let good = none.0 refl in (
      (λ h. (well_formed_after x place old mid s.at good).0, λ w. refl),
      past,
      turns_after x place old mid now s.at good turns,
      few_to_the_end x place old mid s last now good turns,
    )
tail x place old mid now (Some fault) s last none past f turns turns_to passed =
    let same : place + (fault.place - place) ≡ fault.place = omega arith in
    finds_fault x old now fault
    (subst (λ k. IsFaultAt x old now (record { place = k; size = fault.size })) same
    (fault_after x place old mid now (fault_from place fault) s.at f turns_to passed))
    (few_to_a_fault x place old mid s last now (fault_from place fault) f turns_to)

-- the turns of octets that are all below 80
pub ascii_turns : (x : List ℕ) (place old mid now : ℕ) → IsSearching x place old mid → length x - 15 ≤ place
    → now ≤ mid + length (drop place x) → All (λ o. o < 0x80) x → now ≤ old + length x / 16 + length x % 16
ascii_turns x place old mid now s last more low =
    let lanes = s.lanes low in
    let within = s.at.within in
    let left = length-drop place x in
    omega arith

-- an encoding at the front of a word that has zeros after the octets includes none of the zeros
pub last_front : (x four : List ℕ) (place len : ℕ) → place < length x → four ≡ take 4 (drop place x ++ 0 ∷ 0 ∷ 0 ∷ [])
    → 2 ≤ len → len ≤ 3 → IsEncoding (take len four) → IsAtFront (drop place x) (Encoding len)
last_front x four place len room same some few e =
    let y : List ℕ = drop place x in
    let front = subst IsEncoding (ap (take len) same ∙ take-take len 4 (y ++ 0 ∷ 0 ∷ 0 ∷ []) (omega arith)) e in
    let long : length (take len (y ++ 0 ∷ 0 ∷ 0 ∷ [])) ≡ len =
    length-take len _ ∙ omega (arith, length-append y (0 ∷ 0 ∷ 0 ∷ []), length-drop place x) in
    let within : len ≤ length y = grind (
      arith,
      wide_of front (omega arith),
      get_or-take len (y ++ 0 ∷ 0 ∷ 0 ∷ []) (len - 1) 0 (omega arith),
      after_zeros y (len - 1),
    ) in
    (within, subst IsEncoding (take-append-le len y _ within) front)
  where
    zeros : (i : ℕ) → get_or {A = ℕ} (0 ∷ 0 ∷ 0 ∷ []) i 0 ≡ 0
    zeros zero = refl
    zeros (suc zero) = refl
    zeros (suc (suc zero)) = refl
    zeros (suc (suc (suc i))) = refl

    after_zeros : (y : List ℕ) (i : ℕ) → length y ≤ i → get_or (y ++ 0 ∷ 0 ∷ 0 ∷ []) i 0 ≡ 0
    after_zeros y i le = get_or-append_right y _ i 0 le ∙ zeros (i - length y)
