-- Laws of codes, for callers who write and read formats of their own: for integers and parts, for one thing after
-- another, for fixed octets and octets of a known length, and for the windows that read them.
use Rattle.std.proofs.Common.{◌≡◌, ℕ, false, true, Ok, Err, refl, ◌+◌, ◌-◌, ◌^◌, ◌<◌, ◌≤◌, List}
use Rattle.std.proofs.Common.{◌++◌, length, take, drop, sym, ap, ◌∙◌, append_assoc, subst, arith}
use Rattle.std.proofs.Math.Seq.{take-append_seam, drop-append_seam, take-length}
use Rattle.std.proofs.lemmas.List.{length-append, length-take, length-drop}
use Rattle.octseq.specs.Code.{HasFront, IsCode}
use Rattle.octseq.specs.Integer.{be, octets_be, signed, unsigned, IsSigned}
use Rattle.octseq_core.specs.declared.builder.AsOctets.{Ghosts}
use Rattle.octseq.specs.Parser.{window, Takes}
use Rattle.octseq.specs.Part.{part_of}
use Rattle.octseq.specs.Window.{Window, left, rest, next, past, whole}
use Rattle.octseq.specs.declared.parse.Parser.{Parser}
use Rattle.octseq.proofs.Windows.{next_and_rest}
use Rattle.octseq.proofs.Written.{length_be, value_be, signed_unsigned}

-- ---- integers and parts

-- if equal lists have fronts of the same length, the fronts are equal, and so is what follows them
pub halves : (a b x y : List ℕ) → length a ≡ length b → a ++ x ≡ b ++ y → (a ≡ b) × (x ≡ y)
halves a b x y long e = (
  sym (take-append_seam a x) ∙ ap (λ n. take n (a ++ x)) long ∙ ap (take (length b)) e ∙ take-append_seam b y,
  sym (drop-append_seam a x) ∙ ap (λ n. drop n (a ++ x)) long ∙ ap (drop (length b)) e ∙ drop-append_seam b y,
)

-- k octets, big-endian, are a code of the integers that fit them
pub integer_code : (k : ℕ) → IsCode (λ n. n < 256 ^ k) (octets_be k)
integer_code k m n x y fits also e =
    let both = halves (octets_be k m) (octets_be k n) x y (length_be k m ∙ sym (length_be k n)) e in
    (sym (value_be k m fits) ∙ ap be both.0 ∙ value_be k n also, both.1)

-- k octets, big-endian, are a code of the signed integers that fit in them
pub signed_code : (k : ℕ) → IsCode (IsSigned k) (λ z. octets_be k (unsigned k z))
signed_code k z v x y fits also e =
    let here = signed_unsigned k z fits in
    let there = signed_unsigned k v also in
    let both = integer_code k (unsigned k z) (unsigned k v) x y here.0 there.0 e in
    (sym here.1 ∙ ap (signed k) both.0 ∙ there.1, both.1)

-- the length of a part is k plus the number of its own octets
pub length_part : (k : ℕ) (octets : List ℕ) → length (part_of k octets) ≡ k + length octets
length_part k octets =
    length-append (octets_be k (length octets)) octets ∙ ap (λ n. n + length octets) (length_be k (length octets))

-- parts are a code of the octets whose length fits in k octets
pub part_code : (k : ℕ) → IsCode (λ octets. length octets < 256 ^ k) (part_of k)
part_code k a b x y fits also e =
    let apart : octets_be k (length a) ++ (a ++ x) ≡ octets_be k (length b) ++ (b ++ y) =
    sym (append_assoc (octets_be k (length a)) a x) ∙ e ∙ append_assoc (octets_be k (length b)) b y in
    let both = integer_code k (length a) (length b) (a ++ x) (b ++ y) fits also apart in
    halves a b x y both.0 both.1

-- ---- one thing after another

same_pair : {A B : Type 0} (a c : A) (b d : B) → a ≡ c → b ≡ d → ◌≡◌ {A = A × B} (a, b) (c, d)
same_pair a c b d first second = ap (λ a. (a, b)) first ∙ ap (λ b. (c, b)) second

-- two codes, one after the other, are a code of pairs
pub pair_code : {A B : Type 0} (Fits : A → Type 0) (code : A → List ℕ) (Suits : B → Type 0) (spelling : B → List ℕ)
    → IsCode Fits code → IsCode Suits spelling
    → IsCode {A = A × B} (λ p. Fits p.0 × Suits p.1) (λ p. code p.0 ++ spelling p.1)
pair_code Fits code Suits spelling first second (a, b) (c, d) x y (fits, suits) (also, likewise) e =
    let apart : code a ++ (spelling b ++ x) ≡ code c ++ (spelling d ++ y) =
    sym (append_assoc (code a) (spelling b) x) ∙ e ∙ append_assoc (code c) (spelling d) y in
    let one = first a c (spelling b ++ x) (spelling d ++ y) fits also apart in
    let two = second b d x y suits likewise one.1 in
    (same_pair a c b d one.0 two.0, two.1)

-- both were read
pub pair_front : (whole between after first second : List ℕ) → whole ≡ first ++ between → between ≡ second ++ after
    → whole ≡ (first ++ second) ++ after
pair_front whole between after first second e f = e ∙ ap (λ x. first ++ x) f ∙ sym (append_assoc first second after)

-- the first one isn't there
pub no_first : {A B : Type 0} (Fits : A → Type 0) (code : A → List ℕ) (Suits : B → Type 0) (spelling : B
    → List ℕ) (octets : List ℕ) → ¬ HasFront Fits code octets
    → ¬ HasFront {A = A × B} (λ p. Fits p.0 × Suits p.1) (λ p. code p.0 ++ spelling p.1) octets
no_first Fits code Suits spelling octets none (p, more, fits, e) =
    none (p.0, spelling p.1 ++ more, fits.0, e ∙ append_assoc (code p.0) (spelling p.1) more)

-- the first one was read, and the second one doesn't follow it
pub no_second : {A B : Type 0} (Fits : A → Type 0) (code : A → List ℕ) (Suits : B → Type 0) (spelling : B
    → List ℕ) (octets after : List ℕ) (a : A) → IsCode Fits code → Fits a
    → octets ≡ code a ++ after → ¬ HasFront Suits spelling after
    → ¬ HasFront {A = A × B} (λ p. Fits p.0 × Suits p.1) (λ p. code p.0 ++ spelling p.1) octets
no_second Fits code Suits spelling octets after a reported fits read none (p, more, here, e) =
    let one = reported a p.0 after (spelling p.1 ++ more) fits here.0
    (sym read ∙ e ∙ append_assoc (code p.0) (spelling p.1) more) in
    none (p.1, more, here.1, one.1)

-- ---- windows

-- in a window of all the octets, all are left
pub rest_whole : (octets : List ℕ) → rest (whole octets) ≡ octets
rest_whole octets = let all : length octets - 0 ≡ length octets = omega arith in ap (λ n. take n octets) all
    ∙ take-length octets

-- the rest of a window is no longer than the number of octets that are left
pub length_rest : (w : Window) → length (rest w) ≤ left w
length_rest w = omega (arith, length-take {A = ℕ}, length-drop {A = ℕ})

-- what was taken was at the front
pub taken : (w v : Window) (n : ℕ) (octets : List ℕ) → (left w < n → ⊥) → v ≡ past n w → octets ≡ next n w
    → rest w ≡ octets ++ rest v
taken w v n octets enough moved e =
    sym (next_and_rest w n (omega (arith, enough))) ∙ ap (λ octets. octets ++ rest (past n w)) (sym e)
    ∙ ap (λ v. octets ++ rest v) (sym moved)

-- the same for a call that took its octets
pub took : {R T E : Type 0} {g : Ghosts R} {value : T} {n : ℕ} {p q : Parser R g} (octets : List ℕ)
    → Takes {E = E} (Ok value) n p q → octets ≡ next n (window p)
    → rest (window p) ≡ octets ++ rest (window q)
took {n = n} {p = p} {q = q} octets takes e =
    let room : n ≤ left (window p) = takes.variant.0 refl in
    taken (window p) (window q) n octets (λ less. omega arith) takes.ok e

-- and for one that was refused
pub not_taken : {R T E : Type 0} {g : Ghosts R} {e : E} {n : ℕ} {p q : Parser R g} → Takes {T = T} (Err e) n p q
    → n ≤ left (window p) → ⊥
not_taken takes room = let bad : false ≡ true = takes.variant.1 room in absurd (cc)

-- fewer octets are left than any thing that fits has, so none is there
pub too_few_fit : {A : Type 0} (Fits : A → Type 0) (code : A → List ℕ) (w : Window) (n : ℕ)
    → ((a : A) → Fits a → n ≤ length (code a)) → (n ≤ left w → ⊥)
    → ¬ HasFront Fits code (rest w)
too_few_fit Fits code w n least few (a, more, fits, e) =
    let all : length (rest w) ≡ length (code a) + length more = ap length e ∙ length-append (code a) more in
    let enough = least a fits in
    let left = length_rest w in
    few (omega arith)

-- fewer octets are left than any thing has, so none is there
pub too_few : {A : Type 0} (Fits : A → Type 0) (code : A → List ℕ) (w : Window) (n : ℕ)
    → ((a : A) → n ≤ length (code a)) → (n ≤ left w → ⊥) → ¬ HasFront Fits code (rest w)
too_few Fits code w n least few = too_few_fit Fits code w n (λ a _. least a) few

-- fewer than k octets are left, so there is no integer in k octets
pub no_integer : (w : Window) (k : ℕ) → (k ≤ left w → ⊥) → ¬ HasFront (λ n. n < 256 ^ k) (octets_be k) (rest w)
no_integer w k few = too_few (λ n. n < 256 ^ k) (octets_be k) w k (λ n. let all = length_be k n in omega arith) few

-- fewer than k octets are left, so there is no signed integer in k octets
pub no_signed : (w : Window) (k : ℕ) → (k ≤ left w → ⊥)
    → ¬ HasFront (IsSigned k) (λ z. octets_be k (unsigned k z)) (rest w)
no_signed w k few =
    too_few (IsSigned k) (λ z. octets_be k (unsigned k z)) w k (λ z. let all = length_be k (unsigned k z) in
    omega arith) few

-- a part was read
pub part_front : (octets between after value : List ℕ) (k n : ℕ) → octets ≡ octets_be k n ++ between
    → between ≡ value ++ after → length value ≡ n → octets ≡ part_of k value ++ after
part_front octets between after value k n e f long =
    pair_front octets between after (octets_be k (length value)) value
    (e ∙ ap (λ n. octets_be k n ++ between) (sym long)) f

-- no part: too few octets for its length
pub no_part_length : (w : Window) (k : ℕ) → (k ≤ left w → ⊥)
    → ¬ HasFront (λ octets. length octets < 256 ^ k) (part_of k) (rest w)
no_part_length w k few = too_few (λ octets. length octets < 256 ^ k) (part_of k) w k
    (λ octets. let all = length-append (octets_be k (length octets)) octets in let head = length_be k (length octets) in
    omega arith) few

-- no part: fewer octets than its length says
pub no_part_value : (octets : List ℕ) (w : Window) (k n : ℕ) → n < 256 ^ k → octets ≡ octets_be k n ++ rest w
    → left w < n
    → ¬ HasFront (λ octets. length octets < 256 ^ k) (part_of k) octets
no_part_value octets w k n fits read few (value, more, here, e) =
    let one = integer_code k n (length value) (rest w) (value ++ more) fits here
    (sym read ∙ e ∙ append_assoc (octets_be k (length value)) value more) in
    let same = one.0 in
    let all : length (rest w) ≡ length value + length more = ap length one.1 ∙ length-append value more in
    let left = length_rest w in
    absurd (omega arith)

-- ---- fixed octets, and octets of a known length

-- always the same octets, such as a magic number: the code of a type with one value
pub fixed_code : {A : Type 0} (Fits : A → Type 0) (octets : List ℕ) → ((a b : A) → a ≡ b) → IsCode Fits (λ _. octets)
fixed_code Fits octets one a b x y fits also e = (one a b, (halves octets octets x y refl e).1)

-- fewer octets are left than the fixed ones
pub no_fixed : {A : Type 0} (Fits : A → Type 0) (octets : List ℕ) (w : Window) (n : ℕ) → length octets ≡ n
    → (n ≤ left w → ⊥) → ¬ HasFront Fits (λ _. octets) (rest w)
no_fixed Fits octets w n long few = too_few Fits (λ _. octets) w n (λ _. omega arith) few

-- others were read in place of the fixed ones
pub no_fixed_value : {A : Type 0} (Fits : A → Type 0) (fixed octets found more : List ℕ) → octets ≡ found ++ more
    → length found ≡ length fixed → (found ≡ fixed → ⊥)
    → ¬ HasFront Fits (λ _. fixed) octets
no_fixed_value Fits fixed octets found more read long other (a, after, fits, e) =
    other (halves found fixed more after long (sym read ∙ e)).0

-- integers that fit in k octets are equal if their octets are
pub same_integer : (k m n : ℕ) → m < 256 ^ k → n < 256 ^ k → octets_be k m ≡ octets_be k n → m ≡ n
same_integer k m n fits also e = sym (value_be k m fits) ∙ ap be e ∙ value_be k n also

-- the fixed octets are those of an integer, and another integer was read in their place
pub no_fixed_integer : {A : Type 0} (Fits : A → Type 0) (k fixed n : ℕ) (octets more : List ℕ) → fixed < 256 ^ k
    → n < 256 ^ k → octets ≡ octets_be k n ++ more → (n ≡ fixed → ⊥)
    → ¬ HasFront Fits (λ _. octets_be k fixed) octets
no_fixed_integer Fits k fixed n octets more fits also read other =
    no_fixed_value Fits (octets_be k fixed) octets (octets_be k n) more read (length_be k n ∙ sym (length_be k fixed))
    (λ e. other (same_integer k n fixed also fits e))

-- a thing after fixed octets
pub marked_code : {A : Type 0} (Fits : A → Type 0) (code : A → List ℕ) (mark : List ℕ) → IsCode Fits code
    → IsCode Fits (λ a. mark ++ code a)
marked_code Fits code mark reported a b x y fits also e =
    let apart : mark ++ (code a ++ x) ≡ mark ++ (code b ++ y) = sym (append_assoc mark (code a) x) ∙ e
    ∙ append_assoc mark (code b) y in
    reported a b x y fits also (halves mark mark (code a ++ x) (code b ++ y) refl apart).1

-- the fixed octets aren't there
pub no_mark : {A : Type 0} (Fits : A → Type 0) (code : A → List ℕ) (mark octets : List ℕ)
    → ¬ HasFront {A = Unit {0}} (λ _. Unit {0}) (λ _. mark) octets
    → ¬ HasFront Fits (λ a. mark ++ code a) octets
no_mark Fits code mark octets none (a, more, fits, e) =
    none (tt, code a ++ more, tt, e ∙ append_assoc mark (code a) more)

-- the fixed octets were read, and the thing doesn't follow them
pub no_marked : {A : Type 0} (Fits : A → Type 0) (code : A → List ℕ) (mark octets after : List ℕ)
    → octets ≡ mark ++ after → ¬ HasFront Fits code after
    → ¬ HasFront Fits (λ a. mark ++ code a) octets
no_marked Fits code mark octets after read none (a, more, fits, e) =
    none (
      a,
      more,
      fits,
      (halves mark mark after (code a ++ more) refl (sym read ∙ e ∙ append_assoc mark (code a) more)).1,
    )

-- octets of a known length are their own code
pub octets_code : (n : ℕ) → IsCode {A = List ℕ} (λ octets. length octets ≡ n) (λ octets. octets)
octets_code n a b x y fits also e = halves a b x y (fits ∙ sym also) e

-- fewer octets are left than that length
pub no_octets : (w : Window) (n : ℕ) → (n ≤ left w → ⊥)
    → ¬ HasFront {A = List ℕ} (λ octets. length octets ≡ n) (λ octets. octets) (rest w)
no_octets w n few = too_few_fit {A = List ℕ} (λ octets. length octets ≡ n) (λ octets. octets) w n
    (λ octets fits. omega arith) few

-- ---- one thing after another that decides how it is written

-- what fits after the first thing, and how it is written, can depend on the first
pub chained_code : {A B : Type 0} (Fits : A → Type 0) (code : A → List ℕ) (Suits : A → B → Type 0) (spelling : A → B
    → List ℕ) → IsCode Fits code
    → ((a : A) → Fits a → IsCode (Suits a) (spelling a))
    → IsCode {A = A × B} (λ p. Fits p.0 × Suits p.0 p.1) (λ p. code p.0 ++ spelling p.0 p.1)
chained_code {A} {B} Fits code Suits spelling first second (a, b) (c, d) x y (fits, suits) (also, likewise) e =
    let apart : code a ++ (spelling a b ++ x) ≡ code c ++ (spelling c d ++ y) =
    sym (append_assoc (code a) (spelling a b) x) ∙ e ∙ append_assoc (code c) (spelling c d) y in
    let one : (a ≡ c) × (spelling a b ++ x ≡ spelling c d ++ y) =
    first a c (spelling a b ++ x) (spelling c d ++ y) fits also apart in
    let back : c ≡ a = sym one.0 in
    let there : spelling a b ++ x ≡ spelling a d ++ y = one.1 ∙ ap (λ c. spelling c d ++ y) back in
    let two : (b ≡ d) × (x ≡ y) = second a fits b d x y suits (subst (λ c. Suits c d) back likewise) there in
    (same_pair a c b d one.0 two.0, two.1)

-- the first one isn't there
pub no_chained_first : {A B : Type 0} (Fits : A → Type 0) (code : A → List ℕ) (Suits : A → B → Type 0) (spelling : A → B
    → List ℕ) (octets : List ℕ) → ¬ HasFront Fits code octets
    → ¬ HasFront {A = A × B} (λ p. Fits p.0 × Suits p.0 p.1) (λ p. code p.0 ++ spelling p.0 p.1) octets
no_chained_first Fits code Suits spelling octets none (p, more, fits, e) =
    none (p.0, spelling p.0 p.1 ++ more, fits.0, e ∙ append_assoc (code p.0) (spelling p.0 p.1) more)

-- the first one was read, and the second one, in the form that the first decides, doesn't follow it
pub no_chained_second : {A B : Type 0} (Fits : A → Type 0) (code : A → List ℕ) (Suits : A → B → Type 0) (spelling : A
    → B → List ℕ) (octets after : List ℕ) (a : A)
    → IsCode Fits code → Fits a → octets ≡ code a ++ after → ¬ HasFront (Suits a) (spelling a) after
    → ¬ HasFront {A = A × B} (λ p. Fits p.0 × Suits p.0 p.1) (λ p. code p.0 ++ spelling p.0 p.1) octets
no_chained_second Fits code Suits spelling octets after a reported fits read none (p, more, here, e) =
    let one : (a ≡ p.0) × (after ≡ spelling p.0 p.1 ++ more) =
    reported a p.0 after (spelling p.0 p.1 ++ more) fits here.0
    (sym read ∙ e ∙ append_assoc (code p.0) (spelling p.0 p.1) more) in
    let back : p.0 ≡ a = sym one.0 in
    none (p.1, more, subst (λ c. Suits c p.1) back here.1, one.1 ∙ ap (λ c. spelling c p.1 ++ more) back)

-- octets whose length was read before, wherever that was
pub counted_code : {A : Type 0} (Fits : A → Type 0) (code : A → List ℕ) (count : A → ℕ) → IsCode Fits code
    → IsCode {A = A × List ℕ} (λ p. Fits p.0 × (length p.1 ≡ count p.0)) (λ p. code p.0 ++ p.1)
counted_code Fits code count reported = chained_code Fits code (λ a octets. length octets ≡ count a)
    (λ _ octets. octets)
    reported (λ a _. octets_code (count a))

-- what gives their length isn't there
pub no_counted_first : {A : Type 0} (Fits : A → Type 0) (code : A → List ℕ) (count : A → ℕ) (octets : List ℕ)
    → ¬ HasFront Fits code octets
    → ¬ HasFront {A = A × List ℕ} (λ p. Fits p.0 × (length p.1 ≡ count p.0)) (λ p. code p.0 ++ p.1) octets
no_counted_first Fits code count octets none =
    no_chained_first Fits code (λ a octets. length octets ≡ count a) (λ _ octets. octets) octets none

-- it was read, and fewer octets are left after it than it says
pub no_counted_octets : {A : Type 0} (Fits : A → Type 0) (code : A → List ℕ) (count : A → ℕ) (octets : List ℕ)
    (w : Window) (a : A) → IsCode Fits code → Fits a → octets ≡ code a ++ rest w
    → left w < count a → ¬ HasFront {A = A × List ℕ} (λ p. Fits p.0 × (length p.1 ≡ count p.0)) (λ p. code p.0 ++ p.1)
    octets
no_counted_octets Fits code count octets w a reported fits read few =
    no_chained_second Fits code (λ a octets. length octets ≡ count a) (λ _ octets. octets) octets
    (rest w) a reported fits
    read (no_octets w (count a) (λ room. omega arith))
