-- The settled parts of octets: those that stay whatever follows.
use Rattle.std.proofs.Common.{◌≡◌, ◌≢◌, ℕ, ◌≤◌, List, [], ◌∷◌, ◌++◌, map, length, refl, arith, ◌⊎◌}
use Rattle.std.proofs.Common.{inl, inr, ⊎_elim, ap, sym, ◌∙◌, subst, append_assoc, length-append}
use Rattle.std.proofs.lemmas.Grind.{flat_map-append}
use Rattle.std.proofs.lemmas.List.{append-nil}
use Rattle.octseq_utf8.specs.Encoding.{IsEncoding, number_of}
use Rattle.octseq_utf8.specs.Parts.{IsBeginning, IsBadPart, Part, Char, Bad, Splits, nothing, encoding, bad_part, text}
use Rattle.octseq_text.specs.Pieces.{Settles, open_end, no_end}
use Rattle.octseq_utf8.specs.Reading.{parts_of}
use Rattle.octseq_text.specs.Progress.{ReadsParts, IsOpenEnd}
use Rattle.octseq_utf8.specs.Text.{Spells}
use Rattle.octseq_text.proofs.BadParts.{bad_more, parts_self}
use Rattle.octseq_utf8.proofs.Joins.{parts_front, parts_spelled, text_spelled}
use Rattle.octseq_utf8.proofs.Splitting.{parts_nil, parts_encoding, parts_bad, splits, only_parts, one_splitting}

-- what was read, whatever follows

-- if no part is read, all octets are left
pub reads_none : (x : List ℕ) → ReadsParts x x []
reads_none x = record { whatever = λ r. refl }

-- octets that follow change no part that was read, and are left after the rest
pub reads_more : (x z y : List ℕ) (ps : List Part) → ReadsParts x z ps → ReadsParts (x ++ y) (z ++ y) ps
reads_more x z y ps s =
    record {
      whatever = λ r. ap parts_of (append_assoc x y r) ∙ s.whatever (y ++ r)
          ∙ ap (λ w. ps ++ parts_of w) (sym (append_assoc z y r));
    }

-- parts read from octets, followed by parts read from the rest, are all read from the octets
pub reads_then : (x y z : List ℕ) (ps qs : List Part) → ReadsParts x y ps → ReadsParts y z qs
    → ReadsParts x z (ps ++ qs)
reads_then x y z ps qs s t =
    record {
      whatever = λ r. s.whatever r ∙ ap (λ us. ps ++ us) (t.whatever r)
          ∙ sym (append_assoc ps qs (parts_of (z ++ r)));
    }

-- well-formed octets at the front are read as their characters
pub reads_good : {g cs : List ℕ} → (z : List ℕ) → Spells g cs → ReadsParts (g ++ z) z (map Char cs)
reads_good {g} {cs} z s = record { whatever = λ r. ap parts_of (append_assoc g z r) ∙ parts_front s (z ++ r) }

-- a bad part at the front is read, unless it is a beginning that reaches the end
pub reads_bad : (p s : List ℕ) → IsBadPart (p ++ s) p → ¬ (IsBeginning p × (s ≡ []))
    → ReadsParts (p ++ s) s (Bad p ∷ [])
reads_bad p s b n =
    record { whatever = λ r. ap parts_of (append_assoc p s r) ∙ parts_bad p (s ++ r) (bad_more p s r b n) }

reads_encoding : {e : List ℕ} → IsEncoding e → (s : List ℕ) → ReadsParts (e ++ s) s (Char (number_of e) ∷ [])
reads_encoding {e} p s = record { whatever = λ r. ap parts_of (append_assoc e s r) ∙ parts_encoding p (s ++ r) }

-- lists of parts and their last one

pub nil_from_splits : {x : List ℕ} {parts : List Part} → Splits x parts → parts ≡ [] → x ≡ []
nil_from_splits nothing e = refl
nil_from_splits (encoding p s) e = absurd (cc)
nil_from_splits (bad_part b s) e = absurd (cc)

nil_splits : {x : List ℕ} {parts : List Part} → Splits x parts → x ≡ [] → parts ≡ []
nil_splits {x} {parts} s e = only_parts s ∙ ap parts_of e ∙ parts_nil

-- a list with a last element isn't empty
pub snoc_some : {A : Type 0} (xs : List A) (a : A) → xs ++ a ∷ [] ≡ [] → ⊥
snoc_some [] a h = cc
snoc_some (b ∷ xs) a h = cc

-- and has one front, and one last element
pub snoc_same : {A : Type 0} (xs ys : List A) (a b : A) → xs ++ a ∷ [] ≡ ys ++ b ∷ [] → (xs ≡ ys) × (a ≡ b)
snoc_same [] [] a b h = (refl, cc)
snoc_same [] (c ∷ ys) a b h = absurd (snoc_some ys b (cc))
snoc_same (c ∷ xs) [] a b h = absurd (snoc_some xs a (cc))
snoc_same (c ∷ xs) (d ∷ ys) a b h = let same = snoc_same xs ys a b (cc) in let rest = same.0 in (cc, same.1)

none_or_last : (ps : List Part) → (ps ≡ []) ⊎ ((front : List Part) × (last : Part) × (ps ≡ front ++ last ∷ []))
none_or_last [] = inl refl
none_or_last (a ∷ ps) =
    inr (⊎_elim (λ e. ([], a, ap (λ y. a ∷ y) e)) (λ h. (a ∷ h.0, h.1, ap (λ y. a ∷ y) h.2)) (none_or_last ps))

-- what settles is read, and the open end is left

reads_open : {x : List ℕ} {parts : List Part} → Splits x parts → (settled : List Part) (q : List ℕ) → IsBeginning q
    → parts ≡ settled ++ Bad q ∷ [] → ReadsParts x q settled
reads_open nothing settled q b h = absurd (snoc_some settled (Bad q) (sym h))
reads_open (encoding {e} {rest = r} {parts = parts} p s) [] q b h = absurd (cc)
reads_open (encoding {e} {rest = r} {parts = parts} p s) (a ∷ settled) q b h =
    let first : Char (number_of e) ≡ a = cc in
    let rest : parts ≡ settled ++ Bad q ∷ [] = cc in
    subst (λ a. ReadsParts (e ++ r) q (a ∷ settled)) first
    (reads_then (e ++ r) r q (Char (number_of e) ∷ []) settled (reads_encoding p r) (reads_open s settled q b rest))
reads_open (bad_part {bad = p} {rest = r} {parts = parts} k s) [] q b h =
    let same : p ≡ q = cc in
    let none : parts ≡ [] = cc in
    subst (λ y. ReadsParts y q []) (sym (ap (λ z. p ++ z) (nil_from_splits s none) ∙ append-nil p ∙ same))
    (reads_none q)
reads_open (bad_part {bad = p} {rest = r} {parts = parts} k s) (a ∷ settled) q b h =
    let first : Bad p ≡ a = cc in
    let rest : parts ≡ settled ++ Bad q ∷ [] = cc in
    let after : ¬ (IsBeginning p × (r ≡ [])) = λ z. snoc_some settled (Bad q) (sym rest ∙ nil_splits s z.1) in
    subst (λ a. ReadsParts (p ++ r) q (a ∷ settled)) first
    (reads_then (p ++ r) r q (Bad p ∷ []) settled (reads_bad p r k after) (reads_open s settled q b rest))

reads_closed : {x : List ℕ} {parts : List Part} → Splits x parts
    → ((front : List Part) (q : List ℕ) → parts ≡ front ++ Bad q ∷ [] → ¬ IsBeginning q) → ReadsParts x [] parts
reads_closed nothing h = reads_none []
reads_closed (encoding {e} {rest = r} {parts = parts} p s) h =
    reads_then (e ++ r) r [] (Char (number_of e) ∷ []) parts (reads_encoding p r)
    (reads_closed s (λ front q k. h (Char (number_of e) ∷ front) q (ap (λ ps. Char (number_of e) ∷ ps) k)))
reads_closed (bad_part {bad = p} {rest = r} {parts = parts} b s) h =
    let after : ¬ (IsBeginning p × (r ≡ [])) = λ k. h [] p (ap (λ ps. Bad p ∷ ps) (nil_splits s k.1)) k.0 in
    reads_then (p ++ r) r [] (Bad p ∷ []) parts (reads_bad p r b after)
    (reads_closed s (λ front q k. h (Bad p ∷ front) q (ap (λ ps. Bad p ∷ ps) k)))

-- the settled parts of octets are read, and their open end is left
pub settles_reads : {x q : List ℕ} {settled : List Part} → Settles x settled q → ReadsParts x q settled
settles_reads (open_end {end = q} {settled = settled} s b) = reads_open s settled q b refl
settles_reads (no_end s h) = reads_closed s h

-- an open end is empty or a beginning
pub settles_end : {x q : List ℕ} {settled : List Part} → Settles x settled q → IsOpenEnd q
settles_end (open_end s b) n = b
settles_end (no_end s h) n = absurd (n refl)

-- octets settle in exactly one way

-- octets have only one list of settled parts, and one open end
pub one_settling : {x q r : List ℕ} {settled others : List Part} → Settles x settled q → Settles x others r
    → (settled ≡ others) × (q ≡ r)
one_settling (open_end {end = q} {settled = settled} s b) (open_end {end = r} {settled = others} t c) =
    let same = snoc_same settled others (Bad q) (Bad r) (one_splitting s t) in
    let last : Bad q ≡ Bad r = same.1 in
    (same.0, cc)
one_settling (open_end {end = q} {settled = settled} s b) (no_end t n) = absurd (n settled q (one_splitting t s) b)
one_settling (no_end s n) (open_end {end = r} {settled = others} t c) = absurd (n others r (one_splitting s t) c)
one_settling (no_end s n) (no_end t m) = (one_splitting s t, refl)

-- what is settled is a front of all parts
pub settled_front : {x q : List ℕ} {settled parts : List Part} → Settles x settled q → Splits x parts
    → (others : List Part) × (parts ≡ settled ++ others)
settled_front (open_end {end = q} s b) t = (Bad q ∷ [], one_splitting t s)
settled_front (no_end {parts = settled} s n) t = ([], one_splitting t s ∙ sym (append-nil settled))

-- a last part that is bad is its own bad part
last_bad : {x : List ℕ} {parts : List Part} → Splits x parts → (front : List Part) (q : List ℕ)
    → parts ≡ front ++ Bad q ∷ [] → IsBadPart (q ++ []) q
last_bad nothing front q h = absurd (snoc_some front (Bad q) (sym h))
last_bad (encoding p s) [] q h = absurd (cc)
last_bad (encoding {parts = parts} p s) (a ∷ front) q h = let rest : parts ≡ front ++ Bad q ∷ [] =
    cc in last_bad s front q rest
last_bad (bad_part {bad = p} {rest = r} {parts = parts} b s) [] q h =
    let same : p ≡ q = cc in
    let none : parts ≡ [] = cc in
    subst (λ y. IsBadPart (y ++ []) y) same (subst (λ y. IsBadPart (p ++ y) p) (nil_from_splits s none) b)
last_bad (bad_part {parts = parts} b s) (a ∷ front) q h = let rest : parts ≡ front ++ Bad q ∷ [] =
    cc in last_bad s front q rest

char_not_bad : (c : ℕ) (q : List ℕ) → Char c ≢ Bad q
char_not_bad c q h = cc

settling_by : (x : List ℕ) (parts : List Part) → Splits x parts
    → (parts ≡ []) ⊎ ((front : List Part) × (last : Part) × (parts ≡ front ++ last ∷ []))
    → (settled : List Part) × (end : List ℕ) × Settles x settled end
settling_by x parts s (inl none) = (parts, [], no_end s (λ front q e b. snoc_some front (Bad q) (sym e ∙ none)))
settling_by x parts s (inr (front, Char c, same)) =
    (parts, [], no_end s (λ other q e b. char_not_bad c q (snoc_same front other (Char c) (Bad q) (sym same ∙ e)).1))
settling_by x parts s (inr (front, Bad q, same)) =
    ⊎_elim (λ g. (front, q, open_end (subst (Splits x) same s) g.0))
    (λ g. (
      parts,
      [],
      no_end s (λ other r e b.
          let last : Bad q ≡ Bad r = (snoc_same front other (Bad q) (Bad r) (sym same ∙ e)).1 in
          let one : q ≡ r = cc in
          g.1 q ([], refl) (subst IsBeginning (sym one) b)),
    ))
    (last_bad s front q same).longest

-- any octets have settled parts and an open end, which may be empty
pub settling : (x : List ℕ) → (settled : List Part) × (end : List ℕ) × Settles x settled end
settling x = settling_by x (parts_of x) (splits x) (none_or_last (parts_of x))

-- everything that was read except for an open end is settled

parts_one : {e : List ℕ} → IsEncoding e → parts_of e ≡ Char (number_of e) ∷ []
parts_one {e} p = ap parts_of (sym (append-nil e)) ∙ parts_encoding p [] ∙ ap (λ ps. Char (number_of e) ∷ ps) parts_nil

same_next : (front rest : List Part) (a b : Part) → (front ++ a ∷ []) ++ rest ≡ front ++ b ∷ [] → a ≡ b
same_next [] rest a b h = cc
same_next (c ∷ front) rest a b h = let k : (front ++ a ∷ []) ++ rest ≡ front ++ b ∷ [] =
    cc in same_next front rest a b k

-- if all parts were read, the last one is not a beginning
read_closed : {x : List ℕ} {ps : List Part} → Splits x ps → ReadsParts x [] ps → (front : List Part) (q : List ℕ)
    → ps ≡ front ++ Bad q ∷ [] → ¬ IsBeginning q
read_closed {x} {ps} s t front q e b =
    let left : ReadsParts x q front = reads_open s front q b e in
    char_not_bad (number_of (q ++ b.more)) q
    (sym (same_next front (parts_of b.more) (Bad q) (Char (number_of (q ++ b.more)))
    (ap (λ y. y ++ parts_of b.more) (sym e) ∙ sym (t.whatever b.more) ∙ left.whatever b.more
    ∙ ap (λ y. front ++ y) (parts_one b.encoding))))

-- parts that were read are the settled ones, if what is left is empty or a beginning
pub reads_settles : (x q : List ℕ) (ps : List Part) → ReadsParts x q ps → IsOpenEnd q → Settles x ps q
reads_settles x [] ps t h =
    let all : parts_of x ≡ ps = ap parts_of (sym (append-nil x)) ∙ t.whatever [] ∙ ap (λ y. ps ++ y) parts_nil
    ∙ append-nil ps in
    let s : Splits x ps = subst (Splits x) all (splits x) in
    no_end s (read_closed s t)
reads_settles x (o ∷ q) ps t h =
    let b : IsBeginning (o ∷ q) = h (λ e. let long = ap length e in absurd (omega arith)) in
    let all : parts_of x ≡ ps ++ Bad (o ∷ q) ∷ [] = ap parts_of (sym (append-nil x)) ∙ t.whatever []
    ∙ ap (λ y. ps ++ y) (ap parts_of (append-nil (o ∷ q)) ∙ parts_self (o ∷ q) b) in
    open_end (subst (Splits x) all (splits x)) b

-- and whatever was read is a front of what settles

-- two lists that differ after a common front
front_of : (l ps u v : List Part) (a b : Part) → a ≢ b → l ++ a ∷ [] ≡ ps ++ u → l ++ b ∷ [] ≡ ps ++ v
    → (w : List Part) × (l ≡ ps ++ w)
front_of l [] u v a b n h k = (l, refl)
front_of [] (c ∷ ps) u v a b n h k = let p : a ≡ c = cc in let q : b ≡ c = cc in absurd (n (p ∙ sym q))
front_of (d ∷ l) (c ∷ ps) u v a b n h k =
    let p : d ≡ c = cc in
    let h' : l ++ a ∷ [] ≡ ps ++ u = cc in
    let k' : l ++ b ∷ [] ≡ ps ++ v = cc in
    let rest = front_of l ps u v a b n h' k' in
    (rest.0, ap (λ y. y ∷ l) p ∙ ap (λ y. c ∷ y) rest.1)

reads_front : (x z q : List ℕ) (ps settled : List Part) → ReadsParts x z ps → ReadsParts x q settled → IsOpenEnd q
    → (w : List Part) × (settled ≡ ps ++ w)
reads_front x z [] ps settled s t h = (
  parts_of (z ++ []),
  sym (append-nil settled) ∙ ap (λ y. settled ++ y) (sym parts_nil) ∙ sym (t.whatever [])
      ∙ s.whatever [],
)
reads_front x z (o ∷ q) ps settled s t h =
    let b : IsBeginning (o ∷ q) = h (λ e. let long = ap length e in absurd (omega arith)) in
    let bad : settled ++ Bad (o ∷ q) ∷ [] ≡ ps ++ parts_of (z ++ []) =
    ap (λ y. settled ++ y) (sym (ap parts_of (append-nil (o ∷ q)) ∙ parts_self (o ∷ q) b)) ∙ sym (t.whatever [])
    ∙ s.whatever [] in
    let whole : settled ++ Char (number_of ((o ∷ q) ++ b.more)) ∷ [] ≡ ps ++ parts_of (z ++ b.more) =
    ap (λ y. settled ++ y) (sym (parts_one b.encoding)) ∙ sym (t.whatever b.more) ∙ s.whatever b.more in
    front_of settled ps (parts_of (z ++ [])) (parts_of (z ++ b.more)) (Bad (o ∷ q))
    (Char (number_of ((o ∷ q) ++ b.more)))
    (λ e. char_not_bad (number_of ((o ∷ q) ++ b.more)) (o ∷ q) (sym e)) bad whole

-- the text of what was read

-- the text of parts followed by others is the text of the first followed by the text of the others
pub text-append : (ps qs : List Part) → text (ps ++ qs) ≡ text ps ++ text qs
text-append ps qs = flat_map-append _ ps qs

-- the text of the characters of well-formed octets is those octets
pub text-chars : {g cs : List ℕ} → Spells g cs → text (map Char cs) ≡ g
text-chars s = ap text (sym (parts_spelled s)) ∙ text_spelled 0xFFFD s

-- the text of parts that were read is no longer than the text of the settled parts
pub text_read : (x z q : List ℕ) (ps settled : List Part) → ReadsParts x z ps → Settles x settled q
    → length (text ps) ≤ length (text settled)
text_read x z q ps settled s t =
    let front = reads_front x z q ps settled s (settles_reads t) (settles_end t) in
    let long : length (text settled) ≡ length (text ps ++ text front.0) =
    ap length (ap text front.1 ∙ text-append ps front.0) in
    omega (arith, length-append (text ps) (text front.0))
