-- Base 64 text, digit by digit: what follows what was read, and what can't.
use Rattle.std.proofs.Common.{◌≡◌, ◌≢◌, ℕ, ◌+◌, ◌*◌, ◌/◌, ◌%◌, ◌<◌, ◌⊎◌, inl, inr, List, []}
use Rattle.std.proofs.Common.{◌∷◌, ◌++◌, length, map, take}
use Rattle.std.proofs.Common.{drop, get_or, refl, sym, ap, ◌∙◌, subst, append_assoc, length-append, arith}
use Rattle.std.proofs.lemmas.List.{append-nil}
use Rattle.std.specs.List.{AllByRecursion}
use Rattle.octseq.proofs.WrittenBack.{AreOctets}
use Rattle.octseq_dns_scan.specs.Base64.{base64_digit, base64_text, IsBase64Text}
use Rattle.octseq_dns_scan.specs.Base64Place.{AreGroupsOfThree, EndsAtDigit, bits_end}
use Rattle.octseq_dns_scan.specs.TextReader.{NoText}
use Rattle.octseq_dns_scan.specs.declared.base64.Place.{Place}
use Rattle.octseq_dns_scan.specs.declared.base64.Place.TheVariants.{Whole, One, Two, Three, Mark, End}
use Rattle.octseq_dns_scan.proofs.Base64Texts.{digit_64, no_mark}

-- the digit at a place of a text
abbrev at : ℕ → List ℕ → ℕ
at place text = get_or text place 0

-- ---- whole groups, and what follows them

groups_then : (front rest : List ℕ) → AreGroupsOfThree front → base64_text (front ++ rest) ≡ base64_text front
    ++ base64_text rest
groups_then [] rest are = refl
groups_then (a ∷ []) rest are = absurd (omega (arith, are))
groups_then (a ∷ b ∷ []) rest are = absurd (omega (arith, are))
groups_then (a ∷ b ∷ c ∷ front) rest are =
    let whole : AreGroupsOfThree front = omega (arith, are) in
    ap (λ t. map base64_digit (a / 4 ∷ (a % 4 * 16 + b / 16) ∷ (b % 16 * 4 + c / 64) ∷ c % 64 ∷ []) ++ t)
    (groups_then front rest whole)

-- a text that begins with that of whole groups goes on with a text
groups_before : (front rest all : List ℕ) → AreGroupsOfThree front → AreOctets all → base64_text all ≡ base64_text front
    ++ rest
    → (later : List ℕ) × AreOctets later × (base64_text later ≡ rest)
groups_before [] rest all are each is = (all, each, is)
groups_before (a ∷ []) rest all are each is = absurd (omega (arith, are))
groups_before (a ∷ b ∷ []) rest all are each is = absurd (omega (arith, are))
groups_before (a ∷ b ∷ c ∷ front) rest [] are each is = absurd (cc)
groups_before (a ∷ b ∷ c ∷ front) rest (x ∷ []) are each is =
    absurd (no_mark (c % 64) (omega arith) (sym (ap (at 3) is)))
groups_before (a ∷ b ∷ c ∷ front) rest (x ∷ y ∷ []) are each is =
    absurd (no_mark (c % 64) (omega arith) (sym (ap (at 3) is)))
groups_before (a ∷ b ∷ c ∷ front) rest (x ∷ y ∷ z ∷ all) are each is =
    groups_before front rest all (omega (arith, are)) each.1.1.1 (ap (drop 4) is)

-- nothing follows a text with `=`
none_after : (octets all : List ℕ) (c : ℕ) (more : List ℕ) → length octets % 3 ≢ 0 → AreOctets octets → AreOctets all
    → base64_text all ≡ base64_text octets ++ c ∷ more → ⊥
none_after [] all c more odd are each is = odd refl
none_after (a ∷ []) [] c more odd are each is = absurd (cc)
none_after (a ∷ []) (x ∷ []) c more odd are each is = absurd (omega (arith, ap length is))
none_after (a ∷ []) (x ∷ y ∷ []) c more odd are each is =
    no_mark (y % 16 * 4 + 0) (omega arith) (ap (at 2) is)
none_after (a ∷ []) (x ∷ y ∷ z ∷ all) c more odd are each is =
    no_mark (y % 16 * 4 + z / 64) (omega (arith, each.1.1.0)) (ap (at 2) is)
none_after (a ∷ b ∷ []) [] c more odd are each is = absurd (cc)
none_after (a ∷ b ∷ []) (x ∷ []) c more odd are each is =
    no_mark (b % 16 * 4 + 0) (omega arith) (sym (ap (at 2) is))
none_after (a ∷ b ∷ []) (x ∷ y ∷ []) c more odd are each is = absurd (omega (arith, ap length is))
none_after (a ∷ b ∷ []) (x ∷ y ∷ z ∷ all) c more odd are each is = no_mark (z % 64) (omega arith) (ap (at 3) is)
none_after (a ∷ b ∷ d ∷ octets) [] c more odd are each is = absurd (cc)
none_after (a ∷ b ∷ d ∷ octets) (x ∷ []) c more odd are each is =
    no_mark (d % 64) (omega arith) (sym (ap (at 3) is))
none_after (a ∷ b ∷ d ∷ octets) (x ∷ y ∷ []) c more odd are each is =
    no_mark (d % 64) (omega arith) (sym (ap (at 3) is))
none_after (a ∷ b ∷ d ∷ octets) (x ∷ y ∷ z ∷ all) c more odd are each is =
    let still : length octets % 3 ≢ 0 = λ e. odd (omega (arith, e)) in
    none_after octets all c more still are.1.1.1 each.1.1.1 (ap (drop 4) is)

-- ---- what can't follow two or three digits, or an `=`

mark_first : (later more : List ℕ) → AreOctets later → base64_text later ≡ 61 ∷ more → ⊥
mark_first [] more each is = absurd (cc)
mark_first (x ∷ []) more each is = no_mark (x / 4) (omega (arith, each.0)) (ap (at 0) is)
mark_first (x ∷ y ∷ []) more each is = no_mark (x / 4) (omega (arith, each.0)) (ap (at 0) is)
mark_first (x ∷ y ∷ z ∷ later) more each is = no_mark (x / 4) (omega (arith, each.0)) (ap (at 0) is)

mark_second : (later : List ℕ) (u : ℕ) (more : List ℕ) → AreOctets later → base64_text later ≡ u ∷ 61 ∷ more → ⊥
mark_second [] u more each is = absurd (cc)
mark_second (x ∷ []) u more each is = no_mark (x % 4 * 16 + 0) (omega arith) (ap (at 1) is)
mark_second (x ∷ y ∷ []) u more each is =
    no_mark (x % 4 * 16 + y / 16) (omega (arith, each.1.0)) (ap (at 1) is)
mark_second (x ∷ y ∷ z ∷ later) u more each is =
    no_mark (x % 4 * 16 + y / 16) (omega (arith, each.1.0)) (ap (at 1) is)

mark_third : (later : List ℕ) (u a bits : ℕ) (more : List ℕ) → AreOctets later → bits < 16 → bits ≢ 0
    → base64_text later ≡ u ∷ base64_digit (a % 4 * 16 + bits) ∷ 61 ∷ more → ⊥
mark_third [] u a bits more each few some is = absurd (cc)
mark_third (x ∷ []) u a bits more each few some is =
    let same = digit_64 (x % 4 * 16 + 0) (a % 4 * 16 + bits) (omega arith) (omega (arith, few)) (ap (at 1) is) in
    some (omega (arith, same, few))
mark_third (x ∷ y ∷ []) u a bits more each few some is =
    no_mark (y % 16 * 4 + 0) (omega arith) (ap (at 2) is)
mark_third (x ∷ y ∷ z ∷ later) u a bits more each few some is =
    no_mark (y % 16 * 4 + z / 64) (omega (arith, each.1.1.0)) (ap (at 2) is)

mark_fourth : (later : List ℕ) (u v b bits : ℕ) (more : List ℕ) → AreOctets later → bits < 4 → bits ≢ 0
    → base64_text later ≡ u ∷ v ∷ base64_digit (b % 16 * 4 + bits) ∷ 61 ∷ more → ⊥
mark_fourth [] u v b bits more each few some is = absurd (cc)
mark_fourth (x ∷ []) u v b bits more each few some is =
    no_mark (b % 16 * 4 + bits) (omega (arith, few)) (sym (ap (at 2) is))
mark_fourth (x ∷ y ∷ []) u v b bits more each few some is =
    let same = digit_64 (y % 16 * 4 + 0) (b % 16 * 4 + bits) (omega arith) (omega (arith, few)) (ap (at 2) is) in
    some (omega (arith, same, few))
mark_fourth (x ∷ y ∷ z ∷ later) u v b bits more each few some is =
    no_mark (z % 64) (omega arith) (ap (at 3) is)

digit_after_mark : (later : List ℕ) (u v w : ℕ) (more : List ℕ) → AreOctets later → w < 64
    → base64_text later ≡ u ∷ v ∷ 61 ∷ base64_digit w ∷ more → ⊥
digit_after_mark [] u v w more each small is = absurd (cc)
digit_after_mark (x ∷ []) u v w more each small is = no_mark w small (sym (ap (at 3) is))
digit_after_mark (x ∷ y ∷ []) u v w more each small is = no_mark (y % 16 * 4 + 0) (omega arith) (ap (at 2) is)
digit_after_mark (x ∷ y ∷ z ∷ later) u v w more each small is =
    no_mark (y % 16 * 4 + z / 64) (omega (arith, each.1.1.0)) (ap (at 2) is)

-- ---- what was read, and one octet more

-- what is read before an octet that no text goes on with
abbrev Read : Place → ℕ → List ℕ → List ℕ → Type 0
Read place bits text octets = AreOctets octets × EndsAtDigit place bits text octets

-- the text after whole groups, if a text goes on with an octet
after_groups : (groups part text : List ℕ) (c : ℕ) (all more : List ℕ) → AreGroupsOfThree groups → AreOctets all
    → text ≡ base64_text groups ++ part → IsBase64Text ((text ++ c ∷ []) ++ more) all
    → (later : List ℕ) × AreOctets later × (base64_text later ≡ part ++ c ∷ more)
after_groups groups part text c all more whole each front is =
    groups_before groups (part ++ c ∷ more) all whole each
    (sym is ∙ append_assoc text (c ∷ []) more ∙ ap (λ t. t ++ c ∷ more) front
    ∙ append_assoc (base64_text groups) part (c ∷ more))

pub whole_mark : (bits : ℕ) (text octets : List ℕ) → Read Whole bits text octets → NoText IsBase64Text (text ++ 61 ∷ [])
whole_mark bits text octets read all more each is =
    let later = after_groups octets [] text 61 all more read.1.0 each (read.1.1 ∙ sym (append-nil _)) is in
    mark_first later.0 more later.1 later.2

pub one_mark : (bits : ℕ) (text octets : List ℕ) → Read One bits text octets → NoText IsBase64Text (text ++ 61 ∷ [])
one_mark bits text octets read all more each is =
    let later = after_groups octets (base64_digit bits ∷ []) text 61 all more read.1.0 each read.1.1 is in
    mark_second later.0 (base64_digit bits) more later.1 later.2

pub two_mark : (bits : ℕ) (text octets : List ℕ) → bits < 16 → bits ≢ 0 → Read Two bits text octets
    → NoText IsBase64Text (text ++ 61 ∷ [])
two_mark bits text octets few some (each_read, (groups, a, whole, same, front)) all more each is =
    let later = after_groups groups (base64_digit (a / 4) ∷ base64_digit (a % 4 * 16 + bits) ∷ []) text 61 all more
    whole each front is in
    mark_third later.0 (base64_digit (a / 4)) a bits more later.1 few some later.2

pub three_mark : (bits : ℕ) (text octets : List ℕ) → bits < 4 → bits ≢ 0 → Read Three bits text octets
    → NoText IsBase64Text (text ++ 61 ∷ [])
three_mark bits text octets few some (each_read, (groups, a, b, whole, same, front)) all more each is =
    let later = after_groups groups (base64_digit (a / 4) ∷ base64_digit (a % 4 * 16 + b / 16)
    ∷ base64_digit (b % 16 * 4 + bits) ∷ []) text 61 all more whole each front is in
    mark_fourth later.0 (base64_digit (a / 4)) (base64_digit (a % 4 * 16 + b / 16)) b bits more later.1 few some later.2

pub mark_digit : (bits value : ℕ) (text octets : List ℕ) → value < 64 → Read Mark bits text octets
    → NoText IsBase64Text (text ++ base64_digit value ∷ [])
mark_digit bits value text octets small (each_read, (groups, a, whole, same, front)) all more each is =
    let later = after_groups groups (take 3 (base64_text (a ∷ []))) text (base64_digit value) all more whole each front
    is in
    digit_after_mark later.0 (base64_digit (a / 4)) (base64_digit (a % 4 * 16 + 0)) value more later.1 small later.2

pub end_any : (bits c : ℕ) (text octets : List ℕ) → Read End bits text octets → NoText IsBase64Text (text ++ c ∷ [])
end_any bits c text octets read all more each is =
    none_after octets all c more read.1.0 read.0 each
    (sym is ∙ append_assoc text (c ∷ []) more ∙ ap (λ t. t ++ c ∷ more) read.1.1)

-- ---- an octet that is neither a digit nor `=`

IsChar : ℕ → Type 0
IsChar c = (c ≡ 61) ⊎ ((value : ℕ) × (value < 64) × (c ≡ base64_digit value))

digit_char : (value : ℕ) → value < 64 → IsChar (base64_digit value)
unfolding IsChar
digit_char value small = inr (value, small, refl)

mark_char : IsChar 61
unfolding IsChar
mark_char = inl refl

each_char : (octets : List ℕ) → AreOctets octets → AllByRecursion IsChar (base64_text octets)
each_char [] are = tt
each_char (a ∷ []) are = (
  digit_char (a / 4) (omega (arith, are.0)),
  (
    digit_char (a % 4 * 16 + 0) (omega arith),
    (mark_char, (mark_char, tt)),
  ),
)
each_char (a ∷ b ∷ []) are = (
  digit_char (a / 4) (omega (arith, are.0)),
  (
    digit_char (a % 4 * 16 + b / 16) (omega (arith, are.1.0)),
    (digit_char (b % 16 * 4 + 0) (omega arith), (mark_char, tt)),
  ),
)
each_char (a ∷ b ∷ c ∷ more) are = (
  digit_char (a / 4) (omega (arith, are.0)),
  (
    digit_char (a % 4 * 16 + b / 16) (omega (arith, are.1.0)),
    (
      digit_char (b % 16 * 4 + c / 64) (omega (arith, are.1.1.0)),
      (
        digit_char (c % 64) (omega arith),
        each_char more are.1.1.1,
      ),
    ),
  ),
)

char_in : (front : List ℕ) (c : ℕ) (more : List ℕ) → AllByRecursion IsChar (front ++ c ∷ more) → IsChar c
char_in [] c more all = all.0
char_in (x ∷ front) c more all = char_in front c more all.1

pub no_char : (text : List ℕ) (c : ℕ) → c ≢ 61 → ((value : ℕ) → value < 64 → c ≢ base64_digit value)
    → NoText IsBase64Text (text ++ c ∷ [])
unfolding IsChar
no_char text c other_mark other_digit all more each is =
    let found = char_in text c more (subst (AllByRecursion IsChar)
    (sym (sym (append_assoc text (c ∷ []) more) ∙ is)) (each_char all each)) in
    elim found [ inl same ↦ other_mark same | inr some ↦ other_digit some.0 some.1 some.2 ]

-- ---- an octet that is read

octets_then : (octets : List ℕ) (a : ℕ) → AreOctets octets → a < 256 → AreOctets (octets ++ a ∷ [])
octets_then [] a are small = (small, tt)
octets_then (x ∷ octets) a are small = (are.0, octets_then octets a are.1 small)

pub read_one : (bits value : ℕ) (text octets : List ℕ) → Read Whole bits text octets
    → Read One value (text ++ base64_digit value ∷ []) (octets ++ [])
read_one bits value text octets (each, (whole, front)) =
    subst (λ o. Read One value (text ++ base64_digit value ∷ []) o) (sym (append-nil octets))
    (each, (whole, ap (λ t. t ++ base64_digit value ∷ []) front))

pub read_two : (bits value : ℕ) (text octets : List ℕ) → bits < 64 → value < 64 → Read One bits text octets
    → Read Two (value % 16) (text ++ base64_digit value ∷ []) (octets ++ (bits * 4 + value / 16) ∷ [])
read_two bits value text octets few small (each, (whole, front)) =
    let a = bits * 4 + value / 16 in
    let first : a / 4 ≡ bits = omega (arith, small) in
    let second : a % 4 * 16 + value % 16 ≡ value = omega (arith, small) in
    let same : text ++ base64_digit value ∷ [] ≡ base64_text octets ++ (base64_digit bits ∷ base64_digit value ∷ []) =
    ap (λ t. t ++ base64_digit value ∷ []) front ∙ append_assoc (base64_text octets) (base64_digit bits ∷ [])
    (base64_digit value ∷ []) in (
      octets_then octets a each (omega (arith, few, small)),
      (
        octets,
        a,
        whole,
        refl,
        same ∙ ap (λ u. base64_text octets ++ (base64_digit u ∷ base64_digit value ∷ [])) (sym first)
            ∙ ap (λ u. base64_text octets ++ (base64_digit (a / 4) ∷ base64_digit u ∷ [])) (sym second),
      ),
    )

pub read_three : (bits value : ℕ) (text octets : List ℕ) → bits < 16 → value < 64 → Read Two bits text octets
    → Read Three (value % 4) (text ++ base64_digit value ∷ []) (octets ++ (bits * 16 + value / 4) ∷ [])
read_three bits value text octets few small (each, (groups, a, whole, same, front)) =
    let b = bits * 16 + value / 4 in
    let second : b / 16 ≡ bits = omega (arith, small) in
    let third : b % 16 * 4 + value % 4 ≡ value = omega (arith, small) in
    let one = base64_digit (a / 4) in
    let spread : text ++ base64_digit value ∷ []
    ≡ base64_text groups ++ (one ∷ base64_digit (a % 4 * 16 + bits) ∷ base64_digit value ∷ []) =
    ap (λ t. t ++ base64_digit value ∷ []) front
    ∙ append_assoc (base64_text groups) (one ∷ base64_digit (a % 4 * 16 + bits) ∷ []) (base64_digit value ∷ []) in (
      octets_then octets b each (omega (arith, few, small)),
      (
        groups,
        a,
        b,
        whole,
        ap (λ o. o ++ b ∷ []) same ∙ append_assoc groups (a ∷ []) (b ∷ []),
        spread
            ∙ ap (λ u. base64_text groups ++ (one ∷ base64_digit (a % 4 * 16 + u) ∷ base64_digit value ∷ []))
            (sym second)
            ∙ ap (λ u. base64_text groups ++ (one ∷ base64_digit (a % 4 * 16 + b / 16) ∷ base64_digit u ∷ []))
            (sym third),
      ),
    )

pub read_four : (bits value : ℕ) (text octets : List ℕ) → bits < 4 → value < 64 → Read Three bits text octets
    → Read Whole 0 (text ++ base64_digit value ∷ []) (octets ++ (bits * 64 + value) ∷ [])
read_four bits value text octets few small (each, (groups, a, b, whole, same, front)) =
    let c = bits * 64 + value in
    let third : c / 64 ≡ bits = omega (arith, small) in
    let fourth : c % 64 ≡ value = omega (arith, small) in
    let one = base64_digit (a / 4) in
    let two = base64_digit (a % 4 * 16 + b / 16) in
    let spread : text ++ base64_digit value ∷ []
    ≡ base64_text groups ++ (one ∷ two ∷ base64_digit (b % 16 * 4 + bits) ∷ base64_digit value ∷ []) =
    ap (λ t. t ++ base64_digit value ∷ []) front
    ∙ append_assoc (base64_text groups) (one ∷ two ∷ base64_digit (b % 16 * 4 + bits) ∷ []) (base64_digit value ∷ []) in
    let all : octets ++ c ∷ [] ≡ groups ++ (a ∷ b ∷ c ∷ []) =
    ap (λ o. o ++ c ∷ []) same ∙ append_assoc groups (a ∷ b ∷ []) (c ∷ []) in (
      octets_then octets c each (omega (arith, few, small)),
      (
        omega (arith, ap length all, length-append groups (a ∷ b ∷ c ∷ []), whole),
        spread
            ∙ ap (λ u. base64_text groups ++ (one ∷ two ∷ base64_digit (b % 16 * 4 + u) ∷ base64_digit value ∷ []))
            (sym third)
            ∙ ap (λ u. base64_text groups ++ (one ∷ two ∷ base64_digit (b % 16 * 4 + c / 64) ∷ base64_digit u
            ∷ [])) (sym fourth)
            ∙ sym (groups_then groups (a ∷ b ∷ c ∷ []) whole) ∙ ap base64_text (sym all),
      ),
    )

pub read_mark : (text octets : List ℕ) → Read Two 0 text octets → Read Mark 0 (text ++ 61 ∷ []) (octets ++ [])
read_mark text octets (each, (groups, a, whole, same, front)) =
    subst (λ o. Read Mark 0 (text ++ 61 ∷ []) o) (sym (append-nil octets)) (
      each,
      (
        groups,
        a,
        whole,
        same,
        ap (λ t. t ++ 61 ∷ []) front
            ∙ append_assoc (base64_text groups) (base64_digit (a / 4) ∷ base64_digit (a % 4 * 16 + 0) ∷ []) (61 ∷ []),
      ),
    )

odd_one : (groups octets : List ℕ) (a : ℕ) → AreGroupsOfThree groups → octets ≡ groups ++ a ∷ [] → length octets % 3 ≢ 0
odd_one groups octets a whole same is =
    absurd (omega (arith, ap length same, length-append groups (a ∷ []), whole, is))

odd_two : (groups octets : List ℕ) (a b : ℕ) → AreGroupsOfThree groups → octets ≡ groups ++ (a ∷ b ∷ [])
    → length octets % 3 ≢ 0
odd_two groups octets a b whole same is =
    absurd (omega (arith, ap length same, length-append groups (a ∷ b ∷ []), whole, is))

pub read_last_mark : (text octets : List ℕ) → Read Three 0 text octets → Read End 0 (text ++ 61 ∷ []) (octets ++ [])
read_last_mark text octets (each, (groups, a, b, whole, same, front)) =
    subst (λ o. Read End 0 (text ++ 61 ∷ []) o) (sym (append-nil octets)) (
      each,
      (
        odd_two groups octets a b whole same,
        ap (λ t. t ++ 61 ∷ []) front
            ∙ append_assoc (base64_text groups) (base64_digit (a / 4) ∷ base64_digit (a % 4 * 16 + b / 16)
            ∷ base64_digit (b % 16 * 4 + 0) ∷ []) (61 ∷ [])
            ∙ sym (groups_then groups (a ∷ b ∷ []) whole) ∙ ap base64_text (sym same),
      ),
    )

pub read_second_mark : (bits : ℕ) (text octets : List ℕ) → Read Mark bits text octets
    → Read End 0 (text ++ 61 ∷ []) (octets ++ [])
read_second_mark bits text octets (each, (groups, a, whole, same, front)) =
    subst (λ o. Read End 0 (text ++ 61 ∷ []) o) (sym (append-nil octets)) (
      each,
      (
        odd_one groups octets a whole same,
        ap (λ t. t ++ 61 ∷ []) front
            ∙ append_assoc (base64_text groups) (take 3 (base64_text (a ∷ []))) (61 ∷ [])
            ∙ sym (groups_then groups (a ∷ []) whole) ∙ ap base64_text (sym same),
      ),
    )

-- ---- places

pub moved : (p q : Place) (a b : ℕ) (text octets : List ℕ) → p ≡ q → a ≡ b → Read q b text octets
    → Read p a text octets
moved p q a b text octets same equal read =
    subst (λ place. Read place a text octets) (sym same) (subst (λ bits. Read q bits text octets) (sym equal) read)

pub few_at : (p q : Place) (bits : ℕ) → p ≡ q → bits < bits_end p → bits < bits_end q
few_at p q bits same few = subst (λ place. bits < bits_end place) same few

-- an `=` can't follow bits that are not zero
pub some_bits : (place : Place) (bits : ℕ) (text octets : List ℕ) → bits ≢ 0 → bits < bits_end place
    → Read place bits text octets → NoText IsBase64Text (text ++ 61 ∷ [])
some_bits Whole bits text octets some few read = absurd (some (omega (arith, few)))
some_bits One bits text octets some few read = one_mark bits text octets read
some_bits Two bits text octets some few read = two_mark bits text octets few some read
some_bits Three bits text octets some few read = three_mark bits text octets few some read
some_bits Mark bits text octets some few read = absurd (some (omega (arith, few)))
some_bits End bits text octets some few read = absurd (some (omega (arith, few)))

-- ---- a text is whole

fours : (octets : List ℕ) → length (base64_text octets) % 4 ≡ 0
fours [] = refl
fours (a ∷ []) = refl
fours (a ∷ b ∷ []) = refl
fours (a ∷ b ∷ c ∷ more) = omega (arith, fours more)

pub not_fours : (groups part text other : List ℕ) → text ≡ base64_text groups ++ part → length part % 4 ≢ 0
    → IsBase64Text text other → ⊥
not_fours groups part text other front some is =
    let long = length-append (base64_text groups) part in
    some (omega (arith, ap length front, ap length is, long, fours groups, fours other))

pub not_whole : (place : Place) (bits : ℕ) (text octets other : List ℕ) → place ≢ Whole → place ≢ End
    → Read place bits text octets → IsBase64Text text other → ⊥
not_whole Whole bits text octets other begun more read is = begun refl
not_whole One bits text octets other begun more read is =
    not_fours octets (base64_digit bits ∷ []) text other read.1.1 (λ e. absurd (omega (arith, e))) is
not_whole Two bits text octets other begun more (each, (groups, a, whole, same, front)) is =
    not_fours groups (base64_digit (a / 4) ∷ base64_digit (a % 4 * 16 + bits) ∷ []) text other front
    (λ e. absurd (omega (arith, e))) is
not_whole Three bits text octets other begun more (each, (groups, a, b, whole, same, front)) is =
    not_fours groups (base64_digit (a / 4) ∷ base64_digit (a % 4 * 16 + b / 16) ∷ base64_digit (b % 16 * 4 + bits) ∷ [])
    text other front (λ e. absurd (omega (arith, e))) is
not_whole Mark bits text octets other begun more (each, (groups, a, whole, same, front)) is =
    not_fours groups (take 3 (base64_text (a ∷ []))) text other front (λ e. absurd (omega (arith, e))) is
not_whole End bits text octets other begun more read is = more refl

-- ---- the arms of the code

pub digit_refused : (place : Place) (bits value : ℕ) (text octets : List ℕ) → (place ≡ Mark) ⊎ (place ≡ End)
    → value < 64 → Read place bits text octets → NoText IsBase64Text (text ++ base64_digit value ∷ [])
digit_refused place bits value text octets (inl same) small read =
    mark_digit bits value text octets small (moved Mark place bits bits text octets (sym same) refl read)
digit_refused place bits value text octets (inr same) small read =
    end_any bits (base64_digit value) text octets (moved End place bits bits text octets (sym same) refl read)

pub mark_refused : (place : Place) (bits : ℕ) (text octets : List ℕ)
    → (place ≡ Whole) ⊎ ((place ≡ One) ⊎ (place ≡ End)) → Read place bits text octets
    → NoText IsBase64Text (text ++ 61 ∷ [])
mark_refused place bits text octets (inl same) read =
    whole_mark bits text octets (moved Whole place bits bits text octets (sym same) refl read)
mark_refused place bits text octets (inr (inl same)) read =
    one_mark bits text octets (moved One place bits bits text octets (sym same) refl read)
mark_refused place bits text octets (inr (inr same)) read =
    end_any bits 61 text octets (moved End place bits bits text octets (sym same) refl read)

pub mark_read : (place : Place) (bits : ℕ) (text octets : List ℕ) → (place ≡ Three) ⊎ (place ≡ Mark) → bits ≡ 0
    → Read place bits text octets → Read End 0 (text ++ 61 ∷ []) (octets ++ [])
mark_read place bits text octets (inl same) none read =
    read_last_mark text octets (moved Three place 0 bits text octets (sym same) (sym none) read)
mark_read place bits text octets (inr same) none read =
    read_second_mark bits text octets (moved Mark place bits bits text octets (sym same) refl read)

pub whole_text : (place : Place) (bits : ℕ) (text octets : List ℕ) → (place ≡ Whole) ⊎ (place ≡ End)
    → Read place bits text octets → IsBase64Text text octets
whole_text place bits text octets (inl same) read =
    let at_whole = moved Whole place bits bits text octets (sym same) refl read in at_whole.1.1
whole_text place bits text octets (inr same) read =
    let at_end = moved End place bits bits text octets (sym same) refl read in at_end.1.1

pub open_text : (place : Place) (bits : ℕ) (text octets other : List ℕ)
    → (place ≡ One) ⊎ ((place ≡ Two) ⊎ ((place ≡ Three) ⊎ (place ≡ Mark))) → Read place bits text octets
    → IsBase64Text text other → ⊥
open_text place bits text octets other (inl same) read is =
    not_whole place bits text octets other (λ e. cc (sym same ∙ e)) (λ e. cc (sym same ∙ e)) read is
open_text place bits text octets other (inr (inl same)) read is =
    not_whole place bits text octets other (λ e. cc (sym same ∙ e)) (λ e. cc (sym same ∙ e)) read is
open_text place bits text octets other (inr (inr (inl same))) read is =
    not_whole place bits text octets other (λ e. cc (sym same ∙ e)) (λ e. cc (sym same ∙ e)) read is
open_text place bits text octets other (inr (inr (inr same))) read is =
    not_whole place bits text octets other (λ e. cc (sym same ∙ e)) (λ e. cc (sym same ∙ e)) read is

-- ---- what was read goes on to a text

-- whole groups, and the octets of a last one
goes_on_by : (groups last part text more : List ℕ) → AreGroupsOfThree groups → AreOctets (groups ++ last)
    → text ≡ base64_text groups ++ part → part ++ more ≡ base64_text last
    → (more all : List ℕ) × AreOctets all × IsBase64Text (text ++ more) all
goes_on_by groups last part text more whole each front same = (
  more,
  groups ++ last,
  each,
  ap (λ t. t ++ more) front ∙ append_assoc (base64_text groups) part more
      ∙ ap (λ t. base64_text groups ++ t) same ∙ sym (groups_then groups last whole),
)

joined : (octets last : List ℕ) → AreOctets octets → AreOctets last → AreOctets (octets ++ last)
joined [] last are also = also
joined (x ∷ octets) last are also = (are.0, joined octets last are.1 also)

parts : (groups part : List ℕ) → AreOctets (groups ++ part) → AreOctets groups × AreOctets part
parts [] part each = (tt, each)
parts (x ∷ groups) part each = let rest = parts groups part each.1 in ((each.0, rest.0), rest.1)

groups_of : (groups octets part : List ℕ) → octets ≡ groups ++ part → AreOctets octets
    → AreOctets groups × AreOctets part
groups_of groups octets part same each = parts groups part (subst AreOctets same each)

pub base64_goes_on : (place : Place) (bits : ℕ) (text octets : List ℕ) → bits < bits_end place
    → Read place bits text octets → (more all : List ℕ) × AreOctets all × IsBase64Text (text ++ more) all
base64_goes_on Whole bits text octets few (each, (whole, front)) =
    ([], octets, each, append-nil text ∙ front)
base64_goes_on One bits text octets few (each, (whole, front)) =
    let a = bits * 4 in
    let e1 : bits ≡ a / 4 = omega arith in
    let e2 : 0 ≡ a % 4 * 16 + 0 = omega arith in
    goes_on_by octets (a ∷ []) (base64_digit bits ∷ []) text (65 ∷ 61 ∷ 61 ∷ []) whole
    (joined octets (a ∷ []) each (omega (arith, few), tt)) front
    (λ i. base64_digit (e1 i) ∷ base64_digit (e2 i) ∷ 61 ∷ 61 ∷ [])
base64_goes_on Two bits text octets few (each, (groups, a, whole, same, front)) =
    let b = bits * 16 in
    let e2 : a % 4 * 16 + bits ≡ a % 4 * 16 + b / 16 = omega arith in
    let e3 : 0 ≡ b % 16 * 4 + 0 = omega arith in
    let split = groups_of groups octets (a ∷ []) same each in
    goes_on_by groups (a ∷ b ∷ []) (base64_digit (a / 4) ∷ base64_digit (a % 4 * 16 + bits) ∷ []) text
    (65 ∷ 61 ∷ []) whole (joined groups (a ∷ b ∷ []) split.0 (split.1.0, (omega (arith, few), tt))) front
    (λ i. base64_digit (a / 4) ∷ base64_digit (e2 i) ∷ base64_digit (e3 i) ∷ 61 ∷ [])
base64_goes_on Three bits text octets few (each, (groups, a, b, whole, same, front)) =
    let c = bits * 64 in
    let e3 : b % 16 * 4 + bits ≡ b % 16 * 4 + c / 64 = omega arith in
    let e4 : 0 ≡ c % 64 = omega arith in
    let split = groups_of groups octets (a ∷ b ∷ []) same each in
    goes_on_by groups (a ∷ b ∷ c ∷ []) (base64_digit (a / 4) ∷ base64_digit (a % 4 * 16 + b / 16)
    ∷ base64_digit (b % 16 * 4 + bits) ∷ []) text (65 ∷ []) whole
    (joined groups (a ∷ b ∷ c ∷ []) split.0 (split.1.0, (split.1.1.0, (omega (arith, few), tt)))) front
    (λ i. base64_digit (a / 4) ∷ base64_digit (a % 4 * 16 + b / 16) ∷ base64_digit (e3 i) ∷ base64_digit (e4 i) ∷ [])
base64_goes_on Mark bits text octets few (each, (groups, a, whole, same, front)) =
    goes_on_by groups (a ∷ []) (take 3 (base64_text (a ∷ []))) text (61 ∷ []) whole (subst AreOctets same each) front
    refl
base64_goes_on End bits text octets few (each, (odd, front)) =
    ([], octets, each, append-nil text ∙ front)
