-- Words that name commands.
use Rattle.std.proofs.Common.{◌≡◌, ◌≢◌, ◌∙◌, get_or, refl, sym, ap, List, length, ℕ, Option, Some, None}
use Rattle.octseq_cli.specs.Run.{IsNamed}

-- words whose first octets differ aren't the same
pub other_first : {P : Type 0} (x y : List ℕ) → get_or x 0 0 ≢ get_or y 0 0 → x ≡ y → P
other_first x y h e = absurd (h (ap (λ w. get_or w 0 0) e))

-- words whose lengths differ aren't the same
pub other_length : {P : Type 0} (x y : List ℕ) → length x ≢ length y → x ≡ y → P
other_length x y h e = absurd (h (ap length e))

-- if no two commands have the same name, a word names at most one command
pub one_named : {C : Type 0} (name_of : C → List ℕ) → ((c d : C) → name_of c ≡ name_of d → c ≡ d)
    → (word : List ℕ) (c d : Option C) → IsNamed name_of word c → IsNamed name_of word d → c ≡ d
one_named name_of same_name word (Some c) (Some d) e f = ap Some (same_name c d (sym e ∙ f))
one_named name_of same_name word (Some c) None e f = absurd (f (c, e))
one_named name_of same_name word None (Some d) e f = absurd (e (d, f))
one_named name_of same_name word None None e f = refl
