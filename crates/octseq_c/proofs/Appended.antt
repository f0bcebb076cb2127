-- Appends to an array: octets are at the end, and aren't refused if there is room.
use Rattle.std.proofs.Common.{◌≡◌, ℕ, ◌+◌, ◌≤◌, false, Bool, Option, Some, List, [], ◌∷◌, ◌++◌, length, Result, Ok}
use Rattle.std.proofs.Common.{Err, IsOk}
use Rattle.std.proofs.Common.{OnOk, refl, arith, ap, ◌∙◌, subst, append_assoc}
use Rattle.std.proofs.lemmas.List.{length-append}
use Rattle.octseq.specs.Appends.{Appends}
use Rattle.octseq.specs.Integer.{octets_be}
use Rattle.octseq.specs.declared.AppendError.{AppendError}
use Rattle.octseq_c.specs.Made.{query_header}

-- if there is room, an append isn't refused
pub append_fits : {n : ℕ} {old new octets : List ℕ} (result : Result (Unit {0}) AppendError)
    → Appends (Some n) false result octets old new → length old + length octets ≤ n → IsOk result
append_fits (Ok done) does fits = refl
append_fits (Err (AppendError.Short e)) does fits =
    let past = does.short.0 tt in
    absurd (omega (arith, past, fits))
append_fits (Err AppendError.Memory) does fits = absurd (let reported = does.memory tt in cc)

-- the octets are at the end if it wasn't refused
pub append_done : {limit : Option ℕ} {asks : Bool} {old new octets : List ℕ} {result : Result (Unit {0}) AppendError}
    {done : Unit {0}} → result ≡ Ok done → Appends limit asks result octets old new → new ≡ old ++ octets
append_done {old = old} {new = new} {octets = octets} e does = subst (λ r. OnOk r (new ≡ old ++ octets)) e does.ok

-- the length grows by theirs
pub longer : (old new octets : List ℕ) → new ≡ old ++ octets → length new ≡ length old + length octets
longer old new octets e = ap length e ∙ length-append old octets

-- ---- a query, whose parts are appended one after another

pub front_of : {c0 c1 c2 c3 c4 : List ℕ} (id flags : ℕ) → c0 ≡ [] → c1 ≡ c0 ++ octets_be 2 id
    → c2 ≡ c1 ++ octets_be 2 flags → c3 ≡ c2 ++ octets_be 2 1
    → c4 ≡ c3 ++ (0 ∷ 0 ∷ 0 ∷ 0 ∷ 0 ∷ 0 ∷ []) → c4 ≡ query_header id flags
unfolding octets_be
front_of id flags a0 a1 a2 a3 a4 = a4 ∙ ap (λ x. x ++ (0 ∷ 0 ∷ 0 ∷ 0 ∷ 0 ∷ 0 ∷ []))
    (a3 ∙ ap (λ x. x ++ octets_be 2 1) (a2 ∙ ap (λ x. x ++ octets_be 2 flags) (a1 ∙ ap (λ x. x ++ octets_be 2 id) a0)))

pub two_long : (n : ℕ) → length (octets_be 2 n) ≡ 2
unfolding octets_be
two_long n = refl

pub query_of : {c4 c5 c6 c7 front : List ℕ} (name kind class : List ℕ) → c4 ≡ front → c5 ≡ c4 ++ name → c6 ≡ c5 ++ kind
    → c7 ≡ c6 ++ class → c7 ≡ front ++ (name ++ (kind ++ class))
query_of {front = front} name kind class a4 a5 a6 a7 =
    a7 ∙ ap (λ x. x ++ class) (a6 ∙ ap (λ x. x ++ kind) (a5 ∙ ap (λ x. x ++ name) a4))
    ∙ append_assoc (front ++ name) kind class ∙ append_assoc front name (kind ++ class)
