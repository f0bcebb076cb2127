-- The effect on the characters of a call on octets.
use Rattle.std.proofs.Common.{◌≡◌, ℕ, ◌+◌, Bool, true, Option, List, ◌++◌, length, Result}
use Rattle.std.proofs.Common.{Ok, Err, OnOk, OnErr, ◌↔◌, ap, sym, ◌∙◌, subst, length-append}
use Rattle.std.proofs.lemmas.Result.{on_ok_weaker}
use Rattle.octseq_core.proofs.Limits.{within_if_not_past}
use Rattle.octseq_core.specs.Limit.{IsWithin, ExceedsLimit}
use Rattle.octseq_core.specs.Refusal.{IsShort, IsMemory, append_error}
use Rattle.octseq_core.specs.declared.builder.AppendError.{AppendError}
use Rattle.octseq_core.specs.declared.builder.AppendError.TheVariants.{Short, Memory}
use Rattle.octseq_text.specs.TextRun.{AppendsCharacters, append_reply}
use Rattle.octseq_utf8.specs.Text.{IsWellFormed, chars, octets_of}
use Rattle.octseq_utf8.proofs.Texts.{well_formed-append, chars-append, octets_of-append}

-- an append that wasn't refused as short leaves a content within the limit
pub within_appended : (limit : Option ℕ) (new old more : List ℕ) → new ≡ old ++ more
    → ¬ ExceedsLimit limit (length old + length more) → IsWithin limit (length new)
within_appended limit new old more e n =
    subst (IsWithin limit) (sym (ap length e ∙ length-append old more))
    (within_if_not_past limit (length old + length more) n)

-- an append that adds all or nothing keeps octets well formed
pub well_formed-appended : {T E : Type 0} (r : Result T E) (new old more : List ℕ) → OnOk r (new ≡ old ++ more)
    → OnErr r (new ≡ old)
    → IsWellFormed old → IsWellFormed more → IsWellFormed new
well_formed-appended (Ok x) new old more ok err v w = subst IsWellFormed (sym ok) (well_formed-append old more v w)
well_formed-appended (Err e) new old more ok err v w = subst IsWellFormed (sym err) v

-- an append of octets is an append of their characters

appends_with : (limit : Option ℕ) (asks : Bool) (r : Result (Unit {0}) AppendError) (new old more : List ℕ)
    → OnOk r (new ≡ old ++ more) → OnErr r (new ≡ old)
    → (IsShort append_error r ↔ ExceedsLimit limit (length (octets_of (chars old ++ chars more))))
    → (IsMemory append_error r → asks ≡ true)
    → (OnOk r (new ≡ old ++ more) → OnOk r (chars new ≡ chars old ++ chars more))
    → AppendsCharacters limit asks (chars old) (chars more) (append_reply r) (chars new)
appends_with limit asks (Ok u) new old more ok err short memory characters =
    (within_if_not_past limit _ (λ p. short.1 p), characters ok)
appends_with limit asks (Err (Short s)) new old more ok err short memory characters = (short.0 tt, ap chars err)
appends_with limit asks (Err Memory) new old more ok err short memory characters =
    (within_if_not_past limit _ (λ p. short.1 p), memory tt, ap chars err)

-- an append of well-formed octets to well-formed octets, done or refused, is an append of their characters
pub appends : (limit : Option ℕ) (asks : Bool) (r : Result (Unit {0}) AppendError) (new old more : List ℕ)
    → OnOk r (new ≡ old ++ more) → OnErr r (new ≡ old)
    → (IsShort append_error r ↔ ExceedsLimit limit (length old + length more)) → (IsMemory append_error r → asks ≡ true)
    → IsWellFormed old → IsWellFormed more
    → AppendsCharacters limit asks (chars old) (chars more) (append_reply r) (chars new)
appends limit asks r new old more ok err short memory v w =
    let long : length old + length more ≡ length (octets_of (chars old ++ chars more)) =
    sym (ap length (octets_of-append old more v w) ∙ length-append old more) in
    appends_with limit asks r new old more ok err (rw (← long) short) memory
    (on_ok_weaker {P = new ≡ old ++ more} {Q = chars new ≡ chars old ++ chars more} r
    (λ e. ap chars e ∙ chars-append old more v w))
