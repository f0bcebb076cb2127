-- Refusals that a reader or a writer passes on. These are laws for callers who return `ReadError` or `WriteError`.
use Rattle.std.proofs.Common.{◌≡◌, ◌∙◌, sym, ap, subst, Result, Ok, Err}
use Rattle.std.specs.Prelude.{OnErr}
use Rattle.octseq_core.specs.declared.builder.AppendError.{AppendError}
use Rattle.octseq.specs.Composer.{refusal_of}
use Rattle.octseq.specs.Error.{read_error_of, write_error_of}
use Rattle.octseq.specs.Refusal.{IsShort, IsMemory, IsTooLong, append_error, parse_octets_error, compose_error}
use Rattle.octseq.specs.declared.compose.ComposeError.{ComposeError}
use Rattle.octseq.specs.declared.error.ReadError.{ReadError}
use Rattle.octseq.specs.declared.error.WriteError.{WriteError}
use Rattle.octseq.specs.declared.parse.error.ParseOctetsError.{ParseOctetsError}

-- what always holds also holds of an error
pub on_err : {T E P : Type 0} (result : Result T E) → P → OnErr result P
on_err (Ok value) p = tt
on_err (Err e) p = p

-- ---- of a parser

-- a parser's refusal that is reported as malformed was for lack of octets
pub short_of : (T : Type 0) (e : ParseOctetsError) → read_error_of e ≡ ReadError.Malformed
    → IsShort {T = T} parse_octets_error (Err e)
short_of T (ParseOctetsError.Short e) reported = tt
short_of T ParseOctetsError.Memory reported = absurd (cc)

-- a refusal that is reported as memory was for lack of memory
pub memory_of : (T : Type 0) (e : ParseOctetsError) → read_error_of e ≡ ReadError.Memory
    → IsMemory {T = T} parse_octets_error (Err e)
memory_of T (ParseOctetsError.Short e) reported = absurd (cc)
memory_of T ParseOctetsError.Memory reported = tt

-- ---- of a composer

-- a refusal that is reported as malformed was for an integer or a length that doesn't fit its octets
pub too_long_of : (e : ComposeError) → write_error_of e ≡ WriteError.Malformed
    → IsTooLong {T = Unit {0}} compose_error (Err e)
too_long_of ComposeError.TooLong reported = tt
too_long_of ComposeError.Short reported = absurd (cc)
too_long_of ComposeError.Memory reported = absurd (cc)

-- a refusal that is reported as short was for lack of room
pub part_short_of : (e : ComposeError) → write_error_of e ≡ WriteError.Short
    → IsShort {T = Unit {0}} compose_error (Err e)
part_short_of ComposeError.TooLong reported = absurd (cc)
part_short_of ComposeError.Short reported = tt
part_short_of ComposeError.Memory reported = absurd (cc)

-- a refusal that is reported as memory was for lack of memory
pub part_memory_of : (e : ComposeError) → write_error_of e ≡ WriteError.Memory
    → IsMemory {T = Unit {0}} compose_error (Err e)
part_memory_of ComposeError.TooLong reported = absurd (cc)
part_memory_of ComposeError.Short reported = absurd (cc)
part_memory_of ComposeError.Memory reported = tt

-- ---- of a builder

-- a builder's refusal is never reported as malformed
pub append_not_malformed : (e : AppendError) → write_error_of (refusal_of e) ≡ WriteError.Malformed → ⊥
append_not_malformed (AppendError.Short e) reported = cc
append_not_malformed AppendError.Memory reported = cc

-- a refusal that is reported as short was for lack of room
pub append_short_of : (T : Type 0) (e : AppendError) → write_error_of (refusal_of e) ≡ WriteError.Short
    → IsShort {T = T} append_error (Err e)
append_short_of T (AppendError.Short e) reported = tt
append_short_of T AppendError.Memory reported = absurd (cc)

-- a refusal that is reported as memory was for lack of memory
pub append_memory_of : (T : Type 0) (e : AppendError) → write_error_of (refusal_of e) ≡ WriteError.Memory
    → IsMemory {T = T} append_error (Err e)
append_memory_of T (AppendError.Short e) reported = absurd (cc)
append_memory_of T AppendError.Memory reported = tt

-- ---- passed on unchanged

-- a call returns the refusal that another call returned to it
pub same_refusal : {S T E : Type 0} (here : Result S E) (given : Result T E) (passed refusal wanted : E)
    → given ≡ Err passed → passed ≡ refusal → given ≡ Err wanted
    → here ≡ Err refusal → here ≡ Err wanted
same_refusal here given passed refusal wanted e is f was =
    let same : passed ≡ wanted = cc in
    was ∙ ap Err (sym is ∙ same)

-- the same for a builder's refusal as short
pub same_short : {S T : Type 0} (here : Result S AppendError) (given : Result T AppendError)
    (passed refusal : AppendError) → given ≡ Err passed → passed ≡ refusal
    → here ≡ Err refusal → IsShort append_error given → IsShort append_error here
same_short here given (AppendError.Short e) refusal is same was short =
    subst (IsShort append_error) (sym (was ∙ ap Err (sym same))) tt
same_short here given AppendError.Memory refusal is same was short = absurd (subst (IsShort append_error) is short)
