-- Why a call was refused, in words that mean the same for every error. The first argument of a word maps the error to
-- its refusal.
use Rattle.std.specs.Prelude.{Result, Ok, Err}
use Rattle.octseq_core.specs.declared.builder.AppendError.{AppendError}

-- `short`: a content would have exceeded its type's limit, or fewer octets were left than requested. `memory`: a
-- request for memory was refused. `too_long`: a number doesn't fit its octets. `malformed`: octets don't have their
-- form, or a value can't be shown.
pub data Refusal : Type 0 where
  short memory too_long malformed : Refusal

-- it is this refusal
abbrev pub Is : Refusal → Refusal → Type 0
Is Refusal.short Refusal.short = Unit {0}
Is Refusal.memory Refusal.memory = Unit {0}
Is Refusal.too_long Refusal.too_long = Unit {0}
Is Refusal.malformed Refusal.malformed = Unit {0}
Is _ _ = ⊥

-- a call was refused, and its error says so
abbrev pub IsRefused : {T E : Type 0} → Refusal → (E → Refusal) → Result T E → Type 0
IsRefused refusal tells (Ok value) = ⊥
IsRefused refusal tells (Err e) = Is refusal (tells e)

-- refused as short: by a limit, or because too few octets were left
abbrev pub IsShort : {T E : Type 0} → (E → Refusal) → Result T E → Type 0
IsShort tells result = IsRefused Refusal.short tells result

-- refused because a request for memory was refused
abbrev pub IsMemory : {T E : Type 0} → (E → Refusal) → Result T E → Type 0
IsMemory tells result = IsRefused Refusal.memory tells result

-- refused because a length or an integer doesn't fit its octets
abbrev pub IsTooLong : {T E : Type 0} → (E → Refusal) → Result T E → Type 0
IsTooLong tells result = IsRefused Refusal.too_long tells result

-- refused because octets don't have their form, or a value can't be shown
abbrev pub IsMalformed : {T E : Type 0} → (E → Refusal) → Result T E → Type 0
IsMalformed tells result = IsRefused Refusal.malformed tells result

-- the refusal that an append's error reports
abbrev pub append_error : AppendError → Refusal
append_error (AppendError.Short e) = Refusal.short
append_error AppendError.Memory = Refusal.memory

-- an error that is only ever about memory
abbrev pub alloc_error : {E : Type 0} → E → Refusal
alloc_error e = Refusal.memory
