-- Why a value was not formatted at the end of a text.
use Rattle.std.specs.Prelude.{Bool, true, false, ℕ, List, codes}
use Rattle.octseq_core.specs.Refusal.{Refusal}
use Rattle.octseq_core.specs.declared.builder.AppendError.{AppendError}
use Rattle.octseq_text.specs.declared.str.display.DisplayError.{DisplayError}

-- its refusal: a value that can't be formatted is malformed
abbrev pub display_error : DisplayError → Refusal
display_error DisplayError.Short = Refusal.short
display_error DisplayError.Memory = Refusal.memory
display_error DisplayError.Display = Refusal.malformed

-- the error for the refusal of an append
abbrev pub display_error_of : AppendError → DisplayError
display_error_of (AppendError.Short e) = DisplayError.Short
display_error_of AppendError.Memory = DisplayError.Memory

-- what is reported of a value whose append was refused for a reason: `Short` only if all of it exceeds the limit
abbrev pub reason_of : DisplayError → Bool → DisplayError
reason_of DisplayError.Short false = DisplayError.Display
reason_of DisplayError.Short true = DisplayError.Short
reason_of DisplayError.Memory exceeds = DisplayError.Memory
reason_of DisplayError.Display exceeds = DisplayError.Display

-- what it prints
abbrev pub display_error_text : DisplayError → List ℕ
display_error_text DisplayError.Short = codes "buffer size exceeded"
display_error_text DisplayError.Memory = codes "out of memory"
display_error_text DisplayError.Display = codes "a value can't be shown"
