-- What errors print.
use Rattle.std.specs.Prelude.{ℕ, List, codes}
use Rattle.octseq_core.specs.declared.builder.AppendError.{AppendError}
use Rattle.octseq_core.specs.declared.builder.AppendError.TheVariants.{Short, Memory}

abbrev pub append_error_text : AppendError → List ℕ
append_error_text (Short e) = codes "buffer size exceeded"
append_error_text Memory = codes "out of memory"
