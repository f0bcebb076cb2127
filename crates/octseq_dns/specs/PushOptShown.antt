-- The text of a `PushOptError`.
use Rattle.std.specs.Prelude.{ℕ, List, codes}
use Rattle.octseq_dns.specs.declared.edns.PushOptError.{PushOptError}

abbrev pub push_opt_error_text : PushOptError → List ℕ
push_opt_error_text PushOptError.AlreadyPushed = codes "a second record of type OPT"
push_opt_error_text (PushOptError.Short _) = codes "buffer size exceeded"
push_opt_error_text PushOptError.Memory = codes "out of memory"
