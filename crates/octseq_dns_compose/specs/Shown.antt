-- How errors are shown.
use Rattle.std.specs.Prelude.{ℕ, List, codes}
use Rattle.octseq_dns_compose.specs.declared.error.ComposeError.{ComposeError}

abbrev pub compose_error_text : ComposeError → List ℕ
compose_error_text (ComposeError.Malformed place) = codes "malformed text"
compose_error_text ComposeError.Short = codes "buffer size exceeded"
compose_error_text ComposeError.Memory = codes "out of memory"
