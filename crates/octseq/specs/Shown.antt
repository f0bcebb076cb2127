-- What errors print.
use Rattle.std.specs.Prelude.{ℕ, List, codes}
use Rattle.octseq.specs.declared.compose.ComposeError.{ComposeError}
use Rattle.octseq.specs.declared.error.ReadError.{ReadError}
use Rattle.octseq.specs.declared.error.WriteError.{WriteError}
use Rattle.octseq.specs.declared.parse.error.ParseOctetsError.{ParseOctetsError}

abbrev pub parse_octets_error_text : ParseOctetsError → List ℕ
parse_octets_error_text (ParseOctetsError.Short e) = codes "unexpected end of input"
parse_octets_error_text ParseOctetsError.Memory = codes "out of memory"

abbrev pub compose_error_text : ComposeError → List ℕ
compose_error_text ComposeError.TooLong = codes "long data"
compose_error_text ComposeError.Short = codes "buffer size exceeded"
compose_error_text ComposeError.Memory = codes "out of memory"

abbrev pub read_error_text : ReadError → List ℕ
read_error_text ReadError.Malformed = codes "malformed data"
read_error_text ReadError.Memory = codes "out of memory"

abbrev pub write_error_text : WriteError → List ℕ
write_error_text WriteError.Malformed = codes "malformed data"
write_error_text WriteError.Short = codes "buffer size exceeded"
write_error_text WriteError.Memory = codes "out of memory"
