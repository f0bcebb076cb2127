-- What a reader or a writer of a format returns if a call that it makes was refused.
use Rattle.octseq.specs.declared.compose.ComposeError.{ComposeError}
use Rattle.octseq.specs.declared.error.ReadError.{ReadError}
use Rattle.octseq.specs.declared.error.WriteError.{WriteError}
use Rattle.octseq.specs.declared.parse.error.ParseOctetsError.{ParseOctetsError}

-- for an error of the parser
abbrev pub read_error_of : ParseOctetsError → ReadError
read_error_of (ParseOctetsError.Short e) = ReadError.Malformed
read_error_of ParseOctetsError.Memory = ReadError.Memory

-- for an error of a composer
abbrev pub write_error_of : ComposeError → WriteError
write_error_of ComposeError.TooLong = WriteError.Malformed
write_error_of ComposeError.Short = WriteError.Short
write_error_of ComposeError.Memory = WriteError.Memory
