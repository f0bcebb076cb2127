-- The refusals that the errors of this crate report, in the words of `octseq_core`.
use Rattle.octseq.specs.declared.compose.ComposeError.{ComposeError}
use Rattle.octseq.specs.declared.error.ReadError.{ReadError}
use Rattle.octseq.specs.declared.error.WriteError.{WriteError}
use Rattle.octseq.specs.declared.parse.error.ParseOctetsError.{ParseOctetsError}
pub use Rattle.octseq_core.specs.Refusal.{Refusal, Is, IsRefused, IsShort, IsMemory}
pub use Rattle.octseq_core.specs.Refusal.{IsTooLong, IsMalformed, append_error}
pub use Rattle.octseq_text.specs.Display.{display_error}

-- fewer octets were left than `parse_octets` takes, or a request for memory was refused
abbrev pub parse_octets_error : ParseOctetsError → Refusal
parse_octets_error (ParseOctetsError.Short e) = Refusal.short
parse_octets_error ParseOctetsError.Memory = Refusal.memory

-- a length or an integer doesn't fit its octets, or an append was refused
abbrev pub compose_error : ComposeError → Refusal
compose_error ComposeError.TooLong = Refusal.too_long
compose_error ComposeError.Short = Refusal.short
compose_error ComposeError.Memory = Refusal.memory

-- why octets were not read
abbrev pub read_error : ReadError → Refusal
read_error ReadError.Malformed = Refusal.malformed
read_error ReadError.Memory = Refusal.memory

-- why a value was not written
abbrev pub write_error : WriteError → Refusal
write_error WriteError.Malformed = Refusal.malformed
write_error WriteError.Short = Refusal.short
write_error WriteError.Memory = Refusal.memory
