-- How errors are shown.
use Rattle.std.specs.Prelude.{ℕ, List, codes}
use Rattle.octseq_dns_text.specs.declared.error.ScanError.{ScanError}

abbrev pub scan_error_text : ScanError → List ℕ
scan_error_text (ScanError.Malformed offset) = codes "malformed text"
scan_error_text ScanError.Short = codes "buffer size exceeded"
scan_error_text ScanError.Memory = codes "out of memory"
