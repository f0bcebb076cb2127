-- What errors print.
use Rattle.std.specs.Prelude.{ℕ, List, codes}
use Rattle.octseq_dns_name.specs.declared.error.FromLabelsError.{FromLabelsError}
use Rattle.octseq_dns_name.specs.declared.error.FromTextError.{FromTextError}

abbrev pub from_text_error_text : FromTextError → List ℕ
from_text_error_text FromTextError.UnexpectedEnd = codes "unexpected end of input"
from_text_error_text FromTextError.EmptyLabel = codes "empty label"
from_text_error_text FromTextError.LongLabel = codes "long label"
from_text_error_text FromTextError.LongName = codes "long domain name"
from_text_error_text FromTextError.IllegalEscape = codes "illegal escape sequence"
from_text_error_text FromTextError.IllegalOctet = codes "illegal octet"

abbrev pub from_labels_error_text : FromLabelsError → List ℕ
from_labels_error_text FromLabelsError.EmptyLabel = codes "empty label"
from_labels_error_text FromLabelsError.LongLabel = codes "long label"
from_labels_error_text FromLabelsError.LongName = codes "long domain name"
from_labels_error_text FromLabelsError.Short = codes "buffer size exceeded"
from_labels_error_text FromLabelsError.Memory = codes "out of memory"
