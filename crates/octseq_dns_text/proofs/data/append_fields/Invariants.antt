-- The fields so far are read, and their octets are appended.
use Rattle.std.proofs.Common.{◌≡◌, List, ◌++◌, length, option_map}
use Rattle.octseq_dns_data.specs.declared.layout.Field.{Field}
use Rattle.octseq_dns_data.specs.declared.layout.Tail.{Tail}
use Rattle.octseq_dns_name.specs.Read.{labels_of}
use Rattle.octseq_dns_scan.specs.Words.{ahead_of, offset_of}
use Rattle.octseq_dns_text.specs.Layouts.{IsLayoutText}
use Rattle.octseq_dns_text.specs.Output.{Grows}
use Rattle.octseq_dns_text.specs.Reached.{Reached}
use Rattle.octseq_dns_text.proofs.data.append_fields.Given as goal

abbrev pub invariant-fields : goal.invariant-fields
invariant-fields g l = record {
  done : List Field;
  parts : l.fn.fields ≡ done ++ l.ahead;
  reached : Reached (IsLayoutText (option_map (λ name. labels_of name.now) l.fn.origin) done Tail.Nothing)
      (ahead_of l.fn.words) (offset_of l.fn.words) g.B.AsOctets.limit (g.B.AsOctets.content l.fn.target)
      (ahead_of l.words) (offset_of l.words) l.full (g.B.AsOctets.content l.target);
  grows : Grows (g.B.AsOctets.content l.fn.target) (g.B.AsOctets.content l.target);
  borrows : g.B.AsOctets.borrows l.target ≡ g.B.AsOctets.borrows l.fn.target;
}

abbrev pub decreases-fields : goal.decreases-fields
decreases-fields g l = length l.ahead
