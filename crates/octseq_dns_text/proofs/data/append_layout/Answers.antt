use Rattle.std.proofs.Common.{◌≡◌, ◌||◌, Err, ap, option_map}
use Rattle.octseq_dns_name.specs.Read.{labels_of}
use Rattle.octseq_dns_scan.specs.Words.{ahead_of, offset_of}
use Rattle.octseq_dns_text.proofs.LayoutTexts.{after_tail}
use Rattle.octseq_dns_text.proofs.ReadTexts.{or_left}
use Rattle.octseq_dns_text.specs.Tails.{has_list}
use Rattle.octseq_dns_text.specs.declared.error.ScanError.{ScanError}
use Rattle.octseq_dns_text.proofs.data.append_layout.Goals as goal

pub returns-in-Ok-clause-reads : goal.returns-in-Ok-clause-reads
returns-in-Ok-clause-reads g c =
    rw c.unless_full.ensures
    (after_tail (option_map (λ name. labels_of name.now) c.args.origin) c.args.layout.fields.now c.args.layout.tail
    (ahead_of c.args.words) (offset_of c.args.words) g.B.AsOctets.limit
    (g.B.AsOctets.asks || has_list c.args.layout.tail) (g.B.AsOctets.content c.args.target.now)
    (ahead_of c.append_fields.new.words)
    (offset_of c.append_fields.new.words) c.in-Ok.full (g.B.AsOctets.content c.append_fields.new.target)
    (g.B.AsOctets.content c.scan_tail.new.target) c.scan_tail.result c.in-Ok.ensures.ok c.scan_tail.ensures.reads)

pub returns-in-Err-clause-reads : goal.returns-in-Err-clause-reads
returns-in-Err-clause-reads g c = record {
  ok = tt;
  fault = λ offset same.
      let error : c.in-Err.error ≡ ScanError.Malformed offset = cc in
      c.in-Err.ensures.fault offset (ap (λ e. Err e) error) c.args.layout.tail;
  short = λ same.
      let error : c.in-Err.error ≡ ScanError.Short = cc in
      absurd (c.in-Err.ensures.short (ap (λ e. Err e) error));
  memory = λ same.
      let error : c.in-Err.error ≡ ScanError.Memory = cc in
      or_left g.B.AsOctets.asks (has_list c.args.layout.tail) (c.in-Err.ensures.memory (ap (λ e. Err e) error));
}
