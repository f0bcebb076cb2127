use Rattle.std.proofs.Common.{rules, ◌++◌, ap, ◌∙◌}
use Rattle.std.proofs.Output.{has_written_append, has_written_of_eq}
use Rattle.std.specs.Fmt.{HasWritten}
use Rattle.octseq.specs.Parser.{window}
use Rattle.octseq_bgp.specs.Path.{segment_number}
use Rattle.octseq_bgp.specs.PathOf.{asns_left}
use Rattle.octseq_bgp.specs.Text.{segment_text}
use Rattle.octseq_bgp.specs.ValueText.{numbers_text, segment_name}
use Rattle.octseq_bgp.proofs.Names.{segment_is_named}
use Rattle.octseq_bgp.proofs.Numbers.{numbers_are}
use Rattle.octseq_bgp.proofs.text.value.SegmentDisplay.fmt.Goals as goal

pub returns-clause-writes : goal.returns-clause-writes
returns-clause-writes g c = λ plain ok.
    let took = g.W.Write.write_str_gives in
    let s = c.args.self.now in
    let asns = asns_left c.asns.result in
    let first : HasWritten took c.args.f.now (segment_text s.kind) c.write.new.self = search rules in
    let second : HasWritten took c.write.new.self (numbers_text asns) c.write_asns.new.f = search rules in
    has_written_of_eq _ _ _ _ _ (ap (λ name. name ++ numbers_text asns) (segment_is_named s.kind)
    ∙ ap (λ row. segment_name (segment_number s.kind) ++ numbers_text row)
    (numbers_are s.wide (window s.octets) s.count asns c.asns.ensures s.whole))
    (has_written_append _ _ _ _ _ _ first second)
