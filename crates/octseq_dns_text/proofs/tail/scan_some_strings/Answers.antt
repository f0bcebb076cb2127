use Rattle.std.proofs.Common.{◌≡◌, [], rules}
use Rattle.octseq_dns_scan.specs.Words.{ahead_of, offset_of}
use Rattle.octseq_dns_text.proofs.ReadTexts.{reads_malformed, reads_less}
use Rattle.octseq_dns_text.proofs.StringTexts.{some_strings_go}
use Rattle.octseq_dns_text.proofs.SomeTexts.{some_end, some_words, some_fault}
use Rattle.octseq_dns_text.specs.Tails.{AreStrings}
use Rattle.octseq_dns_text.specs.Scans.{AreSome}
use Rattle.octseq_dns_text.proofs.tail.scan_some_strings.Goals as goal

pub returns-then-is_at_end-clause-reads : goal.returns-then-is_at_end-clause-reads
returns-then-is_at_end-clause-reads g c =
    let none : ahead_of c.args.words ≡ [] = search rules in
    rw c.offset.ensures (reads_malformed (AreSome AreStrings) g.B.AsOctets.limit g.B.AsOctets.asks
    (ahead_of c.args.words)
    (offset_of c.args.words) (offset_of c.args.words) (g.B.AsOctets.content c.args.target.now)
    (g.B.AsOctets.content c.args.target.now)
    (some_end AreStrings (ahead_of c.args.words) (offset_of c.args.words) none some_strings_go))

pub returns-clause-reads : goal.returns-clause-reads
returns-clause-reads g c =
    let ahead = ahead_of c.args.words in
    let some : ¬ (ahead ≡ []) = search rules in
    reads_less AreStrings (AreSome AreStrings) g.B.AsOctets.limit g.B.AsOctets.asks c.scan_strings.result ahead
    (offset_of c.args.words) (g.B.AsOctets.content c.args.target.now) (g.B.AsOctets.content c.scan_strings.new.target)
    (some_words AreStrings ahead some) (some_fault AreStrings ahead
    (offset_of c.args.words) some_strings_go) c.scan_strings.ensures.reads
