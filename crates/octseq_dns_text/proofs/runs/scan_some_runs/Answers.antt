use Rattle.std.proofs.Common.{◌≡◌, [], rules}
use Rattle.octseq_dns_scan.specs.Words.{ahead_of, offset_of}
use Rattle.octseq_dns_text.proofs.ReadTexts.{reads_malformed, reads_less}
use Rattle.octseq_dns_text.proofs.RunTexts.{some_runs_go}
use Rattle.octseq_dns_text.proofs.SomeTexts.{some_end, some_words, some_fault}
use Rattle.octseq_dns_text.specs.Runs.{AreRuns}
use Rattle.octseq_dns_text.specs.Scans.{AreSome}
use Rattle.octseq_dns_text.proofs.runs.scan_some_runs.Goals as goal

pub returns-then-is_at_end-clause-reads : goal.returns-then-is_at_end-clause-reads
returns-then-is_at_end-clause-reads g c =
    let start = c.args.reader in
    let Is = g.R.RunReader.is_text start in
    let none : ahead_of c.args.words ≡ [] = search rules in
    let first = some_runs_go Is (c.has_text.ensures start [] [] c.requires) in
    rw c.offset.ensures (reads_malformed (AreSome (AreRuns Is)) g.B.AsOctets.limit g.B.AsOctets.asks
    (ahead_of c.args.words)
    (offset_of c.args.words) (offset_of c.args.words) (g.B.AsOctets.content c.args.target.now)
    (g.B.AsOctets.content c.args.target.now)
    (some_end (AreRuns Is) (ahead_of c.args.words) (offset_of c.args.words) none first))

pub returns-clause-reads : goal.returns-clause-reads
returns-clause-reads g c =
    let start = c.args.reader in
    let Is = g.R.RunReader.is_text start in
    let ahead = ahead_of c.args.words in
    let some : ¬ (ahead ≡ []) = search rules in
    let first = some_runs_go Is (c.has_text.ensures start [] [] c.requires) in
    reads_less (AreRuns Is) (AreSome (AreRuns Is)) g.B.AsOctets.limit g.B.AsOctets.asks c.scan_runs.result ahead
    (offset_of c.args.words) (g.B.AsOctets.content c.args.target.now) (g.B.AsOctets.content c.scan_runs.new.target)
    (some_words (AreRuns Is) ahead some) (some_fault (AreRuns Is) ahead
    (offset_of c.args.words) first) c.scan_runs.ensures.reads
