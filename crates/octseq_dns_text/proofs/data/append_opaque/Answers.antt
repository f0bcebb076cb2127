use Rattle.std.proofs.Common.{◌≡◌, ◌*◌, ◌≤◌, refl, rules}
use Rattle.std.specs.Str.Parse.{IsNumeral, digits_value}
use Rattle.octseq_dns_scan.proofs.Taken.{word_once}
use Rattle.octseq_dns_scan.specs.Words.{ahead_of, offset_of}
use Rattle.octseq_dns_text.proofs.DataTexts.{sized_none, sized_bad, sized_to, sized_from}
use Rattle.octseq_dns_text.proofs.ReadTexts.{takes_some, reads_malformed, after_word}
use Rattle.octseq_dns_text.specs.DataText.{IsSizedText}
use Rattle.octseq_dns_text.specs.Runs.{AreRuns}
use Rattle.octseq_dns_text.specs.SizedHex.{IsSizedHexText}
use Rattle.octseq_dns_text.proofs.data.append_opaque.Goals as goal

pub returns-in-Some-scan_u16-clause-reads : goal.returns-in-Some-scan_u16-clause-reads
returns-in-Some-scan_u16-clause-reads g c =
    let word = c.in-Some.word.octets.now in
    let len = c.in-Some-scan_u16.len in
    let numeral : IsNumeral 10 word = search rules in
    let few : digits_value 10 word ≤ 65535 = search rules in
    let value : len ≡ digits_value 10 word = search rules in
    let reads = rw c.new.ensures.digits at c.scan_runs.ensures.reads in
    after_word IsSizedText (AreRuns (IsSizedHexText (2 * len))) g.B.AsOctets.limit g.B.AsOctets.asks
    c.scan_runs.result word (ahead_of c.args.words) (ahead_of c.next_word.new.self) (offset_of c.args.words)
    (offset_of c.next_word.new.self) (g.B.AsOctets.content c.args.target.now)
    (g.B.AsOctets.content c.scan_runs.new.target) c.in-Some.ensures.some c.in-Some.ensures.end
    (sized_to word len numeral few value) (sized_from word len value) reads

pub returns-in-None-scan_u16-clause-reads : goal.returns-in-None-scan_u16-clause-reads
returns-in-None-scan_u16-clause-reads g c =
    let word = c.in-Some.word.octets.now in
    let ahead = ahead_of c.args.words in
    let start = offset_of c.args.words in
    let rest = ahead_of c.next_word.new.self in
    let none : ¬ (IsNumeral 10 word × (digits_value 10 word ≤ 65535)) = search rules in
    rw c.in-Some.ensures.offset (reads_malformed IsSizedText g.B.AsOctets.limit g.B.AsOctets.asks ahead start start
    (g.B.AsOctets.content c.args.target.now) (g.B.AsOctets.content c.args.target.now)
    (sized_bad word ahead rest start c.in-Some.ensures.some
    (λ other left takes. (word_once other word ahead left rest takes c.in-Some.ensures.some).0)
    (takes_some word ahead rest c.in-Some.ensures.some) none))

pub returns-in-None-clause-reads : goal.returns-in-None-clause-reads
returns-in-None-clause-reads g c =
    let ahead = ahead_of c.args.words in
    let start = offset_of c.args.words in
    rw c.offset.ensures (reads_malformed IsSizedText g.B.AsOctets.limit g.B.AsOctets.asks ahead start start
    (g.B.AsOctets.content c.args.target.now) (g.B.AsOctets.content c.args.target.now)
    (sized_none ahead start (c.in-None.ensures.none refl)))
