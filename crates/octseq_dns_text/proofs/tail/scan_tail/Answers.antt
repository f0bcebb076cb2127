use Rattle.std.proofs.Common.{true}
use Rattle.octseq_dns_data.specs.declared.layout.Tail.{Tail}
use Rattle.octseq_dns_scan.specs.Words.{ahead_of, offset_of}
use Rattle.octseq_dns_text.proofs.ReadTexts.{reads_or, of_scans, scans_grow}
use Rattle.octseq_dns_text.specs.ParamsText.{IsParamsText}
use Rattle.octseq_dns_text.specs.Tails.{IsTailText, has_list}
use Rattle.octseq_dns_text.specs.TypesText.{IsTypesText}
use Rattle.octseq_dns_text.proofs.tail.scan_tail.Goals as goal

pub returns-in-Nothing-clause-reads : goal.returns-in-Nothing-clause-reads
returns-in-Nothing-clause-reads g c = rw c.in-Nothing.is
    (reads_or (IsTailText Tail.Nothing) g.B.AsOctets.limit g.B.AsOctets.asks
    (has_list Tail.Nothing) c.scan_nothing.result
    (ahead_of c.args.words) (offset_of c.args.words) (g.B.AsOctets.content c.args.target.now)
    (g.B.AsOctets.content c.scan_nothing.new.target) c.scan_nothing.ensures.reads)

pub returns-in-Value-clause-reads : goal.returns-in-Value-clause-reads
returns-in-Value-clause-reads g c = rw c.in-Value.is
    (reads_or (IsTailText Tail.Value) g.B.AsOctets.limit g.B.AsOctets.asks (has_list Tail.Value) c.scan_value.result
    (ahead_of c.args.words) (offset_of c.args.words) (g.B.AsOctets.content c.args.target.now)
    (g.B.AsOctets.content c.scan_value.new.target) c.scan_value.ensures.reads)

pub returns-in-Target-clause-reads : goal.returns-in-Target-clause-reads
returns-in-Target-clause-reads g c = rw c.in-Target.is
    (reads_or (IsTailText Tail.Target) g.B.AsOctets.limit g.B.AsOctets.asks
    (has_list Tail.Target) c.scan_value-in-Target.result
    (ahead_of c.args.words) (offset_of c.args.words) (g.B.AsOctets.content c.args.target.now)
    (g.B.AsOctets.content c.scan_value-in-Target.new.target) c.scan_value-in-Target.ensures.reads)

pub returns-in-Strings-clause-reads : goal.returns-in-Strings-clause-reads
returns-in-Strings-clause-reads g c = rw c.in-Strings.is
    (reads_or (IsTailText Tail.Strings) g.B.AsOctets.limit g.B.AsOctets.asks
    (has_list Tail.Strings) c.scan_some_strings.result
    (ahead_of c.args.words) (offset_of c.args.words) (g.B.AsOctets.content c.args.target.now)
    (g.B.AsOctets.content c.scan_some_strings.new.target) c.scan_some_strings.ensures.reads)

pub returns-in-Hex-clause-reads : goal.returns-in-Hex-clause-reads
returns-in-Hex-clause-reads g c = rw c.in-Hex.is
    (reads_or (IsTailText Tail.Hex) g.B.AsOctets.limit g.B.AsOctets.asks (has_list Tail.Hex) c.scan_some_runs.result
    (ahead_of c.args.words) (offset_of c.args.words) (g.B.AsOctets.content c.args.target.now)
    (g.B.AsOctets.content c.scan_some_runs.new.target) c.scan_some_runs.ensures.reads)

pub returns-in-Base64-clause-reads : goal.returns-in-Base64-clause-reads
returns-in-Base64-clause-reads g c = rw c.in-Base64.is
    (reads_or (IsTailText Tail.Base64) g.B.AsOctets.limit g.B.AsOctets.asks
    (has_list Tail.Base64) c.scan_some_runs-in-Base64.result
    (ahead_of c.args.words) (offset_of c.args.words) (g.B.AsOctets.content c.args.target.now)
    (g.B.AsOctets.content c.scan_some_runs-in-Base64.new.target) c.scan_some_runs-in-Base64.ensures.reads)

pub returns-in-Types-clause-reads : goal.returns-in-Types-clause-reads
returns-in-Types-clause-reads g c = rw c.in-Types.is
    (of_scans IsTypesText g.B.AsOctets.limit g.B.AsOctets.asks c.scan_types.result
    (ahead_of c.args.words) (offset_of c.args.words) (g.B.AsOctets.content c.args.target.now)
    (g.B.AsOctets.content c.scan_types.new.target) c.scan_types.ensures.scanned)

pub returns-in-Types-clause-grows : goal.returns-in-Types-clause-grows
returns-in-Types-clause-grows g c =
    scans_grow IsTypesText g.B.AsOctets.limit true c.scan_types.result
    (ahead_of c.args.words) (offset_of c.args.words) (g.B.AsOctets.content c.args.target.now)
    (g.B.AsOctets.content c.scan_types.new.target) c.scan_types.ensures.scanned

pub returns-in-Params-clause-reads : goal.returns-in-Params-clause-reads
returns-in-Params-clause-reads g c = rw c.in-Params.is
    (of_scans IsParamsText g.B.AsOctets.limit g.B.AsOctets.asks c.scan_params.result
    (ahead_of c.args.words) (offset_of c.args.words) (g.B.AsOctets.content c.args.target.now)
    (g.B.AsOctets.content c.scan_params.new.target) c.scan_params.ensures.scanned)

pub returns-in-Params-clause-grows : goal.returns-in-Params-clause-grows
returns-in-Params-clause-grows g c =
    scans_grow IsParamsText g.B.AsOctets.limit true c.scan_params.result
    (ahead_of c.args.words) (offset_of c.args.words) (g.B.AsOctets.content c.args.target.now)
    (g.B.AsOctets.content c.scan_params.new.target) c.scan_params.ensures.scanned
