use Rattle.std.proofs.Common.{◌≡◌, ◌++◌, ◌∙◌, rules}
use Rattle.octseq_dns_scan.proofs.TextReaders.{reads_next, stuck}
use Rattle.octseq_dns_text.proofs.Appended.{adds_more, grows_more}
use Rattle.octseq_dns_text.proofs.runs.append_run.Goals as goal

pub returns-in_default-clause-malformed : goal.returns-in_default-clause-malformed
returns-in_default-clause-malformed g c = λ same start.
    let so_far = c.loop-octet.invariant in
    stuck (g.R.RunReader.is_text start) (g.R.RunReader.has_read start) c.args.reader c.loop-octet.after c.args.run.now
    c.loop-octet.octet-index so_far.more c.loop-octet-test.true (so_far.reads start)
    (c.in_default.ensures.none (search rules) start)

pub loop-octet-preserved : goal.loop-octet-preserved
loop-octet-preserved g c =
    let so_far = c.loop-octet.invariant in
    let made = c.in-Some.taken.1.content in
    let octets : c.as_slice.result.now ≡ made = search rules in record {
      more = so_far.more ++ made;
      reads = λ start. reads_next (g.R.RunReader.has_read start) c.args.reader c.loop-octet.after c.in-Some.taken.0
          c.args.run.now c.loop-octet.octet-index so_far.more made c.loop-octet-test.true (so_far.reads start)
          (c.in-Some.ensures.some start);
      adds = adds_more g.B.AsOctets.limit c.args.full c.loop-octet.past c.in-Ok.now
          (g.B.AsOctets.content c.args.target.now) (g.B.AsOctets.content c.loop-octet.target)
          (g.B.AsOctets.content c.append.new.target) so_far.more made so_far.adds
          (rw (← octets) c.in-Ok.ensures.ok);
      grows = grows_more (g.B.AsOctets.content c.args.target.now) (g.B.AsOctets.content c.loop-octet.target)
          (g.B.AsOctets.content c.append.new.target) so_far.grows c.append.ensures.grows;
      borrows = c.append.ensures.borrows ∙ so_far.borrows;
    }
