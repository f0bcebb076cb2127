use Rattle.std.proofs.Common.{rules, [], ◌++◌, refl, sym, subst, append_assoc, append-nil}
use Rattle.std.proofs.Output.{has_written_append}
use Rattle.octseq_mrt.specs.Parsed.{entries_left}
use Rattle.octseq_mrt.specs.RecordText.{AreEntryLines}
use Rattle.octseq_mrt.proofs.text.rib.write_entries.Goals as goal

pub loop-entry-init : goal.loop-entry-init
loop-entry-init g c = record {
  done = [];
  written = search rules;
  whole = λ more text. subst (λ row. AreEntryLines (entries_left row) more)
      c.into_iter-entry-iterator.ensures.into_iter_gives text;
}

pub loop-entry-preserved : goal.loop-entry-preserved
loop-entry-preserved g c =
    let so_far = c.loop-entry.invariant in
    let here = c.in_ok-write_entry.ensures in
    record {
      done = so_far.done ++ here.0;
      written = λ plain.
          let before = so_far.written plain in
          has_written_append _ _ _ _ _ _ before (here.2 before.plain);
      whole = λ more is.
          let ahead = subst (λ row. AreEntryLines row (here.0 ++ more)) (sym c.in-Some.ensures.steps)
          (here.0, more, here.1, is, refl) in
          subst (AreEntryLines (entries_left c.args.entries)) (sym (append_assoc so_far.done here.0 more))
          (so_far.whole (here.0 ++ more) ahead);
    }

pub returns : goal.returns
returns g c =
    let so_far = c.loop-entry.invariant in
    let all = subst (AreEntryLines (entries_left c.args.entries)) (append-nil so_far.done) (so_far.whole []
    (rw c.in-None.ensures.steps.0 refl)) in
    (so_far.done, all, so_far.written)
