use Rattle.std.proofs.Common.{rules, [], ◌++◌, refl, sym, subst, append_assoc, append-nil}
use Rattle.std.proofs.Output.{has_written_append, has_written_of_eq}
use Rattle.octseq_dns_message.specs.MessageText.{record_text, line, IsRecordsText}
use Rattle.octseq_dns_message.specs.Said.{record_of}
use Rattle.octseq_dns_data.specs.Typed.{rdata_of}
use Rattle.octseq_dns_message.specs.Walk.{records_left}
use Rattle.octseq_dns_message.proofs.message.text.write_records.Goals as goal

pub loop-entry-init : goal.loop-entry-init
loop-entry-init g c = record {
  done = [];
  written = search rules;
  whole = λ more text.
      subst (λ records. IsRecordsText c.args.word.now (records_left records) more)
      c.into_iter-entry-iterator.ensures.into_iter_gives text;
}

pub loop-entry-preserved : goal.loop-entry-preserved
loop-entry-preserved g c =
    let so_far = c.loop-entry.invariant in
    let word = c.args.word.now in
    let text = line word (record_text (record_of c.in-Some.entry) (rdata_of c.data-rdata.result)) in
    record {
      done = so_far.done ++ text;
      written = λ plain. has_written_append _ _ _ _ _ _ (so_far.written plain) (search rules);
      whole = λ more is.
          let ahead = subst (λ records. IsRecordsText word records (text ++ more)) (sym c.in-Some.ensures.steps)
          (rdata_of c.data-rdata.result, more, c.data-rdata.ensures.rdata, is, refl) in
          subst (IsRecordsText word (records_left c.args.records)) (sym (append_assoc so_far.done text more))
          (so_far.whole (text ++ more) ahead);
    }

pub returns : goal.returns
returns g c =
    let so_far = c.loop-entry.invariant in
    let none = subst (λ records. IsRecordsText c.args.word.now records []) (sym c.in-None.ensures.steps.0) refl in (
      so_far.done ++ [],
      so_far.whole [] none,
      λ plain. has_written_of_eq _ _ _ _ _ (sym (append-nil so_far.done)) (so_far.written plain),
    )
