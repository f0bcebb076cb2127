use Rattle.std.proofs.Common.{rules, ℕ, List, [], ◌++◌, ap, sym, ◌∙◌, append_assoc}
use Rattle.std.proofs.Output.{has_written_append}
use Rattle.std.specs.List.{flat_map}
use Rattle.octseq_bgp.specs.Lists.{nlri_of, prefixes_left}
use Rattle.octseq_bgp.specs.MessageText.{line}
use Rattle.octseq_bgp.specs.ValueText.{nlri_text}
use Rattle.octseq_bgp.proofs.text.lines.write_prefixes.Goals as goal

pub loop-nlri-preserved : goal.loop-nlri-preserved
loop-nlri-preserved g c = λ plain.
    let so_far = c.loop-nlri.invariant plain in
    let more = prefixes_left c.next.new.self in
    let text : List ℕ = line c.args.word.now (nlri_text (nlri_of c.in-Some.nlri)) in (
      so_far.0 ++ text,
      has_written_append _ _ _ _ _ _ so_far.1 (search rules),
      append_assoc so_far.0 text (flat_map (λ n. line c.args.word.now (nlri_text n)) more)
          ∙ ap (λ row. so_far.0 ++ flat_map (λ n. line c.args.word.now (nlri_text n)) row)
          (sym c.in-Some.ensures.steps) ∙ so_far.2,
    )

pub loop-nlri-init : goal.loop-nlri-init
loop-nlri-init g c = λ plain. (
  [],
  search rules,
  ap (λ row. flat_map (λ n. line c.args.word.now (nlri_text n))
      (prefixes_left row)) c.into_iter-nlri-iterator.ensures.into_iter_gives,
)
