use Rattle.std.proofs.Common.{rules, ◌++◌, ap, ◌∙◌}
use Rattle.std.proofs.Output.{has_written_append, has_written_of_eq}
use Rattle.std.specs.Fmt.{HasWritten}
use Rattle.octseq_bgp.specs.Text.{prefix_text}
use Rattle.octseq_bgp.specs.ValueText.{nlri_text, path_id_text}
use Rattle.octseq_bgp.proofs.text.value.NlriDisplay.fmt.Goals as goal

pub returns-clause-writes : goal.returns-clause-writes
unfolding nlri_text
returns-clause-writes g c = λ plain ok.
    let took = g.W.Write.write_str_gives in
    let n = c.args.self.now in
    let p = c.prefix-prefix.result in
    let is = c.prefix-prefix.ensures in
    let id = path_id_text n.path_id in
    let first : HasWritten took c.args.f.now (prefix_text p.afi p.len p.address) c.write.new.self =
    c.in_ok-write.ensures.writes plain (search rules) in
    let second : HasWritten took c.write.new.self id c.write_path_id.new.f = c.write_path_id.ensures first.plain ok in
    has_written_of_eq _ _ _ _ _ (ap (λ a. prefix_text a p.len p.address ++ id) is.afi
    ∙ ap (λ bits. prefix_text n.afi bits p.address ++ id) is.len
    ∙ ap (λ address. prefix_text n.afi n.len address ++ id) is.address)
    (has_written_append _ _ _ _ _ _ first second)
