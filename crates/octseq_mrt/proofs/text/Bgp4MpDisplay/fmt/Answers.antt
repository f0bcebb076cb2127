use Rattle.std.proofs.Common.{append_assoc, refl}
use Rattle.std.proofs.lemmas.Grind.{put_two}
use Rattle.octseq_mrt.specs.Text.{bgp4mp_text}
use Rattle.octseq_mrt.proofs.text.Bgp4MpDisplay.fmt.Goals as goal

pub returns-clause-writes : goal.returns-clause-writes
unfolding bgp4mp_text
returns-clause-writes g c = λ plain ok.
    let first = c.in_ok-write.ensures.writes plain refl in
    let second = c.write-2.ensures.writes first.plain ok in
    put_two g.W.Write.write_str_gives c.args.f.now c.write.new.self c.write-2.new.self _ _ _ first second
    (simp append_assoc)
