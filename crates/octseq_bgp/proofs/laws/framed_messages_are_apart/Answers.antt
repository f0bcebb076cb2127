use Rattle.octseq_bgp.proofs.laws.framed_messages_are_apart.Goals as goal

pub returns : goal.returns
returns c = λ s a b x y fits also same. (c.frames_are_apart.ensures s a b x y fits also same).0
