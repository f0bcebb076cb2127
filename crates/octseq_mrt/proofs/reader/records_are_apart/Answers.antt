use Rattle.octseq_mrt.proofs.reader.records_are_apart.Goals as goal

pub returns : goal.returns
returns c = λ a b x y fits also same. (c.frames_are_apart.ensures (record {}) a b x y fits also same).0
