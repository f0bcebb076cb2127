-- What contracts see of a walk over a row.
use Rattle.std.specs.Prelude.{List}
use Rattle.octseq.specs.declared.AsOctets.{Ghosts as OctetsGhosts}
use Rattle.octseq_format.specs.declared.walk.Walk.{Walk}
use Rattle.octseq_format.specs.declared.answer.Answer.{Ghosts as AnswerGhosts}
use Rattle.octseq_format.specs.declared.format.Format.{Ghosts}

-- the items that are left
abbrev pub items_left : {R F V D M : Type 0} {o : OctetsGhosts R} {f : Ghosts F R V D M} {d : AnswerGhosts D}
    {m : AnswerGhosts M} → Walk R F V D M o f d m → List f.Found
items_left walk = walk.ahead.0
