use Rattle.std.proofs.Common.{◌∙◌, ap, sym, refl, []}
use Rattle.octseq_utf8.specs.Parts.{text}
use Rattle.octseq_utf8.proofs.Splitting.{only_parts}
use Rattle.octseq_c.proofs.Wholes.{whole_pieces}
use Rattle.octseq_c.proofs.pieces.pieces_are_the_whole.Goals as goal

pub returns : goal.returns
returns c = λ pieces made parts t s. whole_pieces [] pieces made (λ n. absurd (n refl)) t ∙ ap text (sym (only_parts s))
