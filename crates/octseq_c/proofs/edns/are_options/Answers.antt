use Rattle.std.proofs.Common.{refl}
use Rattle.octseq.specs.Parser.{window}
use Rattle.octseq_format.specs.Walk.{items_left}
use Rattle.octseq_c.proofs.EdnsOptions.{options_found, options_none}
use Rattle.octseq_c.proofs.edns.are_options.Goals as goal

pub returns-in-Ok : goal.returns-in-Ok
returns-in-Ok g c = (
  λ e. options_found _ (window c.from_ref-parser.result) (window c.parse.new.parser) (items_left c.in-Ok._walk)
      c.from_ref-parser.ensures.window c.parse.new.parser.ordered c.in-Ok.ensures.value,
  λ are. refl,
)

pub returns-in-Err : goal.returns-in-Err
returns-in-Err g c = (
  λ e. absurd (cc),
  λ are. absurd (options_none _ (window c.from_ref-parser.result) c.from_ref-parser.ensures.window
      (c.in-Err.ensures.malformed refl) are),
)
