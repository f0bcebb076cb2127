use Rattle.std.proofs.Common.{◌≡◌, [], ◌∷◌, ◌++◌, rules, arith, FitsSigned, w16}
use Rattle.octseq.proofs.Codes.{took, not_taken, signed_code, no_signed}
use Rattle.octseq.proofs.Repeats.{HasOctets, read_more, read_cut}
use Rattle.octseq.proofs.Written.{length_be, is_signed_2}
use Rattle.octseq.specs.Integer.{IsSigned, octets_be, unsigned}
use Rattle.octseq.specs.Parser.{window}
use Rattle.octseq.specs.Window.{rest}
use Rattle.octseq_callers.specs.Levels.{level_of}
use Rattle.octseq_callers.proofs.levels.read_levels.Goals as goal

has_octets : HasOctets level_of
has_octets level = let all = length_be 2 (unsigned 2 level) in omega arith

pub returns-in_err-level-clause-malformed : goal.returns-in_err-level-clause-malformed
returns-in_err-level-clause-malformed g c = λ _ levels each is.
    let w = window c.loop-parser.parser in
    read_cut (IsSigned 2) level_of (g.R.AsOctets.content c.args.octets) (rest w) _ c.loop-parser.invariant (omega arith)
    (no_signed w 2 (not_taken c.in_err-level.ensures.taken))
    (levels, each, is)

pub loop-parser-preserved : goal.loop-parser-preserved
loop-parser-preserved g c =
    let level = c.in_ok-level.level in
    let pushed : c.push.new.self.items ≡ c.loop-parser.levels.items ++ level ∷ [] =
    grind (arith, c.push.ensures.items, c.is_err.ensures) in
    let fits : FitsSigned w16 level = search rules in
    read_more (IsSigned 2) level_of (signed_code 2) has_octets (g.R.AsOctets.content c.args.octets)
    (rest (window c.loop-parser.parser)) (rest (window c.parse_i16_be.new.self))
    c.loop-parser.levels.items c.push.new.self.items level c.loop-parser.invariant (is_signed_2 level fits)
    (took (octets_be 2 (unsigned 2 level)) c.in_ok-level.ensures.taken c.in_ok-level.ensures.octets) pushed
