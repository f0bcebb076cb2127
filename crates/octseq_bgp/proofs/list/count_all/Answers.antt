use Rattle.std.proofs.Common.{refl}
use Rattle.octseq.specs.Parser.{window}
use Rattle.octseq_bgp.proofs.Counting.{counted}
use Rattle.octseq_bgp.proofs.list.count_all.Goals as goal

pub returns-in-Err-clause-counts : goal.returns-in-Err-clause-counts
returns-in-Err-clause-counts g c =
    record { held = tt; filled = tt; many = tt; malformed = λ _. c.in-Err.ensures.malformed refl }

pub returns-in-Ok-clause-counts : goal.returns-in-Ok-clause-counts
returns-in-Ok-clause-counts g c =
    let f = g.F.Format in
    let all = c.in-Ok.ensures.all in
    counted f.found_code f.is_at f.one (window c.args.parser) (window c.skip_all.new.parser) c.in-Ok.count all.0 all.1
    c.in-Ok.ensures.ends
