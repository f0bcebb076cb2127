use Rattle.std.proofs.Common.{◌≡◌, rules, sym, subst}
use Rattle.octseq_utf8.specs.Text.{IsWellFormed}
use Rattle.octseq_utf8.proofs.Bridge.{well_formed_from_utf8}
use Rattle.octseq_text.proofs.str.text.Str.copied.Goals as goal

pub invariant_of-result : goal.invariant_of-result
invariant_of-result g c =
    let copy : g.Octets.AsOctets.content c.in_ok-octets-in-Ok.octets ≡ c.args.s.now = search rules in
    subst IsWellFormed (sym copy) (well_formed_from_utf8 _ c.utf8.s)
