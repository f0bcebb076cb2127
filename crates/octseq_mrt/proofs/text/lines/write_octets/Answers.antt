use Rattle.std.proofs.Common.{rules, codes, refl}
use Rattle.std.proofs.lemmas.Result.{on_ok_weaker}
use mathlib.Core.Logic.{inl, inr}
use Rattle.octseq_bgp.specs.Parsed.{message_of}
use Rattle.octseq_bgp.proofs.Shown.{shown_of}
use Rattle.octseq_mrt.proofs.text.lines.write_octets.Goals as goal

pub returns-in-Ok : goal.returns-in-Ok
returns-in-Ok g c = on_ok_weaker c.fmt.result
    (λ shown. (shown.0, inl (message_of c.in-Ok.message, c.in-Ok.ensures.message, shown.1), shown.2))
    c.fmt.ensures.shown

pub returns-in-Err : goal.returns-in-Err
returns-in-Err g c = shown_of c.write_str.result _ _ _ (codes "malformed\n")
    (inr (c.in-Err.ensures.malformed refl, refl)) (λ plain ok. search rules)
