use Rattle.std.proofs.Common.{◌+◌, ◌++◌, length, refl, ap, ◌∙◌, arith, append_assoc, length-append}
use Rattle.octseq_bgp.specs.Composed.{header_octets, long_after}
use Rattle.octseq_bgp.proofs.compose.extend.Goals as goal

pub returns-then-len-room-clause-extends : goal.returns-then-len-room-clause-extends
returns-then-len-room-clause-extends g c kind body is =
    let t = g.T.Tail.octets c.args.tail.now in
    let old = ap length is ∙ long_after (19 + length body) kind body in
    let all = long_after (19 + length (body ++ t)) kind (body ++ t) in
    let both = length-append body t in
    record {
      ok = tt;
      err = refl;
      fits = λ none. none;
      short = (λ _. omega (arith, old, all, both), λ _. tt);
      memory = λ none. absurd none;
    }

pub returns-in-Ok-clause-extends : goal.returns-in-Ok-clause-extends
returns-in-Ok-clause-extends g c kind body is =
    let t = g.T.Tail.octets c.args.tail.now in
    let old = ap length is ∙ long_after (19 + length body) kind body in
    let all = long_after (19 + length (body ++ t)) kind (body ++ t) in
    let both = length-append body t in
    let h = header_octets (19 + length body) kind in
    record {
      ok = c.put_length.ensures.content _ _ _ (c.in-Ok.ensures.puts.ok ∙ ap (λ o. o ++ t) is ∙ append_assoc h body t);
      err = tt;
      fits = λ none. none;
      short = (λ none. absurd none, λ past. absurd (omega (arith, old, all, both, past)));
      memory = λ none. absurd none;
    }

pub returns-in-Err-clause-extends : goal.returns-in-Err-clause-extends
returns-in-Err-clause-extends g c kind body is =
    let t = g.T.Tail.octets c.args.tail.now in
    let old = ap length is ∙ long_after (19 + length body) kind body in
    let all = long_after (19 + length (body ++ t)) kind (body ++ t) in
    let both = length-append body t in
    record {
      ok = tt;
      err = c.in-Err.ensures.puts.err;
      fits = λ none. none;
      short = (λ none. absurd none, λ past. absurd (omega (arith, old, all, both, past)));
      memory = λ _. c.in-Err.ensures.puts.memory refl;
    }
