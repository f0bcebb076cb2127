-- What the search doesn't reach for this many values: the last ones are within the limit, and all were appended.
use Rattle.std.proofs.Common.{refl}
use Rattle.std.specs.Prelude.{◌++◌}
use Rattle.std.proofs.lemmas.Result.{on_ok_weaker}
use Rattle.octseq_format.specs.Pair.{both_octets, both_say}
use Rattle.octseq_format.proofs.Lens.{rest_within, first_within, append_on}
use Rattle.octseq_format.proofs.wide_tuples.Tuple8Format.put.Goals as goal

pub put_or_cut-requires-6-clause-within : goal.put_or_cut-requires-6-clause-within
unfolding both_octets both_say
put_or_cut-requires-6-clause-within g c =
    let content = g.Into.AsOctets.content in
    let limit = g.Into.AsOctets.limit in
    let v = c.args.value.now in
    let o0 = g.A.Format.octets (g.A.Format.says (g.A.Format.found v.0)) in
    let o1 = g.B.Format.octets (g.B.Format.says (g.B.Format.found v.1)) in
    let o2 = g.C.Format.octets (g.C.Format.says (g.C.Format.found v.2)) in
    let o3 = g.D.Format.octets (g.D.Format.says (g.D.Format.found v.3)) in
    let o4 = g.E.Format.octets (g.E.Format.says (g.E.Format.found v.4)) in
    let o5 = g.F.Format.octets (g.F.Format.says (g.F.Format.found v.5)) in
    let o6 = g.G.Format.octets (g.G.Format.says (g.G.Format.found v.6)) in
    let o7 = g.H.Format.octets (g.H.Format.says (g.H.Format.found v.7)) in
    let w1 = rest_within limit (content c.args.builder.now) (content c.put.new.builder) o0
    (o1 ++ (o2 ++ (o3 ++ (o4 ++ (o5 ++ (o6 ++ o7)))))) c.requires.within c.in_ok-put.ensures.ok in
    let w2 = rest_within limit (content c.put.new.builder) (content c.put_or_cut.new.builder) o1
    (o2 ++ (o3 ++ (o4 ++ (o5 ++ (o6 ++ o7))))) w1 c.in_ok-put_or_cut.ensures.ok in
    let w3 = rest_within limit (content c.put_or_cut.new.builder) (content c.put_or_cut-2.new.builder) o2
    (o3 ++ (o4 ++ (o5 ++ (o6 ++ o7)))) w2 c.in_ok-put_or_cut-2.ensures.ok in
    let w4 = rest_within limit (content c.put_or_cut-2.new.builder) (content c.put_or_cut-3.new.builder) o3
    (o4 ++ (o5 ++ (o6 ++ o7))) w3 c.in_ok-put_or_cut-3.ensures.ok in
    let w5 = rest_within limit (content c.put_or_cut-3.new.builder) (content c.put_or_cut-4.new.builder) o4
    (o5 ++ (o6 ++ o7)) w4 c.in_ok-put_or_cut-4.ensures.ok in
    let w6 = rest_within limit (content c.put_or_cut-4.new.builder) (content c.put_or_cut-5.new.builder) o5
    (o6 ++ o7) w5 c.in_ok-put_or_cut-5.ensures.ok in
    first_within limit (content c.put_or_cut-5.new.builder) o6 (o7) w6

pub put_or_cut-requires-7-clause-within : goal.put_or_cut-requires-7-clause-within
unfolding both_octets both_say
put_or_cut-requires-7-clause-within g c =
    let content = g.Into.AsOctets.content in
    let limit = g.Into.AsOctets.limit in
    let v = c.args.value.now in
    let o0 = g.A.Format.octets (g.A.Format.says (g.A.Format.found v.0)) in
    let o1 = g.B.Format.octets (g.B.Format.says (g.B.Format.found v.1)) in
    let o2 = g.C.Format.octets (g.C.Format.says (g.C.Format.found v.2)) in
    let o3 = g.D.Format.octets (g.D.Format.says (g.D.Format.found v.3)) in
    let o4 = g.E.Format.octets (g.E.Format.says (g.E.Format.found v.4)) in
    let o5 = g.F.Format.octets (g.F.Format.says (g.F.Format.found v.5)) in
    let o6 = g.G.Format.octets (g.G.Format.says (g.G.Format.found v.6)) in
    let o7 = g.H.Format.octets (g.H.Format.says (g.H.Format.found v.7)) in
    let w1 = rest_within limit (content c.args.builder.now) (content c.put.new.builder) o0
    (o1 ++ (o2 ++ (o3 ++ (o4 ++ (o5 ++ (o6 ++ o7)))))) c.requires.within c.in_ok-put.ensures.ok in
    let w2 = rest_within limit (content c.put.new.builder) (content c.put_or_cut.new.builder) o1
    (o2 ++ (o3 ++ (o4 ++ (o5 ++ (o6 ++ o7))))) w1 c.in_ok-put_or_cut.ensures.ok in
    let w3 = rest_within limit (content c.put_or_cut.new.builder) (content c.put_or_cut-2.new.builder) o2
    (o3 ++ (o4 ++ (o5 ++ (o6 ++ o7)))) w2 c.in_ok-put_or_cut-2.ensures.ok in
    let w4 = rest_within limit (content c.put_or_cut-2.new.builder) (content c.put_or_cut-3.new.builder) o3
    (o4 ++ (o5 ++ (o6 ++ o7))) w3 c.in_ok-put_or_cut-3.ensures.ok in
    let w5 = rest_within limit (content c.put_or_cut-3.new.builder) (content c.put_or_cut-4.new.builder) o4
    (o5 ++ (o6 ++ o7)) w4 c.in_ok-put_or_cut-4.ensures.ok in
    let w6 = rest_within limit (content c.put_or_cut-4.new.builder) (content c.put_or_cut-5.new.builder) o5
    (o6 ++ o7) w5 c.in_ok-put_or_cut-5.ensures.ok in
    let w7 = rest_within limit (content c.put_or_cut-5.new.builder) (content c.put_or_cut-6.new.builder) o6
    (o7) w6 c.in_ok-put_or_cut-6.ensures.ok in
    w7

pub returns-clause-ok : goal.returns-clause-ok
unfolding both_octets both_say
returns-clause-ok g c =
    let content = g.Into.AsOctets.content in
    let limit = g.Into.AsOctets.limit in
    let v = c.args.value.now in
    let o0 = g.A.Format.octets (g.A.Format.says (g.A.Format.found v.0)) in
    let o1 = g.B.Format.octets (g.B.Format.says (g.B.Format.found v.1)) in
    let o2 = g.C.Format.octets (g.C.Format.says (g.C.Format.found v.2)) in
    let o3 = g.D.Format.octets (g.D.Format.says (g.D.Format.found v.3)) in
    let o4 = g.E.Format.octets (g.E.Format.says (g.E.Format.found v.4)) in
    let o5 = g.F.Format.octets (g.F.Format.says (g.F.Format.found v.5)) in
    let o6 = g.G.Format.octets (g.G.Format.says (g.G.Format.found v.6)) in
    let o7 = g.H.Format.octets (g.H.Format.says (g.H.Format.found v.7)) in
    on_ok_weaker c.put_or_cut-7.result (λ e7.
    let e6 = append_on (content c.put_or_cut-5.new.builder) (content c.put_or_cut-6.new.builder)
    (content c.put_or_cut-7.new.builder) o6 (o7) c.in_ok-put_or_cut-6.ensures.ok e7 in
    let e5 = append_on (content c.put_or_cut-4.new.builder) (content c.put_or_cut-5.new.builder)
    (content c.put_or_cut-7.new.builder) o5 (o6 ++ o7) c.in_ok-put_or_cut-5.ensures.ok e6 in
    let e4 = append_on (content c.put_or_cut-3.new.builder) (content c.put_or_cut-4.new.builder)
    (content c.put_or_cut-7.new.builder) o4 (o5 ++ (o6 ++ o7)) c.in_ok-put_or_cut-4.ensures.ok e5 in
    let e3 = append_on (content c.put_or_cut-2.new.builder) (content c.put_or_cut-3.new.builder)
    (content c.put_or_cut-7.new.builder) o3 (o4 ++ (o5 ++ (o6 ++ o7))) c.in_ok-put_or_cut-3.ensures.ok e4 in
    let e2 = append_on (content c.put_or_cut.new.builder) (content c.put_or_cut-2.new.builder)
    (content c.put_or_cut-7.new.builder) o2 (o3 ++ (o4 ++ (o5 ++ (o6 ++ o7)))) c.in_ok-put_or_cut-2.ensures.ok e3 in
    let e1 = append_on (content c.put.new.builder) (content c.put_or_cut.new.builder)
    (content c.put_or_cut-7.new.builder) o1
    (o2 ++ (o3 ++ (o4 ++ (o5 ++ (o6 ++ o7))))) c.in_ok-put_or_cut.ensures.ok e2 in
    let e0 = append_on (content c.args.builder.now) (content c.put.new.builder)
    (content c.put_or_cut-7.new.builder) o0
    (o1 ++ (o2 ++ (o3 ++ (o4 ++ (o5 ++ (o6 ++ o7)))))) c.in_ok-put.ensures.ok e1 in
    e0) c.put_or_cut-7.ensures.ok
