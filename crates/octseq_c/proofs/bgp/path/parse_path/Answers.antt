use Rattle.std.proofs.Common.{ap, subst}
use Rattle.octseq.specs.Parser.{window}
use Rattle.octseq.specs.Window.{whole}
use Rattle.octseq_bgp.specs.PathOf.{path_of}
use Rattle.octseq_bgp.specs.Value.{IsValue}
use Rattle.octseq_bgp.specs.ValueOf.{value_of}
use Rattle.octseq_c.specs.BgpSession.{session_of}
use Rattle.octseq_c.proofs.BgpPath.{as_path_of, path_value, value_path}
use Rattle.octseq_c.proofs.bgp.path.parse_path.Goals as goal

pub returns-in-AsPath-clause-path : goal.returns-in-AsPath-clause-path
returns-in-AsPath-clause-path g c =
    let octets = g.R.AsOctets.content c.args.octets in
    let s = session_of c.args.session in
    let v = value_of c.value.result in
    let here = subst (λ s. IsValue s 2 (window c.from_ref.result) v) c.session_of.ensures c.value.ensures in
    let said = subst (λ w. IsValue s 2 w v) c.from_ref.ensures.window here in
    value_path s (whole octets) v (path_of c.in-AsPath.path) said (ap (λ v. value_of v) c.in-AsPath.is)

pub returns-in_default : goal.returns-in_default
returns-in_default g c =
    let octets = g.R.AsOctets.content c.args.octets in
    let s = session_of c.args.session in
    let v = value_of c.value.result in
    let here = subst (λ s. IsValue s 2 (window c.from_ref.result) v) c.session_of.ensures c.value.ensures in
    let said = subst (λ w. IsValue s 2 w v) c.from_ref.ensures.window here in
    record {
      path = tt;
      malformed = λ is.
          let one = path_value s (whole octets) is.0 is.1 v said in
          let read = as_path_of c.value.result one.0 one.1 in
          c.in_default.not-AsPath read.0 read.1;
    }
