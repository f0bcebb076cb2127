-- What is searched for is ahead exactly if it is anywhere.
use Rattle.std.proofs.Common.{◌≡◌, ◌==◌, find}
use Rattle.octseq.specs.Window.{rest}
use Rattle.octseq_dns_data.specs.SvcParams.{params_of}
use Rattle.octseq_dns_data.specs.SvcParamsRead.{params_left, params_place}
use Rattle.octseq_dns_data.proofs.svc_params.SvcParams.get.Given as goal

abbrev pub invariant-loop-param : goal.invariant-loop-param
invariant-loop-param g l = find (λ param. param.0 == l.fn.key) (params_left l.param-iterator)
    ≡ find (λ param. param.0 == l.fn.key) (params_of (rest (params_place l.fn.self)))
