use Rattle.std.proofs.Common.{◌≡◌, ◌++◌, map}
use Rattle.std.specs.List.{flat_map}
use Rattle.octseq_dns_data.specs.SvcParams.{param_octets}
use Rattle.octseq_dns_text.specs.Reading.{entry_param, params_in}
use Rattle.octseq_dns_text.proofs.params.params_octets.Given as goal

abbrev pub invariant-loop-key : goal.invariant-loop-key
invariant-loop-key l =
    l.octets.items ++ flat_map param_octets (map entry_param l.key-iterator)
    ≡ flat_map param_octets (params_in l.params)
