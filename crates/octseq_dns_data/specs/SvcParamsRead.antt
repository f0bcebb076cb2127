-- What contracts see of parameters that were read.
use Rattle.std.specs.Prelude.{ℕ, List}
use Rattle.octseq.specs.declared.AsOctets.{Ghosts}
use Rattle.octseq.specs.Parser.{window}
use Rattle.octseq.specs.Window.{Window, rest}
use Rattle.octseq_dns_data.specs.SvcParams.{Param, ids_of, params_of}
use Rattle.octseq_dns_data.specs.declared.svc_params.AlpnIds.{AlpnIds}
use Rattle.octseq_dns_data.specs.declared.svc_params.SvcParam.{SvcParam}
use Rattle.octseq_dns_data.specs.declared.svc_params.SvcParamIter.{SvcParamIter}
use Rattle.octseq_dns_data.specs.declared.svc_params.SvcParams.{SvcParams}

-- the key and the value
abbrev pub param_of : {R : Type 0} {g : Ghosts R} → SvcParam R g → Param
param_of param = (param.key, rest (window param.octets))

-- the window of parameters
abbrev pub params_place : {R : Type 0} {g : Ghosts R} → SvcParams R g → Window
params_place params = window params.parser

-- the parameters that an iterator has left
abbrev pub params_left : {R : Type 0} {g : Ghosts R} → SvcParamIter R g → List Param
params_left params = params_of (rest (window params.parser))

-- the ids that an iterator has left
abbrev pub ids_left : {R : Type 0} {g : Ghosts R} → AlpnIds R g → List (List ℕ)
ids_left ids = ids_of (rest (window ids.parser))
