-- What is written, and the text of the ids ahead, are the whole text.
use Rattle.std.proofs.Common.{◌≡◌, ℕ, List, ◌∷◌, ◌++◌}
use Rattle.std.specs.Fmt.{HasWritten, IsPlainFormatter}
use Rattle.std.specs.List.{flat_map}
use Rattle.octseq.specs.OctetsText.{string_octet_text}
use Rattle.octseq_dns_data.specs.SvcParams.{ids_of}
use Rattle.octseq_dns_data.specs.SvcParamsRead.{ids_left}
use Rattle.octseq_dns_data.specs.SvcParamsText.{ids_text, listed_octet}
use Rattle.octseq_dns_data.proofs.svc_params.text.write_ids.Given as goal

abbrev pub invariant-loop-id : goal.invariant-loop-id
invariant-loop-id g l =
    IsPlainFormatter l.fn.f → (done : List ℕ) × HasWritten g.W.Write.write_str_gives l.fn.f done l.f
    × (done ++ flat_map (λ id. 44 ∷ flat_map string_octet_text (flat_map listed_octet id)) (ids_left l.id-iterator)
    ≡ ids_text (ids_of l.fn.octets))
