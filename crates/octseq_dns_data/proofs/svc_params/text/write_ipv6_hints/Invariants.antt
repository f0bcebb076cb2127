-- What is written, and the text of what is ahead, are the whole text.
use Rattle.std.proofs.Common.{◌≡◌, ℕ, List, ◌∷◌, ◌++◌, length}
use Rattle.std.specs.Fmt.{HasWritten, IsPlainFormatter}
use Rattle.std.specs.List.{flat_map}
use Rattle.octseq.specs.Parser.{window}
use Rattle.octseq.specs.Window.{rest}
use Rattle.octseq.specs.OctetsText.{ipv6_address_text}
use Rattle.octseq_dns_data.specs.Pieces.{pieces, split_octets}
use Rattle.octseq_dns_data.specs.SvcParamsText.{with_commas}
use Rattle.octseq_dns_data.proofs.svc_params.text.write_ipv6_hints.Given as goal

abbrev pub invariant-hints : goal.invariant-hints
invariant-hints g l =
    IsPlainFormatter l.fn.f → (done : List ℕ) × HasWritten g.W.Write.write_str_gives l.fn.f done l.f
    × (done ++ flat_map (λ item. 44 ∷ ipv6_address_text item) (pieces (split_octets 16) (rest (window l.ahead)))
    ≡ with_commas ipv6_address_text (pieces (split_octets 16) l.fn.octets))

abbrev pub decreases-hints : goal.decreases-hints
decreases-hints g l = length (rest (window l.ahead))
