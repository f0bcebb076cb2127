-- What is written, and the text of what is ahead, are the whole text.
use Rattle.std.proofs.Common.{◌≡◌, ℕ, List, ◌∷◌, ◌++◌, length}
use Rattle.std.specs.Fmt.{HasWritten, IsPlainFormatter}
use Rattle.std.specs.List.{flat_map}
use Rattle.octseq.specs.Parser.{window}
use Rattle.octseq.specs.Window.{rest}
use Rattle.octseq_dns_data.specs.SvcParams.{keys_of}
use Rattle.octseq_dns_data.specs.SvcParamsText.{key_text, with_commas}
use Rattle.octseq_dns_data.proofs.svc_params.text.write_keys.Given as goal

abbrev pub invariant-keys : goal.invariant-keys
invariant-keys g l =
    IsPlainFormatter l.fn.f → (done : List ℕ) × HasWritten g.W.Write.write_str_gives l.fn.f done l.f
    × (done ++ flat_map (λ item. 44 ∷ key_text item) (keys_of (rest (window l.ahead)))
    ≡ with_commas key_text (keys_of l.fn.octets))

abbrev pub decreases-keys : goal.decreases-keys
decreases-keys g l = length (rest (window l.ahead))
