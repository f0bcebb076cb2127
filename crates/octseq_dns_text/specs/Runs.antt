-- Octets in runs of text, one word each.
use Rattle.std.specs.Prelude.{ℕ, List}
use Rattle.std.specs.List.{concat}
use Rattle.octseq.proofs.WrittenBack.{AreOctets}

-- `Is text octets`: the text is one of these octets. The words are such a text in runs.
abbrev pub AreRuns : (List ℕ → List ℕ → Type 0) → List (List ℕ) → List ℕ → Type 0
AreRuns Is words octets = AreOctets octets × Is (concat words) octets
