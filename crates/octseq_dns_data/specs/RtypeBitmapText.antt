-- The text of a type bitmap: RFC 4034, 4.2.
use Rattle.std.specs.Prelude.{ℕ, List, ◌∷◌}
use Rattle.std.specs.List.{flat_map}
use Rattle.octseq_dns_data.specs.Mnemonic.{rtype_text}

-- types, each after a space (32)
abbrev pub rtypes_text : List ℕ → List ℕ
rtypes_text = flat_map (λ rtype. 32 ∷ rtype_text rtype)
