-- Records of one type.
use Rattle.std.proofs.Common.{◌≡◌, ℕ, ◌==◌, true, cond, List, ◌∷◌, ap}
use Rattle.octseq_dns_message.specs.Entry.{Record}
use Rattle.octseq_dns_message.specs.OfType.{of_type}

-- a record of the type is the first of them
pub of_type_first : (rtype : ℕ) (r : Record) (records : List Record) → (r.rtype == rtype) ≡ true
    → of_type rtype (r ∷ records) ≡ r ∷ of_type rtype records
of_type_first rtype r records is = ap (λ b. cond b (r ∷ of_type rtype records) (of_type rtype records)) is
