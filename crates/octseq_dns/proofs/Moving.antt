-- Records that can be moved.
use Rattle.std.proofs.Common.{◌≡◌, ℕ, inl, inr, refl}
use Rattle.octseq.specs.declared.AsOctets.{Ghosts}
use Rattle.octseq.specs.declared.parse.Parser.{Parser}
use Rattle.octseq_dns.specs.Moved.{CanMoveRecord}
use Rattle.octseq_dns_message.specs.RecordData.{IsDataTyped, IsDataOf}
use Rattle.octseq_dns_message.specs.Entry.{Record}
use Rattle.octseq_dns_data.specs.Typed.{rdata_of}
use Rattle.octseq_dns_data.specs.declared.data.Data.{Data}
use Rattle.octseq_dns_data.specs.declared.data.Data.TheVariants as kind

-- data that isn't reported as unknown has its form
typed_by : {R : Type 0} {g : Ghosts R} (r : Record) (found : Data R g)
    → ((rtype : ℕ) (octets : Parser R g) → found ≡ kind.Unknown rtype octets → ⊥) → IsDataOf r (rdata_of found)
    → IsDataTyped r (rdata_of found)
typed_by r found other (inl typed) = typed
typed_by r (kind.Unknown rtype octets) other (inr (is, none)) = absurd (other rtype octets refl)
typed_by r found other (inr (is, none)) = absurd (cc)

-- so its record can be moved
pub typed_moves : {R : Type 0} {g : Ghosts R} (r : Record) (found : Data R g)
    → ((rtype : ℕ) (octets : Parser R g) → found ≡ kind.Unknown rtype octets → ⊥) → IsDataOf r (rdata_of found)
    → CanMoveRecord r
typed_moves r found other is none = absurd (none (rdata_of found) (typed_by r found other is))
