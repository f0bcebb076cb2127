-- The OPT record of a message: RFC 6891, 6.1.1.
use Rattle.std.specs.Prelude.{◌≡◌, List, [], ◌∷◌, Option, Some, None}
use Rattle.octseq_dns_message.specs.Entry.{Record}
use Rattle.octseq_dns_message.specs.OfType.{of_type}
use Rattle.octseq_dns_message.specs.Opt.{Opt, IsOpt}
use Rattle.octseq_dns_data.specs.Rtype as types

-- What the OPT record among the additional records of a message says: nothing, if none is of type OPT; or what the only
-- one says, whose owner is the root.
abbrev pub HaveOpt : List Record → Option Opt → Type 0
HaveOpt additionals None = of_type types.opt additionals ≡ []
HaveOpt additionals (Some opt) =
    (r : Record) × (of_type types.opt additionals ≡ r ∷ []) × (r.owner.labels ≡ []) × IsOpt r opt
