-- An OPT record says one thing.
use Rattle.std.proofs.Common.{◌≡◌, ℕ, ◌+◌, ◌*◌, ◌<◌, Bool, true, false, List, [], ◌∷◌, Option, Some, None, refl, sym}
use Rattle.std.proofs.Common.{ap, ◌∙◌, subst, arith}
use Rattle.octseq_dns_message.specs.Entry.{Record}
use Rattle.octseq_dns_message.specs.Flag.{flag}
use Rattle.octseq_dns_data.specs.OneRow.{one_row_at}
use Rattle.octseq_dns_message.specs.MessageOpt.{HaveOpt}
use Rattle.octseq_dns_message.specs.OfType.{of_type}
use Rattle.octseq_dns_message.specs.OneOption.{option_item}
use Rattle.octseq_dns_message.specs.Opt.{EdnsOption, Opt, HasOption, IsOpt}

-- a TTL with a response code, a version and a bit
abbrev made_of : ℕ → ℕ → Bool → ℕ → ℕ
made_of rcode version marked z = rcode * 16777216 + version * 65536 + flag marked 32768 + z

-- such a TTL has them in one way
same_parts : (marked other : Bool) (rcode version z code number y : ℕ) → version < 256 → number < 256 → z < 32768
    → y < 32768
    → made_of rcode version marked z ≡ made_of code number other y → (rcode ≡ code) × (version ≡ number)
    × (marked ≡ other)
same_parts true true rcode version z code number y a b d e same =
    (omega (arith, a, b, d, e, same), omega (arith, a, b, d, e, same), refl)
same_parts true false rcode version z code number y a b d e same = absurd (omega (arith, a, b, d, e, same))
same_parts false true rcode version z code number y a b d e same = absurd (omega (arith, a, b, d, e, same))
same_parts false false rcode version z code number y a b d e same =
    (omega (arith, a, b, d, e, same), omega (arith, a, b, d, e, same), refl)

opt_from : ℕ → ℕ → ℕ → Bool → List EdnsOption → Opt
opt_from size rcode version marked options =
    record { udp_payload_size = size; extended_rcode = rcode; version = version; dnssec_ok = marked; options = options }

-- a record says at most one thing as an OPT record
pub one_opt : (r : Record) (opt other : Opt) → IsOpt r opt → IsOpt r other → opt ≡ other
unfolding opt_from
one_opt r opt other a b =
    let parts = same_parts opt.dnssec_ok other.dnssec_ok opt.extended_rcode opt.version a.z other.extended_rcode
    other.version b.z a.version b.version a.few b.few (sym a.ttl ∙ b.ttl) in
    let options = one_row_at HasOption option_item r.rdata a.end b.end opt.options other.options
    (a.ends ∙ sym b.ends) a.options b.options in
    ap (λ n. opt_from n opt.extended_rcode opt.version opt.dnssec_ok opt.options) (a.size ∙ sym b.size)
    ∙ ap (λ n. opt_from other.udp_payload_size n opt.version opt.dnssec_ok opt.options) parts.0
    ∙ ap (λ n. opt_from other.udp_payload_size other.extended_rcode n opt.dnssec_ok opt.options) parts.1
    ∙ ap (λ n. opt_from other.udp_payload_size other.extended_rcode other.version n opt.options) parts.2
    ∙ ap (λ n. opt_from other.udp_payload_size other.extended_rcode other.version other.dnssec_ok n) options

-- ---- the OPT record of a message

first_record : Record → List Record → Record
first_record other [] = other
first_record other (r ∷ records) = r

-- if the first record of type OPT says nothing as an OPT record, the records say nothing either
pub no_opt : (additionals more : List Record) (r : Record) → of_type 41 additionals ≡ r ∷ more
    → ((opt : Opt) → IsOpt r opt → ⊥) → (found : Option Opt) → HaveOpt additionals found → ⊥
unfolding first_record
no_opt additionals more r first none None have = let both = sym first ∙ have in cc
no_opt additionals more r first none (Some opt) have =
    none opt (subst (λ r. IsOpt r opt) (ap (first_record r) (sym have.1 ∙ first)) have.3)
