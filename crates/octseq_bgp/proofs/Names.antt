-- Each type has its name, and a number of no type has none.
use Rattle.std.proofs.Common.{◌≡◌, ℕ, List, if◌then◌else◌, nat_eq, refl, sym, ap, ◌∙◌}
use Rattle.std.proofs.lemmas.Bool.{ne_eqb}
use Rattle.std.specs.Fmt.{decimal}
use Rattle.octseq_bgp.specs.AttributeType.{type_number}
use Rattle.octseq_bgp.specs.Path.{segment_number}
use Rattle.octseq_bgp.specs.Text.{segment_text, type_text}
use Rattle.octseq_bgp.specs.ValueText.{attribute_name_text, segment_name}
use Rattle.octseq_bgp.specs.declared.attribute.attribute_type.AttributeType.{AttributeType}
use Rattle.octseq_bgp.specs.declared.attribute.attribute_type.AttributeType.TheVariants as kind
use Rattle.octseq_bgp.specs.declared.attribute.path.SegmentType.{SegmentType}
use Rattle.octseq_bgp.specs.declared.attribute.path.SegmentType.TheVariants as segment

pub segment_is_named : (k : SegmentType) → segment_text k ≡ segment_name (segment_number k)
segment_is_named segment.Set = refl
segment_is_named segment.Sequence = refl
segment_is_named segment.ConfedSequence = refl
segment_is_named segment.ConfedSet = refl

pub type_is_named : (t : AttributeType) → type_text t ≡ attribute_name_text (type_number t)
type_is_named kind.Origin = refl
type_is_named kind.AsPath = refl
type_is_named kind.NextHop = refl
type_is_named kind.MultiExitDisc = refl
type_is_named kind.LocalPref = refl
type_is_named kind.AtomicAggregate = refl
type_is_named kind.Aggregator = refl
type_is_named kind.Communities = refl
type_is_named kind.OriginatorId = refl
type_is_named kind.ClusterList = refl
type_is_named kind.MpReachNlri = refl
type_is_named kind.MpUnreachNlri = refl
type_is_named kind.ExtendedCommunities = refl
type_is_named kind.As4Path = refl
type_is_named kind.As4Aggregator = refl
type_is_named kind.LargeCommunities = refl

-- the name of another number is skipped
passed : (n m : ℕ) (name other : List ℕ) → (m ≡ n → ⊥) → (if nat_eq n m then name else other) ≡ other
passed n m name other not = ap (λ b. if b then name else other) (ne_eqb n m (λ is. not (sym is)))

pub number_is_named : (n : ℕ) → ((t : AttributeType) → type_number t ≡ n → ⊥) → decimal n ≡ attribute_name_text n
number_is_named n none =
    sym (passed n 1 _ _ (none kind.Origin) ∙ passed n 2 _ _ (none kind.AsPath) ∙ passed n 3 _ _ (none kind.NextHop)
    ∙ passed n 4 _ _ (none kind.MultiExitDisc) ∙ passed n 5 _ _ (none kind.LocalPref)
    ∙ passed n 6 _ _ (none kind.AtomicAggregate) ∙ passed n 7 _ _ (none kind.Aggregator)
    ∙ passed n 8 _ _ (none kind.Communities) ∙ passed n 9 _ _ (none kind.OriginatorId)
    ∙ passed n 10 _ _ (none kind.ClusterList) ∙ passed n 14 _ _ (none kind.MpReachNlri)
    ∙ passed n 15 _ _ (none kind.MpUnreachNlri) ∙ passed n 16 _ _ (none kind.ExtendedCommunities)
    ∙ passed n 17 _ _ (none kind.As4Path) ∙ passed n 18 _ _ (none kind.As4Aggregator)
    ∙ passed n 32 _ _ (none kind.LargeCommunities))
