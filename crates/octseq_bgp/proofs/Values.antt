-- Octets are at most one value.
use Rattle.std.proofs.Common.{◌≡◌, ℕ, ◌<◌, ◌≤◌, Bool, true, List, arith, sym, ap, ◌∙◌, subst}
use mathlib.Core.Logic.{inl, inr}
use Rattle.octseq.specs.Integer.{be}
use Rattle.octseq.specs.Window.{Window}
use Rattle.octseq_format.specs.Laws.{IsOne}
use Rattle.octseq_format.specs.Pair.{◌then◌, ◌one_then◌, same_pair}
use Rattle.octseq_format.specs.Rest.{one_rest}
use Rattle.octseq_format.specs.Where.{IsWhere, one_where}
use Rattle.octseq_bgp.specs.AttributeType.{type_number}
use Rattle.octseq_bgp.specs.Community.{large_community}
use Rattle.octseq_bgp.specs.Family.{afi_of}
use Rattle.octseq_bgp.specs.Fills.{Whole}
use Rattle.octseq_bgp.specs.OneParts.{one_number, one_octets, one_segment}
use Rattle.octseq_bgp.specs.Parts.{IsNumber}
use Rattle.octseq_bgp.specs.Path.{asn_size}
use Rattle.octseq_bgp.specs.NextHop.{IsNextHop}
use Rattle.octseq_bgp.specs.Prefix.{Nlri, ArePrefixes}
use Rattle.octseq_bgp.specs.Session.{adds_path}
use Rattle.octseq_bgp.specs.Value.{Reach, Unreach, IsReachFront, IsReach, IsUnreachFront, IsUnreach, Value, SomeItems}
use Rattle.octseq_bgp.specs.Value.{IsPath, Made, HasForm, IsTyped, IsValue}
use Rattle.octseq_bgp.specs.declared.attribute.attribute_type.AttributeType.{AttributeType}
use Rattle.octseq_bgp.specs.declared.attribute.attribute_type.AttributeType.TheVariants as kind
use Rattle.octseq_bgp.specs.declared.family.AfiSafiType.{AfiSafiType}
use Rattle.octseq_bgp.specs.declared.attribute.next_hop.NextHop.{NextHop}
use Rattle.octseq_bgp.specs.declared.session.SessionConfig.{SessionConfig}
use Rattle.octseq_bgp.proofs.Chunks.{one_filling}
use Rattle.octseq_bgp.proofs.Families.{one_family}
use Rattle.octseq_bgp.proofs.Moves.{segment_moves}
use Rattle.octseq_bgp.proofs.NextHops.{one_next_hop}
use Rattle.octseq_bgp.proofs.Types.{one_type}
use Rattle.octseq_bgp.proofs.Wholes.{one_whole, one_fills, one_nlri}

-- a window is at most one value of a kind
abbrev pub OneSaid : {A : Type 0} → (A → Type 0) → Type 0
OneSaid {A} Is = (a b : A) → Is a → Is b → a ≡ b

one_made : {A : Type 0} (make : A → Value) {Is : A → Type 0} → OneSaid Is → OneSaid (Made make Is)
one_made make one v u a b = a.1 ∙ ap make (one a.0 b.0 a.2 b.2) ∙ sym b.1

one_items : {A : Type 0} (k : ℕ) (reads : List ℕ → A) (w : Window) → 0 < k → OneSaid (SomeItems k reads w)
one_items k reads w some row others a b = one_filling k reads some w row others a.0 b.0

-- ---- prefixes of any address family

pub one_reach_front : IsOne IsReachFront
one_reach_front = one_number 2 one_then one_number 1 one_then one_octets 1 one_then one_number 1 one_then one_rest

reach_from : AfiSafiType → NextHop → List Nlri → Reach
reach_from family next_hop prefixes = record { family = family; next_hop = next_hop; prefixes = prefixes }

pub one_reach : (s : SessionConfig) (w : Window) → OneSaid (IsReach s w)
unfolding reach_from
one_reach s w r o a b =
    let front = one_whole IsReachFront one_reach_front w _ _ a.front b.front in
    let family = one_family r.family o.family (ap (λ f. f.0) front) (ap (λ f. f.1.0) front) in
    let moved = subst (λ f. ArePrefixes s f a.rest r.prefixes) family a.prefixes in
    let row = one_nlri (adds_path s.add_path o.family) (afi_of o.family) b.rest r.prefixes o.prefixes
    (subst (λ f. ArePrefixes s o.family f.1.1.1.1 r.prefixes) front moved) b.prefixes in
    let hops = subst (λ f. IsNextHop f a.next_hops r.next_hop) family a.next_hop in
    let hop = one_next_hop o.family b.next_hops r.next_hop o.next_hop
    (subst (λ f. IsNextHop o.family f.1.1.0 r.next_hop) front hops) b.next_hop in
    ap (λ f. reach_from f r.next_hop r.prefixes) family ∙ ap (λ h. reach_from o.family h r.prefixes) hop
    ∙ ap (reach_from o.family o.next_hop) row

pub one_unreach_front : IsOne IsUnreachFront
one_unreach_front = one_number 2 one_then one_number 1 one_then one_rest

unreach_from : AfiSafiType → List Nlri → Unreach
unreach_from family prefixes = record { family = family; prefixes = prefixes }

pub one_unreach : (s : SessionConfig) (w : Window) → OneSaid (IsUnreach s w)
unfolding unreach_from
one_unreach s w r o a b =
    let front = one_whole IsUnreachFront one_unreach_front w _ _ a.front b.front in
    let family = one_family r.family o.family (ap (λ f. f.0) front) (ap (λ f. f.1.0) front) in
    let moved = subst (λ f. ArePrefixes s f a.rest r.prefixes) family a.prefixes in
    let row = one_nlri (adds_path s.add_path o.family) (afi_of o.family) b.rest r.prefixes o.prefixes
    (subst (λ f. ArePrefixes s o.family f.1.1 r.prefixes) front moved) b.prefixes in
    ap (λ f. unreach_from f r.prefixes) family ∙ ap (unreach_from o.family) row

-- ---- values

four : (w : Window) → OneSaid (Whole (IsNumber 4) w)
four w = one_whole (IsNumber 4) (one_number 4) w

pair : (k : ℕ) (w : Window) → OneSaid (Whole (IsNumber k then IsNumber 4) w)
pair k w = one_whole (IsNumber k then IsNumber 4) (one_number k one_then one_number 4) w

path : (wide : Bool) (w : Window) → OneSaid (IsPath wide w)
path wide w p q a b = same_pair (a.0 ∙ sym b.0)
    (one_fills (one_segment (asn_size wide)) (segment_moves (asn_size wide)) w p.1 q.1 a.1 b.1)

pub one_form : (s : SessionConfig) (t : AttributeType) (w : Window) → OneSaid (HasForm s t w)
one_form s kind.Origin w = one_made Value.origin (one_whole (IsWhere (IsNumber 1) (λ n. n) (λ n. n ≤ 2))
    (one_where (IsNumber 1) (λ n. n) (λ n. n ≤ 2) (one_number 1)) w)
one_form s kind.AsPath w = one_made Value.as_path (path s.four_octet_asn w)
one_form s kind.NextHop w = one_made Value.next_hop (four w)
one_form s kind.MultiExitDisc w = one_made Value.multi_exit_disc (four w)
one_form s kind.LocalPref w = one_made Value.local_pref (four w)
one_form s kind.AtomicAggregate w = λ v u a b. a.0 ∙ sym b.0
one_form s kind.Aggregator w = one_made Value.aggregator (pair (asn_size s.four_octet_asn) w)
one_form s kind.Communities w = one_made Value.communities (one_items 4 be w (omega arith))
one_form s kind.OriginatorId w = one_made Value.originator_id (four w)
one_form s kind.ClusterList w = one_made Value.cluster_list (one_items 4 be w (omega arith))
one_form s kind.MpReachNlri w = one_made Value.reach (one_reach s w)
one_form s kind.MpUnreachNlri w = one_made Value.unreach (one_unreach s w)
one_form s kind.ExtendedCommunities w = one_made Value.extended_communities (one_items 8 be w (omega arith))
one_form s kind.As4Path w = one_made Value.as4_path (path true w)
one_form s kind.As4Aggregator w = one_made Value.as4_aggregator (pair 4 w)
one_form s kind.LargeCommunities w = one_made Value.large_communities (one_items 12 large_community w (omega arith))

-- octets of a known type have its form
pub form_of_type : (s : SessionConfig) (number : ℕ) (t : AttributeType) (w : Window) (v : Value)
    → type_number t ≡ number
    → IsTyped s number w v → HasForm s t w v
form_of_type s number t w v known is =
    subst (λ t. HasForm s t w v) (one_type is.0 t (sym is.1 ∙ sym known)) is.2

one_typed : (s : SessionConfig) (number : ℕ) (w : Window) → OneSaid (IsTyped s number w)
one_typed s number w v u a b = one_form s b.0 w v u (form_of_type s number b.0 w v (sym b.1) a) b.2

pub one_value : (s : SessionConfig) (number : ℕ) (w : Window) (a b : Value) → IsValue s number w a
    → IsValue s number w b
    → a ≡ b
one_value s number w v u (inl a) (inl b) = one_typed s number w v u a b
one_value s number w v u (inl a) (inr b) = absurd (b.1 v a)
one_value s number w v u (inr a) (inl b) = absurd (a.1 u b)
one_value s number w v u (inr a) (inr b) = a.0 ∙ sym b.0
