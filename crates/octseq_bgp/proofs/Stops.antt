-- Reading stops at one offset.
use Rattle.std.proofs.Common.{◌≡◌, ◌≤◌, ℕ, List, [], ◌∷◌, length, inl, inr, sym, ap, ◌∙◌, subst}
use Rattle.std.proofs.Common.{true, false, is_ok, Result, Ok, Err, arith}
use Rattle.std.specs.Prelude.{Bool, OnOk, ◌⊎◌}
use Rattle.octseq.specs.Window.{Window, past, whole}
use Rattle.octseq_format.proofs.RowSteps.{to_ends}
use Rattle.octseq_format.specs.Laws.{Relation, NoneAt, IsOne, IsMoving}
use Rattle.octseq_format.specs.Row.{Row}
use Rattle.octseq_bgp.specs.Fills.{AreFilled, ListStops}
use Rattle.octseq_bgp.specs.Message.{IsHeader, IsShortEnough}
use Rattle.octseq_bgp.specs.OneParts.{one_attribute, one_octets, one_path_prefix, one_prefix, one_tlv}
use Rattle.octseq_bgp.specs.Parts.{IsCounted}
use Rattle.octseq_bgp.specs.Session.{adds_path}
use Rattle.octseq_bgp.specs.Stop.{ListStop, LastStop, ThingStop, FixedStop, CountedStop}
use Rattle.octseq_bgp.specs.Stop.{PrefixFault, PrefixFilled, PrefixStop}
use Rattle.octseq_bgp.specs.Stop.{ParametersStop, ListsStop, UpdateStop, BodyStop, HasHeader, IsStop}
use Rattle.octseq_bgp.specs.declared.family.AfiSafiType.TheVariants as family
use Rattle.octseq_bgp.specs.declared.session.SessionConfig.{SessionConfig}
use Rattle.octseq_bgp.proofs.Moves.{attribute_moves, path_prefix_moves, prefix_moves, tlv_moves}
use Rattle.octseq_bgp.proofs.OneMessage.{one_header}
use Rattle.octseq_bgp.proofs.Wholes.{one_whole}

-- there is at most one offset where reading stops
abbrev IsOneOffset : (ℕ → Type 0) → Type 0
IsOneOffset Stop = (x y : ℕ) → Stop x → Stop y → x ≡ y

-- ---- lists

-- values go on to one offset where there is none
same_end : {A : Type 0} {Is : Relation A} → IsOne Is → (w u v : Window) (row others : List A) → NoneAt Is u
    → NoneAt Is v → Row Is w row u → Row Is w others v → u ≡ v
same_end one w u v [] [] none also a b = a ∙ sym b
same_end {Is = Is} one w u v [] (y ∷ others) none also a b = absurd (none y b.0 (subst (λ x. Is x y b.0) (sym a) b.1))
same_end {Is = Is} one w u v (x ∷ row) [] none also a b = absurd (also x a.0 (subst (λ y. Is y x a.0) (sym b) a.1))
same_end {Is = Is} one w u v (x ∷ row) (y ∷ others) none also a b =
    let same = one.same w x y a.0 b.0 a.1 b.1 in
    same_end one a.0 u v row others none also a.2 (subst (λ z. Row Is z others v) (sym same.1) b.2)

one_fault : {A : Type 0} {Is : Relation A} → IsOne Is → (w : Window) → IsOneOffset (ListStops Is w)
one_fault one w x y a b =
    let same = same_end one w a.there b.there a.row b.row a.none b.none a.are b.are in
    a.is ∙ ap (λ (v : Window). v.position) same ∙ sym b.is

-- if values stop early, they don't fill the window
not_filled : {A : Type 0} {Is : Relation A} → IsOne Is → IsMoving Is → (w : Window) (x : ℕ) → ListStops Is w x
    → AreFilled Is w → ⊥
not_filled {Is = Is} one moves w x a (row, (v, (are, ends))) =
    to_ends Is one moves w a.there v a.row row a.none a.some a.are are ends

-- a fault here, or what comes next
one_of_two : {Fault : ℕ → Type 0} {Filled : Type 0} {Next : ℕ → Type 0} → IsOneOffset Fault
    → ((x : ℕ) → Fault x → Filled → ⊥) → IsOneOffset Next
    → IsOneOffset (λ offset. Fault offset ⊎ (Filled × Next offset))
one_of_two fault not next x y (inl a) (inl b) = fault x y a b
one_of_two fault not next x y (inl a) (inr (filled, q)) = absurd (not x a filled)
one_of_two fault not next x y (inr (filled, p)) (inl b) = absurd (not y b filled)
one_of_two fault not next x y (inr (filled, p)) (inr (_, q)) = next x y p q

one_list : {A : Type 0} {Is : Relation A} → IsOne Is → IsMoving Is → (w : Window) {Next : ℕ → Type 0}
    → IsOneOffset Next → IsOneOffset (ListStop Is w Next)
one_list one moves w next = one_of_two (one_fault one w) (not_filled one moves w) next

one_last : {A : Type 0} {Is : Relation A} → IsOne Is → IsMoving Is → (w : Window) → IsOneOffset (LastStop Is w)
one_last one moves w = one_list one moves w (λ x y p q. p ∙ sym q)

one_prefix_fault : (paths : Bool) (w : Window) → IsOneOffset (PrefixFault paths w)
one_prefix_fault true w = one_fault (one_path_prefix 32) w
one_prefix_fault false w = one_fault (one_prefix 32) w

not_prefixes : (paths : Bool) (w : Window) (x : ℕ) → PrefixFault paths w x → PrefixFilled paths w → ⊥
not_prefixes true w = not_filled (one_path_prefix 32) (path_prefix_moves 32) w
not_prefixes false w = not_filled (one_prefix 32) (prefix_moves 32) w

one_prefixes : (paths : Bool) (w : Window) {Next : ℕ → Type 0} → IsOneOffset Next
    → IsOneOffset (PrefixStop paths w Next)
one_prefixes paths w next = one_of_two (one_prefix_fault paths w) (not_prefixes paths w) next

-- ---- bodies

one_thing : {A : Type 0} (Is : Relation A) → IsOne Is → (Next : A → Window → ℕ → Type 0)
    → ((a : A) (v : Window) → IsOneOffset (Next a v)) → (w : Window) → IsOneOffset (ThingStop Is Next w)
one_thing Is one Next next w x y (inl (a, v, is, p)) (inl (b, u, it, q)) =
    let same = one.same w a b v u is it in
    next b u x y (subst (λ a. Next a u x) same.0 (subst (λ v. Next a v x) same.1 p)) q
one_thing Is one Next next w x y (inl (a, v, is, p)) (inr (none, e)) = absurd (none a v is)
one_thing Is one Next next w x y (inr (none, e)) (inl (a, v, is, p)) = absurd (none a v is)
one_thing Is one Next next w x y (inr (none, e)) (inr (_, f)) = e ∙ sym f

one_fixed : (k : ℕ) (Next : ℕ → Type 0) (w : Window) → IsOneOffset Next → IsOneOffset (FixedStop k Next w)
one_fixed k Next w next x y (inl (many, p)) (inl (_, q)) = next x y p q
one_fixed k Next w next x y (inl (many, p)) (inr (few, e)) = absurd (omega (arith, many, few))
one_fixed k Next w next x y (inr (few, e)) (inl (many, p)) = absurd (omega (arith, many, few))
one_fixed k Next w next x y (inr (few, e)) (inr (_, f)) = e ∙ sym f

one_counted : {A : Type 0} {Is : Relation A} → IsOne Is → IsMoving Is → (k : ℕ) (w : Window)
    → IsOneOffset (CountedStop k Is w)
one_counted {Is = Is} one moves k w x y (inl (a, is, p)) (inl (b, it, q)) =
    one_last one moves b x y (subst (λ a. LastStop Is a x) (one_whole (IsCounted k) (one_octets k) w a b is it) p) q
one_counted one moves k w x y (inl (a, is, p)) (inr (none, e)) = absurd (none a is)
one_counted one moves k w x y (inr (none, e)) (inl (a, is, p)) = absurd (none a is)
one_counted one moves k w x y (inr (none, e)) (inr (_, g)) = e ∙ sym g

one_parameters : (w : Window) → IsOneOffset (ParametersStop w)
one_parameters w x y (inl (_, p)) (inl (_, q)) = one_counted (one_tlv 2) (tlv_moves 2) 2 (past 2 w) x y p q
one_parameters w x y (inl (is, p)) (inr (not, q)) = absurd (not is)
one_parameters w x y (inr (not, p)) (inl (is, q)) = absurd (not is)
one_parameters w x y (inr (_, p)) (inr (_, q)) = one_counted (one_tlv 1) (tlv_moves 1) 1 w x y p q

one_lists : (s : SessionConfig) (withdrawn attributes announced : Window)
    → IsOneOffset (ListsStop s withdrawn attributes announced)
one_lists s withdrawn attributes announced =
    let paths = adds_path s.add_path family.Ipv4Unicast in
    one_prefixes paths withdrawn (one_list one_attribute attribute_moves attributes
    (one_prefixes paths announced (λ x y p q. p ∙ sym q)))

one_update : (s : SessionConfig) (w : Window) → IsOneOffset (UpdateStop s w)
one_update s = one_thing (IsCounted 2) (one_octets 2) _ (λ withdrawn.
    one_thing (IsCounted 2) (one_octets 2) _ (one_lists s withdrawn))

one_body : (s : SessionConfig) (kind : ℕ) (w : Window) → IsOneOffset (BodyStop s kind w)
one_body s kind w x y (BodyStop.opens a p) (BodyStop.opens b q) =
    one_fixed 10 (ParametersStop (past 9 w)) w (one_parameters (past 9 w)) x y p q
one_body s kind w x y (BodyStop.update a p) (BodyStop.update b q) = one_update s w x y p q
one_body s kind w x y (BodyStop.notification a p) (BodyStop.notification b q) =
    one_fixed 2 (λ offset. offset ≡ w.end) w (λ x y p q. p ∙ sym q) x y p q
one_body s kind w x y (BodyStop.keepalive a p) (BodyStop.keepalive b q) = p ∙ sym q
one_body s kind w x y (BodyStop.route_refresh a p) (BodyStop.route_refresh b q) =
    one_fixed 4 (λ offset. offset ≡ w.end) w (λ x y p q. p ∙ sym q) x y p q
one_body s kind w x y (BodyStop.opens a p) (BodyStop.update b q) = absurd (omega (arith, a, b))
one_body s kind w x y (BodyStop.opens a p) (BodyStop.notification b q) = absurd (omega (arith, a, b))
one_body s kind w x y (BodyStop.opens a p) (BodyStop.keepalive b q) = absurd (omega (arith, a, b))
one_body s kind w x y (BodyStop.opens a p) (BodyStop.route_refresh b q) = absurd (omega (arith, a, b))
one_body s kind w x y (BodyStop.update a p) (BodyStop.opens b q) = absurd (omega (arith, a, b))
one_body s kind w x y (BodyStop.update a p) (BodyStop.notification b q) = absurd (omega (arith, a, b))
one_body s kind w x y (BodyStop.update a p) (BodyStop.keepalive b q) = absurd (omega (arith, a, b))
one_body s kind w x y (BodyStop.update a p) (BodyStop.route_refresh b q) = absurd (omega (arith, a, b))
one_body s kind w x y (BodyStop.notification a p) (BodyStop.opens b q) = absurd (omega (arith, a, b))
one_body s kind w x y (BodyStop.notification a p) (BodyStop.update b q) = absurd (omega (arith, a, b))
one_body s kind w x y (BodyStop.notification a p) (BodyStop.keepalive b q) = absurd (omega (arith, a, b))
one_body s kind w x y (BodyStop.notification a p) (BodyStop.route_refresh b q) = absurd (omega (arith, a, b))
one_body s kind w x y (BodyStop.keepalive a p) (BodyStop.opens b q) = absurd (omega (arith, a, b))
one_body s kind w x y (BodyStop.keepalive a p) (BodyStop.update b q) = absurd (omega (arith, a, b))
one_body s kind w x y (BodyStop.keepalive a p) (BodyStop.notification b q) = absurd (omega (arith, a, b))
one_body s kind w x y (BodyStop.keepalive a p) (BodyStop.route_refresh b q) = absurd (omega (arith, a, b))
one_body s kind w x y (BodyStop.route_refresh a p) (BodyStop.opens b q) = absurd (omega (arith, a, b))
one_body s kind w x y (BodyStop.route_refresh a p) (BodyStop.update b q) = absurd (omega (arith, a, b))
one_body s kind w x y (BodyStop.route_refresh a p) (BodyStop.notification b q) = absurd (omega (arith, a, b))
one_body s kind w x y (BodyStop.route_refresh a p) (BodyStop.keepalive b q) = absurd (omega (arith, a, b))

-- reading stops at one offset
pub one_stop : (s : SessionConfig) (octets : List ℕ) (x y : ℕ) → IsStop s octets x → IsStop s octets y → x ≡ y
one_stop s octets x y (inl (kind, body, header, p)) (inl (other, there, also, q)) =
    let same = one_header (whole octets) (length octets, (kind, body)) (length octets, (other, there)) header.header
    also.header in
    one_body s other there x y (subst (λ h. BodyStop s h.1.0 h.1.1 x) same p) q
one_stop s octets x y (inl (kind, body, header, p)) (inr (none, e)) = absurd (none kind body header)
one_stop s octets x y (inr (none, e)) (inl (kind, body, header, p)) = absurd (none kind body header)
one_stop s octets x y (inr (none, e)) (inr (_, f)) = e ∙ sym f

-- ---- what was read

-- what holds if a call succeeds
pub on_ok : {T E P : Type 0} (result : Result T E) → is_ok result ≡ true → OnOk result P → P
on_ok (Ok value) is p = p
on_ok (Err e) is p = absurd (cc)

-- reading stops in what follows a header
pub stops_in : (s : SessionConfig) (octets : List ℕ) (kind : ℕ) (body : Window) (offset : ℕ)
    → IsHeader (whole octets) (length octets, (kind, body)) → IsShortEnough s kind (length octets) → 1 ≤ kind → kind ≤ 5
    → BodyStop s kind body offset → IsStop s octets offset
stops_in s octets kind body offset header short least most stop =
    let has : HasHeader s octets kind body = record { header = header; short = short; known = (least, most) } in
    inl (kind, body, has, stop)
