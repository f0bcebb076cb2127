-- What follows a header is of one kind, by the type in the header.
use Rattle.std.proofs.Common.{◌≡◌, ℕ, refl, arith}
use Rattle.octseq.specs.Window.{Window, left}
use Rattle.octseq_bgp.specs.Fills.{Whole}
use Rattle.octseq_bgp.specs.Message.{Message, IsBody, IsNotification, IsRouteRefresh}
use Rattle.octseq_bgp.specs.Open.{Open, IsOpen}
use Rattle.octseq_bgp.specs.Update.{Update, IsUpdate}
use Rattle.octseq_bgp.specs.declared.session.SessionConfig.{SessionConfig}

pub as_open : (s : SessionConfig) (w : Window) (kind : ℕ) (m : Message) → kind ≡ 1 → IsBody s w kind m
    → (o : Open) × (m ≡ Message.opens o) × IsOpen w o
as_open s w kind (Message.opens o) is body = (o, refl, body.1)
as_open s w kind (Message.update u) is body = let other = body.0 in absurd (omega (arith, is, other))
as_open s w kind (Message.notification n) is body = let other = body.0 in absurd (omega (arith, is, other))
as_open s w kind Message.keepalive is body = let other = body.0 in absurd (omega (arith, is, other))
as_open s w kind (Message.route_refresh r) is body = let other = body.0 in absurd (omega (arith, is, other))

pub as_update : (s : SessionConfig) (w : Window) (kind : ℕ) (m : Message) → kind ≡ 2 → IsBody s w kind m
    → (u : Update) × (m ≡ Message.update u) × IsUpdate s w u
as_update s w kind (Message.opens o) is body = let other = body.0 in absurd (omega (arith, is, other))
as_update s w kind (Message.update u) is body = (u, refl, body.1)
as_update s w kind (Message.notification n) is body = let other = body.0 in absurd (omega (arith, is, other))
as_update s w kind Message.keepalive is body = let other = body.0 in absurd (omega (arith, is, other))
as_update s w kind (Message.route_refresh r) is body = let other = body.0 in absurd (omega (arith, is, other))

pub as_notification : (s : SessionConfig) (w : Window) (kind : ℕ) (m : Message) → kind ≡ 3 → IsBody s w kind m
    → (n : ℕ × (ℕ × Window)) × (m ≡ Message.notification n) × Whole IsNotification w n
as_notification s w kind (Message.opens o) is body = let other = body.0 in absurd (omega (arith, is, other))
as_notification s w kind (Message.update u) is body = let other = body.0 in absurd (omega (arith, is, other))
as_notification s w kind (Message.notification n) is body = (n, refl, body.1)
as_notification s w kind Message.keepalive is body = let other = body.0 in absurd (omega (arith, is, other))
as_notification s w kind (Message.route_refresh r) is body = let other = body.0 in absurd (omega (arith, is, other))

pub as_keepalive : (s : SessionConfig) (w : Window) (kind : ℕ) (m : Message) → kind ≡ 4 → IsBody s w kind m
    → (m ≡ Message.keepalive) × (left w ≡ 0)
as_keepalive s w kind (Message.opens o) is body = let other = body.0 in absurd (omega (arith, is, other))
as_keepalive s w kind (Message.update u) is body = let other = body.0 in absurd (omega (arith, is, other))
as_keepalive s w kind (Message.notification n) is body = let other = body.0 in absurd (omega (arith, is, other))
as_keepalive s w kind Message.keepalive is body = (refl, body.1)
as_keepalive s w kind (Message.route_refresh r) is body = let other = body.0 in absurd (omega (arith, is, other))

pub as_route_refresh : (s : SessionConfig) (w : Window) (kind : ℕ) (m : Message) → kind ≡ 5 → IsBody s w kind m
    → (r : ℕ × (ℕ × (ℕ × Window))) × (m ≡ Message.route_refresh r) × Whole IsRouteRefresh w r
as_route_refresh s w kind (Message.opens o) is body = let other = body.0 in absurd (omega (arith, is, other))
as_route_refresh s w kind (Message.update u) is body = let other = body.0 in absurd (omega (arith, is, other))
as_route_refresh s w kind (Message.notification n) is body = let other = body.0 in absurd (omega (arith, is, other))
as_route_refresh s w kind Message.keepalive is body = let other = body.0 in absurd (omega (arith, is, other))
as_route_refresh s w kind (Message.route_refresh r) is body = (r, refl, body.1)

pub no_open : (s : SessionConfig) (w : Window) (kind : ℕ) → kind ≡ 1 → ((o : Open) → IsOpen w o → ⊥) → (m : Message)
    → IsBody s w kind m → ⊥
no_open s w kind is none m body = let it = as_open s w kind m is body in none it.0 it.2

pub no_update : (s : SessionConfig) (w : Window) (kind : ℕ) → kind ≡ 2 → ((u : Update) → IsUpdate s w u → ⊥)
    → (m : Message)
    → IsBody s w kind m → ⊥
no_update s w kind is none m body = let it = as_update s w kind m is body in none it.0 it.2

pub no_notification : (s : SessionConfig) (w : Window) (kind : ℕ) → kind ≡ 3
    → ((n : ℕ × (ℕ × Window)) → Whole IsNotification w n → ⊥) → (m : Message)
    → IsBody s w kind m → ⊥
no_notification s w kind is none m body = let it = as_notification s w kind m is body in none it.0 it.2

pub no_route_refresh : (s : SessionConfig) (w : Window) (kind : ℕ) → kind ≡ 5
    → ((r : ℕ × (ℕ × (ℕ × Window))) → Whole IsRouteRefresh w r → ⊥) → (m : Message)
    → IsBody s w kind m → ⊥
no_route_refresh s w kind is none m body = let it = as_route_refresh s w kind m is body in none it.0 it.2
