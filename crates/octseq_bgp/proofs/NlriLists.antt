-- The prefixes of a list, with path ids and without.
use Rattle.std.proofs.Common.{◌≡◌, ◌-◌, ◌∷◌, ℕ, List, [], true, false, refl, sym, ap, subst}
use Rattle.std.specs.Prelude.{Bool, map}
use Rattle.octseq.specs.Window.{Window}
use Rattle.octseq_format.specs.Row.{Holds}
use Rattle.octseq_bgp.specs.Family.{afi_of}
use Rattle.octseq_bgp.specs.Fills.{Fills}
use Rattle.octseq_bgp.specs.Parts.{IsPathPrefix, IsPrefix}
use Rattle.octseq_bgp.specs.Prefix.{AreAhead, AreNlri, ArePrefixes, Nlri, most_bits, nlri_ahead, path_nlri, plain_nlri}
use Rattle.octseq_bgp.specs.Session.{adds_path}
use Rattle.octseq_bgp.specs.declared.family.Afi.{Afi}
use Rattle.octseq_bgp.specs.declared.family.AfiSafiType.{AfiSafiType}
use Rattle.octseq_bgp.specs.declared.session.SessionConfig.{SessionConfig}

-- ---- of a session

pub to_session : (s : SessionConfig) (family : AfiSafiType) (paths : Bool) (afi : Afi) (w : Window) (row : List Nlri)
    → paths ≡ adds_path s.add_path family → afi ≡ afi_of family → AreNlri paths afi w row → ArePrefixes s family w row
to_session s family paths afi w row same_paths same_afi are =
    subst (λ p. AreNlri p (afi_of family) w row) same_paths (subst (λ a. AreNlri paths a w row) same_afi are)

pub from_session : (s : SessionConfig) (family : AfiSafiType) (paths : Bool) (afi : Afi) (w : Window) (row : List Nlri)
    → paths ≡ adds_path s.add_path family → afi ≡ afi_of family → ArePrefixes s family w row → AreNlri paths afi w row
from_session s family paths afi w row same_paths same_afi are =
    subst (λ a. AreNlri paths a w row) (sym same_afi)
    (subst (λ p. AreNlri p (afi_of family) w row) (sym same_paths) are)

-- ---- with path ids

pub fill_with_paths : (paths : Bool) (afi : Afi) (w : Window) (count : ℕ) → paths ≡ true
    → ((held : Holds (IsPathPrefix (most_bits afi)) w count) → Fills (IsPathPrefix (most_bits afi)) w held.0)
    → (ahead : AreAhead paths afi w count) → AreNlri paths afi w (nlri_ahead paths afi w count ahead)
fill_with_paths true afi w count is filled ahead = (ahead.0, filled ahead, refl)
fill_with_paths false afi w count is filled ahead = absurd (cc)

pub none_with_paths : (paths : Bool) (afi : Afi) (w : Window) (count : ℕ) → paths ≡ true
    → ((held : Holds (IsPathPrefix (most_bits afi)) w count) → held.0 ≡ []) → (ahead : AreAhead paths afi w count)
    → nlri_ahead paths afi w count ahead ≡ []
none_with_paths true afi w count is none ahead = ap (map (path_nlri afi)) (none ahead)
none_with_paths false afi w count is none ahead = absurd (cc)

pub first_with_path : (paths : Bool) (afi : Afi) (w v : Window) (count : ℕ) (item : ℕ × (ℕ × Window)) → paths ≡ true
    → ((held : Holds (IsPathPrefix (most_bits afi)) w count) (more : Holds (IsPathPrefix (most_bits afi)) v (count - 1))
    → held.0 ≡ item ∷ more.0)
    → (ahead : AreAhead paths afi w count) (next : AreAhead paths afi v (count - 1))
    → nlri_ahead paths afi w count ahead ≡ path_nlri afi item ∷ nlri_ahead paths afi v (count - 1) next
first_with_path true afi w v count item is first ahead next = ap (map (path_nlri afi)) (first ahead next)
first_with_path false afi w v count item is first ahead next = absurd (cc)

-- ---- without

pub fill_plain : (paths : Bool) (afi : Afi) (w : Window) (count : ℕ) → paths ≡ false
    → ((held : Holds (IsPrefix (most_bits afi)) w count) → Fills (IsPrefix (most_bits afi)) w held.0)
    → (ahead : AreAhead paths afi w count) → AreNlri paths afi w (nlri_ahead paths afi w count ahead)
fill_plain true afi w count is filled ahead = absurd (cc)
fill_plain false afi w count is filled ahead = (ahead.0, filled ahead, refl)

pub none_plain : (paths : Bool) (afi : Afi) (w : Window) (count : ℕ) → paths ≡ false
    → ((held : Holds (IsPrefix (most_bits afi)) w count) → held.0 ≡ []) → (ahead : AreAhead paths afi w count)
    → nlri_ahead paths afi w count ahead ≡ []
none_plain true afi w count is none ahead = absurd (cc)
none_plain false afi w count is none ahead = ap (map (plain_nlri afi)) (none ahead)

pub first_plain : (paths : Bool) (afi : Afi) (w v : Window) (count : ℕ) (item : ℕ × Window) → paths ≡ false
    → ((held : Holds (IsPrefix (most_bits afi)) w count) (more : Holds (IsPrefix (most_bits afi)) v (count - 1))
    → held.0 ≡ item ∷ more.0)
    → (ahead : AreAhead paths afi w count) (next : AreAhead paths afi v (count - 1))
    → nlri_ahead paths afi w count ahead ≡ plain_nlri afi item ∷ nlri_ahead paths afi v (count - 1) next
first_plain true afi w v count item is first ahead next = absurd (cc)
first_plain false afi w v count item is first ahead next = ap (map (plain_nlri afi)) (first ahead next)
