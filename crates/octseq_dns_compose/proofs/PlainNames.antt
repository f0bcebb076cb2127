-- A name is the same wherever it is read from its place, so it has pointers there or not.
use Rattle.std.proofs.Common.{◌≡◌, ℕ, List, subst, arith}
use Rattle.std.proofs.Math.Logic.{∥∥₁_elim}
use Rattle.octseq.specs.Window.{Window}
use Rattle.octseq_dns_data.specs.UncompressedName.{IsUncompressedName}
use Rattle.octseq_dns_name.specs.Name.{IsName}
use Rattle.octseq_dns_name.specs.OneName.{one_labels, one_name}

pub plain_there : (w v end : Window) (labels found : List (List ℕ)) → v ≡ w
    → ∥ ((end : Window) × IsName w labels end) ∥₁ → IsUncompressedName v found end → IsUncompressedName w labels end
plain_there w v end labels found same there is =
    let here : IsUncompressedName w found end = subst (λ u. IsUncompressedName u found end) same is in
    let name : IsName w found end =
    record { pointers = 0; has_labels = here.has_labels; short = here.short; few = omega arith } in
    subst (λ l. IsUncompressedName w l end)
    (∥∥₁_elim there (one_labels found labels) (λ x. (one_name w end x.0 found labels name x.1).0)) here
