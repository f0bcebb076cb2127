-- A TTL and a class taken from the front of a text, in either order.
use Rattle.std.specs.Prelude.{◌≡◌, ◌⊎◌, ℕ, Option, List, IfSome, IsNone}
use Rattle.octseq_dns_scan.specs.Word.{TakesWord}
use Rattle.octseq_dns_compose.specs.RecordText.{IsClassWord, IsTtlWord}

-- no word with a property is next
abbrev pub NoneNext : (ℕ → List ℕ → Type 0) → List ℕ → Type 0
NoneNext Is ahead = (word rest : List ℕ) (value : ℕ) → TakesWord word ahead rest → ¬ Is value word

-- The first of the two that isn't what has to come there is next: a TTL or a class; a class after a TTL; or a TTL after
-- a class.
pub data IsNoOrder (ahead after : List ℕ) : Type 0 where
  no_first : after ≡ ahead → NoneNext IsTtlWord ahead → NoneNext IsClassWord ahead → IsNoOrder ahead after
  no_class : (ttl : ℕ) (word : List ℕ) → IsTtlWord ttl word → TakesWord word ahead after → NoneNext IsClassWord after
      → IsNoOrder ahead after
  no_ttl : (class : ℕ) (word : List ℕ) → IsClassWord class word → TakesWord word ahead after → NoneNext IsTtlWord after
      → IsNoOrder ahead after

pub record TakesOrder (result : Option (ℕ × ℕ)) (ahead after : List ℕ) : Type 0 where
  pub some : IfSome result (λ both. (first second mid : List ℕ) × TakesWord first ahead mid × TakesWord second mid after
      × ((IsTtlWord both.0 first × IsClassWord both.1 second) ⊎ (IsClassWord both.1 first × IsTtlWord both.0 second)))
  pub none : IsNone result → IsNoOrder ahead after
