-- Lists of addresses are read address by address.
use Rattle.std.proofs.Common.{◌≡◌, ℕ, List, [], ◌∷◌, ◌++◌, Option, None, sym, ap, ◌∙◌}
use Rattle.std.specs.List.{concat}
use Rattle.std.proofs.lemmas.List.{append-nil}
use Rattle.std.proofs.lemmas.List.Folds.{concat-append}
use Rattle.octseq_dns_text.specs.ParamText.{AreAddressTexts, IsAddressText}
use Rattle.octseq_dns_text.proofs.Items.{ReadsItems, Next, items_last, items_next}

-- the octets of one more address
pub concat_more : (addresses : List (List ℕ)) (value octets : List ℕ) → value ≡ concat addresses
    → value ++ octets ≡ concat (addresses ++ octets ∷ [])
concat_more addresses value octets same =
    ap (λ l. l ++ octets) same ∙ ap (λ l. concat addresses ++ l) (sym (append-nil octets))
    ∙ sym (concat-append addresses (octets ∷ []))

pub addresses_last : (Is : List ℕ → List ℕ → Type 0) (size : ℕ) (said list item : List ℕ) (rest : Option (List ℕ))
    (addresses : List (List ℕ)) (value octets made : List ℕ) → ReadsItems (IsAddressText Is size) said list addresses
    → Next list item rest → rest ≡ None → IsAddressText Is size item octets → value ≡ concat addresses
    → made ≡ value ++ octets → AreAddressTexts Is size said made
addresses_last Is size said list item rest addresses value octets made so_far next end one same grown = record {
  addresses = addresses ++ octets ∷ [];
  each = items_last (IsAddressText Is size) said list item rest addresses octets so_far next end one;
  octets = grown ∙ concat_more addresses value octets same;
}

pub addresses_refused : (Is : List ℕ → List ℕ → Type 0) (size : ℕ) (said list item : List ℕ) (rest : Option (List ℕ))
    (addresses : List (List ℕ)) → ReadsItems (IsAddressText Is size) said list addresses → Next list item rest
    → ((octets : List ℕ) → ¬ IsAddressText Is size item octets) → (value : List ℕ)
    → ¬ AreAddressTexts Is size said value
addresses_refused Is size said list item rest addresses so_far next none value is =
    let part = items_next (IsAddressText Is size) said list item rest addresses is.addresses so_far next is.each in
    none part.1 part.5
