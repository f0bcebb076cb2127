-- A word of each kind, and how a word is read in one way.
use Rattle.std.proofs.Common.{◌≡◌, ℕ, Option, Some, None, List, [], ◌∷◌, codes, refl, inl, arith}
use Rattle.octseq_dns_data.specs.Mnemonic.{ReadsClass, ReadsRtype, class_names}
use Rattle.octseq_dns_data.proofs.Mnemonics.{one_number, classes_unambiguous}
use Rattle.octseq_dns_text.specs.DataText.{IsDataText}
use Rattle.octseq_dns_compose.specs.RecordText.{IsOwnerWord, IsTtlWord}

pub one_class : (text : List ℕ) (a b : ℕ) → ReadsClass text a → ReadsClass text b → a ≡ b
unfolding ReadsClass
one_class text a b = one_number (codes "CLASS") class_names classes_unambiguous text a b

pub class_sample : ReadsClass (codes "IN") 1
unfolding ReadsClass
class_sample = inl (record { name = codes "IN"; named = (0, (omega arith, refl)); spelled = refl })

pub rtype_sample : ReadsRtype (codes "A") 1
unfolding ReadsRtype
rtype_sample = inl (record { name = codes "A"; named = (0, (omega arith, refl)); spelled = refl })

pub ttl_sample : IsTtlWord 0 (codes "0")
ttl_sample = ((omega arith, (omega arith, tt)), omega arith, refl, omega arith)

pub name_sample : (origin : Option (List (List ℕ))) → IsOwnerWord origin [] (codes ".")
name_sample None = (tt, omega arith, refl)
name_sample (Some origin) = (tt, omega arith, inl refl)

pub data_sample : (origin : Option (List (List ℕ))) (rtype class : ℕ)
    → (words : List (List ℕ)) × (octets : List ℕ) × IsDataText origin rtype class words octets
data_sample origin rtype class = (
  codes "\\#" ∷ codes "0" ∷ [],
  [],
  inl (codes "0" ∷ [], refl, (codes "0", [], refl, (omega arith, (omega arith, tt)), omega arith, refl, (tt, refl))),
)
