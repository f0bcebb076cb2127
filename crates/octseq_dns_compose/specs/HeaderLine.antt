-- The line of a header: `id 4660 opcode 0 rcode 0 flags QR AA RD`.
use Rattle.std.specs.Prelude.{◌≡◌, ℕ, Bool, true, false, Option, List, [], ◌∷◌, ◌++◌, codes, IfSome, IsNone}
use Rattle.octseq_dns_scan.specs.Word.{TakesWord}
use Rattle.octseq_dns_text.specs.Scans.{BeginsWithWords}
use Rattle.octseq_dns_compose.specs.Take.{IsGiven, IsUpTo, Then}
use Rattle.octseq_dns_message.specs.declared.header.Flags.{Flags}
use Rattle.octseq_dns_message.specs.declared.header.Header.{Header}

-- the word of a flag that is set
abbrev pub flag_word : Bool → List ℕ → List (List ℕ)
flag_word true name = name ∷ []
flag_word false name = []

-- Those of the flags that are set, from the highest bit to the lowest. The reserved bit has no word.
abbrev pub flag_words : Flags → List (List ℕ)
flag_words flags = flag_word flags.qr (codes "QR") ++ (flag_word flags.aa (codes "AA")
    ++ (flag_word flags.tc (codes "TC") ++ (flag_word flags.rd (codes "RD") ++ (flag_word flags.ra (codes "RA")
    ++ (flag_word flags.ad (codes "AD") ++ (flag_word flags.cd (codes "CD") ++ []))))))

abbrev pub AreFlags : Flags → List (List ℕ) → Type 0
AreFlags flags words = (flags.z ≡ false) × (words ≡ flag_words flags)

-- a word, and a number of at most `most`
abbrev pub HeaderField : List ℕ → ℕ → ℕ → (List (List ℕ) → Type 0) → List (List ℕ) → Type 0
HeaderField name most number Rest = Then (IsGiven name) (Then (IsUpTo most number) Rest)

-- the identifier, the opcode, the response code, and the flags
abbrev pub IsHeaderLine : Header → List (List ℕ) → Type 0
IsHeaderLine h = HeaderField (codes "id") 65535 h.id
    (HeaderField (codes "opcode") 15 h.opcode (HeaderField (codes "rcode") 15 h.rcode
    (Then (IsGiven (codes "flags")) (AreFlags h.flags))))

-- A word and a number are taken; or the first of them that isn't what has to come there is next.
pub data IsNoField (name : List ℕ) (most : ℕ) (ahead after : List ℕ) : Type 0 where
  no_name : after ≡ ahead → ((rest : List ℕ) → ¬ TakesWord name ahead rest) → IsNoField name most ahead after
  no_number : TakesWord name ahead after
      → ((word rest : List ℕ) (number : ℕ) → TakesWord word after rest → ¬ IsUpTo most number word)
      → IsNoField name most ahead after

pub record TakesField (name : List ℕ) (most : ℕ) (result : Option ℕ) (ahead after : List ℕ) : Type 0 where
  pub some : IfSome result (λ number. (mid word : List ℕ) × TakesWord name ahead mid × TakesWord word mid after
      × IsUpTo most number word)
  pub none : IsNone result → IsNoField name most ahead after

-- ---- flags that are taken

abbrev pub flag_names : List (List ℕ)
flag_names = codes "QR" ∷ codes "AA" ∷ codes "TC" ∷ codes "RD" ∷ codes "RA" ∷ codes "AD" ∷ codes "CD" ∷ []

-- words are some of the names, in their order
abbrev pub ArePicked : List (List ℕ) → List (List ℕ) → Type 0
ArePicked [] words = words ≡ []
ArePicked (name ∷ names) words =
    (picked : Bool) × (more : List (List ℕ)) × (words ≡ flag_word picked name ++ more) × ArePicked names more

-- They are at the front of a text, and no more of them are.
pub record Picks (names : List (List ℕ)) (ahead : List ℕ) (words : List (List ℕ)) (rest : List ℕ) : Type 0 where
  pub begins : BeginsWithWords words ahead rest
  pub are : ArePicked names words
  pub stops : (word left : List ℕ) → TakesWord word rest left → (more : List (List ℕ))
      → ¬ ArePicked names ((words ++ word ∷ []) ++ more)
