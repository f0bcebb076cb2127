-- Queries with an OPT record: RFC 6891, 6.1.
use Rattle.std.specs.Prelude.{◌≡◌, ◌⊎◌, ℕ, List, [], ◌∷◌, ◌++◌, length}
use Rattle.octseq.specs.Integer.{octets_be}
use Rattle.octseq.specs.Window.{Window, whole}
use Rattle.octseq_dns.specs.Wire.{wire}
use Rattle.octseq_dns_message.specs.Opt.{EdnsOption, HasOption}
use Rattle.octseq_format.specs.Row.{Row}
use Rattle.octseq_c.specs.Texts.{SpellsNameText}

-- Octets are options, as the data of an OPT record has them: one after another, each with its code, its length and its
-- octets, up to the end.
pub record AreOptions (octets : List ℕ) : Type 0 where
  pub options : List EdnsOption
  pub end : Window
  pub are : Row HasOption (whole octets) options end
  pub ends : end.position ≡ length octets

-- the octets of a header with this id and these flags, which counts one question and one additional record
abbrev pub edns_header : ℕ → ℕ → List ℕ
edns_header id flags = octets_be 2 id ++ (octets_be 2 flags ++ (octets_be 2 1 ++ (octets_be 2 0 ++ (octets_be 2 0
    ++ octets_be 2 1))))

-- the name, the type and the class of a question
abbrev pub question_octets : List (List ℕ) → ℕ → ℕ → List ℕ
question_octets labels qtype qclass = wire labels ++ (octets_be 2 qtype ++ octets_be 2 qclass)

-- An OPT record before its data: the root, the type, the UDP payload size, no upper bits of a response code and version
-- 0, the flags, and the length of the data.
abbrev pub opt_head : ℕ → ℕ → ℕ → List ℕ
opt_head payload flags n = (0 ∷ []) ++ (octets_be 2 41 ++ (octets_be 2 payload ++ (octets_be 2 0 ++ (octets_be 2 flags
    ++ octets_be 2 n))))

-- These are the octets of a query for the name that a text spells, with an OPT record with these options.
pub record IsEdnsQuery (id flags : ℕ) (text : List ℕ) (qtype qclass payload edns_flags : ℕ) (options made : List ℕ)
    : Type 0 where
  pub labels : List (List ℕ)
  pub spelled : SpellsNameText text labels
  pub options_are : AreOptions options
  pub made_is : made ≡ ((edns_header id flags ++ question_octets labels qtype qclass)
      ++ opt_head payload edns_flags (length options)) ++ options

-- the text spells no name, or the octets are no options
abbrev pub IsNoEdnsQuery : List ℕ → List ℕ → Type 0
IsNoEdnsQuery text options = ((labels : List (List ℕ)) → ¬ SpellsNameText text labels) ⊎ (¬ AreOptions options)
