-- Queries with an OPT record, appended part by part.
use Rattle.std.proofs.Common.{◌≡◌, ℕ, ◌+◌, List, [], ◌∷◌, ◌++◌, length, ap, sym, ◌∙◌, append_assoc}
use Rattle.std.proofs.lemmas.List.{length-append}
use Rattle.octseq.specs.Integer.{octets_be}
use Rattle.octseq_c.specs.Edns.{IsEdnsQuery, edns_header, opt_head, question_octets}
use Rattle.octseq_c.specs.Texts.{SpellsNameText}
use Rattle.octseq_c.proofs.OneTexts.{one_spelled}

-- octets that were appended after others
pub more_of : {some all : List ℕ} (front x y : List ℕ) → some ≡ front ++ x → all ≡ some ++ y → all ≡ front ++ (x ++ y)
more_of front x y a b = b ∙ ap (λ s. s ++ y) a ∙ append_assoc front x y

pub edns_header_of : {c0 c1 c2 c3 c4 c5 c6 : List ℕ} (id flags : ℕ) → c0 ≡ [] → c1 ≡ c0 ++ octets_be 2 id
    → c2 ≡ c1 ++ octets_be 2 flags → c3 ≡ c2 ++ octets_be 2 1 → c4 ≡ c3 ++ octets_be 2 0 → c5 ≡ c4 ++ octets_be 2 0
    → c6 ≡ c5 ++ octets_be 2 1 → c6 ≡ edns_header id flags
unfolding octets_be
edns_header_of id flags a0 a1 a2 a3 a4 a5 a6 =
    a6 ∙ ap (λ x. x ++ octets_be 2 1) (a5 ∙ ap (λ x. x ++ octets_be 2 0) (a4 ∙ ap (λ x. x ++ octets_be 2 0)
    (a3 ∙ ap (λ x. x ++ octets_be 2 1) (a2 ∙ ap (λ x. x ++ octets_be 2 flags) (a1 ∙ ap (λ x. x ++ octets_be 2 id)
    a0)))))

pub opt_head_of : {c1 c2 c3 c4 c5 c6 : List ℕ} (c0 : List ℕ) (payload flags n : ℕ) → c1 ≡ c0 ++ (0 ∷ [])
    → c2 ≡ c1 ++ octets_be 2 41 → c3 ≡ c2 ++ octets_be 2 payload → c4 ≡ c3 ++ octets_be 2 0
    → c5 ≡ c4 ++ octets_be 2 flags → c6 ≡ c5 ++ octets_be 2 n → c6 ≡ c0 ++ opt_head payload flags n
unfolding octets_be
opt_head_of c0 payload flags n a1 a2 a3 a4 a5 a6 =
    let kind = (0 ∷ []) ++ octets_be 2 41 in
    let class = kind ++ octets_be 2 payload in
    let upper = class ++ octets_be 2 0 in
    let bits = upper ++ octets_be 2 flags in
    more_of c0 bits (octets_be 2 n) (more_of c0 upper (octets_be 2 flags) (more_of c0 class (octets_be 2 0)
    (more_of c0 kind (octets_be 2 payload) (more_of c0 (0 ∷ []) (octets_be 2 41) a1 a2) a3) a4) a5) a6

-- what was appended is the query without its options
pub front_is : {a b d front : List ℕ} (header question opt : List ℕ) → a ≡ header → b ≡ a ++ question → d ≡ b ++ opt
    → front ≡ d → front ≡ (header ++ question) ++ opt
front_is header question opt a b d e = e ∙ d ∙ ap (λ x. x ++ opt) (b ∙ ap (λ x. x ++ question) a)

-- the query that a text asks for has the name that it spells
pub query_is : (id flags : ℕ) (text : List ℕ) (qtype qclass payload edns_flags : ℕ) (options made : List ℕ)
    (labels : List (List ℕ)) → SpellsNameText text labels
    → IsEdnsQuery id flags text qtype qclass payload edns_flags options made
    → made ≡ ((edns_header id flags ++ question_octets labels qtype qclass)
    ++ opt_head payload edns_flags (length options)) ++ options
query_is id flags text qtype qclass payload edns_flags options made labels spelled is =
    is.made_is ∙ ap (λ labels. ((edns_header id flags ++ question_octets labels qtype qclass)
    ++ opt_head payload edns_flags (length options)) ++ options) (one_spelled is.spelled spelled)

-- so it has as many octets as both
pub query_length : (id flags : ℕ) (text : List ℕ) (qtype qclass payload edns_flags : ℕ) (options made front : List ℕ)
    (labels : List (List ℕ)) → SpellsNameText text labels
    → front ≡ (edns_header id flags ++ question_octets labels qtype qclass)
    ++ opt_head payload edns_flags (length options)
    → IsEdnsQuery id flags text qtype qclass payload edns_flags options made
    → length made ≡ length front + length options
query_length id flags text qtype qclass payload edns_flags options made front labels spelled same is =
    ap length (query_is id flags text qtype qclass payload edns_flags options made labels spelled is
    ∙ ap (λ front. front ++ options) (sym same)) ∙ length-append front options

-- the query that a text asks for is one
pub one_edns_query : (id flags : ℕ) (text : List ℕ) (qtype qclass payload edns_flags : ℕ) (options made other : List ℕ)
    → IsEdnsQuery id flags text qtype qclass payload edns_flags options made
    → IsEdnsQuery id flags text qtype qclass payload edns_flags options other → made ≡ other
one_edns_query id flags text qtype qclass payload edns_flags options made other a b =
    a.made_is
    ∙ ap (λ labels. ((edns_header id flags ++ question_octets labels qtype qclass)
    ++ opt_head payload edns_flags (length options)) ++ options) (one_spelled a.spelled b.spelled) ∙ sym b.made_is
