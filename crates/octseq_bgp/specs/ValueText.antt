-- The text of attributes: their flags, names and values.
use Rattle.std.specs.Prelude.{ℕ, zero, suc, ◌/◌, ◌%◌, Bool, if◌then◌else◌, nat_eq, List, [], ◌∷◌, ◌++◌, take, drop}
use Rattle.std.specs.Prelude.{Option, Some, None, codes}
use Rattle.std.specs.Fmt.{decimal}
use Rattle.std.specs.List.{flat_map}
use Rattle.std.specs.Net.Text.{ipv4_text}
use Rattle.octseq.specs.Integer.{be}
use Rattle.octseq.specs.Window.{rest}
use Rattle.octseq_bgp.specs.ExtendedText.{extended_text}
use Rattle.octseq_bgp.specs.OctetsText.{spaced, number_dotted}
use Rattle.octseq.specs.OctetsText.{opaque_text}
use Rattle.octseq_bgp.specs.Parts.{Attribute, Segment, flags_of, type_of}
use Rattle.octseq_bgp.specs.Path.{asn_size}
use Rattle.octseq_bgp.specs.Prefix.{Nlri}
use Rattle.octseq_bgp.specs.PrefixValue.{prefix_address}
use Rattle.octseq_bgp.specs.Text.{community_text, large_text, family_text, address_text, prefix_text}
use Rattle.octseq_bgp.specs.Value.{Value}
use Rattle.octseq_bgp.specs.declared.family.Afi.TheVariants as addresses
use Rattle.octseq_bgp.specs.declared.attribute.next_hop.NextHop.{NextHop}
use Rattle.octseq_bgp.specs.declared.attribute.next_hop.NextHop.TheVariants as hop
use Rattle.octseq_bgp.specs.declared.prefix.PathId.{PathId}

-- a letter if a bit is set
abbrev pub flag_text : ℕ → List ℕ → List ℕ
flag_text bit letter = if nat_eq bit 1 then letter else []

-- the flags that are set: optional, transitive and partial
abbrev pub set_flags : ℕ → List ℕ
set_flags flags = flag_text (flags / 128) (codes "O") ++ flag_text (flags / 64 % 2) (codes "T")
    ++ flag_text (flags / 32 % 2) (codes "P")

-- the flags, or a hyphen if none is set
abbrev pub flags_text : ℕ → List ℕ
flags_text flags = if nat_eq (flags / 32) 0 then codes "-" else set_flags flags

-- the names of the types whose values are parsed
abbrev pub type_names : List (ℕ × List ℕ)
type_names = (1, codes "ORIGIN") ∷ (2, codes "AS_PATH") ∷ (3, codes "NEXT_HOP") ∷ (4, codes "MULTI_EXIT_DISC")
    ∷ (5, codes "LOCAL_PREF") ∷ (6, codes "ATOMIC_AGGREGATE") ∷ (7, codes "AGGREGATOR") ∷ (8, codes "COMMUNITIES")
    ∷ (9, codes "ORIGINATOR_ID") ∷ (10, codes "CLUSTER_LIST") ∷ (14, codes "MP_REACH_NLRI")
    ∷ (15, codes "MP_UNREACH_NLRI") ∷ (16, codes "EXTENDED_COMMUNITIES") ∷ (17, codes "AS4_PATH")
    ∷ (18, codes "AS4_AGGREGATOR") ∷ (32, codes "LARGE_COMMUNITIES") ∷ []

-- the name of a number in a list, otherwise the number
abbrev pub named : List (ℕ × List ℕ) → ℕ → List ℕ
named [] n = decimal n
named (name ∷ names) n = if nat_eq n name.0 then name.1 else named names n

-- the name of a type, or its number
abbrev pub attribute_name_text : ℕ → List ℕ
attribute_name_text = named type_names

abbrev pub origin_text : ℕ → List ℕ
origin_text n = if nat_eq n 0 then codes "IGP" else (if nat_eq n 1 then codes "EGP" else codes "INCOMPLETE")

-- the first `count` numbers of k octets of a list
abbrev pub numbers : ℕ → ℕ → List ℕ → List ℕ
numbers k zero octets = []
numbers k (suc n) octets = be (take k octets) ∷ numbers k n (drop k octets)

-- the name of a type of segments
abbrev pub segment_name : ℕ → List ℕ
segment_name n = if nat_eq n 1 then codes "set" else (if nat_eq n 2 then codes "sequence"
    else (if nat_eq n 3 then codes "confed-sequence" else codes "confed-set"))

-- each number after a space
abbrev pub numbers_text : List ℕ → List ℕ
numbers_text = flat_map (λ n. spaced (decimal n))

-- a segment: its type, and its AS numbers
abbrev pub segment_words : Bool → Segment → List ℕ
segment_words wide e = segment_name e.0 ++ numbers_text (numbers (asn_size wide) e.1.0 (rest e.1.1))

-- each segment of a path after a space
abbrev pub path_text : Bool × List Segment → List ℕ
path_text path = flat_map (λ e. spaced (segment_words path.0 e)) path.1

-- each next hop after a space
abbrev pub next_hop_text : NextHop → List ℕ
next_hop_text (hop.Ipv4 a) = spaced (ipv4_text a)
next_hop_text (hop.Ipv6 a) = spaced (address_text addresses.Ipv6 a)
next_hop_text (hop.Ipv6LinkLocal a b) =
    spaced (address_text addresses.Ipv6 a) ++ spaced (address_text addresses.Ipv6 b)

abbrev pub aggregator_text : ℕ × ℕ → List ℕ
aggregator_text it = spaced (decimal it.0) ++ spaced (number_dotted it.1)

-- a value, each of its parts after a space
abbrev pub value_text : Value → List ℕ
value_text (Value.origin n) = spaced (origin_text n)
value_text (Value.as_path path) = path_text path
value_text (Value.next_hop n) = spaced (number_dotted n)
value_text (Value.multi_exit_disc n) = spaced (decimal n)
value_text (Value.local_pref n) = spaced (decimal n)
value_text Value.atomic_aggregate = []
value_text (Value.aggregator it) = aggregator_text it
value_text (Value.communities row) = flat_map (λ n. spaced (community_text n)) row
value_text (Value.originator_id n) = spaced (number_dotted n)
value_text (Value.cluster_list row) = flat_map (λ n. spaced (number_dotted n)) row
value_text (Value.reach r) = spaced (family_text r.family) ++ next_hop_text r.next_hop
value_text (Value.unreach r) = spaced (family_text r.family)
value_text (Value.extended_communities row) = flat_map (λ n. spaced (extended_text n)) row
value_text (Value.as4_path path) = path_text path
value_text (Value.as4_aggregator it) = aggregator_text it
value_text (Value.large_communities row) = flat_map (λ it. spaced (large_text it.0 it.1.0 it.1.1)) row
value_text (Value.opaque w) = spaced (opaque_text (rest w))

-- an attribute, with its value
abbrev pub attribute_text : Attribute → Value → List ℕ
attribute_text e v = flags_text (flags_of e) ++ spaced (attribute_name_text (type_of e)) ++ value_text v

-- the path id, if there is one
abbrev pub path_id_text : Option PathId → List ℕ
path_id_text (Some id) = codes " path " ++ decimal id.0
path_id_text None = []

-- a prefix, with its path id
unfoldable pub nlri_text : Nlri → List ℕ
nlri_text n = prefix_text n.afi n.bits (prefix_address n.bits (rest n.octets)) ++ path_id_text n.path_id
