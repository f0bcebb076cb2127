-- The text of the service parameters of SVCB and HTTPS: RFC 9460, 2.1 and A.1.
use Rattle.std.specs.Prelude.{ℕ, ◌==◌, if◌then◌else◌, Bool, List, [], ◌∷◌, ◌++◌, codes}
use Rattle.std.specs.Char.{char_set_contains}
use Rattle.std.specs.Fmt.{decimal}
use Rattle.std.specs.List.{flat_map}
use Rattle.std.specs.Net.Text.{ipv4_text}
use Rattle.octseq.specs.Integer.{be}
use Rattle.octseq_dns_scan.specs.Base64.{base64_text}
use Rattle.octseq.specs.OctetsText.{ipv6_address_text, string_octet_text}
use Rattle.octseq_dns_data.specs.Mnemonic.{Mnemonics, name_or}
use Rattle.octseq_dns_data.specs.Pieces.{pieces, split_octets}
use Rattle.octseq_dns_data.specs.SvcParams.{Param, ids_of, keys_of, params_of}

-- texts, separated by commas (44)
abbrev pub with_commas : {X : Type 0} → (X → List ℕ) → List X → List ℕ
with_commas text [] = []
with_commas text (x ∷ xs) = text x ++ flat_map (λ y. 44 ∷ text y) xs

-- the names of keys: RFC 9460, 14.3.2
abbrev pub key_names : Mnemonics
key_names = (0, codes "mandatory") ∷ (1, codes "alpn") ∷ (2, codes "no-default-alpn") ∷ (3, codes "port")
    ∷ (4, codes "ipv4hint") ∷ (5, codes "ech") ∷ (6, codes "ipv6hint") ∷ []

-- the name of a key, otherwise `key` and its number
unfoldable pub key_text : ℕ → List ℕ
key_text = name_or (codes "key") key_names

-- An octet of an id in a list: a backslash (92) or a comma comes after a backslash.
abbrev pub is_listed_quoted : ℕ → Bool
is_listed_quoted = char_set_contains (codes "\\,")

abbrev pub listed_octet : ℕ → List ℕ
listed_octet octet = if is_listed_quoted octet then 92 ∷ octet ∷ [] else octet ∷ []

-- ids, separated by commas, as the octets of a string
abbrev pub ids_text : List (List ℕ) → List ℕ
ids_text ids = flat_map string_octet_text (with_commas (flat_map listed_octet) ids)

-- A value of one or more octets, by its key: keys, ids, a port, addresses, base 64, and for any other key the octets of
-- a string.
unfoldable pub value_text : ℕ → List ℕ → List ℕ
value_text key value = if key == 0 then with_commas key_text (keys_of value)
    else (if key == 1 then ids_text (ids_of value)
    else (if key == 3 then decimal (be value)
    else (if key == 4 then with_commas ipv4_text (pieces (split_octets 4) value)
    else (if key == 5 then base64_text value
    else (if key == 6 then with_commas ipv6_address_text (pieces (split_octets 16) value)
    else flat_map string_octet_text value)))))

-- `=` (61) and the value in quotation marks (34), if it has an octet
abbrev pub value_after : ℕ → List ℕ → List ℕ
value_after key [] = []
value_after key (octet ∷ octets) = 61 ∷ 34 ∷ value_text key (octet ∷ octets) ++ 34 ∷ []

-- a parameter
abbrev pub param_text : Param → List ℕ
param_text param = key_text param.0 ++ value_after param.0 param.1

-- parameters, each after a space (32)
abbrev pub svc_params_text : List ℕ → List ℕ
svc_params_text octets = flat_map (λ param. 32 ∷ param_text param) (params_of octets)
