-- The service parameters of SVCB and HTTPS: RFC 9460, 2.2, 7 and 8.
use Rattle.std.specs.Prelude.{◌≡◌, ℕ, ◌%◌, ◌^◌, ◌<◌, ◌≤◌, nat_eq, if◌then◌else◌, List, [], length, map, ◌++◌}
use Rattle.std.specs.List.{All, flat_map}
use Rattle.std.specs.List.Sorted.{IsStrictlyIncreasing}
use Rattle.octseq.specs.Integer.{octets_be}
use Rattle.octseq.specs.Part.{part_of}
use Rattle.octseq_format.specs.Row.{row_turns}
use Rattle.octseq_dns_data.specs.Pieces.{Split, pieces, split_number, split_pair, split_part}

-- ---- the values of keys

-- The keys of a value: one or more, each in 2 octets, none of them 0, ascending (RFC 9460, 8).
pub record AreKeys (value keys : List ℕ) : Type 0 where
  pub spelled : value ≡ flat_map (octets_be 2) keys
  pub some : 1 ≤ length keys
  pub each : All (λ key. (1 ≤ key) × (key < 2 ^ 16)) keys
  pub ascending : IsStrictlyIncreasing keys

-- the keys that a value is split into
abbrev pub keys_of : List ℕ → List ℕ
keys_of = pieces (split_number 2)

-- The protocol ids of a value: one or more, each after its length of one octet, none of them empty (RFC 9460, 7.1.1).
pub record AreIds (value : List ℕ) (ids : List (List ℕ)) : Type 0 where
  pub spelled : value ≡ flat_map (part_of 1) ids
  pub some : 1 ≤ length ids
  pub each : All (λ id. (1 ≤ length id) × (length id < 2 ^ 8)) ids

-- the ids that a value is split into
abbrev pub ids_of : List ℕ → List (List ℕ)
ids_of = pieces (split_part 1)

-- one or more addresses of the given number of octets each (RFC 9460, 7.3)
abbrev pub AreAddresses : ℕ → List ℕ → Type 0
AreAddresses size value = (1 ≤ length value) × (length value % size ≡ 0)

-- A value has the form of its key: RFC 9460, 14.3.2. The value of any other key may have any octets, or none.
pub record IsValueOf (key : ℕ) (value : List ℕ) : Type 0 where
  pub mandatory : key ≡ 0 → AreKeys value (keys_of value)
  pub alpn : key ≡ 1 → AreIds value (ids_of value)
  pub no_default_alpn : key ≡ 2 → value ≡ []
  pub port : key ≡ 3 → length value ≡ 2
  pub ipv4hint : key ≡ 4 → AreAddresses 4 value
  pub ipv6hint : key ≡ 6 → AreAddresses 16 value

-- ---- parameters

-- a parameter: its key, and its value
abbrev pub Param : Type 0
Param = ℕ × List ℕ

-- its octets: the key in 2 octets, and the value after its length of 2 octets
abbrev pub param_octets : Param → List ℕ
param_octets param = octets_be 2 param.0 ++ part_of 2 param.1

-- Key and length fit 2 octets each, and the value has the form of its key.
pub record IsParam (param : Param) : Type 0 where
  pub key : param.0 < 2 ^ 16
  pub few : length param.1 < 2 ^ 16
  pub value : IsValueOf param.0 param.1

-- The parameters of octets: any number, one after another up to the end, with ascending keys.
pub record AreParams (octets : List ℕ) (params : List Param) : Type 0 where
  pub spelled : octets ≡ flat_map param_octets params
  pub each : All IsParam params
  pub ascending : IsStrictlyIncreasing (map (λ param. param.0) params)

-- the first parameter of octets, whatever its value, and the octets after it
abbrev pub split_param : Split Param
split_param = split_pair (split_number 2) (split_part 2)

-- the parameters that octets are split into
abbrev pub params_of : List ℕ → List Param
params_of = pieces split_param

-- octets are parameters
abbrev pub IsSvcParams : List ℕ → Type 0
IsSvcParams octets = AreParams octets (params_of octets)

-- ---- turns

-- the turns that the check of a value takes: one for each key or id in it
abbrev pub value_turns : Param → ℕ
value_turns param = if nat_eq param.0 0 then length (keys_of param.1)
    else if nat_eq param.0 1 then length (ids_of param.1) else 0

-- the turns that the check of parameters takes: one for each, and those of its value
abbrev pub params_turns : List ℕ → ℕ
params_turns octets = row_turns value_turns (params_of octets)
