-- The data of EDNS options, by their codes: RFC 5001, 2.3 (NSID), RFC 7830, 3 (padding), RFC 7871, 6 (client subnets),
-- RFC 7873, 4 (cookies) and RFC 8914, 2 (extended errors).
use Rattle.std.specs.Prelude.{◌≡◌, ℕ, ◌+◌, ◌-◌, ◌*◌, ◌/◌, ◌%◌, ◌^◌, ◌≤◌, ◌⊎◌, List, [], ◌∷◌, ◌++◌, length}
use Rattle.std.specs.Str.{IsUtf8}
use Rattle.octseq.specs.Integer.{be}
use Rattle.octseq.specs.Window.{Window, left, rest}
use Rattle.octseq_dns_data.specs.Data.{HasOctetCount}
use Rattle.octseq_dns_data.specs.Format.{IsNumber}
use Rattle.octseq_dns_message.specs.Opt.{EdnsOption}
use Rattle.octseq_format.specs.Pair.{◌then◌}
use Rattle.octseq_format.specs.Rest.{IsRest}

-- A client subnet: the family of its address, the number of bits of it that are given, the number that an answer is
-- for, and the address.
pub record ClientSubnet : Type 0 where
  pub family : ℕ
  pub source_prefix_len : ℕ
  pub scope_prefix_len : ℕ
  pub address : Window

-- addresses of family 1 (IPv4) have 32 bits, and those of family 2 (IPv6) have 128
abbrev pub HasAddressesOf : ℕ → ℕ → Type 0
HasAddressesOf family bits = (family ≡ 1) × (bits ≡ 32) ⊎ (family ≡ 2) × (bits ≡ 128)

-- octets are as few as hold a number of bits, and the bits after those are 0
abbrev pub HoldsBits : ℕ → List ℕ → Type 0
HoldsBits bits octets = (length octets ≡ (bits + 7) / 8) × (be octets % 2 ^ (8 * length octets - bits) ≡ 0)

-- Neither prefix is longer than an address of the family, and the address holds the bits of the source prefix.
pub record IsSubnet (it : ClientSubnet) : Type 0 where
  pub bits : ℕ
  pub family : HasAddressesOf it.family bits
  pub source : it.source_prefix_len ≤ bits
  pub scope : it.scope_prefix_len ≤ bits
  pub holds : HoldsBits it.source_prefix_len (rest it.address)

-- a client subnet is such a prefix: 2 octets of the family, one of each length, and the address
pub record IsClientSubnet (w : Window) (it : ClientSubnet) : Type 0 where
  pub end : Window
  pub parts : (IsNumber 2 then IsNumber 1 then IsNumber 1 then IsRest) w
      (it.family, (it.source_prefix_len, (it.scope_prefix_len, it.address))) end
  pub prefix : IsSubnet it

-- A cookie: that of the client, and that of the server, which may be empty.
pub record Cookie : Type 0 where
  pub client : List ℕ
  pub server : Window

-- it has 8 octets of the client, and none or 8 to 32 of the server
pub record IsCookie (w : Window) (it : Cookie) : Type 0 where
  pub end : Window
  pub parts : (HasOctetCount 8 then IsRest) w (it.client, it.server) end
  pub server : (left it.server ≡ 0) ⊎ (8 ≤ left it.server) × (left it.server ≤ 32)

-- An extended error: its code, and an extra text.
pub record ExtendedError : Type 0 where
  pub code : ℕ
  pub text : List ℕ

-- the text is the octets without a 0 at their end, if there is one
abbrev pub IsWithoutZero : List ℕ → List ℕ → Type 0
IsWithoutZero octets text = (octets ≡ text ++ 0 ∷ [])
    ⊎ (octets ≡ text) × ((front : List ℕ) → ¬ (octets ≡ front ++ 0 ∷ []))

-- it has 2 octets of the code, and the text
pub record IsExtendedError (w : Window) (it : ExtendedError) : Type 0 where
  pub end : Window
  pub extra : Window
  pub parts : (IsNumber 2 then IsRest) w (it.code, extra) end
  pub text : IsWithoutZero (rest extra) it.text
  pub utf8 : IsUtf8 it.text

-- What an option says: a name server identifier, one of the above, padding; or, in an unknown form, the option's code
-- and the window of its octets.
pub data OptionData : Type 0 where
  nsid : Window → OptionData
  client_subnet : ClientSubnet → OptionData
  cookie : Cookie → OptionData
  padding : Window → OptionData
  extended_error : ExtendedError → OptionData
  unknown : ℕ → Window → OptionData

-- an option has the form of its code
abbrev pub IsTypedOption : EdnsOption → OptionData → Type 0
IsTypedOption option (OptionData.nsid octets) = (option.code ≡ 3) × (octets ≡ option.octets)
IsTypedOption option (OptionData.client_subnet it) = (option.code ≡ 8) × IsClientSubnet option.octets it
IsTypedOption option (OptionData.cookie it) = (option.code ≡ 10) × IsCookie option.octets it
IsTypedOption option (OptionData.padding octets) = (option.code ≡ 12) × (octets ≡ option.octets)
IsTypedOption option (OptionData.extended_error it) = (option.code ≡ 15) × IsExtendedError option.octets it
IsTypedOption option (OptionData.unknown code octets) = ⊥

-- what an option says: what its form says, or, if it has no form, unknown data of its code
abbrev pub IsOptionData : EdnsOption → OptionData → Type 0
IsOptionData option said = IsTypedOption option said
    ⊎ (said ≡ OptionData.unknown option.code option.octets) × ((other : OptionData) → ¬ IsTypedOption option other)
