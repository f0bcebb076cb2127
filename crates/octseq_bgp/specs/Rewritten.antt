-- Messages written anew: RFC 4271, 4, and RFC 4760, 3 and 4. What has a meaning stays as it was, in its order. What has
-- none is 0, and a length has two octets only where one can't say it.
use Rattle.std.specs.Prelude.{◌≡◌, ℕ, ◌+◌, ◌*◌, ◌/◌, ◌≤◌, List, ◌++◌, length, map, nat_le, if◌then◌else◌}
use Rattle.std.specs.List.{AllByRecursion, sum_by}
use Rattle.octseq.specs.Window.{Window, left, rest}
use Rattle.octseq_format.specs.Canonical.{IsSoundWindow}
use Rattle.octseq_bgp.specs.Message.{Message, IsMessage}
use Rattle.octseq_bgp.specs.Parts.{Attribute, flags_of, type_of, inside_of, octets_of_bits}
use Rattle.octseq_bgp.specs.Prefix.{Nlri}
use Rattle.octseq_bgp.specs.PrefixValue.{address_from}
use Rattle.octseq_bgp.specs.RewrittenOpen.{Each, IsOpenRewritten}
use Rattle.octseq_bgp.specs.Update.{Update}
use Rattle.octseq_bgp.specs.Value.{Value, IsValue}
use Rattle.octseq_bgp.specs.Written.{WrittenPrefix, WrittenAttribute, prefixes_octets, update_octets}
use Rattle.octseq_bgp.specs.Written.{IsHopOf, reach_front, unreach_front}
use Rattle.octseq_bgp.specs.declared.session.SessionConfig.{SessionConfig}

-- ---- prefixes

-- a prefix: its path id and its length as they were, and its octets with the bits after that length cleared
abbrev pub prefix_anew : Nlri → WrittenPrefix
prefix_anew n = record {
  path_id = n.path_id;
  bits = n.bits;
  octets = address_from (octets_of_bits n.bits) 0 n.bits (rest n.octets);
}

abbrev pub prefixes_anew : List Nlri → List WrittenPrefix
prefixes_anew row = map prefix_anew row

-- ---- attributes

-- The octets of a value. Those of prefixes have their family, next hops as they were, and 0 as the reserved octet,
-- followed by the prefixes. Those of other values, and opaque octets, are as they were.
abbrev pub value_anew : Window → Value → List ℕ
value_anew w (Value.reach r) = reach_front r.family r.next_hop ++ prefixes_octets (prefixes_anew r.prefixes)
value_anew w (Value.unreach r) = unreach_front r.family ++ prefixes_octets (prefixes_anew r.prefixes)
value_anew w _ = rest w

-- the flags of an attribute with n octets: 0x80, 0x40 and 0x20 as they were, 0x10 exactly for more than 255 octets, and
-- none of the others
abbrev pub flags_anew : ℕ → ℕ → ℕ
flags_anew flags n = flags / 32 * 32 + (if nat_le n 255 then 0 else 16)

-- an attribute, by its value
abbrev pub attribute_anew : Attribute → Value → WrittenAttribute
attribute_anew a v =
    let octets = value_anew (inside_of a) v in
    record { flags = flags_anew (flags_of a) (length octets); kind = type_of a; octets = octets }

-- an attribute of a session, by its value
abbrev pub IsAttributeAnew : SessionConfig → Attribute → WrittenAttribute → Type 0
IsAttributeAnew s a new = (v : Value) × IsValue s (type_of a) (inside_of a) v × (new ≡ attribute_anew a v)

-- attributes of a session
abbrev pub AreAttributesAnew : SessionConfig → List Attribute → List WrittenAttribute → Type 0
AreAttributesAnew s row new = Each (IsAttributeAnew s) row new

-- ---- messages

-- an UPDATE
abbrev pub IsUpdateRewritten : Update → List ℕ → Type 0
IsUpdateRewritten u out = (attributes : List WrittenAttribute)
    × AreAttributesAnew u.session u.attributes attributes
    × (out ≡ update_octets (record {
      withdrawn = prefixes_anew u.withdrawn;
      attributes = attributes;
      announced = prefixes_anew u.announced;
    }))

-- a message of these octets: all the octets of a NOTIFICATION, of a KEEPALIVE and of a ROUTE-REFRESH have a meaning
abbrev pub IsMessageRewritten : List ℕ → Message → List ℕ → Type 0
IsMessageRewritten octets (Message.opens o) out = IsOpenRewritten o out
IsMessageRewritten octets (Message.update u) out = IsUpdateRewritten u out
IsMessageRewritten octets _ out = out ≡ octets

-- octets that are a message of a session
abbrev pub IsRewritten : SessionConfig → List ℕ → List ℕ → Type 0
IsRewritten s octets out = (m : Message) × IsMessage s octets m × IsMessageRewritten octets m out

-- ---- how many octets attributes have

-- an attribute whose value has n octets
abbrev pub attribute_size : ℕ → ℕ
attribute_size n = n + (if nat_le n 255 then 3 else 4)

abbrev pub attributes_size : List Attribute → ℕ
attributes_size row = sum_by (λ a. attribute_size (left (inside_of a))) row

-- an UPDATE
abbrev pub update_size : Update → ℕ
update_size u = 23 + length (prefixes_octets (prefixes_anew u.withdrawn)) + attributes_size u.attributes
    + length (prefixes_octets (prefixes_anew u.announced))

-- ---- what may be written

-- prefixes of at most 128 bits
abbrev pub AreFew : List Nlri → Type 0
AreFew row = AllByRecursion (λ n. n.bits ≤ 128) row

-- a value: so are its prefixes, and its next hops are those of its family
abbrev pub IsWritable : Value → Type 0
IsWritable (Value.reach r) = IsHopOf r.family r.next_hop × AreFew r.prefixes
IsWritable (Value.unreach r) = AreFew r.prefixes
IsWritable _ = Unit {0}

-- attributes whose windows are sound
abbrev pub AreSound : List Attribute → Type 0
AreSound row = AllByRecursion (λ a. IsSoundWindow (inside_of a)) row

-- An UPDATE of such prefixes and attributes.
pub record IsReady (u : Update) : Type 0 where
  pub withdrawn : AreFew u.withdrawn
  pub attributes : AreSound u.attributes
  pub announced : AreFew u.announced
  pub size : update_size u ≤ 65535
