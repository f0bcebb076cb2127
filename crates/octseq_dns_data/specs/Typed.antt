-- The types of data: the form of each, which has its octets and its text, and what contracts see of data that was read.
use Rattle.std.specs.Prelude.{◌≡◌, ℕ, Bool, true, false, nat_eq, not, ◌&&◌, if◌then◌else◌, List, [], ◌∷◌, ◌++◌}
use Rattle.std.specs.Prelude.{◌||◌, Option, None, Some}
use Rattle.std.specs.List.{flat_map}
use Rattle.octseq.specs.declared.AsOctets.{Ghosts}
use Rattle.octseq.specs.OctetsText.{hex_text, string_text}
use Rattle.octseq.specs.Parser.{window}
use Rattle.octseq.specs.Window.{Window, rest}
use Rattle.octseq_dns_data.specs.Form.{FormPart, Form, ◌and_then◌, ◌followed_by◌, ◌then_each◌, alone, no_form, number}
use Rattle.octseq_dns_data.specs.Form.{domain_name, plain_name, string, formed_rest, rest_form}
use Rattle.octseq_dns_data.specs.Formed.{IsString, IsSome, IsSomeString}
use Rattle.octseq_dns_data.specs.Layout.{TextLayout, layout_value}
use Rattle.octseq_dns_data.specs.Mnemonic.{rtype_text}
use Rattle.octseq_dns_data.specs.Places.{some_place, hash_place, tag_place}
use Rattle.octseq_dns_data.specs.RtypeBitmap.{IsRtypeBitmap, bitmap_turns, types_of}
use Rattle.octseq_dns_data.specs.RtypeBitmapOf.{bitmap_place}
use Rattle.octseq_dns_data.specs.RtypeBitmapText.{rtypes_text}
use Rattle.octseq_dns_data.specs.SvcParams.{IsSvcParams, params_turns}
use Rattle.octseq_dns_data.specs.SvcParamsRead.{params_place}
use Rattle.octseq_dns_data.specs.SvcParamsText.{svc_params_text}
use Rattle.octseq_dns_data.specs.Tag.{IsCaaTag}
use Rattle.octseq_dns_data.specs.Txt.{string_place, strings_of, txt_place}
use Rattle.octseq_dns_name.specs.Name.{Name}
use Rattle.octseq_dns_name.specs.Read.{name_of}
use Rattle.octseq_dns_scan.specs.Base32hex.{base32hex_text}
use Rattle.octseq_dns_scan.specs.Base64.{base64_text}
use Rattle.octseq_dns_data.specs.declared.layout.Field.{Field}
use Rattle.octseq_dns_data.specs.declared.layout.Field.TheVariants as field
use Rattle.octseq_dns_data.specs.declared.layout.Tail.TheVariants as tail
use Rattle.octseq_dns_data.specs.declared.data.Data.{Data}
use Rattle.octseq_dns_data.specs.declared.data.Data.TheVariants as kind
use Rattle.octseq_dns_data.specs.declared.data.caa.Caa.{Caa}
use Rattle.octseq_dns_data.specs.declared.data.csync.Csync.{Csync}
use Rattle.octseq_dns_data.specs.declared.data.denial.Nsec.{Nsec}
use Rattle.octseq_dns_data.specs.declared.data.denial.Nsec3.{Nsec3}
use Rattle.octseq_dns_data.specs.declared.data.denial.Nsec3param.{Nsec3param}
use Rattle.octseq_dns_data.specs.declared.data.dhcid.Dhcid.{Dhcid}
use Rattle.octseq_dns_data.specs.declared.data.dnssec.Dnskey.{Dnskey}
use Rattle.octseq_dns_data.specs.declared.data.dnssec.Ds.{Ds}
use Rattle.octseq_dns_data.specs.declared.data.dnssec.Rrsig.{Rrsig}
use Rattle.octseq_dns_data.specs.declared.data.hinfo.Hinfo.{Hinfo}
use Rattle.octseq_dns_data.specs.declared.data.keys.Sshfp.{Sshfp}
use Rattle.octseq_dns_data.specs.declared.data.keys.Tlsa.{Tlsa}
use Rattle.octseq_dns_data.specs.declared.data.mx.Mx as read_mx
use Rattle.octseq_dns_data.specs.declared.data.naptr.Naptr as read_naptr
use Rattle.octseq_dns_data.specs.declared.data.openpgpkey.Openpgpkey.{Openpgpkey}
use Rattle.octseq_dns_data.specs.declared.data.soa.Soa as read_soa
use Rattle.octseq_dns_data.specs.declared.data.srv.Srv as read_srv
use Rattle.octseq_dns_data.specs.declared.data.svcb.Svcb.{Svcb}
use Rattle.octseq_dns_data.specs.declared.data.uri.Uri.{Uri}
use Rattle.octseq_dns_data.specs.Rtype as types

-- ---- parts

-- octets in hexadecimal
abbrev pub hexadecimal : List ℕ → List ℕ
hexadecimal = flat_map hex_text

-- octets in hexadecimal, or a hyphen (45) if there are none: RFC 5155, 3.3
abbrev pub salt_text : List ℕ → List ℕ
salt_text [] = 45 ∷ []
salt_text (octet ∷ octets) = hexadecimal (octet ∷ octets)

-- a character string, in quotation marks
abbrev pub quoted : FormPart
quoted = string IsString string_text field.String

-- a salt, and the hash of an owner name
abbrev pub salt : FormPart
salt = string IsString salt_text field.Salt

abbrev pub owner_hash : FormPart
owner_hash = string IsSomeString base32hex_text field.OwnerHash

-- the number of a type, as its mnemonic
abbrev pub rtype_number : FormPart
rtype_number = record (number 2) { text = rtype_text; fields = field.Rtype ∷ [] }

-- a time, which is shown as its number, and may be read as a date
abbrev pub time : FormPart
time = record (number 4) { fields = field.Time ∷ [] }

-- one or more octets, in hexadecimal and in base 64
abbrev pub some_hexadecimal : Form
some_hexadecimal = formed_rest IsSome hexadecimal tail.Hex

abbrev pub some_base64 : Form
some_base64 = formed_rest IsSome base64_text tail.Base64

-- the types of a bitmap; reading it takes a turn for each window block
abbrev pub bitmap : Form
bitmap = record (formed_rest IsRtypeBitmap (λ octets. rtypes_text (types_of octets)) tail.Types) {
  turns = λ place. bitmap_turns (rest place);
}

-- service parameters
abbrev pub svc_params : Form
svc_params = record (formed_rest IsSvcParams svc_params_text tail.Params) { turns = λ place. params_turns (rest place) }

-- ---- types whose names may have pointers: what was found of each, and its parts

-- A mail exchange: RFC 1035, 3.3.9.
pub record Mx : Type 0 where
  pub preference : ℕ
  pub exchange : Name

abbrev pub mx_form : FormPart
mx_form = number 2 and_then domain_name

abbrev pub mx_parts : Mx → mx_form.Found
mx_parts mx = (mx.preference, mx.exchange)

abbrev pub mx_of : {R : Type 0} {g : Ghosts R} → read_mx.Mx R g → Mx
mx_of mx = record { preference = mx.preference; exchange = name_of mx.exchange }

-- The start of authority: RFC 1035, 3.3.13.
pub record Soa : Type 0 where
  pub mname : Name
  pub rname : Name
  pub serial : ℕ
  pub refresh : ℕ
  pub retry : ℕ
  pub expire : ℕ
  pub minimum : ℕ

abbrev pub soa_form : FormPart
soa_form = domain_name and_then domain_name and_then number 4 and_then number 4 and_then number 4 and_then number 4
    and_then number 4

abbrev pub soa_parts : Soa → soa_form.Found
soa_parts soa = (soa.mname, (soa.rname, (soa.serial, (soa.refresh, (soa.retry, (soa.expire, soa.minimum))))))

abbrev pub soa_of : {R : Type 0} {g : Ghosts R} → read_soa.Soa R g → Soa
soa_of soa = record {
  mname = name_of soa.mname;
  rname = name_of soa.rname;
  serial = soa.serial;
  refresh = soa.refresh;
  retry = soa.retry;
  expire = soa.expire;
  minimum = soa.minimum;
}

-- The location of a service: RFC 2782.
pub record Srv : Type 0 where
  pub priority : ℕ
  pub weight : ℕ
  pub port : ℕ
  pub target : Name

abbrev pub srv_form : FormPart
srv_form = number 2 and_then number 2 and_then number 2 and_then domain_name

abbrev pub srv_parts : Srv → srv_form.Found
srv_parts srv = (srv.priority, (srv.weight, (srv.port, srv.target)))

abbrev pub srv_of : {R : Type 0} {g : Ghosts R} → read_srv.Srv R g → Srv
srv_of srv = record { priority = srv.priority; weight = srv.weight; port = srv.port; target = name_of srv.target }

-- A naming authority pointer: RFC 3403, 4.1. Its strings are where they are.
pub record Naptr : Type 0 where
  pub order : ℕ
  pub preference : ℕ
  pub flags : Window
  pub services : Window
  pub regexp : Window
  pub replacement : Name

abbrev pub naptr_form : FormPart
naptr_form = number 2 and_then number 2 and_then quoted and_then quoted and_then quoted and_then domain_name

abbrev pub naptr_parts : Naptr → naptr_form.Found
naptr_parts naptr =
    (naptr.order, (naptr.preference, (naptr.flags, (naptr.services, (naptr.regexp, naptr.replacement)))))

abbrev pub naptr_of : {R : Type 0} {g : Ghosts R} → read_naptr.Naptr R g → Naptr
naptr_of naptr = record {
  order = naptr.order;
  preference = naptr.preference;
  flags = string_place naptr.flags;
  services = string_place naptr.services;
  regexp = string_place naptr.regexp;
  replacement = name_of naptr.replacement;
}

-- ---- types that are read without the message: the form of each, and the parts that were read

-- Host information: the processor, the operating system (RFC 1035, 3.3.2).
abbrev pub hinfo_form : Form
hinfo_form = quoted followed_by alone quoted

abbrev pub hinfo_of : {R : Type 0} {g : Ghosts R} → Hinfo R g → hinfo_form.Found
hinfo_of hinfo = (string_place hinfo.cpu, string_place hinfo.os)

-- The digest of a key, in DS and CDS: the key tag, the algorithm, the digest type, the digest (RFC 4034, 5.1 and 5.3).
abbrev pub digest_form : Form
digest_form = number 2 followed_by number 1 followed_by number 1 followed_by some_hexadecimal

abbrev pub ds_of : {R : Type 0} {g : Ghosts R} → Ds R g → digest_form.Found
ds_of ds = (ds.key_tag, (ds.algorithm, (ds.digest_type, some_place ds.digest)))

-- The fingerprint of a key: its algorithm, the algorithm of the fingerprint, the fingerprint (RFC 4255, 3).
abbrev pub sshfp_form : Form
sshfp_form = number 1 followed_by number 1 followed_by some_hexadecimal

abbrev pub sshfp_of : {R : Type 0} {g : Ghosts R} → Sshfp R g → sshfp_form.Found
sshfp_of sshfp = (sshfp.algorithm, (sshfp.fingerprint_type, some_place sshfp.fingerprint))

-- A signature: the type covered, the algorithm, the number of labels, the TTL, the expiration, the inception, the key
-- tag, the signer's name, the signature (RFC 4034, 3.1 and 3.2).
abbrev pub rrsig_form : Form
rrsig_form = rtype_number followed_by number 1 followed_by number 1 followed_by number 4 followed_by time
    followed_by time followed_by number 2 followed_by plain_name followed_by some_base64

abbrev pub rrsig_of : {R : Type 0} {g : Ghosts R} → Rrsig R g → rrsig_form.Found
rrsig_of sig = (
  sig.type_covered,
  (
    sig.algorithm,
    (
      sig.labels,
      (
        sig.original_ttl,
        (sig.expiration, (sig.inception, (sig.key_tag, (name_of sig.signer_name, some_place sig.signature)))),
      ),
    ),
  ),
)

-- The next name, and the types that the owner has (RFC 4034, 4.1 and 4.2).
abbrev pub nsec_form : Form
nsec_form = plain_name then_each bitmap

abbrev pub nsec_of : {R : Type 0} {g : Ghosts R} → Nsec R g → nsec_form.Found
nsec_of nsec = (name_of nsec.next_name, bitmap_place nsec.types)

-- A key, in DNSKEY and CDNSKEY: the flags, the protocol, the algorithm, the public key (RFC 4034, 2.1 and 2.2).
abbrev pub key_form : Form
key_form = number 2 followed_by number 1 followed_by number 1 followed_by some_base64

abbrev pub dnskey_of : {R : Type 0} {g : Ghosts R} → Dnskey R g → key_form.Found
dnskey_of key = (key.flags, (key.protocol, (key.algorithm, some_place key.public_key)))

-- Which DHCP client a name belongs to (RFC 4701, 3.1 and 3.2).
abbrev pub dhcid_form : Form
dhcid_form = some_base64

abbrev pub dhcid_of : {R : Type 0} {g : Ghosts R} → Dhcid R g → dhcid_form.Found
dhcid_of dhcid = some_place dhcid.identity

-- The next hashed name: the algorithm, the flags, the iterations, the salt, the hash, the types (RFC 5155, 3.2, 3.3).
abbrev pub nsec3_form : Form
nsec3_form = number 1 followed_by number 1 followed_by number 2 followed_by salt followed_by owner_hash
    then_each bitmap

abbrev pub nsec3_of : {R : Type 0} {g : Ghosts R} → Nsec3 R g → nsec3_form.Found
nsec3_of nsec = (
  nsec.hash_algorithm,
  (
    nsec.flags,
    (nsec.iterations, (string_place nsec.salt, (hash_place nsec.next_owner, bitmap_place nsec.types))),
  ),
)

-- How names are hashed: the algorithm, the flags, the iterations, the salt (RFC 5155, 4.2 and 4.3).
abbrev pub nsec3param_form : Form
nsec3param_form = number 1 followed_by number 1 followed_by number 2 followed_by alone salt

abbrev pub nsec3param_of : {R : Type 0} {g : Ghosts R} → Nsec3param R g → nsec3param_form.Found
nsec3param_of param = (param.hash_algorithm, (param.flags, (param.iterations, string_place param.salt)))

-- A certificate association, in TLSA and SMIMEA: the usage, the selector, the matching type, the data (RFC 6698, 2.1
-- and 2.2).
abbrev pub certificate_form : Form
certificate_form = number 1 followed_by number 1 followed_by number 1 followed_by some_hexadecimal

abbrev pub tlsa_of : {R : Type 0} {g : Ghosts R} → Tlsa R g → certificate_form.Found
tlsa_of tlsa = (tlsa.cert_usage, (tlsa.selector, (tlsa.matching_type, some_place tlsa.cert_assoc_data)))

-- An OpenPGP key (RFC 7929, 2.1 and 2.3).
abbrev pub openpgpkey_form : Form
openpgpkey_form = some_base64

abbrev pub openpgpkey_of : {R : Type 0} {g : Ghosts R} → Openpgpkey R g → openpgpkey_form.Found
openpgpkey_of openpgpkey = some_place openpgpkey.key

-- What a parent zone copies from its child: the serial number, the flags, the types (RFC 7477, 2.1 and 2.2).
abbrev pub csync_form : Form
csync_form = number 4 followed_by number 2 then_each bitmap

abbrev pub csync_of : {R : Type 0} {g : Ghosts R} → Csync R g → csync_form.Found
csync_of csync = (csync.serial, (csync.flags, bitmap_place csync.types))

-- Who may issue certificates: the flags, the tag, which is shown as it is, the value (RFC 8659, 4.1).
abbrev pub caa_form : Form
caa_form = number 1 followed_by string IsCaaTag (λ tag. tag) field.Tag followed_by rest_form string_text tail.Value

abbrev pub caa_of : {R : Type 0} {g : Ghosts R} → Caa R g → caa_form.Found
caa_of caa = (caa.flags, (tag_place caa.tag, window caa.value))

-- A service binding, in SVCB and HTTPS: the priority, the name, the parameters (RFC 9460, 2.1 and 2.2).
abbrev pub service_form : Form
service_form = number 2 followed_by plain_name then_each svc_params

abbrev pub svcb_of : {R : Type 0} {g : Ghosts R} → Svcb R g → service_form.Found
svcb_of svcb = (svcb.priority, (name_of svcb.target, params_place svcb.params))

-- The location of a service: the priority, the weight, the URI (RFC 7553, 4).
abbrev pub uri_form : Form
uri_form = number 2 followed_by number 2 followed_by formed_rest IsSome string_text tail.Target

abbrev pub uri_of : {R : Type 0} {g : Ghosts R} → Uri R g → uri_form.Found
uri_of uri = (uri.priority, (uri.weight, some_place uri.target))

-- ---- the types by number

-- A type: its number, whether its data is of class IN only, the form that its data has by itself, and the layout that
-- its text is read by.
pub record KnownType : Type 1 where
  pub number : ℕ
  pub is_of_class_in : Bool
  pub form : Form
  pub layout : TextLayout

abbrev pub in_any_class : ℕ → Form → KnownType
in_any_class number form = record { number = number; is_of_class_in = false; form = form; layout = form.layout }

abbrev pub in_class_in : ℕ → Form → KnownType
in_class_in number form = record { number = number; is_of_class_in = true; form = form; layout = form.layout }

-- a type that is read in the message has no form by itself
abbrev pub in_message : Bool → ℕ → TextLayout → KnownType
in_message is_of_class_in number layout =
    record { number = number; is_of_class_in = is_of_class_in; form = no_form; layout = layout }

-- a layout of fields alone
abbrev pub of_fields : List Field → TextLayout
of_fields fields = layout_value fields tail.Nothing

-- The types that are read in the message: those whose names may have pointers, and A, AAAA and TXT.
abbrev pub message_types : List KnownType
message_types = in_message true types.a (of_fields (field.Ipv4 ∷ []))
    ∷ in_message false types.ns (of_fields domain_name.fields)
    ∷ in_message false types.cname (of_fields domain_name.fields)
    ∷ in_message false types.soa (of_fields soa_form.fields)
    ∷ in_message false types.ptr (of_fields domain_name.fields)
    ∷ in_message false types.mx (of_fields mx_form.fields)
    ∷ in_message false types.txt (layout_value [] tail.Strings)
    ∷ in_message true types.aaaa (of_fields (field.Ipv6 ∷ []))
    ∷ in_message true types.srv (of_fields srv_form.fields)
    ∷ in_message true types.naptr (of_fields naptr_form.fields)
    ∷ []

-- The types that are read without the message. DNAME is of RFC 6672, 2.1, SMIMEA of RFC 8162, 2, CDS and CDNSKEY are of
-- RFC 7344, 3.
abbrev pub known_types : List KnownType
known_types = in_any_class types.hinfo hinfo_form
    ∷ in_any_class types.dname (alone plain_name)
    ∷ in_any_class types.ds digest_form
    ∷ in_any_class types.sshfp sshfp_form
    ∷ in_any_class types.rrsig rrsig_form
    ∷ in_any_class types.nsec nsec_form
    ∷ in_any_class types.dnskey key_form
    ∷ in_class_in types.dhcid dhcid_form
    ∷ in_any_class types.nsec3 nsec3_form
    ∷ in_any_class types.nsec3param nsec3param_form
    ∷ in_any_class types.tlsa certificate_form
    ∷ in_any_class types.smimea certificate_form
    ∷ in_any_class types.cds digest_form
    ∷ in_any_class types.cdnskey key_form
    ∷ in_any_class types.openpgpkey openpgpkey_form
    ∷ in_any_class types.csync csync_form
    ∷ in_any_class types.caa caa_form
    ∷ in_class_in types.svcb service_form
    ∷ in_class_in types.https service_form
    ∷ in_any_class types.uri uri_form
    ∷ []

-- whether one of the types has this number
abbrev pub has_number : List KnownType → ℕ → Bool
has_number [] n = false
has_number (it ∷ more) n = nat_eq it.number n || has_number more n

-- the first, or else the second
abbrev pub pick : Bool → KnownType → KnownType → KnownType
pick true first second = first
pick false first second = second

-- the type of a number; there is no form if it isn't there
abbrev pub known_in : List KnownType → ℕ → KnownType
known_in [] n = in_any_class n no_form
known_in (it ∷ more) n = pick (nat_eq it.number n) it (known_in more n)

-- the form of data of a type, and whether data of a class may have it
abbrev pub form : ℕ → Form
form n = (known_in known_types n).form

abbrev pub IsClass : Bool → ℕ → Type 0
IsClass true class = class ≡ 1
IsClass false class = Unit {0}

abbrev pub IsOfClass : ℕ → ℕ → Type 0
IsOfClass n = IsClass (known_in known_types n).is_of_class_in

-- how the text of a type is read: whether in class IN only, and by which layout
abbrev pub reading_in : List KnownType → ℕ → Option (Bool × TextLayout)
reading_in [] n = None
reading_in (it ∷ more) n = if nat_eq it.number n then Some (it.is_of_class_in, it.layout) else reading_in more n

abbrev pub all_types : List KnownType
all_types = message_types ++ known_types

abbrev pub layout_in : ℕ → Option (Bool × TextLayout) → Option TextLayout
layout_in class None = None
layout_in class (Some (is_of_class_in, layout)) =
    if is_of_class_in && not (nat_eq class 1) then None else Some layout

-- the layout that the text of a type and a class is read by, if it has one
unfoldable pub layout_of : ℕ → ℕ → Option TextLayout
layout_of n class = layout_in class (reading_in all_types n)

-- ---- data

-- What data says: an address of 4 or 16 octets, a name, one of the records above, strings, what was found of a type
-- with a form, by its number; or, in an unknown form, the record's type and the window of the data (RFC 3597).
pub data ParsedRdata : Type 0 where
  a : List ℕ → ParsedRdata
  aaaa : List ℕ → ParsedRdata
  ns : Name → ParsedRdata
  cname : Name → ParsedRdata
  ptr : Name → ParsedRdata
  mx : Mx → ParsedRdata
  soa : Soa → ParsedRdata
  txt : List (List ℕ) → ParsedRdata
  srv : Srv → ParsedRdata
  naptr : Naptr → ParsedRdata
  local : (rtype : ℕ) → (form rtype).Found → ParsedRdata
  unknown : ℕ → Window → ParsedRdata

-- what the data says
abbrev pub rdata_of : {R : Type 0} {g : Ghosts R} → Data R g → ParsedRdata
rdata_of (kind.A octets) = ParsedRdata.a octets
rdata_of (kind.Aaaa octets) = ParsedRdata.aaaa octets
rdata_of (kind.Ns name) = ParsedRdata.ns (name_of name)
rdata_of (kind.Cname name) = ParsedRdata.cname (name_of name)
rdata_of (kind.Ptr name) = ParsedRdata.ptr (name_of name)
rdata_of (kind.Mx it) = ParsedRdata.mx (mx_of it)
rdata_of (kind.Soa it) = ParsedRdata.soa (soa_of it)
rdata_of (kind.Txt it) = ParsedRdata.txt (strings_of it)
rdata_of (kind.Srv it) = ParsedRdata.srv (srv_of it)
rdata_of (kind.Naptr it) = ParsedRdata.naptr (naptr_of it)
rdata_of (kind.Hinfo it) = ParsedRdata.local types.hinfo (hinfo_of it)
rdata_of (kind.Dname name) = ParsedRdata.local types.dname (name_of name)
rdata_of (kind.Ds it) = ParsedRdata.local types.ds (ds_of it)
rdata_of (kind.Sshfp it) = ParsedRdata.local types.sshfp (sshfp_of it)
rdata_of (kind.Rrsig it) = ParsedRdata.local types.rrsig (rrsig_of it)
rdata_of (kind.Nsec it) = ParsedRdata.local types.nsec (nsec_of it)
rdata_of (kind.Dnskey it) = ParsedRdata.local types.dnskey (dnskey_of it)
rdata_of (kind.Dhcid it) = ParsedRdata.local types.dhcid (dhcid_of it)
rdata_of (kind.Nsec3 it) = ParsedRdata.local types.nsec3 (nsec3_of it)
rdata_of (kind.Nsec3param it) = ParsedRdata.local types.nsec3param (nsec3param_of it)
rdata_of (kind.Tlsa it) = ParsedRdata.local types.tlsa (tlsa_of it)
rdata_of (kind.Smimea it) = ParsedRdata.local types.smimea (tlsa_of it)
rdata_of (kind.Cds it) = ParsedRdata.local types.cds (ds_of it)
rdata_of (kind.Cdnskey it) = ParsedRdata.local types.cdnskey (dnskey_of it)
rdata_of (kind.Openpgpkey it) = ParsedRdata.local types.openpgpkey (openpgpkey_of it)
rdata_of (kind.Csync it) = ParsedRdata.local types.csync (csync_of it)
rdata_of (kind.Caa it) = ParsedRdata.local types.caa (caa_of it)
rdata_of (kind.Svcb it) = ParsedRdata.local types.svcb (svcb_of it)
rdata_of (kind.Https it) = ParsedRdata.local types.https (svcb_of it)
rdata_of (kind.Uri it) = ParsedRdata.local types.uri (uri_of it)
rdata_of (kind.Unknown rtype octets) = ParsedRdata.unknown rtype (window octets)

-- strings are at a window's position (a name says its place itself)
abbrev pub AreStringsAt : {R : Type 0} {g : Ghosts R} → Window → Data R g → Type 0
AreStringsAt w (kind.Txt it) = txt_place it ≡ w
AreStringsAt w _ = Unit {0}
