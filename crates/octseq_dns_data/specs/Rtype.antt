-- The numbers of record types and their mnemonics: RFC 1035, 3.2.2, and the registry "Resource Record (RR) TYPEs" of
-- IANA.
use Rattle.std.specs.Prelude.{ℕ, List, [], ◌∷◌, codes}

abbrev pub a : ℕ
a = 1

abbrev pub ns : ℕ
ns = 2

abbrev pub cname : ℕ
cname = 5

abbrev pub soa : ℕ
soa = 6

abbrev pub ptr : ℕ
ptr = 12

abbrev pub hinfo : ℕ
hinfo = 13

abbrev pub mx : ℕ
mx = 15

abbrev pub txt : ℕ
txt = 16

abbrev pub rp : ℕ
rp = 17

abbrev pub aaaa : ℕ
aaaa = 28

abbrev pub loc : ℕ
loc = 29

abbrev pub srv : ℕ
srv = 33

abbrev pub naptr : ℕ
naptr = 35

abbrev pub dname : ℕ
dname = 39

abbrev pub opt : ℕ
opt = 41

abbrev pub ds : ℕ
ds = 43

abbrev pub sshfp : ℕ
sshfp = 44

abbrev pub rrsig : ℕ
rrsig = 46

abbrev pub nsec : ℕ
nsec = 47

abbrev pub dnskey : ℕ
dnskey = 48

abbrev pub dhcid : ℕ
dhcid = 49

abbrev pub nsec3 : ℕ
nsec3 = 50

abbrev pub nsec3param : ℕ
nsec3param = 51

abbrev pub tlsa : ℕ
tlsa = 52

abbrev pub smimea : ℕ
smimea = 53

abbrev pub cds : ℕ
cds = 59

abbrev pub cdnskey : ℕ
cdnskey = 60

abbrev pub openpgpkey : ℕ
openpgpkey = 61

abbrev pub csync : ℕ
csync = 62

abbrev pub zonemd : ℕ
zonemd = 63

abbrev pub svcb : ℕ
svcb = 64

abbrev pub https : ℕ
https = 65

abbrev pub spf : ℕ
spf = 99

abbrev pub tkey : ℕ
tkey = 249

abbrev pub tsig : ℕ
tsig = 250

abbrev pub ixfr : ℕ
ixfr = 251

abbrev pub axfr : ℕ
axfr = 252

abbrev pub any : ℕ
any = 255

abbrev pub uri : ℕ
uri = 256

abbrev pub caa : ℕ
caa = 257

-- each with its mnemonic
abbrev pub rtype_names : List (ℕ × List ℕ)
rtype_names = (a, codes "A")
    ∷ (ns, codes "NS")
    ∷ (cname, codes "CNAME")
    ∷ (soa, codes "SOA")
    ∷ (ptr, codes "PTR")
    ∷ (hinfo, codes "HINFO")
    ∷ (mx, codes "MX")
    ∷ (txt, codes "TXT")
    ∷ (rp, codes "RP")
    ∷ (aaaa, codes "AAAA")
    ∷ (loc, codes "LOC")
    ∷ (srv, codes "SRV")
    ∷ (naptr, codes "NAPTR")
    ∷ (dname, codes "DNAME")
    ∷ (opt, codes "OPT")
    ∷ (ds, codes "DS")
    ∷ (sshfp, codes "SSHFP")
    ∷ (rrsig, codes "RRSIG")
    ∷ (nsec, codes "NSEC")
    ∷ (dnskey, codes "DNSKEY")
    ∷ (dhcid, codes "DHCID")
    ∷ (nsec3, codes "NSEC3")
    ∷ (nsec3param, codes "NSEC3PARAM")
    ∷ (tlsa, codes "TLSA")
    ∷ (smimea, codes "SMIMEA")
    ∷ (cds, codes "CDS")
    ∷ (cdnskey, codes "CDNSKEY")
    ∷ (openpgpkey, codes "OPENPGPKEY")
    ∷ (csync, codes "CSYNC")
    ∷ (zonemd, codes "ZONEMD")
    ∷ (svcb, codes "SVCB")
    ∷ (https, codes "HTTPS")
    ∷ (spf, codes "SPF")
    ∷ (tkey, codes "TKEY")
    ∷ (tsig, codes "TSIG")
    ∷ (ixfr, codes "IXFR")
    ∷ (axfr, codes "AXFR")
    ∷ (any, codes "ANY")
    ∷ (uri, codes "URI")
    ∷ (caa, codes "CAA")
    ∷ []
