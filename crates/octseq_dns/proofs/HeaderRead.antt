-- The 12 octets of a header are read as that header and its counts.
use Rattle.std.proofs.Common.{◌≡◌, ℕ, ◌≤◌, ◌<◌, Bool, true, false, List, [], ◌∷◌, ◌++◌, length, refl, ap}
use Rattle.std.proofs.Common.{arith}
use Rattle.octseq.specs.Integer.{octets_be}
use Rattle.octseq.specs.Window.{Window, past, at, whole}
use Rattle.octseq.proofs.WindowsAfter.{front_comes_next}
use Rattle.octseq.proofs.Codes.{rest_whole}
use Rattle.octseq_dns_compress.specs.Fields.{AreFields}
use Rattle.octseq_dns_compress.specs.State.{Field}
use Rattle.octseq_dns_message.specs.Flag.{flag}
use Rattle.octseq_dns_data.specs.Format.{IsNumber}
use Rattle.octseq_dns_message.specs.Header.{IsHeader, flag_bits, header_numbers}
use Rattle.octseq_dns_message.specs.declared.header.Header.{Header}
use Rattle.octseq_dns_message.specs.declared.header.HeaderCounts.{HeaderCounts}
use Rattle.octseq_format.specs.Row.{Row}
use Rattle.octseq_dns.specs.Contents.{FitsHeader, header_octets}
use Rattle.octseq_dns.proofs.FieldParts.{number_first, number_last}

pub header_length : (h : Header) (counts : HeaderCounts) → length (header_octets h counts) ≡ 12
unfolding octets_be
header_length h counts = refl

-- a flag adds at most its weight
flag_most : (f : Bool) (weight : ℕ) → flag f weight ≤ weight
flag_most true weight = omega arith
flag_most false weight = omega arith

bits_small : (h : Header) → h.opcode < 16 → h.rcode < 16 → flag_bits h < 65536
bits_small h opcode rcode =
    let qr = flag_most h.flags.qr 32768 in
    let aa = flag_most h.flags.aa 1024 in
    let tc = flag_most h.flags.tc 512 in
    let rd = flag_most h.flags.rd 256 in
    let ra = flag_most h.flags.ra 128 in
    let z = flag_most h.flags.z 64 in
    let ad = flag_most h.flags.ad 32 in
    let cd = flag_most h.flags.cd 16 in
    omega (arith, opcode, rcode, qr, aa, tc, rd, ra, z, ad, cd)

-- counts fit in two octets
pub record FitCounts (counts : HeaderCounts) : Type 0 where
  pub qdcount : counts.qdcount < 65536
  pub ancount : counts.ancount < 65536
  pub nscount : counts.nscount < 65536
  pub arcount : counts.arcount < 65536

numbers_are_read : (h : Header) (counts : HeaderCounts) → FitsHeader h → FitCounts counts → (w v : Window)
    → AreFields w (Field.octets (header_octets h counts) ∷ []) v → Row (IsNumber 2) w (header_numbers h counts) v
numbers_are_read h counts fits small w v are =
    let ar = octets_be 2 counts.arcount in
    let ns = octets_be 2 counts.nscount ++ ar in
    let an = octets_be 2 counts.ancount ++ ns in
    let qd = octets_be 2 counts.qdcount ++ an in
    let bits = octets_be 2 (flag_bits h) ++ qd in
    let w1 = past 2 w in
    let w2 = past 2 w1 in
    let w3 = past 2 w2 in
    let w4 = past 2 w3 in
    let w5 = past 2 w4 in
    let first = number_first 2 h.id bits w v [] fits.id are in
    let second = number_first 2 (flag_bits h) qd w1 v [] (bits_small h fits.opcode fits.rcode) first.1 in
    let third = number_first 2 counts.qdcount an w2 v [] small.qdcount second.1 in
    let fourth = number_first 2 counts.ancount ns w3 v [] small.ancount third.1 in
    let fifth = number_first 2 counts.nscount ar w4 v [] small.nscount fourth.1 in
    let sixth = number_last 2 counts.arcount w5 v [] small.arcount fifth.1 in (
      w1,
      first.0,
      (w2, second.0, (w3, third.0, (w4, fourth.0, (w5, fifth.0, (past 2 w5, sixth.0, sixth.1))))),
    )

pub header_is_read : (h : Header) (counts : HeaderCounts) (more : List ℕ) → FitsHeader h → FitCounts counts
    → let all = whole (header_octets h counts ++ more) in
    IsHeader all h counts (at (length (header_octets h counts)) all)
header_is_read h counts more fits small =
    let octets = header_octets h counts in
    let all = whole (octets ++ more) in
    let come = front_comes_next all octets more (length octets) (rest_whole (octets ++ more)) refl in
    let none : at (length octets) all ≡ past (length octets) all = ap (λ p. at p all) (omega arith) in
    record {
      numbers = numbers_are_read h counts fits small all (at (length octets) all) (come.0, come.1, none);
      opcode = fits.opcode;
      rcode = fits.rcode;
    }
