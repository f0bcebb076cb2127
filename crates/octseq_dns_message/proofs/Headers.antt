-- At most one header is at a place: its flags and numbers are determined by their sum.
use Rattle.std.proofs.Common.{◌≡◌, ℕ, zero, suc, ◌+◌, ◌*◌, ◌/◌, ◌%◌, ◌<◌, Bool, true, false, nat_eq, List, ◌∷◌, refl}
use Rattle.std.proofs.Common.{sym}
use Rattle.std.proofs.Common.{ap, ◌∙◌, arith}
use Rattle.octseq.specs.Window.{Window}
use Rattle.octseq_dns_message.specs.Flag.{flag, flags_in, is_set}
use Rattle.octseq_dns_data.specs.Format.{IsNumber}
use Rattle.octseq_dns_message.specs.Header.{IsHeader, flag_bits, header_numbers}
use Rattle.octseq_dns_data.specs.Format.{one_number}
use Rattle.octseq_dns_message.specs.declared.header.Header.{Header}
use Rattle.octseq_dns_message.specs.declared.header.HeaderCounts.{HeaderCounts}
use Rattle.octseq_format.specs.Row.{one_row}

-- a flag counts its weight once or not at all
flag_scaled : (f : Bool) (weight : ℕ) → flag f weight ≡ flag f 1 * weight
flag_scaled true weight = omega arith
flag_scaled false weight = omega arith

flag_most : (f : Bool) → flag f 1 < 2
flag_most true = omega arith
flag_most false = omega arith

same_flag : (f g : Bool) → flag f 1 ≡ flag g 1 → f ≡ g
same_flag true true is = refl
same_flag true false is = absurd (omega (arith, is))
same_flag false true is = absurd (omega (arith, is))
same_flag false false is = refl

-- a sum determines its lowest digit, and what is above it
low_16 : (a b x y : ℕ) → a < 16 → b < 16 → a + 16 * x ≡ b + 16 * y → (a ≡ b) × (x ≡ y)
low_16 a b x y fits also is = (omega (arith, fits, also, is), omega (arith, fits, also, is))

low_2 : (a b x y : ℕ) → a < 2 → b < 2 → a + 2 * x ≡ b + 2 * y → (a ≡ b) × (x ≡ y)
low_2 a b x y fits also is = (omega (arith, fits, also, is), omega (arith, fits, also, is))

-- what the bits of a header count, from the lowest one on
low_bits : Header → ℕ
low_bits h = flag h.flags.cd 1 + 2 * (flag h.flags.ad 1
    + 2 * (flag h.flags.z 1 + 2 * (flag h.flags.ra 1 + 2 * (flag h.flags.rd 1
    + 2 * (flag h.flags.tc 1 + 2 * (flag h.flags.aa 1 + 2 * (h.opcode + 16 * flag h.flags.qr 1)))))))

bits_are : (h : Header) → flag_bits h ≡ h.rcode + 16 * low_bits h
unfolding low_bits
bits_are h =
    let qr = flag_scaled h.flags.qr 32768 in
    let aa = flag_scaled h.flags.aa 1024 in
    let tc = flag_scaled h.flags.tc 512 in
    let rd = flag_scaled h.flags.rd 256 in
    let ra = flag_scaled h.flags.ra 128 in
    let z = flag_scaled h.flags.z 64 in
    let ad = flag_scaled h.flags.ad 32 in
    let cd = flag_scaled h.flags.cd 16 in
    omega (arith, qr, aa, tc, rd, ra, z, ad, cd)

-- What two headers with the same second number have in common.
record SameBits (h k : Header) : Type 0 where
  qr : h.flags.qr ≡ k.flags.qr
  opcode : h.opcode ≡ k.opcode
  aa : h.flags.aa ≡ k.flags.aa
  tc : h.flags.tc ≡ k.flags.tc
  rd : h.flags.rd ≡ k.flags.rd
  ra : h.flags.ra ≡ k.flags.ra
  z : h.flags.z ≡ k.flags.z
  ad : h.flags.ad ≡ k.flags.ad
  cd : h.flags.cd ≡ k.flags.cd
  rcode : h.rcode ≡ k.rcode

same_bits : (h k : Header) → h.opcode < 16 → k.opcode < 16 → h.rcode < 16 → k.rcode < 16 → flag_bits h ≡ flag_bits k
    → SameBits h k
unfolding low_bits
same_bits h k o p r s is =
    let rcode = low_16 h.rcode k.rcode (low_bits h) (low_bits k) r s (sym (bits_are h) ∙ is ∙ bits_are k) in
    let cd = low_2 (flag h.flags.cd 1) (flag k.flags.cd 1) _ _ (flag_most h.flags.cd) (flag_most k.flags.cd) rcode.1 in
    let ad = low_2 (flag h.flags.ad 1) (flag k.flags.ad 1) _ _ (flag_most h.flags.ad) (flag_most k.flags.ad) cd.1 in
    let z = low_2 (flag h.flags.z 1) (flag k.flags.z 1) _ _ (flag_most h.flags.z) (flag_most k.flags.z) ad.1 in
    let ra = low_2 (flag h.flags.ra 1) (flag k.flags.ra 1) _ _ (flag_most h.flags.ra) (flag_most k.flags.ra) z.1 in
    let rd = low_2 (flag h.flags.rd 1) (flag k.flags.rd 1) _ _ (flag_most h.flags.rd) (flag_most k.flags.rd) ra.1 in
    let tc = low_2 (flag h.flags.tc 1) (flag k.flags.tc 1) _ _ (flag_most h.flags.tc) (flag_most k.flags.tc) rd.1 in
    let aa = low_2 (flag h.flags.aa 1) (flag k.flags.aa 1) _ _ (flag_most h.flags.aa) (flag_most k.flags.aa) tc.1 in
    let opcode = low_16 h.opcode k.opcode _ _ o p aa.1 in
    record {
      qr = same_flag h.flags.qr k.flags.qr opcode.1;
      opcode = opcode.0;
      aa = same_flag h.flags.aa k.flags.aa aa.0;
      tc = same_flag h.flags.tc k.flags.tc tc.0;
      rd = same_flag h.flags.rd k.flags.rd rd.0;
      ra = same_flag h.flags.ra k.flags.ra ra.0;
      z = same_flag h.flags.z k.flags.z z.0;
      ad = same_flag h.flags.ad k.flags.ad ad.0;
      cd = same_flag h.flags.cd k.flags.cd cd.0;
      rcode = rcode.0;
    }

-- the six numbers of a list
sixth : List ℕ → ℕ × (ℕ × (ℕ × (ℕ × (ℕ × ℕ))))
sixth (a ∷ b ∷ c ∷ d ∷ e ∷ f ∷ more) = (a, (b, (c, (d, (e, f)))))
sixth _ = (0, (0, (0, (0, (0, 0)))))

-- at most one header is at a place, with its counts and one end
pub one_header : (w : Window) (h k : Header) (counts others : HeaderCounts) (u v : Window) → IsHeader w h counts u
    → IsHeader w k others v → (h ≡ k) × (counts ≡ others) × (u ≡ v)
unfolding sixth
one_header w h k counts others u v a b =
    let same = one_row (IsNumber 2) (one_number 2) w u v (header_numbers h counts) (header_numbers k others) refl
    a.numbers b.numbers in
    let six = ap sixth same.0 in
    let bits = same_bits h k a.opcode b.opcode a.rcode b.rcode (ap (λ n. n.1.0) six) in
    let id = ap (λ n. n.0) six in
    let qdcount = ap (λ n. n.1.1.0) six in
    let ancount = ap (λ n. n.1.1.1.0) six in
    let nscount = ap (λ n. n.1.1.1.1.0) six in
    let arcount = ap (λ n. n.1.1.1.1.1) six in (
      λ i. record {
        id = id i;
        flags = record {
          qr = bits.qr i;
          aa = bits.aa i;
          tc = bits.tc i;
          rd = bits.rd i;
          ra = bits.ra i;
          z = bits.z i;
          ad = bits.ad i;
          cd = bits.cd i;
        };
        opcode = bits.opcode i;
        rcode = bits.rcode i;
      },
      λ i. record {
        qdcount = qdcount i;
        ancount = ancount i;
        nscount = nscount i;
        arcount = arcount i;
      },
      same.1,
    )

-- ---- the flags in a number

flag_digit : (n weight : ℕ) → n < 2 → flag (nat_eq n 1) weight ≡ n * weight
flag_digit zero weight few = omega arith
flag_digit (suc zero) weight few = omega arith
flag_digit (suc (suc n)) weight few = absurd (omega (arith, few))

-- the number is what they count, with the opcode and the response code
pub bits_of : (id bits : ℕ) → bits < 65536
    → flag_bits (record { id = id; flags = flags_in bits; opcode = bits / 2048 % 16; rcode = bits % 16 }) ≡ bits
bits_of id bits small =
    let flag_in : (weight : ℕ) → flag (is_set bits weight) weight ≡ bits / weight % 2 * weight =
    λ weight. flag_digit (bits / weight % 2) weight (omega arith) in
    let qr = flag_in 32768 in
    let aa = flag_in 1024 in
    let tc = flag_in 512 in
    let rd = flag_in 256 in
    let ra = flag_in 128 in
    let z = flag_in 64 in
    let ad = flag_in 32 in
    let cd = flag_in 16 in
    omega (arith, small, qr, aa, tc, rd, ra, z, ad, cd)
