-- The flags of a header, as bits of a number.
use Rattle.std.specs.Prelude.{ℕ, ◌/◌, ◌%◌, Bool, true, false, nat_eq}
use Rattle.octseq_dns_message.specs.declared.header.Flags.{Flags}

-- the weight of a flag that is set
abbrev pub flag : Bool → ℕ → ℕ
flag true weight = weight
flag false weight = 0

-- whether the bit of this weight is set
abbrev pub is_set : ℕ → ℕ → Bool
is_set bits weight = nat_eq (bits / weight % 2) 1

-- the flags in the second number of a header
abbrev pub flags_in : ℕ → Flags
flags_in bits = record {
  qr = is_set bits 32768;
  aa = is_set bits 1024;
  tc = is_set bits 512;
  rd = is_set bits 256;
  ra = is_set bits 128;
  z = is_set bits 64;
  ad = is_set bits 32;
  cd = is_set bits 16;
}
