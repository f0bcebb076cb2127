use Rattle.std.proofs.Common.{◌∙◌, refl, rules, arith}
use Rattle.octseq.specs.Parser.{window}
use Rattle.octseq_dns_message.proofs.Headers.{bits_of}
use Rattle.octseq_dns_message.proofs.header.Numbers.parse.Goals as goal

pub returns-clause-header : goal.returns-clause-header
returns-clause-header g c =
    let bits = c.in_ok-bits.bits in
    let id = c.in_ok-id.ensures in
    let flags = c.in_ok-bits.ensures in
    let qdcount = c.in_ok-qdcount.ensures in
    let ancount = c.in_ok-ancount.ensures in
    let nscount = c.in_ok-nscount.ensures in
    let arcount = c.in_ok-arcount.ensures in
    record {
      numbers = (
        window c.parse_u16_be.new.self,
        (id.taken.variant.0 refl, id.value, id.taken.ok),
        (
          window c.parse_u16_be-2.new.self,
          (flags.taken.variant.0 refl, bits_of c.in_ok-id.id bits (search rules) ∙ flags.value, flags.taken.ok),
          (
            window c.parse_u16_be-3.new.self,
            (qdcount.taken.variant.0 refl, qdcount.value, qdcount.taken.ok),
            (
              window c.parse_u16_be-4.new.self,
              (ancount.taken.variant.0 refl, ancount.value, ancount.taken.ok),
              (
                window c.parse_u16_be-5.new.self,
                (nscount.taken.variant.0 refl, nscount.value, nscount.taken.ok),
                (
                  window c.parse_u16_be-6.new.self,
                  (arcount.taken.variant.0 refl, arcount.value, arcount.taken.ok),
                  refl,
                ),
              ),
            ),
          ),
        ),
      );
      opcode = omega arith;
      rcode = omega arith;
    }
