-- An OPT record that was written is read as what was written.
use Rattle.std.proofs.Common.{◌≡◌, ℕ, ◌+◌, ◌≤◌, List, [], ◌++◌, length, refl, sym, ap, ◌∙◌}
use Rattle.std.proofs.Common.{subst, arith, append_assoc, append-nil, length-append}
use Rattle.octseq.specs.Integer.{be, octets_be}
use Rattle.octseq.specs.Part.{part, past_part}
use Rattle.octseq.specs.Window.{at, left, next, past, rest}
use Rattle.octseq.proofs.WindowsAfter.{front_comes_next}
use Rattle.octseq.proofs.Written.{length_be, value_be}
use Rattle.octseq_dns_message.specs.Entry.{Record}
use Rattle.octseq_dns_message.specs.Opt.{EdnsOption, HasOption, IsOpt, Opt}
use Rattle.octseq_format.specs.Laws.{IsDelimited}
use Rattle.octseq_format.specs.Row.{row_next}
use Rattle.octseq_dns.specs.OptWritten.{FitsOpt, FitsOption, SaysOpt, opt_record, option_octets, options_octets}
use Rattle.octseq_dns.specs.OptWritten.{written_options}
use Rattle.octseq_dns.specs.ReadBack.{IsAsWritten}
use Rattle.octseq_dns.specs.declared.edns.OptData.{OptData}
use Rattle.octseq_dns.proofs.RdataRead.{octets_whole}

-- the code and the octets of an option that was read
abbrev pub read_option : EdnsOption → ℕ × List ℕ
read_option option = (option.code, rest option.octets)

-- an option is there if its octets come next
pub option_next : IsDelimited HasOption read_option option_octets FitsOption
option_next = record {
  next = λ w option more fits is.
      let code = octets_be 2 option.0 in
      let count = octets_be 2 (length option.1) in
      let octets = option.1 in
      let all : rest w ≡ code ++ (count ++ (octets ++ more)) =
      is ∙ append_assoc code (count ++ octets) more ∙ ap (λ o. code ++ o) (append_assoc count octets more) in
      let u = past 2 w in
      let inside = past 2 u in
      let one = front_comes_next w code (count ++ (octets ++ more)) 2 all (length_be 2 option.0) in
      let two = front_comes_next u count (octets ++ more) 2 one.2 (length_be 2 (length octets)) in
      let three = front_comes_next inside octets more (length octets) two.2 refl in
      let many : be (next 2 u) ≡ length octets = ap be two.1 ∙ value_be 2 (length octets) fits.1 in
      let long : length (option_octets option) ≡ 2 + (2 + length octets) =
      length-append code (count ++ octets) ∙ ap (λ n. n + length (count ++ octets)) (length_be 2 option.0)
      ∙ ap (λ n. 2 + n) (length-append count octets ∙ ap (λ n. n + length octets) (length_be 2 (length octets))) in
      let past_is : past (length (option_octets option)) w ≡ past_part 2 u =
      ap (λ p. at p w) (omega (arith, long, many)) in
      record {
        it = record { code = option.0; octets = part 2 u };
        tells = ap (λ o. (option.0, o)) (ap (λ n. next n inside) many ∙ three.1);
        is = (
          u,
          (one.0, sym (ap be one.1 ∙ value_be 2 option.0 fits.0), refl),
          ((two.0, subst (λ n. n ≤ left inside) (sym many) three.0), refl, past_is),
        );
      };
}

pub opt_is_read : (r : Record) (opt : OptData) → IsAsWritten r (opt_record opt) → FitsOpt opt
    → (read : Opt) × IsOpt r read × SaysOpt read opt
opt_is_read r opt is fits =
    let octets = options_octets opt.options.now in
    let field = octets_whole r octets is.data_is in
    let row = row_next HasOption read_option option_octets FitsOption option_next r.rdata
    (written_options opt.options.now) [] fits.1 (field.0 ∙ sym (append-nil octets)) in (
      record {
        udp_payload_size = opt.udp_payload_size;
        extended_rcode = opt.extended_rcode;
        version = opt.version;
        dnssec_ok = opt.dnssec_ok;
        options = row.it;
      },
      record {
        rtype = is.rtype;
        size = sym is.class;
        z = 0;
        ttl = is.ttl ∙ omega arith;
        version = fits.0;
        few = omega arith;
        end = past (length octets) r.rdata;
        options = row.is;
        ends = field.1;
      },
      record {
        udp_payload_size = refl;
        extended_rcode = refl;
        version = refl;
        dnssec_ok = refl;
        options = row.tells;
      },
    )
