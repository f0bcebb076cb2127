use Rattle.std.proofs.Common.{◌≡◌, inl, sym, ap, arith, rules}
use Rattle.octseq_dns_data.specs.Data.{ParsedRdata, is_in_message}
use Rattle.octseq_dns_data.specs.Typed.{rdata_of}
use Rattle.octseq_dns_message.specs.Said.{record_of}
use Rattle.octseq_dns_message.proofs.Aliases.{cname_named}
use Rattle.octseq_dns_message.proofs.RecordData.{one_said}
use Rattle.octseq_dns_message.proofs.message.canonical.target_in.Goals as goal

pub returns-in_default : goal.returns-in_default
returns-in_default g c = record {
  alias = tt;
  none = λ _ target is.
      let same = one_said (record_of c.args.entry.now) (ParsedRdata.cname target) (rdata_of c.data_counted.result)
      (inl is.data_is) c.data_counted.ensures.rdata in
      let named = cname_named c.data_counted.result target (sym same) in
      c.in_default.not-Cname named.0 named.1;
  some = c.data_counted.ensures.some;
  least = tt;
  turns =
      let cname : (record_of c.args.entry.now).rtype ≡ 5 = search rules in
      c.data_counted.ensures.names (ap is_in_message cname) (λ txt. omega (arith, cname, txt));
}
