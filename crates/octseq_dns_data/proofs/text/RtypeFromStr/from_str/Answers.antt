use Rattle.std.proofs.Common.{sym, subst}
use Rattle.octseq_dns_data.specs.Mnemonic.{ReadsRtype}
use Rattle.octseq_dns_data.proofs.text.RtypeFromStr.from_str.Goals as goal

pub returns-in-Some : goal.returns-in-Some
unfolding ReadsRtype
returns-in-Some c = subst (ReadsRtype c.args.text.now) (sym c.from_int.ensures) c.in-Some.ensures.some
