use Rattle.std.proofs.Common.{◌≤◌, length, inl, inr, refl, arith, subst}
use Rattle.octseq.specs.Window.{Window, whole}
use Rattle.octseq_dns_message.specs.Header.{IsHeader}
use Rattle.octseq_dns_message.specs.declared.header.Header.{Header}
use Rattle.octseq_dns_message.specs.declared.header.HeaderCounts.{HeaderCounts}
use Rattle.octseq_dns_message.proofs.message.offset.fault_offset.Goals as goal

pub returns-in_default : goal.returns-in_default
returns-in_default c =
    let few : length c.args.octets.now ≤ 65535 = let long = c.if-octets-gt-MESSAGE_MAX.false in omega arith in
    let NoHeader : Window → Type 0 = λ w. (header : Header) (counts : HeaderCounts) (v : Window)
    → ¬ IsHeader w header counts v in
    let none : NoHeader (whole c.args.octets.now) =
    subst NoHeader c.from_static-parser.ensures.window (c.in_default.ensures.malformed refl) in
    inr (inl (few, none, refl))
