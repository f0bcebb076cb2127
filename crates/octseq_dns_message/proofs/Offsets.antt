-- What is at an offset, and what follows it, is in the same octets, with the same end.
use Rattle.std.proofs.Common.{◌≡◌, ◌≤◌, ap, sym, ◌∙◌, arith}
use Rattle.octseq.specs.Window.{Window}
use Rattle.octseq_dns_message.specs.Entry.{Record, IsRecord}
use Rattle.octseq_dns_name.specs.NameFormat.{name_of_window}

-- the data of a record is in the same octets as its owner, and ends within them
pub record_of_window : (w v : Window) (r : Record) → IsRecord w r v → (r.rdata.octets ≡ r.owner.place.octets)
    × (r.rdata.end ≤ r.owner.place.end)
record_of_window w v r is =
    let owner = name_of_window w is.0 r.owner.labels is.1.1 in
    let rtype = is.2.1.2 in
    let class = is.2.2.1.2 in
    let ttl = is.2.2.2.1.2 in
    let kept = is.2.2.2.2 in
    let octets = ap (λ v. v.octets) kept.1 ∙ ap (λ v. v.octets) ttl ∙ ap (λ v. v.octets) class
    ∙ ap (λ v. v.octets) rtype ∙ owner.0 ∙ ap (λ v. v.octets) (sym is.1.0) in
    let ends = ap (λ v. v.end) ttl ∙ ap (λ v. v.end) class ∙ ap (λ v. v.end) rtype ∙ owner.1
    ∙ ap (λ v. v.end) (sym is.1.0) in
    let end = ap (λ v. v.end) kept.1 in
    let room = kept.0.0 in
    let whole = kept.0.1 in
    (octets, omega (arith, ends, end, room, whole))
