use Rattle.std.proofs.Common.{IsTrue, rules}
use Rattle.octseq_dns_name.specs.Read.{labels_left, label_octets}
use Rattle.octseq_dns_name.proofs.Fronts.{starts_on, starts_ended}
use Rattle.octseq_dns_name.proofs.name.relatives.labels_start_with.Goals as goal

pub loop-other-preserved : goal.loop-other-preserved
loop-other-preserved g c =
    let reported : IsTrue c.label_eq.result = search rules in
    starts_on (label_octets c.in-Some-next.label) (label_octets c.in-Some.other) (labels_left c.loop-other.ahead)
    (labels_left c.loop-other.other-iterator) (labels_left c.next-in-loop-other.new.self)
    (labels_left c.next.new.self) c.in-Some-next.ensures.steps.0 c.in-Some.ensures.steps.0
    (c.label_eq.ensures.0 reported)
    c.loop-other.invariant

pub returns : goal.returns
returns g c =
    let starts = starts_ended (labels_left c.loop-other.ahead) (labels_left c.loop-other.other-iterator)
    c.in-None.ensures.steps.0.0 c.loop-other.invariant in
    (λ _. starts, search rules)
