use Rattle.std.proofs.Common.{◌≡◌, ◌∙◌, sym, subst, rules}
use Rattle.octseq_dns_scan.specs.Word.{TakesWord}
use Rattle.octseq_dns_scan.specs.Words.{ahead_of}
use Rattle.octseq_dns_compose.specs.RecordText.{IsClassWord, IsTtlWord}
use Rattle.octseq_dns_compose.specs.TakeOrder.{IsNoOrder}
use Rattle.octseq_dns_compose.proofs.Records.{none_next}
use Rattle.octseq_dns_compose.proofs.head.take_ttl_and_class.Goals as goal

pub returns-in_default-take_class-clause-taken : goal.returns-in_default-take_class-clause-taken
returns-in_default-take_class-clause-taken c =
    let one = c.in-Some.ensures.taken.some in
    let kept : ahead_of c.take_class.new.words ≡ ahead_of c.take_ttl.new.words = search rules in
    record {
      some = tt;
      none = λ _. IsNoOrder.no_class c.in-Some.ttl one.0 one.2
          (subst (TakesWord one.0 (ahead_of c.args.words.now)) (sym kept) one.1)
          (none_next IsClassWord _ _ kept (c.in_default-take_class.ensures.taken.none (search rules)));
    }

pub returns-in_default-take_class-2-clause-taken : goal.returns-in_default-take_class-2-clause-taken
returns-in_default-take_class-2-clause-taken c =
    let first : ahead_of c.take_ttl.new.words ≡ ahead_of c.args.words.now = search rules in
    let second : ahead_of c.take_class-2.new.words ≡ ahead_of c.take_ttl.new.words = search rules in
    record {
      some = tt;
      none = λ _. IsNoOrder.no_first (second ∙ first) (c.in_default.ensures.taken.none (search rules))
          (none_next IsClassWord _ _ (sym first) (c.in_default-take_class-2.ensures.taken.none (search rules)));
    }

pub returns-in_default-take_ttl-clause-taken : goal.returns-in_default-take_ttl-clause-taken
returns-in_default-take_ttl-clause-taken c =
    let first : ahead_of c.take_ttl.new.words ≡ ahead_of c.args.words.now = search rules in
    let one = c.in-Some-take_class-2.ensures.taken.some in
    let kept : ahead_of c.take_ttl-2.new.words ≡ ahead_of c.take_class-2.new.words = search rules in
    record {
      some = tt;
      none = λ _. IsNoOrder.no_ttl c.in-Some-take_class-2.class one.0 one.2
          (subst (TakesWord one.0 (ahead_of c.args.words.now)) (sym kept)
          (subst (λ t. TakesWord one.0 t (ahead_of c.take_class-2.new.words)) first one.1))
          (none_next IsTtlWord _ _ kept (c.in_default-take_ttl.ensures.taken.none (search rules)));
    }
