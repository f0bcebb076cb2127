use Rattle.std.proofs.Common.{◌≡◌, ◌<◌, ◌≤◌, Err, [], ◌∷◌, ◌++◌, length, sym, ap, ◌∙◌, subst, arith, rules}
use Rattle.std.proofs.lemmas.List.{length-append, nil_from_length}
use Rattle.octseq_dns_name.specs.Refused.{ReadsLabelPart, IsIllegal}
use Rattle.octseq_dns_name.proofs.SpellingSteps.{read_octet, octet_fault}
use Rattle.octseq_dns_name.proofs.name.spelling.next_part.Goals as goal

pub returns-in_default-clause-ok : goal.returns-in_default-clause-ok
returns-in_default-clause-ok c =
    let ahead = c.octets.ahead.now in
    let end = nil_from_length ahead (let over : length ahead ≡ 0 = search rules in over) in
    subst (ReadsLabelPart c.args.text.now c.octets.label.content) end c.octets.invariant.reads

pub returns-in_err-octet-clause-refused : goal.returns-in_err-octet-clause-refused
returns-in_err-octet-clause-refused c =
    let fault = c.in_err-octet.field-0.0 in
    let label = c.octets.label.content in
    let here : c.octets.ahead.now ≡ c.in-Some.first.now ∷ c.in-Some.rest.now = search rules in
    let other : ¬ (c.in-Some.first.now ≡ 46) = search rules in
    let reported : c.from_residual.result ≡ Err fault = search rules in
    rw reported (λ labels. octet_fault fault labels c.args.text.now label c.in-Some.first.now c.in-Some.rest.now
    (subst (ReadsLabelPart c.args.text.now label) here c.octets.invariant.reads) c.octets.invariant.short other
    c.in_err-octet.ensures.none c.in_err-octet.ensures.illegal)

pub returns-in_err-octet-clause-within : goal.returns-in_err-octet-clause-within
returns-in_err-octet-clause-within c =
    let reported : c.from_residual.result ≡ Err c.in_err-octet.field-0.0 = search rules in
    rw reported (λ ended. subst (λ f. IsIllegal f c.in-Some.first.now) ended c.in_err-octet.ensures.illegal)

pub returns-then-len-ge-LABEL_MAX-clause-refused : goal.returns-then-len-ge-LABEL_MAX-clause-refused
returns-then-len-ge-LABEL_MAX-clause-refused c = λ labels.
    let octet = c.in_ok-octet.octet in
    let done = c.octets.label.content in
    let taken = c.in_ok-octet.ensures.ok in
    let here : c.octets.ahead.now ≡ c.in-Some.first.now ∷ c.in-Some.rest.now = search rules in
    let full : 63 ≤ length done = search rules in
    let most = c.octets.invariant.short in
    let e = length-append done (octet ∷ []) in (
      done ++ octet ∷ [],
      c.in_ok-octet.rest.now,
      read_octet c.args.text.now done c.octets.ahead.now taken.0 c.in_ok-octet.rest.now octet c.octets.invariant.reads
          (here ∙ taken.1) taken.2,
      omega (arith, e, full, most),
    )

pub octets-preserved : goal.octets-preserved
octets-preserved c =
    let octet = c.in_ok-octet.octet in
    let done = c.octets.label.content in
    let taken = c.in_ok-octet.ensures.ok in
    let here : c.octets.ahead.now ≡ c.in-Some.first.now ∷ c.in-Some.rest.now = search rules in
    let made : c.append_slice.new.self.content ≡ done ++ octet ∷ [] = search rules in
    let few : length done < 63 = search rules in
    record {
      reads = subst (λ l. ReadsLabelPart c.args.text.now l c.in_ok-octet.rest.now) (sym made)
          (read_octet c.args.text.now done c.octets.ahead.now taken.0 c.in_ok-octet.rest.now octet
          c.octets.invariant.reads (here ∙ taken.1) taken.2);
      short = let e = ap length made ∙ length-append done (octet ∷ []) in omega (arith, e, few);
    }
