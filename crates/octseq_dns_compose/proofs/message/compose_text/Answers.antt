-- Each section of the text follows the one before it.
use Rattle.std.proofs.Common.{◌≡◌, [], length, refl, sym, ◌∙◌, subst, inl, inr, rules}
use Rattle.std.proofs.lemmas.Bool.{true≢false}
use Rattle.std.proofs.lemmas.List.{nil_from_length}
use Rattle.octseq.specs.Limit.{IsWithin}
use Rattle.octseq_dns.specs.Blank.{blank_message}
use Rattle.octseq_dns_compress.specs.Composed.{message_limit}
use Rattle.octseq_dns_compose.specs.MessageText.{IsAnyText}
use Rattle.octseq_dns_compose.specs.TextLines.{IsFaultyHeader, IsLineFault}
use Rattle.octseq_dns_compose.proofs.Composing.{additionals, answers, authorities, end_at, header_stage, list_asked}
use Rattle.octseq_dns_compose.proofs.Composing.{long_header, long_next, long_record, questions, stage_on, stage_past}
use Rattle.octseq_dns_compose.proofs.Composing.{stop_at, whole_text}
use Rattle.octseq_dns_compose.proofs.MessageFaults.{header_fault}
use Rattle.octseq_dns_compose.proofs.LongTexts.{no_long_header}
use Rattle.octseq_dns_compose.proofs.Places.{malformed_at}
use Rattle.octseq_dns_compose.proofs.ShortTexts.{no_question_data, not_long, record_refused, stops_fault, stops_over}
use Rattle.octseq_dns_compose.proofs.message.compose_text.Goals as goal

pub returns : goal.returns
returns g c =
    let q = header_stage c.in_ok-header.header c.question-questions.ensures c.new-lines.ensures.ahead
    c.new-lines.ensures.number c.in_ok-header.ensures.ok
    (c.set_header.ensures.written blank_message c.in_ok-message.ensures.written)
    (subst (IsWithin (message_limit g.B.AsOctets.limit)) (sym c.set_header.ensures.len) c.in_ok-message.ensures.within)
    (c.set_header.ensures.push_limit ∙ c.in_ok-message.ensures.push_limit) in
    let r = stage_past questions c.answer-answers.ensures q c.in_ok-push_questions.ensures.ok in
    let u = stage_past answers c.authority-authorities.ensures r c.in_ok-push_records.ensures.ok in
    let d = stage_past authorities c.additional-additionals.ensures u c.in_ok-push_records-2.ensures.ok in
    let e = stage_past additionals refl d c.in_ok-push_records-3.ensures.ok in
    let zero : length c.push_records-3.new.lines.ahead.now ≡ 0 = search rules in
    record {
      ok = (e.m, whole_text e (nil_from_length c.push_records-3.new.lines.ahead.now zero), e.writes);
      within = e.within;
      malformed = search rules;
      first = search rules;
      not_long = not_long e (stops_over e.said.to c.push_records-3.new.lines.ahead.now e.said.none);
      short = search rules;
      memory = search rules;
      borrows = search rules;
    }

pub returns-in_err-header-clause-malformed : goal.returns-in_err-header-clause-malformed
returns-in_err-header-clause-malformed g c = λ place is.
    let found = c.in_err-header.ensures.malformed place (search (rules, is)) in
    subst (λ n. IsLineFault IsAnyText c.args.text.now 1 n place.offset) (sym (found.0 ∙ c.new-lines.ensures.number))
    (header_fault c.args.text.now place.offset
    (subst (λ t. IsFaultyHeader t place.offset) c.new-lines.ensures.ahead found.1))

pub returns-in_err-header-clause-first : goal.returns-in_err-header-clause-first
returns-in_err-header-clause-first g c = λ place is.
    let found = c.in_err-header.ensures.malformed place (search (rules, is)) in
    no_long_header g.T.Compressor.most (message_limit g.B.AsOctets.limit) c.args.text.now place.offset
    (subst (λ t. IsFaultyHeader t place.offset) c.new-lines.ensures.ahead found.1)

pub returns-in_err-message-clause-short : goal.returns-in_err-message-clause-short
returns-in_err-message-clause-short g c = λ is.
    long_header _ g.T.Compressor.most g.B.AsOctets.limit c.in_ok-header.header c.new-lines.ensures.ahead
    c.in_ok-header.ensures.ok (c.in_err-message.ensures.short (search (rules, is)))

pub returns-in_err-push_questions : goal.returns-in_err-push_questions
returns-in_err-push_questions g c =
    let q = header_stage c.in_ok-header.header c.question-questions.ensures c.new-lines.ensures.ahead
    c.new-lines.ensures.number c.in_ok-header.ensures.ok
    (c.set_header.ensures.written blank_message c.in_ok-message.ensures.written)
    (subst (IsWithin (message_limit g.B.AsOctets.limit)) (sym c.set_header.ensures.len) c.in_ok-message.ensures.within)
    (c.set_header.ensures.push_limit ∙ c.in_ok-message.ensures.push_limit) in
    let stopped = c.in_err-push_questions.ensures in
    record {
      ok = search rules;
      within = search rules;
      malformed = λ place is.
          let stop = stopped.malformed place (search (rules, is)) in
          stop_at questions.sect (stage_on questions q stop.pushed).said stop.is.0 stop.is.1;
      first = λ place is.
          let stop = stopped.malformed place (search (rules, is)) in
          let there = stage_on questions q stop.pushed in
          not_long there (stops_fault questions.sect.of stop.is.1
          (λ entry words here are said. no_question_data entry here) there.said.to);
      not_long = search rules;
      short = λ is.
          let stop = stopped.short (search (rules, is)) in
          long_next questions (stage_on questions q stop.pushed) stop.is;
      memory = search rules;
      borrows = search rules;
    }

pub returns-in_err-push_records : goal.returns-in_err-push_records
returns-in_err-push_records g c =
    let q = header_stage c.in_ok-header.header c.question-questions.ensures c.new-lines.ensures.ahead
    c.new-lines.ensures.number c.in_ok-header.ensures.ok
    (c.set_header.ensures.written blank_message c.in_ok-message.ensures.written)
    (subst (IsWithin (message_limit g.B.AsOctets.limit)) (sym c.set_header.ensures.len) c.in_ok-message.ensures.within)
    (c.set_header.ensures.push_limit ∙ c.in_ok-message.ensures.push_limit) in
    let r = stage_past questions c.answer-answers.ensures q c.in_ok-push_questions.ensures.ok in
    let stopped = c.in_err-push_records.ensures in
    record {
      ok = search rules;
      within = search rules;
      malformed = λ place is. (record_refused answers r (stopped.malformed place (search (rules, is)))).0;
      first = λ place is. (record_refused answers r (stopped.malformed place (search (rules, is)))).1;
      not_long = search rules;
      short = λ is.
          let stop = stopped.short (search (rules, is)) in
          long_record answers (λ said. refl) (stage_on answers r stop.pushed) stop.is;
      memory = λ is.
          list_asked answers (λ said. refl) r _ (λ asks. true≢false (sym asks)) (inl refl)
          (stopped.memory (search (rules, is)));
      borrows = search rules;
    }

pub returns-in_err-push_records-2 : goal.returns-in_err-push_records-2
returns-in_err-push_records-2 g c =
    let q = header_stage c.in_ok-header.header c.question-questions.ensures c.new-lines.ensures.ahead
    c.new-lines.ensures.number c.in_ok-header.ensures.ok
    (c.set_header.ensures.written blank_message c.in_ok-message.ensures.written)
    (subst (IsWithin (message_limit g.B.AsOctets.limit)) (sym c.set_header.ensures.len) c.in_ok-message.ensures.within)
    (c.set_header.ensures.push_limit ∙ c.in_ok-message.ensures.push_limit) in
    let r = stage_past questions c.answer-answers.ensures q c.in_ok-push_questions.ensures.ok in
    let u = stage_past answers c.authority-authorities.ensures r c.in_ok-push_records.ensures.ok in
    let stopped = c.in_err-push_records-2.ensures in
    record {
      ok = search rules;
      within = search rules;
      malformed = λ place is. (record_refused authorities u (stopped.malformed place (search (rules, is)))).0;
      first = λ place is. (record_refused authorities u (stopped.malformed place (search (rules, is)))).1;
      not_long = search rules;
      short = λ is.
          let stop = stopped.short (search (rules, is)) in
          long_record authorities (λ said. refl) (stage_on authorities u stop.pushed) stop.is;
      memory = λ is.
          list_asked authorities (λ said. refl) u _ (λ asks. true≢false (sym asks)) (inr (inl refl))
          (stopped.memory (search (rules, is)));
      borrows = search rules;
    }

pub returns-in_err-push_records-3 : goal.returns-in_err-push_records-3
returns-in_err-push_records-3 g c =
    let q = header_stage c.in_ok-header.header c.question-questions.ensures c.new-lines.ensures.ahead
    c.new-lines.ensures.number c.in_ok-header.ensures.ok
    (c.set_header.ensures.written blank_message c.in_ok-message.ensures.written)
    (subst (IsWithin (message_limit g.B.AsOctets.limit)) (sym c.set_header.ensures.len) c.in_ok-message.ensures.within)
    (c.set_header.ensures.push_limit ∙ c.in_ok-message.ensures.push_limit) in
    let r = stage_past questions c.answer-answers.ensures q c.in_ok-push_questions.ensures.ok in
    let u = stage_past answers c.authority-authorities.ensures r c.in_ok-push_records.ensures.ok in
    let d = stage_past authorities c.additional-additionals.ensures u c.in_ok-push_records-2.ensures.ok in
    let stopped = c.in_err-push_records-3.ensures in
    record {
      ok = search rules;
      within = search rules;
      malformed = λ place is. (record_refused additionals d (stopped.malformed place (search (rules, is)))).0;
      first = λ place is. (record_refused additionals d (stopped.malformed place (search (rules, is)))).1;
      not_long = search rules;
      short = λ is.
          let stop = stopped.short (search (rules, is)) in
          long_record additionals (λ said. refl) (stage_on additionals d stop.pushed) stop.is;
      memory = λ is.
          list_asked additionals (λ said. refl) d _ (λ asks. true≢false (sym asks)) (inr (inr refl))
          (stopped.memory (search (rules, is)));
      borrows = search rules;
    }

pub returns-then-not-is_empty-clause-malformed : goal.returns-then-not-is_empty-clause-malformed
returns-then-not-is_empty-clause-malformed g c = λ place is.
    let q = header_stage c.in_ok-header.header c.question-questions.ensures c.new-lines.ensures.ahead
    c.new-lines.ensures.number c.in_ok-header.ensures.ok
    (c.set_header.ensures.written blank_message c.in_ok-message.ensures.written)
    (subst (IsWithin (message_limit g.B.AsOctets.limit)) (sym c.set_header.ensures.len) c.in_ok-message.ensures.within)
    (c.set_header.ensures.push_limit ∙ c.in_ok-message.ensures.push_limit) in
    let r = stage_past questions c.answer-answers.ensures q c.in_ok-push_questions.ensures.ok in
    let u = stage_past answers c.authority-authorities.ensures r c.in_ok-push_records.ensures.ok in
    let d = stage_past authorities c.additional-additionals.ensures u c.in_ok-push_records-2.ensures.ok in
    let e = stage_past additionals refl d c.in_ok-push_records-3.ensures.ok in
    let some : ¬ (c.push_records-3.new.lines.ahead.now ≡ []) = search rules in
    let both = malformed_at _ _ place _ c.malformed.ensures is in
    subst (λ n. IsLineFault IsAnyText c.args.text.now 1 n place.offset) (sym both.0)
    (subst (IsLineFault IsAnyText c.args.text.now 1 c.push_records-3.new.lines.number) (sym both.1)
    (end_at e.said some))

pub returns-then-not-is_empty-clause-first : goal.returns-then-not-is_empty-clause-first
returns-then-not-is_empty-clause-first g c = λ place is.
    let q = header_stage c.in_ok-header.header c.question-questions.ensures c.new-lines.ensures.ahead
    c.new-lines.ensures.number c.in_ok-header.ensures.ok
    (c.set_header.ensures.written blank_message c.in_ok-message.ensures.written)
    (subst (IsWithin (message_limit g.B.AsOctets.limit)) (sym c.set_header.ensures.len) c.in_ok-message.ensures.within)
    (c.set_header.ensures.push_limit ∙ c.in_ok-message.ensures.push_limit) in
    let r = stage_past questions c.answer-answers.ensures q c.in_ok-push_questions.ensures.ok in
    let u = stage_past answers c.authority-authorities.ensures r c.in_ok-push_records.ensures.ok in
    let d = stage_past authorities c.additional-additionals.ensures u c.in_ok-push_records-2.ensures.ok in
    let e = stage_past additionals refl d c.in_ok-push_records-3.ensures.ok in
    not_long e (stops_over e.said.to c.push_records-3.new.lines.ahead.now e.said.none)
