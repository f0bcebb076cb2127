use Rattle.std.proofs.Common.{◌≡◌, ℕ, ◌≤◌, List, ◌++◌, length, refl, sym, ◌∙◌, arith, rules}
use Rattle.octseq_dns_compress.specs.Composed.{message_limit}
use Rattle.octseq_dns_compress.specs.State.{State}
use Rattle.octseq_dns_message.specs.Entry as entry
use Rattle.octseq_dns_message.specs.Parsed.{header_of, questions_of, answers_of, authorities_of, additionals_of}
use Rattle.octseq_dns_message.specs.declared.header.Header.{Header}
use Rattle.octseq_dns_message.specs.declared.header.HeaderCounts.{HeaderCounts}
use Rattle.octseq_dns.specs.Appended.{Appended}
use Rattle.octseq_dns.specs.Contents.{FitsHeader, FitsQuestion, FitsRecord, Message, with_only_header, question_entry}
use Rattle.octseq_dns.specs.Contents.{record_entry, records_in}
use Rattle.octseq_dns.specs.Labels.{question_labels, record_labels}
use Rattle.octseq_dns.specs.Rewritten.{IsMessageOf, IsQuestionOf, IsRecordOf}
use Rattle.octseq_dns.specs.Writes.{ComposesMessage}
use Rattle.octseq_dns.proofs.Stages.{contents_of, counts_are, past_twelve, questions_zip, records_zip}
use Rattle.octseq_dns.proofs.WrittenWhole.{asked_past, whole_past, whole_written}
use Rattle.octseq_dns.proofs.builder.anew.compose_anew.Goals as goal

-- what is written for a message that was read
written : {most : ℕ} {first second third : State} {h header : Header} {counts : HeaderCounts} {q : List entry.Question}
    {a n d : List entry.Record} {m : Message} {from then to : ℕ} → IsMessageOf h q a n d m → header ≡ h
    → counts.qdcount ≡ length q → counts.ancount ≡ length a → counts.nscount ≡ length n → counts.arcount ≡ length d
    → first ≡ with_only_header header counts → FitsHeader header
    → Appended IsQuestionOf question_entry question_labels FitsQuestion most q first second from then
    → Appended IsRecordOf record_entry record_labels FitsRecord most (a ++ (n ++ d)) second third then to
    → counts.qdcount ≤ 65535 → counts.ancount ≤ 65535 → counts.nscount ≤ 65535 → counts.arcount ≤ 65535
    → ComposesMessage most m third header counts
written {m = m} is header_is qdcount ancount nscount arcount begun fits asked listed =
    let questions = questions_zip is in
    let records = records_zip is in
    whole_written _ m (header_is ∙ sym is.header_is) (counts_are is qdcount ancount nscount arcount) begun
    (asked.is m.questions questions) (listed.is (records_in m) records) fits (asked.fits m.questions questions)
    (listed.fits (records_in m) records)

pub returns-in_err-message-clause-short : goal.returns-in_err-message-clause-short
returns-in_err-message-clause-short g c short m is =
    past_twelve (message_limit g.B.AsOctets.limit) g.T.Compressor.most m
    (c.in_err-message.ensures.short (search (rules, short)))

pub returns-in_err-append_questions-clause-short : goal.returns-in_err-append_questions-clause-short
returns-in_err-append_questions-clause-short g c short m is =
    let counts = c.header_counts-counts.ensures in
    asked_past _ m (c.header-header.ensures ∙ sym is.header_is)
    (counts_are is counts.qdcount counts.ancount counts.nscount counts.arcount) c.in_ok-message.ensures.state
    (message_limit g.B.AsOctets.limit)
    (c.in_err-append_questions.ensures.short (search (rules, short)) m.questions (questions_zip is))

pub returns-in_err-append_questions-clause-turns : goal.returns-in_err-append_questions-clause-turns
returns-in_err-append_questions-clause-turns g c m is =
    let few = c.in_err-append_questions.ensures.turns m.questions (questions_zip is) in omega (arith, few)

pub returns-in_err-has_opt-clause-short : goal.returns-in_err-has_opt-clause-short
returns-in_err-has_opt-clause-short g c short m is =
    let counts = c.header_counts-counts.ensures in
    whole_past _ m (c.header-header.ensures ∙ sym is.header_is)
    (counts_are is counts.qdcount counts.ancount counts.nscount counts.arcount) c.in_ok-message.ensures.state
    (message_limit g.B.AsOctets.limit) (c.in_ok-append_questions.ensures.appended.is m.questions (questions_zip is))
    (c.in_err-has_opt.ensures.short (search (rules, short)) (records_in m) (records_zip is))

pub returns-in_err-has_opt-clause-turns : goal.returns-in_err-has_opt-clause-turns
returns-in_err-has_opt-clause-turns g c m is =
    let few = c.in_ok-append_questions.ensures.turns m.questions (questions_zip is) in
    let more = c.in_err-has_opt.ensures.turns (records_in m) (records_zip is) in
    omega (arith, few, more)

pub returns-clause-turns : goal.returns-clause-turns
returns-clause-turns g c m is =
    let few = c.in_ok-append_questions.ensures.turns m.questions (questions_zip is) in
    let more = c.in_ok-has_opt.ensures.turns (records_in m) (records_zip is) in
    omega (arith, few, more)

pub returns-clause-least : goal.returns-clause-least
returns-clause-least g c m is =
    let asked = c.in_ok-append_questions.ensures.appended.least m.questions (questions_zip is) in
    let listed = c.in_ok-has_opt.ensures.appended.least (records_in m) (records_zip is) in
    omega (arith, asked, listed)

pub invariant_of-result : goal.invariant_of-result
invariant_of-result g c =
    let source = c.args.source.now in
    let counts = c.header_counts-counts.ensures in
    let listed = c.in_ok-has_opt.ensures.appended in
    let contents = contents_of (header_of source) (questions_of source) (answers_of source) (authorities_of source)
    (additionals_of source) listed.exists.0 listed.exists.1 in (
      ∣ (
        contents.0,
        written contents.1 c.header-header.ensures counts.qdcount counts.ancount counts.nscount counts.arcount
            c.in_ok-message.ensures.state c.in_ok-message.ensures.fits c.in_ok-append_questions.ensures.appended listed
            (omega arith) (omega arith) (omega arith) (omega arith),
      ) ∣₁,
      tt,
    )

pub returns-clause-rewritten : goal.returns-clause-rewritten
returns-clause-rewritten g c =
    let source = c.args.source.now in
    let counts = c.header_counts-counts.ensures in
    let asked = c.in_ok-append_questions.ensures in
    let listed = c.in_ok-has_opt.ensures in
    record {
      written = λ m is. written is c.header-header.ensures counts.qdcount counts.ancount counts.nscount counts.arcount
          c.in_ok-message.ensures.state c.in_ok-message.ensures.fits asked.appended listed.appended (omega arith)
          (omega arith) (omega arith) (omega arith);
      contents = contents_of (header_of source) (questions_of source) (answers_of source) (authorities_of source)
          (additionals_of source) listed.appended.exists.0 listed.appended.exists.1;
      fits = listed.within (asked.within c.in_ok-message.ensures.within);
      push_limit = refl;
      has_opt = listed.opt;
    }
