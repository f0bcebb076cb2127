use Rattle.std.proofs.Common.{◌≡◌, ◌+◌, ◌++◌, ◌∙◌, None, [], length, refl, sym, ap, subst, arith, rules}
use Rattle.octseq.specs.Limit.{ExceedsLimit, IsWithin}
use Rattle.octseq_dns_compose.specs.MessageText.{RecordLine}
use Rattle.octseq_dns_compose.specs.Read.{head_of}
use Rattle.octseq_dns_compose.specs.RecordText.{IsAnyRecord}
use Rattle.octseq_dns_compose.specs.TextLines.{IsFaultyLine}
use Rattle.octseq_dns_compose.proofs.LineFaults.{faulty_words, list_line, no_feed, none_of}
use Rattle.octseq_dns_compose.proofs.LongTexts.{no_long_fault, no_long_read}
use Rattle.octseq_dns_compose.proofs.OneMessage.{record_once}
use Rattle.octseq_dns_compose.proofs.Places.{malformed_at}
use Rattle.octseq_dns_compose.proofs.entry.next_record.Goals as goal

pub returns-in_default-clause-none : goal.returns-in_default-clause-none
returns-in_default-clause-none g c =
    (none_of _ _ _ _ c.split_line-line.ensures (c.in_default.ensures.none (search rules)), refl, refl)

pub returns-in-Err-Malformed-clause-malformed : goal.returns-in-Err-Malformed-clause-malformed
returns-in-Err-Malformed-clause-malformed g c = λ place is.
    let both = malformed_at _ _ place _ c.malformed.ensures is in
    let taken = c.in-Some.ensures.some in
    let at : place.offset ≡ c.in-Err-Malformed.offset =
    first_of (search (rules, both.1), cc (both.1, c.in-Err-Malformed.offset-is)) in
    let fault = c.in-Err-Malformed.ensures.fault c.in-Err-Malformed.offset (search rules) in (
      both.0,
      subst (IsFaultyLine c.args.first.now (IsAnyRecord None) c.args.lines.now.ahead.now) (sym at)
          (faulty_words c.args.first.now (IsAnyRecord None) c.args.lines.now.ahead.now _ _ _ _ _
          c.split_line-line.ensures taken.0 taken.1 fault),
    )

pub returns-in-Err-Malformed-clause-first : goal.returns-in-Err-Malformed-clause-first
returns-in-Err-Malformed-clause-first g c = λ place is.
    let taken = c.in-Some.ensures.some in
    let fault = c.in-Err-Malformed.ensures.fault c.in-Err-Malformed.offset (search rules) in
    no_long_fault c.args.first.now (IsAnyRecord None) g.D.AsOctets.limit c.args.lines.now.ahead.now _ _ _ _ _
    c.split_line-line.ensures taken.0 fault

pub returns-in_default-after_feed-clause-first : goal.returns-in_default-after_feed-clause-first
returns-in_default-after_feed-clause-first g c = λ place is.
    let taken = c.in-Some.ensures.some in
    let all = c.in-Ok.ensures.ok in
    no_long_read c.args.first.now (IsAnyRecord None) g.D.AsOctets.limit c.args.lines.now.ahead.now _ _ _ all.0
    c.split_line-line.ensures taken.0 all.2 (λ octets other.
    let one : RecordLine = record { head = head_of c.in-Ok.head; octets = all.1 } in
    let same = record_once one (record { head = other.0; octets = octets }) all.0 all.3 other.1 in
    let content = all.4 ∙ ap (λ l. l ++ all.1) c.truncate.ensures.content in
    subst (λ l. IsWithin g.D.AsOctets.limit (length l)) (content ∙ ap (λ s. s.octets) same)
    c.as_ref-within.ensures.within)

pub returns-in-Err-Short-clause-short : goal.returns-in-Err-Short-clause-short
returns-in-Err-Short-clause-short g c = λ _.
    let taken = c.in-Some.ensures.some in
    let long = c.in-Err-Short.ensures.short (search rules) in
    let empty : length (g.D.AsOctets.content c.truncate.new.self) ≡ 0 = ap length c.truncate.ensures.content in
    let size : length (g.D.AsOctets.content c.truncate.new.self) + length long.1 ≡ length long.1 =
    omega (arith, empty) in
    record {
      line = c.split_line-line.result.0.now;
      after = c.split_line-line.result.1.now;
      split = c.split_line-line.ensures;
      rest = _;
      taken = taken.0;
      words = long.0;
      octets = long.1;
      are = long.2;
      is = long.3;
      past = subst (ExceedsLimit g.D.AsOctets.limit) size long.4;
    }

pub returns-in_default-after_feed-clause-malformed : goal.returns-in_default-after_feed-clause-malformed
returns-in_default-after_feed-clause-malformed g c = λ place is.
    let both = malformed_at _ _ place _ c.malformed-in_default-after_feed.ensures is in
    let at : place.offset ≡ length c.split_line-line.result.0.now = both.1 in
    let taken = c.in-Some.ensures.some in
    let all = c.in-Ok.ensures.ok in
    let over : c.split_line-line.result.1.now ≡ [] = c.in_default-after_feed.ensures.none (search rules) in (
      both.0,
      subst (IsFaultyLine c.args.first.now (IsAnyRecord None) c.args.lines.now.ahead.now) (sym at)
          (no_feed c.args.first.now (IsAnyRecord None) c.args.lines.now.ahead.now _ _ _ _ all.0 all.1
          c.split_line-line.ensures taken.0 taken.1 all.2 (_, all.3) over),
    )

pub returns-in-Err-Memory-clause-memory : goal.returns-in-Err-Memory-clause-memory
returns-in-Err-Memory-clause-memory g c = λ _.
    list_line _ c.args.first.now c.args.lines.now.ahead.now _ _ _ c.split_line-line.ensures c.in-Some.ensures.some.0
    (c.in-Err-Memory.ensures.memory (search rules))
