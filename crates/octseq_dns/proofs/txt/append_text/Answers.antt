use Rattle.std.proofs.Common.{◌≡◌, ◌+◌, [], ◌++◌, length, take, drop, sym, ap, ◌∙◌}
use Rattle.std.proofs.Common.{subst, append-nil, length-append}
use Rattle.std.proofs.Math.Seq.{take-append_seam}
use Rattle.octseq.specs.Limit.{ExceedsLimit}
use Rattle.octseq.specs.Part.{part_of}
use Rattle.octseq_dns_data.specs.Strings.{spelling}
use Rattle.octseq_dns.specs.TxtWritten.{strings_of_text}
use Rattle.octseq_dns.proofs.Spelled.{ahead_more, grown_more, past_string, spelled_first, spelled_last}
use Rattle.octseq_dns.proofs.Spelled.{text_strings}
use Rattle.octseq_dns.proofs.txt.append_text.Goals as goal

pub returns-in-Err-clause-strings : goal.returns-in-Err-clause-strings
returns-in-Err-clause-strings g c = text_strings c.args.text.now

pub returns-in-Err-append_string-clause-strings : goal.returns-in-Err-append_string-clause-strings
returns-in-Err-append_string-clause-strings g c = text_strings c.args.text.now

pub returns-clause-strings : goal.returns-clause-strings
returns-clause-strings g c = text_strings c.args.text.now

pub loop-left-preserved : goal.loop-left-preserved
loop-left-preserved g c =
    let now = g.B.AsOctets.content c.loop-left.octets in
    let new = g.B.AsOctets.content c.append_string.new.octets in
    let old = g.B.AsOctets.content c.args.octets.now in
    let left = c.loop-left.left.now in
    let part = part_of 1 (take 255 left) in
    let first = spelled_first left c.loop-left-test.true in
    let so_far = c.loop-left.invariant in
    let appended : new ≡ now ++ part =
    c.in_default.ensures.appended.ok ∙ ap (λ s. now ++ part_of 1 s) c.split_at.ensures.front in
    record {
      ahead = ap (λ s. new ++ spelling (strings_of_text s)) c.split_at.ensures.back
          ∙ ahead_more now part (spelling (strings_of_text (drop 255 left))) old
          (spelling (strings_of_text c.args.text.now)) new (ap (λ more. now ++ more) (sym first) ∙ so_far.ahead)
          appended;
      grown = grown_more now part old new so_far.grown appended;
      borrows = c.in_default.ensures.borrows ∙ so_far.borrows;
    }

pub returns-in-Err-clause-short : goal.returns-in-Err-clause-short
returns-in-Err-clause-short g c short =
    let now = g.B.AsOctets.content c.loop-left.octets in
    let old = g.B.AsOctets.content c.args.octets.now in
    let left = c.loop-left.left.now in
    let first = spelled_first left c.loop-left-test.true in
    past_string g.B.AsOctets.limit now (part_of 1 (take 255 left)) (spelling (strings_of_text (drop 255 left))) old
    (spelling (strings_of_text c.args.text.now)) (ap (λ more. now ++ more) (sym first) ∙ c.loop-left.invariant.ahead)
    (subst (λ s. ExceedsLimit g.B.AsOctets.limit (length now + length (part_of 1 s))) c.split_at.ensures.front
    (c.in-Err.ensures.appended.short.0 short))

pub returns-in-Err-clause-err : goal.returns-in-Err-clause-err
returns-in-Err-clause-err g c =
    let old = g.B.AsOctets.content c.args.octets.now in
    let grown = c.loop-left.invariant.grown in
    c.truncate.ensures.content ∙ ap (take c.len-start.result) (c.in-Err.ensures.appended.err ∙ grown.1)
    ∙ ap (λ n. take n (old ++ grown.0)) c.len-start.ensures.content ∙ take-append_seam old grown.0

pub returns-in-Err-append_string-clause-short : goal.returns-in-Err-append_string-clause-short
returns-in-Err-append_string-clause-short g c short =
    let now = g.B.AsOctets.content c.loop-left.octets in
    let old = g.B.AsOctets.content c.args.octets.now in
    let left = c.loop-left.left.now in
    let last = spelled_last left c.loop-left-test.false in
    past_string g.B.AsOctets.limit now (part_of 1 left) [] old (spelling (strings_of_text c.args.text.now))
    (ap (λ more. now ++ more) (sym last) ∙ c.loop-left.invariant.ahead)
    (c.in-Err-append_string.ensures.appended.short.0 short)

pub returns-in-Err-append_string-clause-err : goal.returns-in-Err-append_string-clause-err
returns-in-Err-append_string-clause-err g c =
    let old = g.B.AsOctets.content c.args.octets.now in
    let grown = c.loop-left.invariant.grown in
    c.truncate-in-Err-append_string.ensures.content
    ∙ ap (take c.len-start.result) (c.in-Err-append_string.ensures.appended.err ∙ grown.1)
    ∙ ap (λ n. take n (old ++ grown.0)) c.len-start.ensures.content ∙ take-append_seam old grown.0

pub returns-clause-ok : goal.returns-clause-ok
returns-clause-ok g c =
    let now = g.B.AsOctets.content c.loop-left.octets in
    let left = c.loop-left.left.now in
    let last = spelled_last left c.loop-left-test.false in
    c.in_default-append_string.ensures.appended.ok
    ∙ ap (λ more. now ++ more) (sym (append-nil (part_of 1 left)) ∙ sym last) ∙ c.loop-left.invariant.ahead

pub returns-clause-fits : goal.returns-clause-fits
returns-clause-fits g c past =
    let now = g.B.AsOctets.content c.loop-left.octets in
    let old = g.B.AsOctets.content c.args.octets.now in
    let left = c.loop-left.left.now in
    let all = spelling (strings_of_text c.args.text.now) in
    let last = spelled_last left c.loop-left-test.false in
    let same = ap (λ more. now ++ more) (sym (append-nil (part_of 1 left)) ∙ sym last) ∙ c.loop-left.invariant.ahead in
    c.in_default-append_string.ensures.appended.short.1 (subst (ExceedsLimit g.B.AsOctets.limit)
    (sym (length-append old all) ∙ ap length (sym same) ∙ length-append now (part_of 1 left)) past)
