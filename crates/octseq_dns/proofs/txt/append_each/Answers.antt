use Rattle.std.proofs.Common.{◌+◌, Bor, ℕ, List, [], ◌++◌, length, drop, get_or, sym, ap, ◌∙◌}
use Rattle.std.proofs.Common.{subst, length-append, take}
use Rattle.std.proofs.Math.Seq.{take-append_seam}
use Rattle.octseq.specs.Limit.{ExceedsLimit}
use Rattle.octseq.specs.Part.{part_of}
use Rattle.octseq_dns_data.specs.Strings.{spelling}
use Rattle.octseq_dns.proofs.Spelled.{ahead_more, contents, grown_more, left_first, one_short, past_string}
use Rattle.octseq_dns.proofs.txt.append_each.Goals as goal

pub append_string-requires : goal.append_string-requires
append_string-requires g c =
    let default : Bor (List ℕ) = record { ref_ptr = (0, 0); now = [] } in
    let strings = c.args.strings.now in
    let i = c.loop-string.string-index in
    one_short strings i default c.loop-string-test.true c.requires

pub loop-string-preserved : goal.loop-string-preserved
loop-string-preserved g c =
    let default : Bor (List ℕ) = record { ref_ptr = (0, 0); now = [] } in
    let strings = c.args.strings.now in
    let i = c.loop-string.string-index in
    let now = g.B.AsOctets.content c.loop-string.octets in
    let new = g.B.AsOctets.content c.append_string.new.octets in
    let old = g.B.AsOctets.content c.args.octets.now in
    let part = part_of 1 (get_or strings i default).now in
    let first = left_first strings i default c.loop-string-test.true in
    let so_far = c.loop-string.invariant in
    let appended = c.in_default.ensures.appended in
    record {
      ahead = ahead_more now part (spelling (contents (drop (i + 1) strings))) old (spelling (contents strings)) new
          (ap (λ more. now ++ more) (sym first) ∙ so_far.ahead) appended.ok;
      grown = grown_more now part old new so_far.grown appended.ok;
      fits = λ some past. appended.short.1
          (subst (ExceedsLimit g.B.AsOctets.limit) (ap length appended.ok ∙ length-append now part) past);
      borrows = c.in_default.ensures.borrows ∙ so_far.borrows;
    }

pub returns-in-Err-clause-short : goal.returns-in-Err-clause-short
returns-in-Err-clause-short g c short =
    let default : Bor (List ℕ) = record { ref_ptr = (0, 0); now = [] } in
    let strings = c.args.strings.now in
    let i = c.loop-string.string-index in
    let now = g.B.AsOctets.content c.loop-string.octets in
    let old = g.B.AsOctets.content c.args.octets.now in
    let first = left_first strings i default c.loop-string-test.true in
    past_string g.B.AsOctets.limit now (part_of 1 (get_or strings i default).now)
    (spelling (contents (drop (i + 1) strings))) old (spelling (contents strings))
    (ap (λ more. now ++ more) (sym first) ∙ c.loop-string.invariant.ahead) (c.in-Err.ensures.appended.short.0 short)

pub returns-in-Err-clause-err : goal.returns-in-Err-clause-err
returns-in-Err-clause-err g c =
    let old = g.B.AsOctets.content c.args.octets.now in
    let now = g.B.AsOctets.content c.loop-string.octets in
    let grown = c.loop-string.invariant.grown in
    c.truncate.ensures.content ∙ ap (take c.len-start.result) (c.in-Err.ensures.appended.err ∙ grown.1)
    ∙ ap (λ n. take n (old ++ grown.0)) c.len-start.ensures.content ∙ take-append_seam old grown.0
