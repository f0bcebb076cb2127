use Rattle.std.proofs.Common.{◌≡◌, ◌++◌, ◌∙◌, true, false, Ok, rules, ap}
use Rattle.std.proofs.lemmas.Option.{MatchOption-at_some}
use Rattle.octseq.proofs.Errors.{on_err}
use Rattle.octseq_stream.proofs.Reading.{after_header, cut_after_header, whole_frame}
use Rattle.octseq_stream.proofs.Streams.{apart}
use Rattle.octseq_stream.proofs.reader.append_frame.Goals as goal

pub returns-in_err-append_octets-clause-err : goal.returns-in_err-append_octets-clause-err
returns-in_err-append_octets-clause-err g c =
    let F = g.F.Framing in
    let met = g.met.F.Framing in
    let f = c.args.framing.now in
    let header = MatchOption-at_some _ _ _ c.in-Some.is c.in_ok-len.ensures.header in
    let read = c.in_err-append_octets.ensures.err in
    on_err c.from_residual-in_err-append_octets.result
    (after_header F.header F.is_kept (F.fits f) (F.code f)
    (apart F.header (F.fits f) (F.code f) (F.size f) (met.whole f) (met.one f))
    (g.R.Read.remaining c.args.reader.now) (g.R.Read.remaining c.append_header.new.reader)
    (g.R.Read.remaining c.append_octets.new.reader) c.append_header.new.octets.items read.0 c.in-Some.len header.0
    header.1 read.1 read.2)

pub returns-then-not-branch-clause-short : goal.returns-then-not-branch-clause-short
returns-then-not-branch-clause-short g c = λ _.
    let F = g.F.Framing in
    let met = g.met.F.Framing in
    let f = c.args.framing.now in
    let no : c.in_ok-append_octets.field-0 ≡ false = search rules in
    let header = MatchOption-at_some _ _ _ c.in-Some.is c.in_ok-len.ensures.header in
    let read = c.in_ok-append_octets.ensures.end (ap Ok no) in
    cut_after_header F.header F.is_kept (F.fits f) (F.code f)
    (apart F.header (F.fits f) (F.code f) (F.size f) (met.whole f) (met.one f)) (F.is_misframed f) (met.begins_none f)
    (g.R.Read.remaining c.args.reader.now) (g.R.Read.remaining c.append_header.new.reader)
    (g.R.Read.remaining c.append_octets.new.reader) c.append_header.new.octets.items read.0 c.in-Some.len met.some
    header.0 header.1 read.1 read.3 read.4

pub returns-then-not-branch-clause-err : goal.returns-then-not-branch-clause-err
returns-then-not-branch-clause-err g c =
    let F = g.F.Framing in
    let met = g.met.F.Framing in
    let f = c.args.framing.now in
    let no : c.in_ok-append_octets.field-0 ≡ false = search rules in
    let header = MatchOption-at_some _ _ _ c.in-Some.is c.in_ok-len.ensures.header in
    let read = c.in_ok-append_octets.ensures.end (ap Ok no) in
    after_header F.header F.is_kept (F.fits f) (F.code f)
    (apart F.header (F.fits f) (F.code f) (F.size f) (met.whole f) (met.one f))
    (g.R.Read.remaining c.args.reader.now) (g.R.Read.remaining c.append_header.new.reader)
    (g.R.Read.remaining c.append_octets.new.reader) c.append_header.new.octets.items read.0 c.in-Some.len header.0
    header.1 read.1 read.3

pub returns-clause-frame : goal.returns-clause-frame
returns-clause-frame g c = λ _.
    let F = g.F.Framing in
    let f = c.args.framing.now in
    let yes : c.in_ok-append_octets.field-0 ≡ true = search rules in
    let header = MatchOption-at_some _ _ _ c.in-Some.is c.in_ok-len.ensures.header in
    let read = c.in_ok-append_octets.ensures.all (ap Ok yes) in
    whole_frame F.header F.is_kept (F.fits f) (F.code f) (g.R.Read.remaining c.args.reader.now)
    (g.R.Read.remaining c.append_header.new.reader) (g.R.Read.remaining c.append_octets.new.reader)
    c.append_header.new.octets.items read.0 c.append_octets.new.octets.items c.in-Some.len header.0 header.1 read.1
    (read.2 ∙ ap (λ l. l ++ read.0) c.drop_header.ensures) read.3
