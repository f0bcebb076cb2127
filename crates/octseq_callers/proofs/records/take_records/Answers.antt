use Rattle.std.proofs.Common.{◌≡◌, ℕ, List, [], ◌∷◌, ◌++◌, ◌∙◌, map, ap, arith, rules}
use Rattle.std.proofs.lemmas.List.{map-append}
use Rattle.octseq.proofs.Repeats.{read_more, read_all, read_cut}
use Rattle.octseq.specs.Parser.{window}
use Rattle.octseq.specs.Window.{Window, rest, at}
use Rattle.octseq_callers.proofs.RecordCode.{spelled, record_code, has_octets}
use Rattle.octseq_callers.specs.declared.records.Record.{Record}
use Rattle.octseq_callers.specs.Record.{IsRecord}
use Rattle.octseq_callers.proofs.records.take_records.Goals as goal

-- a window of the same octets and the same end, with nothing left
at_end : (w v : Window) → w.octets ≡ v.octets → w.end ≡ v.end → w.position ≡ w.end → w ≡ at v.end v
at_end w v octets limit none =
    ap (λ octets. record { octets = octets; position = w.position; end = w.end }) octets
    ∙ ap (λ position. record { octets = v.octets; position = position; end = w.end }) (none ∙ limit)
    ∙ ap (λ end. record { octets = v.octets; position = v.end; end = end }) limit

pub returns-in_err-read-clause-malformed : goal.returns-in_err-read-clause-malformed
returns-in_err-read-clause-malformed g c = λ e records are.
    let cut = c.in_err-read.ensures.malformed (search rules) in
    read_cut IsRecord spelled (rest (window c.args.parser.now)) (rest (window c.loop-parser.parser)) _
    c.loop-parser.invariant.read (omega arith) cut (records, are.0, are.1)

pub loop-parser-preserved : goal.loop-parser-preserved
loop-parser-preserved g c =
    let shown : Record (g.row.R-Range.Denot) → ℕ × List ℕ = λ read. (read.key, g.R.Range.AsOctets.content read.value) in
    let pushed : c.push.new.self.items ≡ c.loop-parser.records.items ++ c.in_ok-read.read ∷ [] =
    grind (arith, c.push.ensures.items, c.is_err.ensures) in
    record {
      read = read_more IsRecord spelled record_code has_octets (rest (window c.args.parser.now))
          (rest (window c.loop-parser.parser)) (rest (window c.next_record.new.parser))
          (map shown c.loop-parser.records.items) (map shown c.push.new.self.items) (shown c.in_ok-read.read)
          c.loop-parser.invariant.read c.in_ok-read.ensures.fits c.in_ok-read.ensures.taken
          (ap (map shown) pushed ∙ map-append shown c.loop-parser.records.items (c.in_ok-read.read ∷ []));
      limit = c.next_record.ensures.limit ∙ c.loop-parser.invariant.limit;
      same = c.next_record.ensures.same ∙ c.loop-parser.invariant.same;
    }

pub returns-clause-ok : goal.returns-clause-ok
returns-clause-ok g c = read_all IsRecord spelled (rest (window c.args.parser.now)) (rest (window c.loop-parser.parser))
    _ c.loop-parser.invariant.read (omega arith)

pub returns-clause-end : goal.returns-clause-end
returns-clause-end g c =
    let ordered = c.loop-parser.parser.ordered in
    at_end (window c.loop-parser.parser) (window c.args.parser.now)
    (ap g.R.AsOctets.content c.loop-parser.invariant.same) c.loop-parser.invariant.limit (omega arith)
