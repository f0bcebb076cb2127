use Rattle.std.proofs.Common.{◌++◌, length, refl, subst}
use Rattle.std.proofs.lemmas.Option.{IfSome_then}
use Rattle.octseq.specs.Parser.{window}
use Rattle.octseq_c.proofs.FilledFields.{front_of}
use Rattle.octseq_c.proofs.OneFields.{one_fields}
use Rattle.octseq_c.specs.Fields.{AreTailRows}
use Rattle.octseq_c.specs.Puts.{Copies}
use Rattle.octseq_c.proofs.fields.put_layout.Goals as goal

pub returns-clause-some : goal.returns-clause-some
returns-clause-some g c =
    let (rows, are, long, written) = c.in-Ok.ensures.ok in
    let fields = c.args.layout.now.fields.now in
    let took = front_of rows _ _ (length fields) long written in
    IfSome_then c.put_tail.result c.put_tail.ensures.some (λ status (back, after, copied). (
      rows ++ back,
      record {
        front = rows;
        back = back;
        end = window c.take_fields.new.parser;
        fields = are;
        after = after;
        rows_are = refl;
      },
      subst (λ front. Copies (front ++ back) status c.args.out.now c.put_tail.new.out c.put_tail.new.count) took copied,
    ))

pub returns-clause-none : goal.returns-clause-none
returns-clause-none g c = λ none rows are.
    let (taken, they_are, long, written) = c.in-Ok.ensures.ok in
    let same = (one_fields c.args.layout.now.fields.now).same
    (window c.args.inside) are.front taken are.end _ are.fields
    they_are in
    c.put_tail.ensures.none none are.back
    (subst (λ end. AreTailRows c.args.layout.now.tail end are.back) same.1 are.after)
