use Rattle.std.proofs.Common.{◌≡◌, inl, sym, subst, ◌∙◌}
use Rattle.std.proofs.lemmas.Option.{IfSome_then}
use Rattle.octseq.specs.Parser.{window}
use Rattle.octseq_dns_data.specs.Data.{IsTypedData}
use Rattle.octseq_dns_data.specs.Typed.{layout_of, rdata_of}
use Rattle.octseq_c.proofs.KnownFields.{layout_few, no_layout_rows, no_list_of_options}
use Rattle.octseq_c.proofs.fields.put_known.Goals as goal

pub returns-then-rtype-eq-OPT-clause-none : goal.returns-then-rtype-eq-OPT-clause-none
returns-then-rtype-eq-OPT-clause-none g c = λ none.
    no_list_of_options c.if-rtype-eq-OPT.true (c.put_layout.ensures.none none)

pub put_layout-requires-2-clause-fields : goal.put_layout-requires-2-clause-fields
put_layout-requires-2-clause-fields g c =
    layout_few c.from_int-rtype.result c.from_int-class.result _ (sym c.in-Some.ensures)

pub returns-clause-some : goal.returns-clause-some
returns-clause-some g c =
    let rdata = rdata_of c.in-Ok.field-0 in
    let typed = subst (λ i. i)
    (λ i. IsTypedData (c.from_int-rtype.ensures i) (c.from_int-class.ensures i) (window c.args.message)
    (window c.args.inside) rdata) c.in-Ok.ensures.rdata in
    let same : layout_of c.args.rtype c.args.class ≡ layout_of c.from_int-rtype.result c.from_int-class.result =
    λ i. layout_of (sym c.from_int-rtype.ensures i) (sym c.from_int-class.ensures i) in
    IfSome_then c.put_layout-2.result c.put_layout-2.ensures.some (λ status (rows, are, copied). (
      rows,
      inl (record {
        rdata = rdata;
        typed = typed;
        layout = _;
        layout_is = same ∙ sym c.in-Some.ensures;
        fields = are;
      }),
      copied,
    ))

pub returns-clause-none : goal.returns-clause-none
returns-clause-none g c = λ none.
    let same : layout_of c.args.rtype c.args.class ≡ layout_of c.from_int-rtype.result c.from_int-class.result =
    λ i. layout_of (sym c.from_int-rtype.ensures i) (sym c.from_int-class.ensures i) in
    no_layout_rows c.if-rtype-eq-OPT.false _ (same ∙ sym c.in-Some.ensures) (c.put_layout-2.ensures.none none)
