use Rattle.std.proofs.Common.{map, length, arith, refl}
use Rattle.std.proofs.lemmas.List.{length-map}
use Rattle.octseq.specs.Parser.{window}
use Rattle.octseq_format.specs.Walk.{items_left}
use Rattle.octseq_c.proofs.FilledFields.{filled, row_few, unfilled}
use Rattle.octseq_c.specs.Fields.{IsCharacterString, range_row}
use Rattle.octseq_c.proofs.fields.put_strings.Goals as goal

pub put_first-requires : goal.put_first-requires
put_first-requires g c = record {
  few = let few = row_few IsCharacterString _ _ (items_left c.in-Ok.strings) c.in-Ok.ensures.value.0 in
      let front = c.requires.fields in let left = c.requires.few in let many = c.len.ensures in
      omega (arith, few, front, left, many);
}

pub returns-then-not-put_first-clause-some : goal.returns-then-not-put_first-clause-some
returns-then-not-put_first-clause-some g c =
    let items = items_left c.in-Ok.strings in
    let rows = map (range_row 3) items in
    let many = c.len.ensures in
    let counted = c.put_first.ensures.count in
    let short = c.if-not-put_first.ensures.short refl in (
      rows,
      (items, window c.parse.new.parser, c.in-Ok.ensures.value, refl),
      unfilled c.args.front.now rows c.args.out.now (length items) _ (length-map items (range_row 3))
          (omega (arith, many, counted)) _ (omega (arith, many, short.0)) short.1,
    )

pub returns-clause-some : goal.returns-clause-some
returns-clause-some g c =
    let items = items_left c.in-Ok.strings in
    let rows = map (range_row 3) items in
    let many = c.len.ensures in
    let counted = c.put_first.ensures.count in
    let fits = c.if-not-put_first.ensures.fits refl in (
      rows,
      (items, window c.parse.new.parser, c.in-Ok.ensures.value, refl),
      filled c.args.front.now rows c.args.out.now (length items) _ (length-map items (range_row 3))
          (omega (arith, many, counted)) c.put_first.new.out _ (omega (arith, many, fits.0)) fits.1
          c.fill_strings.ensures,
    )
