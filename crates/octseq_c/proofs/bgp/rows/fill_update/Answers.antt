use Rattle.std.proofs.Common.{◌++◌, map, length, refl, ap, arith, length-append}
use Rattle.std.proofs.lemmas.List.{length-map}
use Rattle.octseq_bgp.specs.Parsed.{update_of}
use Rattle.octseq_c.specs.BgpRows.{row_of_prefix}
use Rattle.octseq_c.proofs.BgpFilled.{copy_long, three_placed}
use Rattle.octseq_c.proofs.BgpRows.{one_attribute_rows}
use Rattle.octseq_c.proofs.bgp.rows.fill_update.Goals as goal

pub fill_prefixes-requires : goal.fill_prefixes-requires
fill_prefixes-requires g c =
    let u = update_of c.args.update.now in
    let (rows, (asked, asked_are, rows_are), room) = c.requires in
    let (attributes, are, end, out) = c.fill_attributes-at.ensures in
    let first = c.fill_prefixes-at.ensures.end in
    let withdrawn = map (row_of_prefix 0 1) u.withdrawn in
    let announced = map (row_of_prefix 2 1) u.announced in
    let same = ap length (one_attribute_rows u.session u.attributes asked attributes asked_are are) in
    let all = ap length rows_are in
    let front = length-append withdrawn (asked ++ announced) in
    let back = length-append asked announced in
    let some = length-map u.withdrawn (row_of_prefix 0 1) in
    let others = length-map u.announced (row_of_prefix 2 1) in
    let one = copy_long c.args.out.now c.fill_prefixes-at.new.out withdrawn 0 c.fill_prefixes-at.result
    (omega (arith, first, some)) (omega (arith, first, some, all, front, room)) c.fill_prefixes-at.ensures.out in
    let two = copy_long c.fill_prefixes-at.new.out c.fill_attributes-at.new.out attributes c.fill_prefixes-at.result
    c.fill_attributes-at.result end (omega (arith, end, first, some, all, front, back, same, one, room)) out in
    omega (arith, end, first, some, others, all, front, back, same, one, two, room)

pub returns : goal.returns
returns g c =
    let u = update_of c.args.update.now in
    let (attributes, are, end, out) = c.fill_attributes-at.ensures in
    let first = c.fill_prefixes-at.ensures.end in
    let last = c.fill_prefixes.ensures.end in
    let withdrawn = map (row_of_prefix 0 1) u.withdrawn in
    let announced = map (row_of_prefix 2 1) u.announced in (
      withdrawn ++ (attributes ++ announced),
      (attributes, are, refl),
      three_placed c.args.out.now c.fill_prefixes-at.new.out c.fill_attributes-at.new.out c.fill_prefixes.new.out
          withdrawn attributes announced _ _ _ (omega (arith, first, length-map u.withdrawn (row_of_prefix 0 1)))
          end (omega (arith, last, length-map u.announced (row_of_prefix 2 1))) c.fill_prefixes-at.ensures.out out
          c.fill_prefixes.ensures.out,
    )
