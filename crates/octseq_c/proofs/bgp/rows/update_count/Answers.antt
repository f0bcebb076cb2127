use Rattle.std.proofs.Common.{◌++◌, map, refl, arith, length-append}
use Rattle.std.proofs.lemmas.List.{length-map}
use Rattle.octseq_bgp.specs.Parsed.{update_of}
use Rattle.octseq_c.specs.BgpRows.{row_of_prefix}
use Rattle.octseq_c.proofs.bgp.rows.update_count.Goals as goal

pub returns : goal.returns
returns g c =
    let u = update_of c.args.update.now in
    let (attributes, are, n) = c.attributes_count-attributes.ensures.rows in
    let withdrawn = map (row_of_prefix 0 1) u.withdrawn in
    let announced = map (row_of_prefix 2 1) u.announced in
    let first = length-append withdrawn (attributes ++ announced) in
    let second = length-append attributes announced in
    let before = c.len.ensures in
    let after = c.len-2.ensures in (
      withdrawn ++ (attributes ++ announced),
      (attributes, are, refl),
      omega (
        arith,
        n,
        before,
        after,
        first,
        second,
        length-map u.withdrawn (row_of_prefix 0 1),
        length-map u.announced (row_of_prefix 2 1),
      ),
    )
