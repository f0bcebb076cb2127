use Rattle.std.proofs.Common.{◌≡◌, ◌++◌, ◌∷◌, map, drop, set, length, ap, ◌∙◌, arith}
use Rattle.std.proofs.lemmas.List.{length-map}
use Rattle.octseq_mrt.specs.Parsed.{entries_left, rib_of}
use Rattle.octseq_c.specs.MrtRows.{row_of_entry, row_of_rib}
use Rattle.octseq_c.proofs.BgpFilled.{first_last}
use Rattle.octseq_c.proofs.mrt.rows.fill_rib.Goals as goal

pub returns : goal.returns
returns g c =
    let old = c.args.out.now in
    let entries = entries_left c.args.rib.now.entries in
    let more = map row_of_entry entries in
    let one = row_of_rib (rib_of c.args.rib.now) in
    let end = c.fill_entries-end.result in
    let full : end ≡ length (one ∷ more) = omega
    (arith, c.fill_entries-end.ensures.end, length-map entries row_of_entry) in
    ap (λ out. set out 0 c.rib_row.result) c.fill_entries-end.ensures.out
    ∙ first_last old (more ++ drop end old) c.rib_row.result (omega (arith, c.requires.room))
    ∙ ap (λ row. row ∷ (more ++ drop end old)) c.rib_row.ensures
    ∙ ap (λ k. (one ∷ more) ++ drop k old) full
