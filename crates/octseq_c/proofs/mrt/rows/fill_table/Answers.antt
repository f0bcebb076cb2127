use Rattle.std.proofs.Common.{◌≡◌, ◌++◌, ◌∷◌, map, drop, set, length, ap, ◌∙◌, arith}
use Rattle.std.proofs.lemmas.List.{length-map}
use Rattle.octseq_mrt.specs.Parsed.{peers_left, table_of}
use Rattle.octseq_c.specs.MrtRows.{row_of_peer, row_of_table}
use Rattle.octseq_c.proofs.BgpFilled.{first_last}
use Rattle.octseq_c.proofs.mrt.rows.fill_table.Goals as goal

pub returns : goal.returns
returns g c =
    let old = c.args.out.now in
    let peers = peers_left c.args.table.now.peers in
    let more = map row_of_peer peers in
    let one = row_of_table (table_of c.args.table.now) in
    let end = c.fill_peers-end.result in
    let full : end ≡ length (one ∷ more) = omega (arith, c.fill_peers-end.ensures.end, length-map peers row_of_peer) in
    ap (λ out. set out 0 c.table_row.result) c.fill_peers-end.ensures.out
    ∙ first_last old (more ++ drop end old) c.table_row.result (omega (arith, c.requires))
    ∙ ap (λ row. row ∷ (more ++ drop end old)) c.table_row.ensures
    ∙ ap (λ k. (one ∷ more) ++ drop k old) full
