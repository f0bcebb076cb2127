use Rattle.std.proofs.Common.{length, refl, ap, arith}
use Rattle.octseq.specs.Parser.{window}
use Rattle.octseq_format.proofs.RowSteps.{row_moved, row_of_moved}
use Rattle.octseq_format.specs.Walk.{items_left}
use Rattle.octseq_bgp.specs.Fills.{Fills}
use Rattle.octseq_bgp.specs.OneParts.{one_attribute}
use Rattle.octseq_bgp.specs.Parts.{IsAttribute}
use Rattle.octseq_bgp.proofs.Moves.{attribute_moves}
use Rattle.octseq_bgp.proofs.Wholes.{one_fills}
use Rattle.octseq_mrt.specs.OneListed.{entry_from}
use Rattle.octseq_mrt.proofs.Filled.{no_entry, entry_fills, turns_least}
use Rattle.octseq_mrt.proofs.rib.skip_entry.Goals as goal

pub returns-in_err-parts-clause-malformed : goal.returns-in_err-parts-clause-malformed
returns-in_err-parts-clause-malformed g c = λ _.
    no_entry c.args.paths (window c.args.parser.now) (c.in_err-parts.ensures.malformed refl)

pub returns-in_err-_attributes-clause-malformed : goal.returns-in_err-_attributes-clause-malformed
returns-in_err-_attributes-clause-malformed g c = λ _ e v is.
    let fills = entry_fills c.args.paths (window c.args.parser.now) (window c.parse.new.parser) v _ e
    c.in_ok-parts.ensures.parts is in
    let w = window c.in_ok-parts.parts.octets in
    c.in_err-_attributes.ensures.malformed refl e.attributes fills.0
    (row_moved IsAttribute attribute_moves w fills.0 e.attributes fills.1.0, fills.1.1)

pub returns-clause-entry : goal.returns-clause-entry
returns-clause-entry g c =
    let p = c.in_ok-parts.parts in
    let w = window p.octets in
    let v = window c.parse_counted.new.parser in
    let row = items_left c.in_ok-_attributes._attributes in
    let all = c.in_ok-_attributes.ensures.value in
    let fills : Fills IsAttribute w row = (v, (row_of_moved IsAttribute w v row all.0, all.1)) in
    let e = entry_from (p.peer_index, (p.originated_time, (p.path_id, w))) row in
    (e, record { octets = w; parts = c.in_ok-parts.ensures.parts; attributes = fills })

pub returns-clause-least : goal.returns-clause-least
returns-clause-least g c = λ e v is.
    let w = window c.in_ok-parts.parts.octets in
    let u = window c.parse_counted.new.parser in
    let row = items_left c.in_ok-_attributes._attributes in
    let all = c.in_ok-_attributes.ensures.value in
    let same = one_fills one_attribute attribute_moves w e.attributes row (entry_fills c.args.paths
    (window c.args.parser.now) (window c.parse.new.parser) v _ e c.in_ok-parts.ensures.parts is)
    (u, (row_of_moved IsAttribute w u row all.0, all.1)) in
    let counted = c.in_ok-_attributes.ensures.counted in
    let least = turns_least (λ _. 0) row in
    omega (arith, ap length same, counted, least)
