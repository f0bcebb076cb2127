use Rattle.std.proofs.Common.{◌<◌, length, arith, rules}
use Rattle.octseq.specs.Parser.{window}
use Rattle.octseq.specs.Part.{part_of}
use Rattle.octseq.specs.Window.{rest}
use Rattle.octseq_dns_data.specs.Pieces.{split_part}
use Rattle.octseq_dns_data.proofs.Params.{IdPasses, after_piece, are_ids, id_some, id_split}
use Rattle.octseq_dns_data.proofs.Params.{id_step, ids_from, no_more, piece_more}
use Rattle.octseq_dns_data.proofs.Params.{same_as}
use Rattle.octseq_dns_data.proofs.Pieces.{pass_end, pass_none}
use Rattle.octseq_dns_data.proofs.svc_params.form.are_ids.Goals as goal

pub returns-in_default-clause-no : goal.returns-in_default-clause-no
returns-in_default-clause-no c = λ _ are.
    let ahead = rest (window c.ids.ahead) in
    let from = ids_from c.args.octets.now are in
    let test = c.ids-test.true in
    let long = c.remaining.ensures.rest in
    pass_none (split_part 1) (part_of 1) IdPasses (λ _. tt) tt ahead (c.in_default.ensures.none (search rules))
    (omega (arith, test, long)) (c.ids.invariant.same.no from.1)

pub returns-then-remaining-eq0-clause-no : goal.returns-then-remaining-eq0-clause-no
returns-then-remaining-eq0-clause-no c = λ _ are.
    let ahead = rest (window c.ids.ahead) in
    let from = ids_from c.args.octets.now are in
    let none = c.if-remaining-eq0.true in
    let long = c.remaining-in-ids.ensures.rest in
    let some = id_some ahead (rest (window c.in-Ok.id)) (rest (window c.take_id.new.parser)) c.ids.invariant.each
    c.in-Ok.ensures.id (c.ids.invariant.same.no from.1) in
    omega (arith, none, long, some)

pub ids-preserved : goal.ids-preserved
ids-preserved c =
    let ahead = rest (window c.ids.ahead) in
    let id = rest (window c.in-Ok.id) in
    let more = rest (window c.take_id.new.parser) in
    let so_far = c.ids.invariant in
    let found = c.in-Ok.ensures.id in
    let some = c.if-remaining-eq0.false in
    let long = c.remaining-in-ids.ensures.rest in
    let after = after_piece id_split ahead id more so_far.each found in
    let one = c.tick.ensures in
    record {
      same = same_as (id_step ahead id more so_far.each found (omega (arith, some, long))) so_far.same;
      each = after.0;
      some = omega (arith, one, so_far.some);
      least = omega (arith, one, so_far.least, piece_more id_split ahead id more found);
      turns = omega (arith, one, so_far.turns, after.2);
    }

pub returns-clause-least : goal.returns-clause-least
returns-clause-least c = λ _.
    let test = c.ids-test.false in
    let long = c.remaining.ensures.rest in
    let none = no_more (split_part 1) (rest (window c.ids.ahead)) (omega (arith, test, long)) in
    let least = c.ids.invariant.least in
    omega (arith, none, least)

pub returns-clause-yes : goal.returns-clause-yes
returns-clause-yes c = λ reported.
    let ahead = rest (window c.ids.ahead) in
    let test = c.ids-test.false in
    let long = c.remaining.ensures.rest in
    let some : 0 < length c.args.octets.now = search rules in
    are_ids c.args.octets.now some
    (c.ids.invariant.same.yes (pass_end (split_part 1) (part_of 1) IdPasses (λ _. tt) tt ahead
    (omega (arith, test, long))))
