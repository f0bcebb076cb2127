use Rattle.std.proofs.Common.{◌≡◌, ◌+◌, ◌<◌, length, subst, arith, rules}
use Rattle.octseq.specs.Integer.{octets_be}
use Rattle.octseq.specs.Parser.{window}
use Rattle.octseq.specs.Window.{rest}
use Rattle.octseq_dns_data.specs.Pieces.{split_number}
use Rattle.octseq_dns_data.proofs.Params.{KeyPasses, after_piece, are_keys, key_less, key_split, key_step, keys_from}
use Rattle.octseq_dns_data.proofs.Params.{KeysFrom, Same, no_more, piece_more, same_as}
use Rattle.octseq_dns_data.proofs.Pieces.{pass_end, pass_none}
use Rattle.octseq_dns_data.proofs.svc_params.form.are_keys.Goals as goal

pub returns-in_default-clause-no : goal.returns-in_default-clause-no
returns-in_default-clause-no c = λ _ are.
    let ahead = rest (window c.keys.ahead) in
    let from = keys_from c.args.octets.now are in
    let test = c.keys-test.true in
    let long = c.remaining.ensures.rest in
    pass_none (split_number 2) (octets_be 2) KeyPasses (λ key. key + 1) c.keys.least ahead
    (c.in_default.ensures.none (search rules)) (omega (arith, test, long)) (c.keys.invariant.same.no from.1)

pub returns-then-from-least-clause-no : goal.returns-then-from-least-clause-no
returns-then-from-least-clause-no c = λ _ are.
    let ahead = rest (window c.keys.ahead) in
    let from = keys_from c.args.octets.now are in
    let less = c.if-from-least.true in
    let same = c.from.ensures in
    let least = key_less c.keys.least ahead c.in-Ok.key (rest (window c.take_key.new.parser)) c.keys.invariant.each
    c.in-Ok.ensures.key (c.keys.invariant.same.no from.1) in
    omega (arith, less, same, least)

pub keys-preserved : goal.keys-preserved
keys-preserved c =
    let ahead = rest (window c.keys.ahead) in
    let key = c.in-Ok.key in
    let more = rest (window c.take_key.new.parser) in
    let so_far = c.keys.invariant in
    let found = c.in-Ok.ensures.key in
    let least = c.if-from-least.false in
    let same = c.from.ensures in
    let after = after_piece key_split ahead key more so_far.each found in
    let one = c.tick.ensures in
    let next : key + 1 ≡ c.from-least.result + 1 = search rules in
    let step = key_step c.keys.least ahead key more so_far.each found (omega (arith, least, same)) in
    record {
      same = same_as (subst (λ n. Same (KeysFrom n more) (KeysFrom c.keys.least ahead)) next step) so_far.same;
      each = after.0;
      some = omega (arith, one, so_far.some);
      least = omega (arith, one, so_far.least, piece_more key_split ahead key more found);
      turns = omega (arith, one, so_far.turns, after.2);
    }

pub returns-clause-least : goal.returns-clause-least
returns-clause-least c = λ _.
    let test = c.keys-test.false in
    let long = c.remaining.ensures.rest in
    let none = no_more (split_number 2) (rest (window c.keys.ahead)) (omega (arith, test, long)) in
    let least = c.keys.invariant.least in
    omega (arith, none, least)

pub returns-clause-yes : goal.returns-clause-yes
returns-clause-yes c = λ reported.
    let ahead = rest (window c.keys.ahead) in
    let test = c.keys-test.false in
    let long = c.remaining.ensures.rest in
    let some : 0 < length c.args.octets.now = search rules in
    are_keys c.args.octets.now some
    (c.keys.invariant.same.yes (pass_end (split_number 2) (octets_be 2) KeyPasses (λ key. key + 1) c.keys.least ahead
    (omega (arith, test, long))))
