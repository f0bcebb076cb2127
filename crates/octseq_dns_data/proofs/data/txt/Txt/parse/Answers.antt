use Rattle.std.proofs.Common.{◌≡◌, length, map, refl, sym, ap, ◌∙◌, subst, arith, rules}
use Rattle.std.proofs.lemmas.List.{length-map}
use Rattle.std.proofs.Math.Bool.{true≢false}
use Rattle.octseq.specs.Parser.{window}
use Rattle.octseq.specs.Window.{at, left, rest}
use Rattle.octseq_dns_data.specs.Strings.{HasString, HasStrings}
use Rattle.octseq_dns_data.specs.OneRow.{row_on, string_code, string_item}
use Rattle.octseq_dns_data.proofs.Rows.{none_of, reached_as}
use Rattle.octseq_dns_data.proofs.Strings.{IsFound, Taken, same_up_to, taken, no_strings, none_found, some_found}
use Rattle.octseq_dns_data.proofs.Strings.{strings_within, turns_each}
use Rattle.octseq_format.specs.Laws.{NoneAt}
use Rattle.octseq_format.specs.Row.{RowTo}
use Rattle.octseq_format.specs.Walk.{items_left}
use Rattle.octseq_dns_data.proofs.data.txt.Txt.parse.Goals as goal

pub returns-then-place-end-clause-malformed : goal.returns-then-place-end-clause-malformed
returns-then-place-end-clause-malformed g c = λ _ strings v has ends.
    let place = c.pos-place.ensures.position in
    let past = c.if-place-end.true in
    let on = row_on HasString string_item (window c.args.parser.now) v strings has.1 in
    omega (arith, place, past, on, ends)

pub returns-in_err-octets-clause-malformed : goal.returns-in_err-octets-clause-malformed
returns-in_err-octets-clause-malformed g c = λ _ strings v has ends.
    let place = c.pos-place.ensures.position in
    let ordered = c.pos-place.ensures.ordered in
    let before = c.if-place-end.false in
    let within = strings_within (window c.args.parser.now) strings v (omega (arith, place, ordered)) has.1 in
    true≢false (sym (c.in_err-octets.ensures.taken.variant.1 (omega (arith, place, before, within, ends))))

pub returns-in_err-strings-clause-malformed : goal.returns-in_err-strings-clause-malformed
returns-in_err-strings-clause-malformed g c = λ _ strings v has ends.
    let w = window c.args.parser.now in
    let before = c.if-place-end.false in
    let same = same_up_to w (window c.in_ok-octets.octets) c.pos-place.result c.args.end c.pos-place.ensures.position
    (omega (arith, before)) c.in_ok-octets.ensures.window in
    no_strings w c.args.end (subst (NoneAt (RowTo IsFound)) same (c.in_err-strings.ensures.malformed refl)) strings v
    has.1 ends

pub returns-then-is_empty-clause-malformed : goal.returns-then-is_empty-clause-malformed
returns-then-is_empty-clause-malformed g c = λ _ strings v has ends.
    let w = window c.args.parser.now in
    let place = c.pos-place.ensures.position in
    let before = c.if-place-end.false in
    let found = items_left c.in_ok-strings.strings in
    let none = none_found (window c.in_ok-octets.octets) (window c.parse_counted.new.parser) found (search rules)
    c.in_ok-strings.ensures.value in
    let same = ap left c.in_ok-octets.ensures.window in
    let here = none_of HasString string_item w v strings (omega (arith, place, before, none, same, ends)) has.1 in
    let empty = ap length here in
    let some = has.0 in
    omega (arith, empty, some)

-- what was read
read : (g : _) (c : goal.After-are_octets g) → Taken (window c.args.parser.now) c.args.end
    (map rest (items_left c.in_ok-strings.strings))
read g c =
    let w = window c.args.parser.now in
    let found = items_left c.in_ok-strings.strings in
    let v = window c.parse_counted.new.parser in
    let place = c.pos-place.ensures.position in
    let before = c.if-place-end.false in
    let few = c.in_ok-octets.ensures.taken.variant.0 refl in
    let ordered = c.pos-place.ensures.ordered in
    let same = same_up_to w (window c.in_ok-octets.octets) c.pos-place.result c.args.end place
    (omega (arith, before)) c.in_ok-octets.ensures.window in
    taken w c.args.end found v (record { each = search rules; ordered = search rules; within = search rules })
    (omega (arith, place, before)) (omega (arith, place, before, ordered, few))
    (subst (λ u. RowTo IsFound u found v) same c.in_ok-strings.ensures.value)

pub invariant_of-result : goal.invariant_of-result
invariant_of-result g c =
    let w = window c.args.parser.now in
    let taken = read g c in
    let found = items_left c.in_ok-strings.strings in
    let place = c.pos-place.ensures.position in
    let before = c.if-place-end.false in
    let few = c.in_ok-octets.ensures.taken.variant.0 refl in
    let ordered = c.pos-place.ensures.ordered in
    record {
      strings = (map rest found, ∣ (at c.args.end w, taken.row, refl) ∣₁);
      some = some_found found (search rules);
      begins = omega (arith, place, before);
      within = omega (arith, place, before, ordered, few);
      spelled = taken.spelled;
      short = taken.short;
    }

pub returns-clause-txt : goal.returns-clause-txt
returns-clause-txt g c =
    let w = window c.args.parser.now in
    let v = window c.parse_parser.new.self in
    let all = read g c.before in
    let found = items_left c.in_ok-strings.strings in
    let said = map rest found in
    let place = c.pos-place.ensures.position in
    let before = c.if-place-end.false in
    let same : at c.args.end w ≡ v =
    ap (λ end. at end w) (omega (arith, place, before)) ∙ sym c.in_ok-octets.ensures.taken.ok in
    subst (λ v. HasStrings w c.result-1.given.0.0 v) same (subst (λ strings. HasStrings w strings (at c.args.end w))
    (reached_as string_code HasString string_item w (at c.args.end w) c.args.end said c.result-1.given.0 refl all.row)
    (some_found found (search rules), all.row))

pub returns-clause-least : goal.returns-clause-least
returns-clause-least g c =
    let w = window c.args.parser.now in
    let all = read g c.before in
    let found = items_left c.in_ok-strings.strings in
    let said = map rest found in
    let same : said ≡ _ =
    reached_as string_code HasString string_item w (at c.args.end w) c.args.end said c.result-1.given.0 refl all.row in
    let long = ap length same in
    let kept = length-map found rest in
    let each = turns_each found in
    let counted = c.in_ok-strings.ensures.counted in
    omega (arith, long, kept, each, counted)
