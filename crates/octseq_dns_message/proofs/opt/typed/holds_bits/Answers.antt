use Rattle.std.proofs.Common.{◌≡◌, ◌+◌, ◌-◌, ◌*◌, ◌/◌, ◌^◌, [], ◌∷◌, ◌++◌, length, sym, ap, ◌∙◌, eq-eqb, arith, rules}
use Rattle.std.proofs.lemmas.Bool.Decides.{Decides-eqb}
use Rattle.octseq_dns_message.proofs.OptionData.{low_end}
use Rattle.octseq_dns_message.proofs.opt.typed.holds_bits.Goals as goal

pub returns-in-Some : goal.returns-in-Some
returns-in-Some c =
    let octets = c.args.octets.now in
    let wide : c.from.result ≡ c.args.bits = search rules in
    let again : c.from-in-Some.result ≡ c.args.bits = search rules in
    let is = c.if-octets-from.false in
    let room : length octets ≡ (c.args.bits + 7) / 8 = omega (arith, wide, is) in
    let whole : octets ≡ c.in-Some.field-0-1.now ++ c.in-Some.last.now ∷ [] = search rules in
    let low = low_end octets c.in-Some.field-0-1.now c.in-Some.last.now c.args.bits c.weight.result whole room
    (c.weight.ensures ∙ ap (λ n. 2 ^ (8 * length octets - n)) again) in
    (λ zero. (room, low ∙ (Decides-eqb _ _).0 zero), λ holds. eq-eqb _ _ (sym low ∙ holds.1))
