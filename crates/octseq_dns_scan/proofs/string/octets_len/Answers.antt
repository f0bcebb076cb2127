use Rattle.std.proofs.Common.{◌≡◌, [], ◌∷◌, ◌++◌, length, ap, ◌∙◌, arith, rules}
use Rattle.std.proofs.lemmas.List.{length-append, nil_from_length}
use Rattle.octseq_dns_scan.specs.Spelled.{is_special_in_string}
use Rattle.octseq_dns_scan.proofs.Spellings.{backslash, octet_some, reads_more, reads_all, reads_fails}
use Rattle.octseq_dns_scan.proofs.string.octets_len.Goals as goal

pub returns-in_err-rest-clause-none : goal.returns-in_err-rest-clause-none
returns-in_err-rest-clause-none c = λ _.
    let so_far = c.octets.invariant in
    let some : ¬ (c.octets.ahead.now ≡ []) = search rules in
    reads_fails (is_special_in_string c.args.quoted) so_far.done c.args.text.now c.octets.ahead.now so_far.reads some
    (c.in_err-rest.ensures.none (search rules))

pub octets-preserved : goal.octets-preserved
octets-preserved c =
    let so_far = c.octets.invariant in
    let octet = c.in_ok-rest.field-0-0 in
    let rest = c.in_ok-rest.rest.now in
    let taken = c.in_ok-rest.ensures.some in
    let special = is_special_in_string c.args.quoted in
    let some = octet_some special octet taken.0 taken.2 in
    let size = ap length taken.1 ∙ length-append taken.0 rest in
    let count = length-append so_far.done (octet ∷ []) in
    let counted = so_far.counted in
    let room = so_far.room in
    record {
      done = so_far.done ++ octet ∷ [];
      reads = reads_more special (backslash c.args.quoted) so_far.done c.args.text.now c.octets.ahead.now taken.0 rest
          octet so_far.reads taken.1 taken.2;
      counted = omega (arith, count, counted);
      room = omega (arith, some, size, room);
    }

pub returns-clause-some : goal.returns-clause-some
returns-clause-some c =
    let so_far = c.octets.invariant in
    let over : length c.octets.ahead.now ≡ 0 = search rules in
    let end = nil_from_length c.octets.ahead.now over in (
      so_far.done,
      reads_all (is_special_in_string c.args.quoted) so_far.done c.args.text.now c.octets.ahead.now so_far.reads end,
      so_far.counted,
    )
