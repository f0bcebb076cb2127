use Rattle.std.proofs.Common.{◌≡◌, ◌+◌, true, length, sym, ap, ◌∙◌, subst, rules}
use Rattle.std.proofs.lemmas.Result.{on_ok_weaker}
use Rattle.octseq.specs.Limit.{IsWithin}
use Rattle.octseq_dns_scan.specs.Spelled.{is_special_in_string, IsUnscanned}
use Rattle.octseq_dns_scan.specs.declared.string.StringError.{StringError}
use Rattle.octseq_dns_scan.proofs.Limits.{past_at, err_weaker}
use Rattle.octseq_dns_scan.proofs.Spellings.{backslash, octets_once}
use Rattle.octseq_dns_scan.proofs.string.scan_string.Goals as goal

pub returns-in_default-clause-refused : goal.returns-in_default-clause-refused
returns-in_default-clause-refused g c = c.in_default.ensures.none (search rules)

pub returns-in_default-octets_len-clause-refused : goal.returns-in_default-octets_len-clause-refused
returns-in_default-octets_len-clause-refused g c = λ octets spells.
    c.in_default-octets_len.ensures.none (search rules) octets (c.in-Some.ensures.from octets spells)

pub returns-then-not-is_within-clause-refused : goal.returns-then-not-is_within-clause-refused
returns-then-not-is_within-clause-refused g c =
    let found = c.in-Some-octets_len.ensures.some in
    let past : ¬ IsWithin c.args.max c.in-Some-octets_len.len = search rules in (
      found.0,
      c.in-Some.ensures.to found.0 found.1,
      past_at c.args.max c.in-Some-octets_len.len (length found.0) found.2 past,
    )

pub returns-then-not-has_room-clause-refused : goal.returns-then-not-has_room-clause-refused
returns-then-not-has_room-clause-refused g c =
    let found = c.in-Some-octets_len.ensures.some in
    let len = c.in-Some-octets_len.len in
    let within : IsWithin c.args.max len = search rules in
    let old = length (g.B.AsOctets.content c.args.target.now) in
    let past : ¬ IsWithin g.B.AsOctets.limit (old + len) = search rules in (
      found.0,
      (c.in-Some.ensures.to found.0 found.1, subst (IsWithin c.args.max) (sym found.2) within),
      past_at g.B.AsOctets.limit (old + len) (old + length found.0) (ap (λ n. old + n) found.2) past,
    )

pub returns-clause-ok : goal.returns-clause-ok
returns-clause-ok g c =
    let found = c.in-Some-octets_len.ensures.some in
    let quoted = c.in-Some.quoted in
    let within : IsWithin c.args.max c.in-Some-octets_len.len = search rules in
    on_ok_weaker c.append_octets.result
    (λ made.
    let same = octets_once (is_special_in_string quoted) (backslash quoted) made.0 found.0 c.in-Some.spelled.now made.1
    found.1 in (
      made.0,
      (
        c.in-Some.ensures.to made.0 made.1,
        subst (IsWithin c.args.max) (sym (ap length same ∙ found.2)) within,
      ),
      made.2,
    ))
    c.append_octets.ensures.ok

pub returns-clause-refused : goal.returns-clause-refused
returns-clause-refused g c =
    let found = c.in-Some-octets_len.ensures.some in
    let len = c.in-Some-octets_len.len in
    let within : IsWithin c.args.max len = search rules in
    let before = g.B.AsOctets.content c.args.target.now in
    let room : IsWithin g.B.AsOctets.limit (length before + len) = search rules in
    let fits = subst (λ n. IsWithin g.B.AsOctets.limit (length before + n)) (sym found.2) room in
    let is = λ (e : StringError).
    IsUnscanned e c.args.max g.B.AsOctets.limit g.B.AsOctets.asks c.args.word.now before in
    err_weaker c.append_octets.result (λ e. (e ≡ StringError.Memory) × (g.B.AsOctets.asks ≡ true)) is
    (λ e refused. subst is (sym refused.0) (
      found.0,
      (c.in-Some.ensures.to found.0 found.1, subst (IsWithin c.args.max) (sym found.2) within),
      fits,
      refused.1,
    ))
    c.append_octets.ensures.refused
