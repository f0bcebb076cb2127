use Rattle.std.proofs.Common.{◌≡◌, [], ◌∷◌, ◌++◌, length, ap, ◌∙◌, append_assoc, rules}
use Rattle.std.proofs.lemmas.List.{nil_from_length}
use Rattle.octseq_dns_scan.specs.Spelled.{is_special_in_string}
use Rattle.octseq_dns_scan.proofs.Spellings.{backslash, reads_more, reads_all, reads_fails}
use Rattle.octseq_dns_scan.proofs.string.append_octets.Goals as goal

pub unreachable-requires : goal.unreachable-requires
unreachable-requires g c =
    let so_far = c.octets.invariant in
    let some : ¬ (c.octets.ahead.now ≡ []) = search rules in
    absurd (reads_fails (is_special_in_string c.args.quoted) so_far.done c.args.text.now c.octets.ahead.now so_far.reads
    some (c.in_default.ensures.none (search rules)) c.requires.0 c.requires.1)

pub octets-preserved : goal.octets-preserved
octets-preserved g c =
    let so_far = c.octets.invariant in
    let octet = c.in-Some.octet in
    let taken = c.in-Some.ensures.some in
    let before = g.B.AsOctets.content c.octets.target in
    let made : g.B.AsOctets.content c.append_slice.new.self ≡ before ++ octet ∷ [] = search rules in
    record {
      done = so_far.done ++ octet ∷ [];
      reads = reads_more (is_special_in_string c.args.quoted) (backslash c.args.quoted) so_far.done c.args.text.now
          c.octets.ahead.now taken.0 c.in-Some.rest.now octet so_far.reads taken.1 taken.2;
      appended = made ∙ ap (λ l. l ++ octet ∷ []) so_far.appended
          ∙ append_assoc (g.B.AsOctets.content c.args.target.now) so_far.done (octet ∷ []);
      borrows = c.append_slice.ensures.borrows ∙ so_far.borrows;
    }

pub returns-clause-ok : goal.returns-clause-ok
returns-clause-ok g c =
    let so_far = c.octets.invariant in
    let over : length c.octets.ahead.now ≡ 0 = search rules in
    let end = nil_from_length c.octets.ahead.now over in (
      so_far.done,
      reads_all (is_special_in_string c.args.quoted) so_far.done c.args.text.now c.octets.ahead.now so_far.reads end,
      so_far.appended,
    )
