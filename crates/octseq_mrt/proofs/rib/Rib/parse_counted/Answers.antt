use Rattle.std.proofs.Common.{refl, ap, arith}
use Rattle.octseq.specs.Parser.{window}
use Rattle.octseq_bgp.specs.OneParts.{one_number, one_prefix}
use Rattle.octseq_mrt.specs.Listed.{entries_listed}
use Rattle.octseq_mrt.specs.ReadTurns.{entries_turns}
use Rattle.octseq_mrt.proofs.Filled.{ahead_as, no_head, no_many, no_end, all_of}
use Rattle.octseq_mrt.proofs.rib.Rib.parse_counted.Goals as goal

pub returns-in_err-sequence-clause-malformed : goal.returns-in_err-sequence-clause-malformed
returns-in_err-sequence-clause-malformed g c = λ _ rib is.
    let none = rw c.afi.ensures at (c.in_err-sequence.ensures.malformed refl) in
    no_head (one_number 4) (one_prefix _) (entries_listed c.args.paths) (window c.args.parser) none
    (rib.sequence, (rib.prefix, rib.entries)) is.1

pub returns-in_err-skip_entries-clause-malformed : goal.returns-in_err-skip_entries-clause-malformed
returns-in_err-skip_entries-clause-malformed g c = λ _ rib is.
    let head = c.in_ok-sequence in
    let at = rw c.afi.ensures at head.ensures.head in
    no_many (one_number 4) (one_prefix _) (entries_listed c.args.paths) (window c.args.parser)
    (window c.parse_head.new.parser) (head.sequence, ((head.len, window head.octets), head.count)) at
    (c.in_err-skip_entries.ensures.malformed refl) (rib.sequence, (rib.prefix, rib.entries)) is.1

pub returns-then-remaining-gt0-clause-malformed : goal.returns-then-remaining-gt0-clause-malformed
returns-then-remaining-gt0-clause-malformed g c = λ _ rib is.
    let head = c.in_ok-sequence in
    let at = rw c.afi.ensures at head.ensures.head in
    let all = c.in_ok-skip_entries.ensures.entries in
    no_end (one_number 4) (one_prefix _) (entries_listed c.args.paths) (window c.args.parser)
    (window c.parse_head.new.parser) (window c.skip_entries.new.parser)
    (head.sequence, ((head.len, window head.octets), head.count)) all.0 at all.1
    (omega (arith, c.remaining.ensures.left, c.if-remaining-gt0.true)) (rib.sequence, (rib.prefix, rib.entries)) is.1

pub invariant_of-result : goal.invariant_of-result
invariant_of-result g c =
    let all = c.in_ok-skip_entries.ensures.entries in
    let v = window c.skip_entries.new.parser in
    let none = c.if-remaining-gt0.false in
    record { ahead = (all.0, ∣ (v, (all.1.1, omega (arith, c.remaining.ensures.left, none))) ∣₁) }

pub returns-clause-rib : goal.returns-clause-rib
returns-clause-rib g c =
    let head = c.in_ok-sequence in
    let at = rw c.afi.ensures at head.ensures.head in
    let all = c.in_ok-skip_entries.ensures.entries in
    let whole = all_of (one_number 4) (one_prefix _) (entries_listed c.args.paths) (window c.args.parser)
    (window c.parse_head.new.parser) (window c.skip_entries.new.parser)
    (head.sequence, ((head.len, window head.octets), head.count)) all.0 at all.1
    (omega (arith, c.remaining.ensures.left, c.if-remaining-gt0.false)) c.result-1.given.0 in
    (refl, whole)

pub returns-clause-least : goal.returns-clause-least
returns-clause-least g c =
    let all = c.in_ok-skip_entries.ensures.entries in
    let v = window c.skip_entries.new.parser in
    let same = ahead_as (entries_listed c.args.paths) (window c.parse_head.new.parser) all.0 c.result-1.given.0
    (v, (all.1.1, omega (arith, c.remaining.ensures.left, c.if-remaining-gt0.false))) in
    let least = c.in_ok-skip_entries.ensures.least all.0 v all.1 in
    omega (arith, ap entries_turns same, least)
