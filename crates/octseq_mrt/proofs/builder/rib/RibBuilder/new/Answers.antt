use Rattle.std.proofs.Common.{◌≡◌, rules, refl, arith}
use Rattle.std.specs.Prelude.{IsTrue}
use Rattle.octseq.specs.Integer.{octets_be}
use Rattle.octseq.proofs.Written.{written_1, written_4}
use Rattle.octseq_mrt.specs.Building.{same_rib}
use Rattle.octseq_mrt.proofs.Listing.{rib_begun}
use Rattle.octseq_mrt.proofs.builder.rib.RibBuilder.new.Goals as goal

pub invariant_of-result : goal.invariant_of-result
invariant_of-result g c =
    let yes : IsTrue c.is_prefix_of.result = search rules in
    let prefix = c.prefix_octets-len.ensures in
    let first : c.to_be_bytes.result ≡ octets_be 4 c.args.sequence = search (rules, written_4) in
    let second : c.to_be_bytes-2.result ≡ octets_be 1 c.args.prefix.now.len = search (rules, written_1) in
    let done = c.in-Ok.ensures in
    let begun = rib_begun {paths = c.args.paths} c.args.family c.args.sequence c.args.prefix.now _ (omega arith)
    (c.is_prefix_of.ensures.fits.0 yes) (c.is_prefix_of.ensures.most yes) prefix.many
    (rw (done.ok, c.truncate.ensures.content, first, second, prefix.octets) refl)
    (rw (done.ok, c.truncate.ensures.content) done.few) in
    record { rib = begun }

pub returns-in-Ok-clause-rib : goal.returns-in-Ok-clause-rib
returns-in-Ok-clause-rib g c =
    let yes : IsTrue c.is_prefix_of.result = search rules in
    let prefix = c.prefix_octets-len.ensures in
    let first : c.to_be_bytes.result ≡ octets_be 4 c.args.sequence = search (rules, written_4) in
    let second : c.to_be_bytes-2.result ≡ octets_be 1 c.args.prefix.now.len = search (rules, written_1) in
    let done = c.in-Ok.ensures in
    same_rib c.result-1.given.0 (rib_begun {paths = c.args.paths} c.args.family c.args.sequence c.args.prefix.now _
    (omega arith) (c.is_prefix_of.ensures.fits.0 yes) (c.is_prefix_of.ensures.most yes) prefix.many
    (rw (done.ok, c.truncate.ensures.content, first, second, prefix.octets) refl)
    (rw (done.ok, c.truncate.ensures.content) done.few)) refl
