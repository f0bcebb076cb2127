use Rattle.std.proofs.Common.{◌≡◌, ◌≤◌, List, [], length, sym, ◌∙◌, subst, rules}
use Rattle.octseq.proofs.WrittenBack.{AreOctets}
use Rattle.octseq_dns_scan.specs.Hex.{IsHexText}
use Rattle.octseq_dns_text.proofs.WordTexts.{hex_refused, hex_empty, if_some}
use Rattle.octseq_dns_text.specs.Words.{IsSomeHex}
use Rattle.octseq_dns_text.proofs.word.hex_octets.Goals as goal

pub returns-in-Ok-finish-clause-some : goal.returns-in-Ok-finish-clause-some
returns-in-Ok-finish-clause-some c =
    let word = c.args.word.now in
    let fed = c.in-Ok.ensures.ok in
    let read = fed.2 [] [] c.new.ensures in
    let is = c.in-Ok-finish.ensures.ok word fed.0 read in
    let same : c.feed.new.target.content ≡ fed.0 = search rules in
    if_some c.some_octets.result
    (λ found. (found.content ≡ c.feed.new.target.content) × (1 ≤ length found.content))
    (λ found. IsSomeHex word found.content)
    (λ found (copied, some). (
      some,
      subst AreOctets (sym (copied ∙ same)) read.each,
      subst (IsHexText word) (sym (copied ∙ same)) is,
    ))
    c.some_octets.ensures.some

pub returns-in-Ok-finish-clause-none : goal.returns-in-Ok-finish-clause-none
returns-in-Ok-finish-clause-none c = λ none octets few is.
    let word = c.args.word.now in
    let fed = c.in-Ok.ensures.ok in
    let read = fed.2 [] [] c.new.ensures in
    let same : c.feed.new.target.content ≡ fed.0 = search rules in
    hex_empty word fed.0 octets (sym same ∙ c.some_octets.ensures.none none)
    (c.in-Ok-finish.ensures.ok word fed.0 read) is.2 is.0

pub returns-in-Err-finish-clause-none : goal.returns-in-Err-finish-clause-none
returns-in-Err-finish-clause-none c = λ none octets few is.
    let word = c.args.word.now in
    let fed = c.in-Ok.ensures.ok in
    let read = fed.2 [] [] c.new.ensures in
    c.in-Err-finish.ensures.malformed word fed.0 octets read is.1 is.2

pub returns-in-Err-clause-none : goal.returns-in-Err-clause-none
returns-in-Err-clause-none c = λ none octets few is.
    let empty : length c.new-octets.result.content ≡ 0 = search rules in
    hex_refused c.new.result c.args.word.now c.new-octets.result.content c.feed.new.target.content c.new.ensures empty
    c.in-Err.field-0 c.in-Err.ensures octets few is.1 is.2
