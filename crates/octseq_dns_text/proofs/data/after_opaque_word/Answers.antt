use Rattle.std.proofs.Common.{◌≡◌, refl, sym, rules}
use Rattle.octseq_dns_scan.proofs.Taken.{word_once}
use Rattle.octseq_dns_scan.specs.Words.{ahead_of}
use Rattle.octseq_dns_text.specs.DataText.{opaque_word}
use Rattle.octseq_dns_text.proofs.data.after_opaque_word.Goals as goal

pub returns-else-eq-clause-none : goal.returns-else-eq-clause-none
returns-else-eq-clause-none c = λ none rest takes.
    let word = c.in-Some.word.octets.now in
    let same = (word_once opaque_word word (ahead_of c.args.words) rest (ahead_of c.next_word.new.self) takes
    c.in-Some.ensures.some).0 in
    let other : ¬ (word ≡ opaque_word) = search rules in
    other (sym same)

pub returns-in-None-clause-none : goal.returns-in-None-clause-none
returns-in-None-clause-none c = λ none rest takes. c.in-None.ensures.none refl opaque_word rest takes
