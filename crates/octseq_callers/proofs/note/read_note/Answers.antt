use Rattle.std.proofs.Common.{◌++◌, sym, ap, ◌∙◌}
use Rattle.octseq.proofs.Codes.{taken, took, pair_front, part_front}
use Rattle.octseq.specs.Integer.{octets_be}
use Rattle.octseq.specs.Parser.{window}
use Rattle.octseq.specs.Part.{part_of}
use Rattle.octseq.specs.Window.{rest}
use Rattle.octseq_callers.specs.Note.{mark, note_of}
use Rattle.octseq_callers.proofs.note.read_note.Goals as goal

pub returns-clause-taken : goal.returns-clause-taken
returns-clause-taken g c =
    let number = c.in_ok-number.number in
    let len = c.in_ok-len.len in
    let octets = g.R.Range.AsOctets.content c.in_ok-octets.octets in
    let marked = rest (window c.next_mark.new.parser) in
    let numbered = rest (window c.parse_u16_be.new.self) in
    let u = window c.parse_u8.new.self in
    let t = window c.parse_octets.new.self in
    let given = c.in_ok-octets.ensures in
    let words = part_front numbered (rest u) (rest t) octets 1 len
    (took (octets_be 1 len) c.in_ok-len.ensures.taken c.in_ok-len.ensures.octets)
    (taken u t c.from.result octets given.short.1 given.ok given.value) (given.length ∙ c.from.ensures) in
    let both = pair_front marked numbered (rest t) (octets_be 2 number) (part_of 1 octets)
    (took (octets_be 2 number) c.in_ok-number.ensures.taken c.in_ok-number.ensures.octets) words in
    pair_front (rest (window c.args.parser.now)) marked (rest t) mark (octets_be 2 number ++ part_of 1 octets)
    c.in_ok-next_mark.ensures.ok both
    ∙ ap (λ text. note_of number (g.R.Range.AsOctets.content text) ++ rest t) (sym c.in_ok-words.ensures.ok)
