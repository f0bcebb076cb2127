use Rattle.std.proofs.Common.{◌<◌, ◌∙◌, length, rules, arith}
use Rattle.octseq.proofs.Codes.{taken, took, not_taken, pair_front, part_front, no_first}
use Rattle.octseq.proofs.Codes.{no_second, no_integer, no_part_length, no_part_value, integer_code}
use Rattle.octseq.proofs.Errors.{short_of}
use Rattle.octseq.specs.Integer.{octets_be}
use Rattle.octseq.specs.Parser.{window}
use Rattle.octseq.specs.Part.{part_of}
use Rattle.octseq.specs.Window.{rest}
use Rattle.octseq_callers.proofs.records.next_record.Goals as goal

pub returns-in_err-key-clause-malformed : goal.returns-in_err-key-clause-malformed
returns-in_err-key-clause-malformed g c = λ _.
    let w = window c.args.parser.now in
    no_first (λ key. key < 65536) (octets_be 2) (λ value. length value < 256) (part_of 1) (rest w)
    (no_integer w 2 (not_taken c.in_err-key.ensures.taken))

pub returns-in_err-len-clause-malformed : goal.returns-in_err-len-clause-malformed
returns-in_err-len-clause-malformed g c = λ _.
    let key = c.in_ok-key.key in
    let w = window c.args.parser.now in
    let v = window c.parse_u16_be.new.self in
    no_second (λ key. key < 65536) (octets_be 2) (λ value. length value < 256) (part_of 1) (rest w) (rest v) key
    (integer_code 2) (omega arith)
    (took (octets_be 2 key) c.in_ok-key.ensures.taken c.in_ok-key.ensures.octets)
    (no_part_length v 1 (not_taken c.in_err-len.ensures.taken))

pub returns-in_err-value-clause-malformed : goal.returns-in_err-value-clause-malformed
returns-in_err-value-clause-malformed g c = λ malformed.
    let key = c.in_ok-key.key in
    let len = c.in_ok-len.len in
    let w = window c.args.parser.now in
    let v = window c.parse_u16_be.new.self in
    let u = window c.parse_u8.new.self in
    let few = c.in_err-value.ensures.short.0 (short_of (g.row.R-Range.Denot) c.in_err-value.field-0.0 (search rules)) in
    no_second (λ key. key < 65536) (octets_be 2) (λ value. length value < 256) (part_of 1) (rest w) (rest v) key
    (integer_code 2) (omega arith)
    (took (octets_be 2 key) c.in_ok-key.ensures.taken c.in_ok-key.ensures.octets)
    (no_part_value (rest v) u 1 len (omega arith)
    (took (octets_be 1 len) c.in_ok-len.ensures.taken c.in_ok-len.ensures.octets) (omega arith))

pub returns-clause-taken : goal.returns-clause-taken
returns-clause-taken g c =
    let key = c.in_ok-key.key in
    let len = c.in_ok-len.len in
    let value = g.R.Range.AsOctets.content c.in_ok-value.value in
    let w = window c.args.parser.now in
    let v = window c.parse_u16_be.new.self in
    let u = window c.parse_u8.new.self in
    let t = window c.parse_octets.new.self in
    let given = c.in_ok-value.ensures in
    pair_front (rest w) (rest v) (rest t) (octets_be 2 key) (part_of 1 value)
    (took (octets_be 2 key) c.in_ok-key.ensures.taken c.in_ok-key.ensures.octets)
    (part_front (rest v) (rest u) (rest t) value 1 len
    (took (octets_be 1 len) c.in_ok-len.ensures.taken c.in_ok-len.ensures.octets)
    (taken u t c.from.result value given.short.1 given.ok given.value) (given.length ∙ c.from.ensures))
