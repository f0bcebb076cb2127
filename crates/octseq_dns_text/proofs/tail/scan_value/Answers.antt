use Rattle.std.proofs.Common.{◌≡◌, ◌+◌, ◌≤◌, List, [], ◌∷◌, length, refl, sym, ◌∙◌, subst, rules, arith}
use Rattle.octseq_dns_scan.specs.Word.{TakesWord}
use Rattle.octseq_dns_scan.specs.Words.{ahead_of, offset_of}
use Rattle.octseq_dns_text.proofs.ReadTexts.{reads_malformed, reads_ok, reads_short}
use Rattle.octseq_dns_text.proofs.StringTexts.{value_first, value_none, value_short, value_long, value_after}
use Rattle.octseq_dns_text.specs.Tails.{IsLongString}
use Rattle.octseq_dns_text.proofs.tail.scan_value.Goals as goal

pub returns-in_default-clause-reads : goal.returns-in_default-clause-reads
returns-in_default-clause-reads g c =
    let ahead = ahead_of c.args.words in
    let start = offset_of c.args.words in
    rw c.offset.ensures (reads_malformed
    (IsLongString c.args.least) g.B.AsOctets.limit g.B.AsOctets.asks ahead start start
    (g.B.AsOctets.content c.args.target.now) (g.B.AsOctets.content c.args.target.now)
    (value_none c.args.least ahead start c.requires (c.in_default.ensures.none refl)))

pub returns-in_default-string_len-clause-reads : goal.returns-in_default-string_len-clause-reads
returns-in_default-string_len-clause-reads g c =
    let ahead = ahead_of c.args.words in
    let start = offset_of c.args.words in
    rw c.in-Some.ensures.offset (reads_malformed (IsLongString c.args.least) g.B.AsOctets.limit g.B.AsOctets.asks ahead
    start start (g.B.AsOctets.content c.args.target.now) (g.B.AsOctets.content c.args.target.now)
    (value_first c.args.least c.in-Some.word.octets.now ahead (ahead_of c.next_word.new.self) start c.requires
    c.in-Some.ensures.some (λ octets spells long. c.in_default-string_len.ensures.none refl octets spells)))

pub returns-then-len-least-clause-reads : goal.returns-then-len-least-clause-reads
returns-then-len-least-clause-reads g c =
    let ahead = ahead_of c.args.words in
    let start = offset_of c.args.words in
    let (octets, spells, long) = c.in-Some-string_len.ensures.some in
    rw c.in-Some.ensures.offset (reads_malformed (IsLongString c.args.least) g.B.AsOctets.limit g.B.AsOctets.asks ahead
    start start (g.B.AsOctets.content c.args.target.now) (g.B.AsOctets.content c.args.target.now)
    (value_first c.args.least c.in-Some.word.octets.now ahead (ahead_of c.next_word.new.self) start c.requires
    c.in-Some.ensures.some (λ other also. value_short c.args.least c.in-Some-string_len.len c.in-Some.word.octets.now
    octets other c.if-len-least.true spells long also)))

pub returns-then-not-is_at_end-clause-reads : goal.returns-then-not-is_at_end-clause-reads
returns-then-not-is_at_end-clause-reads g c =
    let ahead = ahead_of c.args.words in
    let start = offset_of c.args.words in
    let rest = ahead_of c.next_word.new.self in
    let (octets, spells, long) = c.in-Some-string_len.ensures.some in
    let some : ¬ (rest ≡ []) = search rules in
    let enough : c.args.least ≤ length octets = omega (arith, c.if-len-least.false, long) in
    rw c.offset-then-not-is_at_end.ensures (reads_malformed (IsLongString c.args.least) g.B.AsOctets.limit
    g.B.AsOctets.asks ahead start (offset_of c.next_word.new.self) (g.B.AsOctets.content c.args.target.now)
    (g.B.AsOctets.content c.args.target.now)
    (value_after c.args.least c.in-Some.word.octets.now octets ahead rest start (offset_of c.next_word.new.self)
    c.in-Some.ensures.some c.in-Some.ensures.end spells enough some))

pub unreachable-requires : goal.unreachable-requires
unreachable-requires g c =
    let (octets, spells, long) = c.in-Some-string_len.ensures.some in
    let none = rw c.in-Err-Malformed.field-0-is at c.in-Err-Malformed.ensures.refused in
    absurd (none octets spells)

pub returns-in-Ok-clause-reads : goal.returns-in-Ok-clause-reads
returns-in-Ok-clause-reads g c =
    let word = c.in-Some.word.octets.now in
    let rest = ahead_of c.next_word.new.self in
    let none : rest ≡ [] = search rules in
    let (octets, spells, long) = c.in-Some-string_len.ensures.some in
    let (other, within, made) = c.in-Ok.ensures.ok in
    let enough : c.args.least ≤ c.in-Some-string_len.len = c.if-len-least.false in
    reads_ok (IsLongString c.args.least) g.B.AsOctets.limit g.B.AsOctets.asks (ahead_of c.args.words)
    (offset_of c.args.words) (g.B.AsOctets.content c.args.target.now) (g.B.AsOctets.content c.scan_string.new.target)
    (word ∷ []) other (rest, c.in-Some.ensures.some, none) (
      word,
      refl,
      within.0,
      value_long c.args.least c.in-Some-string_len.len word octets other enough spells long
          within.0,
    )
    made

pub returns-in-Err-Short-clause-reads : goal.returns-in-Err-Short-clause-reads
returns-in-Err-Short-clause-reads g c =
    let word = c.in-Some.word.octets.now in
    let rest = ahead_of c.next_word.new.self in
    let none : rest ≡ [] = search rules in
    let (octets, spells, long) = c.in-Some-string_len.ensures.some in
    let refused = rw c.in-Err-Short.field-0-is at c.in-Err-Short.ensures.refused in
    let (other, within, past) = refused in
    let enough : c.args.least ≤ c.in-Some-string_len.len = c.if-len-least.false in
    reads_short (IsLongString c.args.least) g.B.AsOctets.limit g.B.AsOctets.asks (ahead_of c.args.words)
    (offset_of c.args.words) (g.B.AsOctets.content c.args.target.now) (g.B.AsOctets.content c.scan_string.new.target)
    (word ∷ []) other (rest, c.in-Some.ensures.some, none) (
      word,
      refl,
      within.0,
      value_long c.args.least c.in-Some-string_len.len word octets other enough spells long
          within.0,
    )
    past
