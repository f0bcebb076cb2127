use Rattle.std.proofs.Common.{arith}
use Rattle.octseq_utf8.specs.declared.finder.FirstPart.TheVariants.{Encoding, Bad}
use Rattle.octseq_utf8.proofs.Search.{at_place, octet_front, after_more, after_word, after_fault}
use Rattle.octseq_utf8.proofs.finder.skip_words.Goals as goal

pub loop-at-preserved-then-octets-at-lt128 : goal.loop-at-preserved-then-octets-at-lt128
loop-at-preserved-then-octets-at-lt128 c =
    rw c.tick.ensures
    (after_more _ _ _ _ _ 1 c.loop-at.invariant (octet_front c.args.octets.now c.loop-at.at
    (omega (arith, c.saturating_sub-words.ensures)) c.if-octets-at-lt128.true))

pub loop-at-preserved-then-begins_two : goal.loop-at-preserved-then-begins_two
loop-at-preserved-then-begins_two c =
    rw c.tick.ensures
    (after_word _ _ _ _ _ _ 2 c.loop-at.invariant (omega (arith, c.saturating_sub-words.ensures)) c.word_at-word.ensures
    (omega arith) (c.begins_two.ensures c.if-begins_two.true))

pub loop-at-preserved-then-begins_three : goal.loop-at-preserved-then-begins_three
loop-at-preserved-then-begins_three c =
    rw c.tick.ensures
    (after_word _ _ _ _ _ _ 3 c.loop-at.invariant (omega (arith, c.saturating_sub-words.ensures)) c.word_at-word.ensures
    (omega arith) (c.begins_three.ensures c.if-begins_three.true))

pub loop-at-preserved-then-is_four : goal.loop-at-preserved-then-is_four
loop-at-preserved-then-is_four c =
    rw c.tick.ensures
    (after_word _ _ _ _ _ _ 4 c.loop-at.invariant (omega (arith, c.saturating_sub-words.ensures)) c.word_at-word.ensures
    (omega arith) (c.is_four.ensures c.if-is_four.true))

pub loop-at-preserved : goal.loop-at-preserved
loop-at-preserved c =
    rw c.tick.ensures
    (after_more _ _ _ _ _ _ c.loop-at.invariant
    (at_place c.args.octets.now c.loop-at.at (Encoding c.in-Encoding.len) c.in-Encoding.ensures))

pub returns-in-Bad-clause-fault : goal.returns-in-Bad-clause-fault
returns-in-Bad-clause-fault c =
    rw (c.new.ensures, c.tick.ensures)
    (after_fault _ _ _ _ _ _ c.loop-at.invariant
    (at_place c.args.octets.now c.loop-at.at (Bad c.in-Bad.size) c.in-Bad.ensures))
