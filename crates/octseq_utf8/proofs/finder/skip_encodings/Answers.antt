use Rattle.std.proofs.Common.{arith}
use Rattle.octseq_utf8.specs.declared.finder.FirstPart.TheVariants.{Encoding, Bad}
use Rattle.octseq_utf8.proofs.Search.{at_place, front_some, passes_on, front_wide, search_encoding, search_fault}
use Rattle.octseq_utf8.proofs.Search.{search_octet, search_two_twos, search_word}
use Rattle.octseq_utf8.proofs.finder.skip_encodings.Goals.{else-octets-at-lt128-via-then-octets-at-lt128+else-octets-at-lt128-2}
use Rattle.octseq_utf8.proofs.finder.skip_encodings.Goals.{else-octets-at-lt128-via-else-octets-at-lt128}
use Rattle.octseq_utf8.proofs.finder.skip_encodings.Goals as goal

-- an octet below 80 between encodings

pub loop-at-preserved-then-octets-at-lt128-3 : goal.loop-at-preserved-then-octets-at-lt128-3
loop-at-preserved-then-octets-at-lt128-3 c =
    rw c.tick.ensures
    (passes_on c.loop-at.invariant (omega arith)
    (search_octet c.args.octets.now c.loop-at.at c.loop-at.turns (omega (arith, c.saturating_sub-words.ensures))
    c.if-octets-at-lt128-3.true (elim c.else-octets-at-lt128.branch [
      | else-octets-at-lt128-via-then-octets-at-lt128+else-octets-at-lt128-2 w ↦ w.if-octets-at-lt128-2.false
      | else-octets-at-lt128-via-else-octets-at-lt128 w ↦ absurd
          (omega (arith, w.if-octets-at-lt128.false, c.if-octets-at-lt128-3.true))
    ])))

-- an encoding at the front of the word, and those after it

pub loop-at-preserved-then-is_pair_of_two : goal.loop-at-preserved-then-is_pair_of_two
loop-at-preserved-then-is_pair_of_two c =
    rw (c.tick-then-is_pair_of_two.ensures, c.tick.ensures)
    (passes_on c.loop-at.invariant (omega arith)
    (search_two_twos c.args.octets.now _ c.loop-at.at c.loop-at.turns (omega (arith, c.saturating_sub-words.ensures))
    c.word_at-word.ensures (c.is_pair_of_two.ensures.first c.if-is_pair_of_two.true)
    (c.is_pair_of_two.ensures.second c.if-is_pair_of_two.true)))

pub loop-at-preserved-then-begins_two : goal.loop-at-preserved-then-begins_two
loop-at-preserved-then-begins_two c =
    rw c.tick.ensures
    (passes_on c.loop-at.invariant (omega arith)
    (search_word c.args.octets.now _ c.loop-at.at c.loop-at.turns 2 (omega (arith, c.saturating_sub-words.ensures))
    c.word_at-word.ensures (omega arith, omega arith) (c.begins_two.ensures c.if-begins_two.true)))

pub loop-at-preserved-then-begins_three : goal.loop-at-preserved-then-begins_three
loop-at-preserved-then-begins_three c =
    let run = c.skip_run-at.ensures in
    passes_on c.loop-at.invariant (omega (arith, run.past)) (λ old s. run.passed old (rw c.tick.ensures
    (search_word c.args.octets.now _ c.loop-at.at c.loop-at.turns 3 (omega (arith, c.saturating_sub-words.ensures))
    c.word_at-word.ensures (omega arith, omega arith) (c.begins_three.ensures c.if-begins_three.true) old s)))

pub loop-at-preserved-then-is_four : goal.loop-at-preserved-then-is_four
loop-at-preserved-then-is_four c =
    let run = c.skip_run-at-then-is_four.ensures in
    passes_on c.loop-at.invariant (omega (arith, run.past)) (λ old s. run.passed old (rw c.tick.ensures
    (search_word c.args.octets.now _ c.loop-at.at c.loop-at.turns 4 (omega (arith, c.saturating_sub-words.ensures))
    c.word_at-word.ensures (omega arith, omega arith) (c.is_four.ensures c.if-is_four.true) old s)))

-- what is read by the table

pub loop-at-preserved : goal.loop-at-preserved
loop-at-preserved c =
    let front = at_place c.args.octets.now c.loop-at.at (Encoding c.in-Encoding.len) c.in-Encoding.ensures in
    rw c.tick.ensures
    (passes_on c.loop-at.invariant (omega arith)
    (search_encoding c.args.octets.now c.loop-at.at c.loop-at.turns c.in-Encoding.len
    (front_wide c.args.octets.now c.loop-at.at c.in-Encoding.len (omega arith) front) front))

pub returns-in-Bad-clause-fault : goal.returns-in-Bad-clause-fault
returns-in-Bad-clause-fault c start before =
    rw (c.new.ensures, c.tick.ensures)
    (search_fault c.args.octets.now c.loop-at.at start c.loop-at.turns c.in-Bad.size
    (c.loop-at.invariant.passed start before) (omega (arith, c.saturating_sub-words.ensures))
    (at_place c.args.octets.now c.loop-at.at (Bad c.in-Bad.size) c.in-Bad.ensures))

pub loop-at-smaller : goal.loop-at-smaller
loop-at-smaller c =
    omega (
      arith,
      c.saturating_sub-words.ensures,
      front_some c.args.octets.now c.loop-at.at c.in-Encoding.len c.in-Encoding.ensures,
    )
