use Rattle.std.proofs.Common.{arith}
use Rattle.octseq_utf8.proofs.Search.{octet_front, last_front}
use Rattle.octseq_utf8.proofs.finder.last_part.Goals as goal

pub returns-then-octets-at-lt128 : goal.returns-then-octets-at-lt128
returns-then-octets-at-lt128 c = octet_front c.args.octets.now c.args.at c.requires.0 c.if-octets-at-lt128.true

pub returns-then-begins_two : goal.returns-then-begins_two
returns-then-begins_two c =
    last_front c.args.octets.now _ c.args.at 2 c.requires.0 c.last_word-word.ensures (omega arith) (omega arith)
    (c.begins_two.ensures c.if-begins_two.true)

pub returns-then-begins_three : goal.returns-then-begins_three
returns-then-begins_three c =
    last_front c.args.octets.now _ c.args.at 3 c.requires.0 c.last_word-word.ensures (omega arith) (omega arith)
    (c.begins_three.ensures c.if-begins_three.true)
