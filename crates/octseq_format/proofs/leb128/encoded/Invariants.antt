-- The lowest groups were written, and the others are in what is left.
use Rattle.std.proofs.Common.{◌≡◌, ◌-◌, ◌<◌, ◌≤◌, ◌^◌, ◌++◌, length, take}
use Rattle.octseq_format.specs.Leb128.{groups}
use Rattle.octseq_format.proofs.leb128.encoded.Given as goal

abbrev pub invariant-loop-left : goal.invariant-loop-left
invariant-loop-left l = record {
  many : length l.octets ≡ 10;
  room : l.len ≤ 9;
  small : l.left < 128 ^ (10 - l.len);
  made : take l.len l.octets ++ groups (9 - l.len) l.left ≡ groups 9 l.fn.number;
}

abbrev pub decreases-loop-left : goal.decreases-loop-left
decreases-loop-left l = l.left
