-- The strings so far have at most 255 octets each.
use Rattle.std.proofs.Common.{◌≤◌, length, map, take}
use Rattle.std.specs.List.{All}
use Rattle.octseq_dns.proofs.txt.are_strings.Given as goal

abbrev pub invariant-loop-string : goal.invariant-loop-string
invariant-loop-string l =
    All (λ string. length string ≤ 255) (map (λ string. string.now) (take l.string-index l.strings))
