-- What contracts see of a `Words`.
use Rattle.std.specs.Prelude.{ℕ, ◌-◌, List, length}
use Rattle.octseq_dns_scan.specs.declared.words.Words.{Words}

-- what is left of the text
abbrev pub ahead_of : Words → List ℕ
ahead_of words = words.ahead.now

-- where that begins
abbrev pub offset_of : Words → ℕ
offset_of words = words.len - length words.ahead.now
