-- Two pieces, copied one after the other to the front of a buffer.
use Rattle.std.proofs.Common.{◌≡◌, ℕ, ◌+◌, List, ◌++◌, length, take, drop, ap, sym, ◌∙◌}
use Rattle.std.proofs.lemmas.List.{length-append}
use Rattle.octseq_c.specs.Puts.{FillsPrefix}
use Rattle.octseq_c.proofs.Placed.{placed_more}

pub both_filled : (old mid new first second : List ℕ) (middle : ℕ) → middle ≡ length first
    → mid ≡ first ++ drop middle old → new ≡ (take middle mid ++ second) ++ drop (middle + length second) mid
    → FillsPrefix (first ++ second) old new
both_filled old mid new first second middle m a b =
    placed_more old mid new first second middle (sym m) a b
    ∙ ap (λ k. (first ++ second) ++ drop k old) (ap (λ k. k + length second) m ∙ sym (length-append first second))
