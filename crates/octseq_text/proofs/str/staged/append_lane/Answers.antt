use Rattle.std.proofs.Common.{◌≡◌, ℕ, ◌+◌, ◌≤◌, List, ◌++◌, length, take, ap, ◌∙◌}
use Rattle.std.proofs.Math.Seq.{take-append-add, take-take}
use Rattle.octseq_text.proofs.str.staged.append_lane.Goals as goal

-- what is left of a lane after the cut
cut_lane : (staged octets : List ℕ) (len : ℕ) → len ≤ 16
    → take (length staged + len) (staged ++ take 16 octets) ≡ staged ++ take len octets
cut_lane staged octets len few =
    take-append-add staged (take 16 octets) len ∙ ap (λ y. staged ++ y) (take-take len 16 octets few)

pub returns-in-Ok-clause-some : goal.returns-in-Ok-clause-some
returns-in-Ok-clause-some c = λ h.
    c.truncate.ensures.content ∙ rw (c.in-Ok.ensures.appended.ok, c.as_slice.ensures.content)
    (cut_lane c.args.staged.now.content c.args.octets.now c.args.len c.requires.0)
