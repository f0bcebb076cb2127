use Rattle.std.proofs.Common.{◌≡◌, ◌+◌, ◌-◌, ◌++◌, [], ◌∷◌, ℕ, List, length, take, drop, arith, ap, ◌∙◌, take_all}
use Rattle.std.proofs.Common.{length-drop}
use Rattle.std.proofs.lemmas.List.{drop-drop}
use Rattle.octseq_utf8.proofs.Masks.{shifted}
use Rattle.octseq_utf8.proofs.words.last_word.Goals as goal

pub returns : goal.returns
returns c =
    let x : List ℕ = c.args.octets.now in
    let missing : ℕ = 4 - (length x - c.args.at) in
    let some = c.requires.some in
    let few = c.requires.few in
    let word = c.requires.word in
    let whole = take_all 4 (drop (length x - 4) x) (omega (arith, length-drop (length x - 4) x)) in
    let same : length x - 4 + missing ≡ c.args.at = omega arith in
    shifted c.word_at.result missing c.word_at.type_inv (omega arith) (omega arith)
    ∙ ap (λ y. take 4 (drop missing y ++ 0 ∷ 0 ∷ 0 ∷ [])) (c.word_at.ensures ∙ whole)
    ∙ ap (λ y. take 4 (y ++ 0 ∷ 0 ∷ 0 ∷ [])) (drop-drop missing (length x - 4) x ∙ ap (λ k. drop k x) same)
