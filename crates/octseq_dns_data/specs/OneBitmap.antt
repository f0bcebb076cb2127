-- Octets are window blocks in at most one way, so a value may keep as a fact that they are a type bitmap.
use Rattle.std.specs.Prelude.{◌≡◌, ℕ, ◌+◌, List, [], ◌∷◌, ◌++◌, length}
use Rattle.std.proofs.Common.{sym, ap, ◌∙◌, arith, refl}
use Rattle.std.proofs.Math.Bridge.{le_prop}
use Rattle.std.specs.Coded.{Coded-set, coded_list, coded_ℕ}
use Rattle.std.specs.List.{flat_map}
use mathlib.Core.HLevel.{Σ_prop_path}
use Rattle.octseq_dns_data.specs.RtypeBitmap.{WindowBlock, AscendFrom, IsRtypeBitmap}
use Rattle.octseq_dns_data.specs.RtypeBitmap.{block_octets}
use Rattle.octseq.proofs.Codes.{halves}

abbrev made : ℕ → List ℕ → WindowBlock
made number bitmap = record { number = number; bitmap = bitmap }

-- ---- lemmas: proved below this line, so what the words mean is read above it

-- octets begin with at most one window block
pub one_block : (block other : WindowBlock) (rest more : List ℕ)
    → block_octets block ++ rest ≡ block_octets other ++ more
    → (block ≡ other) × (rest ≡ more)
one_block block other rest more is =
    let number : block.number ≡ other.number = cc in
    let size : length block.bitmap ≡ length other.bitmap = cc in
    let octets : block.bitmap ++ rest ≡ other.bitmap ++ more = cc in
    let both = halves block.bitmap other.bitmap rest more size octets in
    (ap (λ number. made number block.bitmap) number ∙ ap (made other.number) both.0, both.1)

-- so they are at most one list of blocks
pub same_blocks : (blocks others : List WindowBlock)
    → flat_map block_octets blocks ≡ flat_map block_octets others → blocks ≡ others
same_blocks [] [] is = refl
same_blocks [] (other ∷ others) is = let long = ap length is in absurd (omega (arith, long))
same_blocks (block ∷ blocks) [] is = let long = ap length is in absurd (omega (arith, long))
same_blocks (block ∷ blocks) (other ∷ others) is =
    let both = one_block block other (flat_map block_octets blocks) (flat_map block_octets others) is in
    ap (λ block. block ∷ blocks) both.0 ∙ ap (λ blocks. other ∷ blocks) (same_blocks blocks others both.1)

ascend_once : (least : ℕ) (blocks : List WindowBlock) → IsProp (AscendFrom least blocks)
ascend_once least [] = hlevel le_prop
ascend_once least (block ∷ blocks) = hlevel (le_prop, ascend_once (block.number + 1) blocks)

-- it is a fact
pub one_bitmap : (octets : List ℕ) → IsProp (IsRtypeBitmap octets)
one_bitmap octets a b =
    let set = Coded-set (coded_list coded_ℕ) octets in
    Σ_prop_path (λ blocks. hlevel (set (flat_map block_octets blocks), ascend_once 0 blocks))
    (same_blocks a.0 b.0 (sym a.1.0 ∙ b.1.0))
