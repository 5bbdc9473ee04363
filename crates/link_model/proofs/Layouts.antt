-- Blocks that lie one after another, each at a multiple of its alignment.
use Rattle.std.proofs.Common.{◌≡◌, ℕ, zero, suc, ◌+◌, ◌-◌, ◌<◌, ◌≤◌, List, [], ◌∷◌, length, map, All, refl, ap, arith}
use Rattle.std.proofs.Math.Nat.{mod-lt}
use Rattle.std.proofs.lemmas.Nat.{div-add-mod', pow_pos}
use Rattle.std.proofs.lemmas.List.Elements.{All-head, All-tail}
use Rattle.link_model.specs.Image.{at_or}
use Rattle.link_model.specs.Layout.{aligned, block_offsets, blocks_end}
use Rattle.link_model.specs.Sound.{IsAlignment}
use Rattle.link_model.specs.declared.graph.Block.{Block}

pub align_positive : (align : ℕ) → IsAlignment align → 0 < align
align_positive align is = omega (arith, is.2, pow_pos is.0)

-- an aligned place is no less
pub aligned-le : (at align : ℕ) → 0 < align → at ≤ aligned at align
aligned-le at align h =
    let whole = div-add-mod' (at + (align - 1)) align in
    let below = mod-lt (at + (align - 1)) h in
    omega (arith, whole, below)

pub Aligned : List Block → Type 0
Aligned bs = All (λ (b : Block). 0 < b.align) bs

pub are_aligned : (bs : List Block) → All (λ (b : Block). 0 < b.align) bs → Aligned bs
unfolding Aligned
are_aligned bs h = h

pub first_aligned : (at : ℕ) (b : Block) (bs : List Block) → Aligned (b ∷ bs) → at ≤ aligned at b.align
unfolding Aligned
first_aligned at b bs h = aligned-le at b.align (All-head (λ (x : Block). 0 < x.align) b bs h)

pub rest_aligned : (b : Block) (bs : List Block) → Aligned (b ∷ bs) → Aligned bs
unfolding Aligned
rest_aligned b bs h = All-tail (λ (x : Block). 0 < x.align) b bs h

pub blocks_end-le : (at : ℕ) (bs : List Block) → Aligned bs → at ≤ blocks_end at bs
blocks_end-le at [] h = omega arith
blocks_end-le at (b ∷ bs) h = omega (arith, first_aligned at b bs h, blocks_end-le (aligned at b.align + b.size) bs (rest_aligned b bs h))

-- each block ends before the end of all
pub block_ends : (at : ℕ) (bs : List Block) (k : ℕ) → Aligned bs → k < length bs → at_or 0 (block_offsets at bs) k + at_or 0 (map (λ (b : Block). b.size) bs) k ≤ blocks_end at bs
block_ends at [] k h lt = absurd (omega arith)
block_ends at (b ∷ bs) zero h lt = blocks_end-le (aligned at b.align + b.size) bs (rest_aligned b bs h)
block_ends at (b ∷ bs) (suc k) h lt = block_ends (aligned at b.align + b.size) bs k (rest_aligned b bs h) (omega arith)

pub length-offsets : (at : ℕ) (bs : List Block) → length (block_offsets at bs) ≡ length bs
length-offsets at [] = refl
length-offsets at (b ∷ bs) = ap suc (length-offsets (aligned at b.align + b.size) bs)
