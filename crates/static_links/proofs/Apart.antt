-- The parts of a layout lie apart: its blocks in order, then its cells, then its stubs, all inside what the unit needs.
use Rattle.std.proofs.Common.{◌≡◌, ◌≢◌, ℕ, zero, suc, ◌+◌, ◌-◌, ◌*◌, ◌<◌, ◌≤◌, ◌⊎◌, inl, inr, max, Bool, List, [], ◌∷◌, length, map, All, Contains, sym, ap, ◌∙◌, arith}
use Rattle.std.proofs.Math.Nat.{mul-suc}
use Rattle.std.proofs.lemmas.Bool.{cases_order}
use Rattle.std.proofs.lemmas.List.Elements.{All-nil, All-cons, All-contains}
use Rattle.link_model.proofs.Layouts.{Aligned, aligned-le, are_aligned, block_ends, first_aligned, rest_aligned}
use Rattle.link_model.specs.Image.{at_or}
use Rattle.link_model.specs.Layout.{aligned, block_offsets, blocks_end, in_turn, cell_symbols, stub_symbols, cells_start, stubs_start, unit_need, layout_of, CELL_SIZE, STUB_SIZE}
use Rattle.link_model.specs.Sound.{sizes, Sound}
use Rattle.link_model.specs.declared.graph.Block.{Block}
use Rattle.link_model.specs.declared.graph.LinkGraph.{LinkGraph}

-- one area ends before the other begins
abbrev pub Apart : ℕ → ℕ → ℕ → ℕ → Type 0
Apart a m b n = (a + m ≤ b) ⊎ (b + n ≤ a)

-- ---- blocks

block_from : (at : ℕ) (bs : List Block) (k : ℕ) → Aligned bs → k < length bs → at ≤ at_or 0 (block_offsets at bs) k
block_from at [] k h lt = absurd (omega arith)
block_from at (b ∷ bs) zero h lt = first_aligned at b bs h
block_from at (b ∷ bs) (suc k) h lt = omega (arith, first_aligned at b bs h, block_from (aligned at b.align + b.size) bs k (rest_aligned b bs h) (omega arith))

blocks_in_order : (at : ℕ) (bs : List Block) (j k : ℕ) → Aligned bs → j < k → k < length bs → at_or 0 (block_offsets at bs) j + at_or 0 (map (λ (b : Block). b.size) bs) j ≤ at_or 0 (block_offsets at bs) k
blocks_in_order at [] j k h lt in' = absurd (omega arith)
blocks_in_order at (b ∷ bs) j zero h lt in' = absurd (omega arith)
blocks_in_order at (b ∷ bs) zero (suc k) h lt in' = block_from (aligned at b.align + b.size) bs k (rest_aligned b bs h) (omega arith)
blocks_in_order at (b ∷ bs) (suc j) (suc k) h lt in' = blocks_in_order (aligned at b.align + b.size) bs j k (rest_aligned b bs h) (omega arith) (omega arith)

-- ---- cells and stubs

abbrev Between : ℕ → ℕ → ℕ → ℕ × ℕ → Type 0
Between low size end p = (low ≤ p.1) × (p.1 + size ≤ end)

turn_between : (low size end at : ℕ) (ss : List ℕ) → low ≤ at → at + size * length ss ≤ end → All (Between low size end) (in_turn at size ss)
turn_between low size end at [] l h = All-nil (Between low size end)
turn_between low size end at (s ∷ ss) l h =
    let more : size * suc (length ss) ≡ size * length ss + size = mul-suc size (length ss) in
    All-cons (Between low size end) (s, at) (in_turn (at + size) size ss)
    (l, omega (arith, h, more))
    (turn_between low size end (at + size) ss (omega (arith, l)) (omega (arith, h, more)))

after_first : (size at : ℕ) (ss : List ℕ) (p : ℕ × ℕ) → Contains (in_turn (at + size) size ss) p → at + size ≤ p.1
after_first size at ss p here =
    (All-contains (Between (at + size) size (at + size + size * length ss)) (in_turn (at + size) size ss) p
    (turn_between (at + size) size (at + size + size * length ss) (at + size) ss (omega arith) (omega arith)) here).0

-- two of a row, of different symbols, lie apart
turn_apart : (size at : ℕ) (ss : List ℕ) (p q : ℕ × ℕ) → Contains (in_turn at size ss) p → Contains (in_turn at size ss) q → p.0 ≢ q.0 → Apart p.1 size q.1 size
turn_apart size at [] p q here there differ = absurd (omega (arith, here.1))
turn_apart size at (s ∷ ss) p q (zero, a, e) (zero, b, f) differ = absurd (differ (ap (λ (x : ℕ × ℕ). x.0) (sym e) ∙ ap (λ (x : ℕ × ℕ). x.0) f))
turn_apart size at (s ∷ ss) p q (zero, a, e) (suc k, b, f) differ =
    let first : at ≡ p.1 = ap (λ (x : ℕ × ℕ). x.1) e in
    let later = after_first size at ss q (k, omega (arith, b), f) in
    inl (omega (arith, first, later))
turn_apart size at (s ∷ ss) p q (suc j, a, e) (zero, b, f) differ =
    let first : at ≡ q.1 = ap (λ (x : ℕ × ℕ). x.1) f in
    let later = after_first size at ss p (j, omega (arith, a), e) in
    inr (omega (arith, first, later))
turn_apart size at (s ∷ ss) p q (suc j, a, e) (suc k, b, f) differ =
    turn_apart size (at + size) ss p q (j, omega (arith, a), e) (k, omega (arith, b), f) differ

-- ---- a layout

pub record LiesApart (g : LinkGraph) (live : List Bool) : Type 0 where
  pub blocks : (j k : ℕ) → j < length g.blocks → k < length g.blocks → j ≢ k → Apart (at_or 0 (block_offsets 0 g.blocks) j) (at_or 0 (sizes g) j) (at_or 0 (block_offsets 0 g.blocks) k) (at_or 0 (sizes g) k)
  pub cells : (p q : ℕ × ℕ) → Contains (layout_of g live).cells p → Contains (layout_of g live).cells q → p.0 ≢ q.0 → Apart p.1 CELL_SIZE q.1 CELL_SIZE
  pub stubs : (p q : ℕ × ℕ) → Contains (layout_of g live).stubs p → Contains (layout_of g live).stubs q → p.0 ≢ q.0 → Apart p.1 STUB_SIZE q.1 STUB_SIZE
  pub block_ends : (k : ℕ) → k < length g.blocks → at_or 0 (block_offsets 0 g.blocks) k + at_or 0 (sizes g) k ≤ cells_start g
  pub cell_lies : (p : ℕ × ℕ) → Contains (layout_of g live).cells p → (cells_start g ≤ p.1) × (p.1 + CELL_SIZE ≤ stubs_start g live)
  pub stub_lies : (p : ℕ × ℕ) → Contains (layout_of g live).stubs p → (stubs_start g live ≤ p.1) × (p.1 + STUB_SIZE ≤ unit_need g live)
  pub cells_before : cells_start g ≤ stubs_start g live
  pub stubs_before : stubs_start g live ≤ unit_need g live

stubs_after : (g : LinkGraph) (live : List Bool) → cells_start g + CELL_SIZE * length (cell_symbols g live) ≤ stubs_start g live
stubs_after g live = aligned-le (cells_start g + CELL_SIZE * length (cell_symbols g live)) 16 (omega arith)

need_after : (g : LinkGraph) (live : List Bool) → stubs_start g live + STUB_SIZE * length (stub_symbols g live) ≤ unit_need g live
need_after g live = least (stubs_start g live + STUB_SIZE * length (stub_symbols g live)) _ (aligned-le (stubs_start g live + STUB_SIZE * length (stub_symbols g live)) 16 (omega arith))
  where
    least : (x z : ℕ) → x ≤ z → x ≤ max 16 z
    least x z p = omega arith

pub lies_apart : (g : LinkGraph) (live : List Bool) → Sound g → LiesApart g live
lies_apart g live sound = record {
  blocks = λ j k a b differ. elim (cases_order j k) [
    | inl same ↦ absurd (differ same)
    | inr (inl lt) ↦ inl (blocks_in_order 0 g.blocks j k (are_aligned g.blocks sound.aligns) lt b)
    | inr (inr lt) ↦ inr (blocks_in_order 0 g.blocks k j (are_aligned g.blocks sound.aligns) lt a)
  ];
  cells = turn_apart CELL_SIZE (cells_start g) (cell_symbols g live);
  stubs = turn_apart STUB_SIZE (stubs_start g live) (stub_symbols g live);
  block_ends = λ k lt.
      let end = block_ends 0 g.blocks k (are_aligned g.blocks sound.aligns) lt in
      let start = aligned-le (blocks_end 0 g.blocks) 8 (omega arith) in
      omega (arith, end, start);
  cell_lies = λ p here.
      All-contains (Between (cells_start g) CELL_SIZE (stubs_start g live)) (layout_of g live).cells p
      (turn_between (cells_start g) CELL_SIZE (stubs_start g live) (cells_start g) (cell_symbols g live) (omega arith) (stubs_after g live)) here;
  stub_lies = λ p here.
      All-contains (Between (stubs_start g live) STUB_SIZE (unit_need g live)) (layout_of g live).stubs p
      (turn_between (stubs_start g live) STUB_SIZE (unit_need g live) (stubs_start g live) (stub_symbols g live) (omega arith) (need_after g live)) here;
  cells_before = omega (arith, stubs_after g live);
  stubs_before = omega (arith, need_after g live);
}
