-- The mapped places of a member: those of its chosen blocks, used cells and used stubs alone.
use Rattle.std.proofs.Common.{◌≡◌, ◌≢◌, ℕ, ◌<◌, inl, inr, Bool, true, false, List, length, Contains, sym, ap, ◌∙◌, arith}
use Rattle.std.proofs.lemmas.Bool.{both_ways}
use Rattle.link_model.specs.Image.{at_or}
use Rattle.link_model.specs.Layout.{unit_need, block_offsets, layout_of, CELL_SIZE, STUB_SIZE}
use Rattle.link_model.specs.Sound.{sizes}
use Rattle.link_model.specs.declared.graph.LinkGraph.{LinkGraph}
use Rattle.static_links.specs.Links.{IsMapped, InBlock, InCell, InStub, uses_cell, uses_stub}
use Rattle.static_links.specs.Laws.{laid_out}
use Rattle.static_links.proofs.Folds.{Among}
use Rattle.static_links.proofs.Apart.{Apart, LiesApart}

-- what differs by a test differs
pub tested_apart : {X : Type 0} (test : X → Bool) (x y : X) → test x ≡ true → test y ≡ false → x ≢ y
tested_apart test x y on off same = both_ways (test y) off (ap test (sym same) ∙ on)

-- no place lies in two areas that lie apart
pub not_both : (a m b n place : ℕ) → Apart a m b n → Among a m place → Among b n place → ⊥
not_both a m b n place (inl before) one other = omega (arith, one.0, one.1, other.0, other.1)
not_both a m b n place (inr after) one other = omega (arith, one.0, one.1, other.0, other.1)

-- each mapped place lies in what the unit needs
pub mapped_inside : (g : LinkGraph) (live : List Bool) (base : ℕ) (chosen : ℕ → Bool) (place : ℕ) → LiesApart g live → IsMapped (laid_out g live base) chosen place → place < unit_need g live
mapped_inside g live base chosen place lies (InBlock block lt on low high) =
    omega (arith, high, lies.block_ends block lt, lies.cells_before, lies.stubs_before)
mapped_inside g live base chosen place lies (InCell p here on low high) =
    omega (arith, high, (lies.cell_lies p here).1, lies.stubs_before)
mapped_inside g live base chosen place lies (InStub p here on low high) =
    omega (arith, high, (lies.stub_lies p here).1)

-- no place of a block that is not chosen is mapped
pub block_off : (g : LinkGraph) (live : List Bool) (base : ℕ) (chosen : ℕ → Bool) (k place : ℕ) → LiesApart g live → k < length g.blocks → chosen k ≡ false → Among (at_or 0 (block_offsets 0 g.blocks) k) (at_or 0 (sizes g) k) place → IsMapped (laid_out g live base) chosen place → ⊥
block_off g live base chosen k place lies within off here (InBlock block lt on low high) =
    not_both (at_or 0 (block_offsets 0 g.blocks) block) (at_or 0 (sizes g) block) (at_or 0 (block_offsets 0 g.blocks) k) (at_or 0 (sizes g) k) place
    (lies.blocks block k lt within (tested_apart chosen block k on off)) (low, high) here
block_off g live base chosen k place lies within off here (InCell p there on low high) =
    omega (arith, here.1, low, lies.block_ends k within, (lies.cell_lies p there).0)
block_off g live base chosen k place lies within off here (InStub p there on low high) =
    omega (arith, here.1, low, lies.block_ends k within, lies.cells_before, (lies.stub_lies p there).0)

-- nor one of a cell that is not used
pub cell_off : (g : LinkGraph) (live : List Bool) (base : ℕ) (chosen : ℕ → Bool) (q : ℕ × ℕ) (place : ℕ) → LiesApart g live → Contains (layout_of g live).cells q → uses_cell chosen (laid_out g live base) q.0 ≡ false → Among q.1 CELL_SIZE place → IsMapped (laid_out g live base) chosen place → ⊥
cell_off g live base chosen q place lies is off here (InBlock block lt on low high) =
    omega (arith, here.0, high, lies.block_ends block lt, (lies.cell_lies q is).0)
cell_off g live base chosen q place lies is off here (InCell p there on low high) =
    not_both p.1 CELL_SIZE q.1 CELL_SIZE place
    (lies.cells p q there is (tested_apart (uses_cell chosen (laid_out g live base)) p.0 q.0 on off)) (low, high) here
cell_off g live base chosen q place lies is off here (InStub p there on low high) =
    omega (arith, here.1, low, (lies.cell_lies q is).1, (lies.stub_lies p there).0)

-- nor one of a stub that is not used
pub stub_off : (g : LinkGraph) (live : List Bool) (base : ℕ) (chosen : ℕ → Bool) (q : ℕ × ℕ) (place : ℕ) → LiesApart g live → Contains (layout_of g live).stubs q → uses_stub chosen (laid_out g live base) q.0 ≡ false → Among q.1 STUB_SIZE place → IsMapped (laid_out g live base) chosen place → ⊥
stub_off g live base chosen q place lies is off here (InBlock block lt on low high) =
    omega (arith, here.0, high, lies.block_ends block lt, lies.cells_before, (lies.stub_lies q is).0)
stub_off g live base chosen q place lies is off here (InCell p there on low high) =
    omega (arith, here.0, high, (lies.cell_lies p there).1, (lies.stub_lies q is).0)
stub_off g live base chosen q place lies is off here (InStub p there on low high) =
    not_both p.1 STUB_SIZE q.1 STUB_SIZE place
    (lies.stubs p q there is (tested_apart (uses_stub chosen (laid_out g live base)) p.0 q.0 on off)) (low, high) here
