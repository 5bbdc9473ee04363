-- What lies where in a unit: each block, cell and stub lies inside what the unit needs.
use Rattle.std.proofs.Common.{◌≡◌, ℕ, zero, suc, ◌+◌, ◌-◌, ◌*◌, ◌<◌, ◌≤◌, max, Bool, not, ◌&&◌, ◌||◌, List, [], ◌∷◌, length, get_or, refl, sym, ap, subst, ◌∙◌, arith}
use Rattle.std.proofs.Math.Nat.{mul-suc}
use Rattle.std.proofs.lemmas.List.Elements.{All-head, All-tail, All-nil, All-cons}
use Rattle.std.specs.List.{All}
use Rattle.link_model.proofs.Symbols.{length_own, numbers_below}
use Rattle.link_model.proofs.Layouts.{aligned-le, are_aligned, block_ends, length-offsets}
use Rattle.link_model.specs.Graph.{own_symbols, is_referred, numbers_where}
use Rattle.link_model.specs.Layout.{aligned, block_offsets, blocks_end, unit_need, layout_of, in_turn, needs_cell, needs_stub, some_edge, cell_symbols, stub_symbols, cells_start, stubs_start, CELL_SIZE, STUB_SIZE}
use Rattle.link_model.specs.Image.{at_or}
use Rattle.link_model.specs.declared.graph.Layout.{Layout}
use Rattle.link_model.specs.declared.graph.LinkGraph.{LinkGraph}
use Rattle.link_model.specs.Sound.{sizes, Sound}
use Rattle.unit_fixups.specs.Sound.{Placed, PartLies, Lies}

-- the definitions' element and the slices' element
pub at_or-get : {X : Type 0} (d : X) (xs : List X) (k : ℕ) → at_or d xs k ≡ get_or xs k d
at_or-get d [] k = refl
at_or-get d (x ∷ xs) zero = refl
at_or-get d (x ∷ xs) (suc k) = at_or-get d xs k

covers : (b c s : ℕ) → b ≤ max 16 (aligned (aligned (aligned b 8 + c) 16 + s) 16)
covers b c s =
    let first = aligned-le b 8 (omega arith) in
    let second = aligned-le (aligned b 8 + c) 16 (omega arith) in
    let third = aligned-le (aligned (aligned b 8 + c) 16 + s) 16 (omega arith) in
    least b (aligned b 8) (aligned (aligned b 8 + c) 16) (aligned (aligned (aligned b 8 + c) 16 + s) 16) c s first second third
  where
    least : (b x y z c s : ℕ) → b ≤ x → x + c ≤ y → y + s ≤ z → b ≤ max 16 z
    least b x y z c s p q r = omega arith

need_covers : (g : LinkGraph) (live : List Bool) → blocks_end 0 g.blocks ≤ unit_need g live
need_covers g live =
    covers (blocks_end 0 g.blocks) (CELL_SIZE * length (cell_symbols g live)) (STUB_SIZE * length (stub_symbols g live))

sum_le : (o o' s e u n : ℕ) → o ≡ o' → n ≡ u → o' + s ≤ e → e ≤ u → o + s ≤ n
sum_le o o' s e u n p q r t = omega arith

laid_inside : (g : LinkGraph) (l : Layout) (k : ℕ) → l ≡ layout_of g l.live → Sound g → k < length g.blocks → at_or 0 l.blocks k + at_or 0 (sizes g) k ≤ l.shape.need
laid_inside g l k laid sound within =
    sum_le (at_or 0 l.blocks k) (at_or 0 (block_offsets 0 g.blocks) k) (at_or 0 (sizes g) k) (blocks_end 0 g.blocks) (unit_need g l.live) l.shape.need
    (ap (λ (x : Layout). at_or 0 x.blocks k) laid) (ap (λ (x : Layout). x.shape.need) laid)
    (block_ends 0 g.blocks k (are_aligned g.blocks sound.aligns) within) (need_covers g l.live)

-- ---- cells, stubs and externals

-- the numbers of symbols are below their count
symbols_below : (test : ℕ → Bool → Bool) (g : LinkGraph) (live : List Bool) → All (λ s. s < length g.symbols) (numbers_where test 0 (own_symbols g.symbols live))
symbols_below test g live = numbers_below test (length g.symbols) 0 (own_symbols g.symbols live) (omega (arith, length_own g.symbols live))

abbrev Part : ℕ → ℕ → ℕ → ℕ × ℕ → Type 0
Part n size end p = (p.0 < n) × (p.1 + size ≤ end)

turn_lies : (n size end at : ℕ) (ss : List ℕ) → All (λ s. s < n) ss → at + size * length ss ≤ end → All (Part n size end) (in_turn at size ss)
turn_lies n size end at [] all h = All-nil (Part n size end)
turn_lies n size end at (s ∷ ss) all h =
    let more : size * suc (length ss) ≡ size * length ss + size = mul-suc size (length ss) in
    All-cons (Part n size end) (s, at) (in_turn (at + size) size ss)
    (All-head (λ (x : ℕ). x < n) s ss all, omega (arith, h, more))
    (turn_lies n size end (at + size) ss (All-tail (λ (x : ℕ). x < n) s ss all) (omega (arith, h, more)))

cells_end : (b c s : ℕ) → aligned b 8 + c ≤ max 16 (aligned (aligned (aligned b 8 + c) 16 + s) 16)
cells_end b c s =
    let second = aligned-le (aligned b 8 + c) 16 (omega arith) in
    let third = aligned-le (aligned (aligned b 8 + c) 16 + s) 16 (omega arith) in
    least (aligned b 8 + c) (aligned (aligned b 8 + c) 16) (aligned (aligned (aligned b 8 + c) 16 + s) 16) s second third
  where
    least : (x y z s : ℕ) → x ≤ y → y + s ≤ z → x ≤ max 16 z
    least x y z s p q = omega arith

stubs_end : (b s : ℕ) → b + s ≤ max 16 (aligned (b + s) 16)
stubs_end b s = least (b + s) (aligned (b + s) 16) (aligned-le (b + s) 16 (omega arith))
  where
    least : (x z : ℕ) → x ≤ z → x ≤ max 16 z
    least x z p = omega arith

cells_lie : (g : LinkGraph) (l : Layout) → l ≡ layout_of g l.live → All (PartLies g l CELL_SIZE) l.cells
cells_lie g l laid =
    let cells = cell_symbols g l.live in
    let end : unit_need g l.live ≡ l.shape.need = sym (ap (λ (x : Layout). x.shape.need) laid) in
    subst (All (PartLies g l CELL_SIZE)) (sym (ap (λ (x : Layout). x.cells) laid))
    (turn_lies (length g.symbols) CELL_SIZE l.shape.need (cells_start g) cells
    (symbols_below (λ s own. some_edge needs_cell g.edges s || not own && some_edge needs_stub g.edges s) g l.live)
    (subst (λ (n : ℕ). cells_start g + CELL_SIZE * length cells ≤ n) end (cells_end (blocks_end 0 g.blocks) (CELL_SIZE * length cells) (STUB_SIZE * length (stub_symbols g l.live)))))

stubs_lie : (g : LinkGraph) (l : Layout) → l ≡ layout_of g l.live → All (PartLies g l STUB_SIZE) l.stubs
stubs_lie g l laid =
    let stubs = stub_symbols g l.live in
    let end : unit_need g l.live ≡ l.shape.need = sym (ap (λ (x : Layout). x.shape.need) laid) in
    subst (All (PartLies g l STUB_SIZE)) (sym (ap (λ (x : Layout). x.stubs) laid))
    (turn_lies (length g.symbols) STUB_SIZE l.shape.need (stubs_start g l.live) stubs
    (symbols_below (λ s own. not own && some_edge needs_stub g.edges s) g l.live)
    (subst (λ (n : ℕ). stubs_start g l.live + STUB_SIZE * length stubs ≤ n) end (stubs_end (stubs_start g l.live) (STUB_SIZE * length stubs))))

externals_lie : (g : LinkGraph) (l : Layout) → l ≡ layout_of g l.live → All (λ s. s < length g.symbols) l.externals
externals_lie g l laid =
    subst (All (λ (s : ℕ). s < length g.symbols)) (sym (ap (λ (x : Layout). x.externals) laid))
    (symbols_below (λ s own. not own && is_referred g.edges s) g l.live)

-- a placed unit lies as the program goes by
pub placed_lies : (g : LinkGraph) (l : Layout) (base : ℕ) → Placed g l base → Lies g l base
placed_lies g l base placed = record {
  sound = placed.sound;
  count = ap (λ (x : Layout). length x.blocks) placed.laid ∙ length-offsets 0 g.blocks;
  inside = λ k within. laid_inside g l k placed.laid placed.sound within;
  cells = cells_lie g l placed.laid;
  stubs = stubs_lie g l placed.laid;
  externals = externals_lie g l placed.laid;
  small = placed.small;
  room = placed.room;
}
