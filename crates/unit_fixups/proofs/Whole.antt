-- The image of a unit.
use Rattle.std.proofs.Common.{◌≡◌, ℕ, suc, ◌+◌, ◌<◌, List, [], ◌∷◌, ◌++◌, length, map, get_or, slice_index, Option, None, Result, Ok, Err, refl, sym, ap, ◌∙◌, arith}
use Rattle.std.specs.Prelude.{OnOk, ⊤}
use Rattle.link_model.proofs.Writes.{written_append}
use Rattle.link_model.specs.Image.{Write, first_refused, writes, all_written, cell_write, stub_write, edge_write, told_address, image_bytes, image_of, listed, raw_byte, pieces}
use Rattle.link_model.specs.declared.graph.Layout.{Layout}
use Rattle.link_model.specs.declared.graph.LinkGraph.{LinkGraph}

pub writes_made : (g : LinkGraph) (l : Layout) (base : ℕ) (address : ℕ → ℕ) (old cells stubs new : ℕ → ℕ) → cells ≡ all_written (map (cell_write address) l.cells) old → stubs ≡ all_written (map (stub_write l) l.stubs) cells → new ≡ all_written (map (edge_write g l base address) g.edges) stubs → new ≡ all_written (writes g l base address) old
writes_made g l base address old cells stubs new c s e =
    let cs : List Write = map (cell_write address) l.cells in
    let ss : List Write = map (stub_write l) l.stubs in
    let es : List Write = map (edge_write g l base address) g.edges in
    e ∙ ap (all_written es) (s ∙ ap (all_written ss) c ∙ sym (written_append cs ss old)) ∙ sym (written_append (cs ++ ss) es old)

-- the same of a result
pub all_made : {E : Type 0} (g : LinkGraph) (l : Layout) (base : ℕ) (address : ℕ → ℕ) (old cells stubs new : ℕ → ℕ) (made : Result ⊤ E) → cells ≡ all_written (map (cell_write address) l.cells) old → stubs ≡ all_written (map (stub_write l) l.stubs) cells → OnOk made ((first_refused g l base address g.edges ≡ None) × (new ≡ all_written (map (edge_write g l base address) g.edges) stubs)) → OnOk made (new ≡ all_written (writes g l base address) old)
all_made g l base address old cells stubs new (Ok u) c s h = writes_made g l base address old cells stubs new c s h.1
all_made g l base address old cells stubs new (Err e) c s h = h

listed_from : (xs : List ℕ) (at : ℕ) (bytes : ℕ → ℕ) → ((k : ℕ) → k < length xs → get_or xs k 0 ≡ bytes (at + k)) → xs ≡ listed at (length xs) bytes
listed_from [] at bytes h = refl
listed_from (x ∷ xs) at bytes h =
    let first : x ≡ bytes at = h 0 (omega arith) ∙ ap bytes (omega arith) in
    let rest = listed_from xs (at + 1) bytes (λ k below. h (suc k) (omega arith) ∙ ap bytes (omega arith)) in
    ap (λ (y : ℕ). y ∷ xs) first ∙ ap (λ (ys : List ℕ). bytes at ∷ ys) rest

pub image_is : (g : LinkGraph) (l : Layout) (base : ℕ) (bound : List (Option ℕ)) (address : ℕ → ℕ) (image raw : List ℕ) → address ≡ told_address g l base bound → length image ≡ l.shape.need → slice_index raw ≡ raw_byte (pieces g l) → slice_index image ≡ all_written (writes g l base address) (slice_index raw) → image ≡ image_of g l base bound
image_is g l base bound address image raw told whole e e' =
    let same : slice_index image ≡ image_bytes g l base bound =
    e' ∙ ap (all_written (writes g l base address)) e
    ∙ ap (λ (a : ℕ → ℕ). all_written (writes g l base a) (raw_byte (pieces g l))) told in
    listed_from image 0 (image_bytes g l base bound)
    (λ k below. ap (λ (f : ℕ → ℕ). f k) same ∙ ap (image_bytes g l base bound) (omega arith))
    ∙ ap (λ (n : ℕ). listed 0 n (image_bytes g l base bound)) whole
