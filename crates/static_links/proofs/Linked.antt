-- The image of a unit that was told the map's addresses is linked at each mapped place.
use Rattle.std.proofs.Common.{◌≡◌, ℕ, ◌+◌, ◌<◌, ◌≤◌, Bool, List, ◌++◌, map, filter, All, Contains, Option, pos, refl, sym, ap, ◌∙◌, arith}
use Rattle.std.proofs.lemmas.List.Elements.{All-contains, All-weaker, All-contains_itself}
use Rattle.link_model.proofs.Writes.{written_append}
use Rattle.link_model.specs.Kinds.{row_of, rule_of}
use Rattle.link_model.specs.Image.{Write, all_written, at_or, cell_write, edge_write, edge_offset, stub_write, raw_byte, pieces, told_address, KIND_64, KIND_CALL}
use Rattle.link_model.specs.Layout.{block_offsets, layout_of, CELL_SIZE, STUB_SIZE}
use Rattle.link_model.specs.Sound.{sizes, EdgeFits, Sound}
use Rattle.link_model.specs.declared.graph.Edge.{Edge}
use Rattle.link_model.specs.declared.graph.Layout.{Layout}
use Rattle.link_model.specs.declared.graph.LinkGraph.{LinkGraph}
use Rattle.static_links.specs.Links.{Member, IsMapped, InBlock, InCell, InStub, uses_cell, uses_stub}
use Rattle.static_links.specs.Laws.{laid_out, HasLabels, IsToldSo, ImageIsLinked}
use Rattle.static_links.proofs.Folds.{Among, Touches, IsKept, kept_agree}
use Rattle.static_links.proofs.Apart.{LiesApart, lies_apart}
use Rattle.static_links.proofs.Mapped.{block_off, cell_off, stub_off}
use Rattle.static_links.proofs.Values.{edge_same, cell_same}

cell_width : (rule_of KIND_64).width ≡ CELL_SIZE
unfolding row_of
cell_width = refl

stub_width : (rule_of KIND_CALL).width ≤ STUB_SIZE
unfolding row_of
stub_width = omega arith

among_more : (at width size place : ℕ) → width ≤ size → Among at width place → Among at size place
among_more at width size place le in' = (in'.0, omega (arith, le, in'.1))

cells_kept : (g : LinkGraph) (live : List Bool) (base : ℕ) (bound : List (Option ℕ)) (chosen : ℕ → Bool) (address : ℕ → ℕ) → LiesApart g live → IsToldSo g live base bound chosen address →
    All (IsKept (IsMapped (laid_out g live base) chosen) (cell_write (told_address g (layout_of g live) base bound)) (cell_write address) (λ (p : ℕ × ℕ). uses_cell chosen (laid_out g live base) p.0)) (layout_of g live).cells
cells_kept g live base bound chosen address lies so =
    let cells : List (ℕ × ℕ) = (layout_of g live).cells in
    let told : ℕ → ℕ = told_address g (layout_of g live) base bound in
    let all : (p : ℕ × ℕ) (place : ℕ) → Touches (cell_write told p) place → Among p.1 CELL_SIZE place = λ p place in'. among_more p.1 (rule_of KIND_64).width CELL_SIZE place (omega (arith, cell_width)) in' in
    All-weaker (Contains cells) (IsKept (IsMapped (laid_out g live base) chosen) (cell_write told) (cell_write address) (λ (p : ℕ × ℕ). uses_cell chosen (laid_out g live base) p.0))
    (λ p here. record {
      same = λ on. ap (λ (a : ℕ). record { at = p.1; kind = KIND_64; value = pos a }) (cell_same g live base bound chosen address p.0 so on);
      inside = λ on place in'. let at = all p place in' in InCell p here on at.0 at.1;
      off = λ off place in'. cell_off g live base chosen p place lies here off (all p place in');
    })
    cells (All-contains_itself cells)

stubs_kept : (g : LinkGraph) (live : List Bool) (base : ℕ) (chosen : ℕ → Bool) → LiesApart g live →
    All (IsKept (IsMapped (laid_out g live base) chosen) (stub_write (layout_of g live)) (stub_write (layout_of g live)) (λ (p : ℕ × ℕ). uses_stub chosen (laid_out g live base) p.0)) (layout_of g live).stubs
stubs_kept g live base chosen lies =
    let l : Layout = layout_of g live in
    let all : (p : ℕ × ℕ) (place : ℕ) → Touches (stub_write l p) place → Among p.1 STUB_SIZE place = λ p place in'. among_more p.1 (rule_of KIND_CALL).width STUB_SIZE place stub_width in' in
    All-weaker (Contains l.stubs) (IsKept (IsMapped (laid_out g live base) chosen) (stub_write l) (stub_write l) (λ (p : ℕ × ℕ). uses_stub chosen (laid_out g live base) p.0))
    (λ p here. record {
      same = λ on. refl;
      inside = λ on place in'. let at = all p place in' in InStub p here on at.0 at.1;
      off = λ off place in'. stub_off g live base chosen p place lies here off (all p place in');
    })
    l.stubs (All-contains_itself l.stubs)

-- the bytes of an edge lie in its block
edge_within : (g : LinkGraph) (live : List Bool) (e : Edge) (place : ℕ) → EdgeFits g e → Among (edge_offset (layout_of g live) e) (rule_of e.kind).width place → Among (at_or 0 (block_offsets 0 g.blocks) e.block) (at_or 0 (sizes g) e.block) place
edge_within g live e place fits in' =
    within (at_or 0 (block_offsets 0 g.blocks) e.block) e.offset (rule_of e.kind).width (at_or 0 (sizes g) e.block) place fits.inside in'.0 in'.1
  where
    within : (at offset width size place : ℕ) → offset + width ≤ size → at + offset ≤ place → place < at + offset + width → Among at size place
    within at offset width size place fits low high = (omega arith, omega arith)

edges_kept : (g : LinkGraph) (live : List Bool) (base : ℕ) (bound : List (Option ℕ)) (chosen : ℕ → Bool) (address : ℕ → ℕ) → Sound g → LiesApart g live → HasLabels g chosen → IsToldSo g live base bound chosen address →
    All (IsKept (IsMapped (laid_out g live base) chosen) (edge_write g (layout_of g live) base (told_address g (layout_of g live) base bound)) (edge_write g (layout_of g live) base address) (λ (e : Edge). chosen e.block)) g.edges
edges_kept g live base bound chosen address sound lies labels so =
    let l : Layout = layout_of g live in
    let told : ℕ → ℕ = told_address g l base bound in
    All-weaker (Contains g.edges) (IsKept (IsMapped (laid_out g live base) chosen) (edge_write g l base told) (edge_write g l base address) (λ (e : Edge). chosen e.block))
    (λ e here.
    let fits : EdgeFits g e = All-contains (EdgeFits g) g.edges e sound.edges here in
    record {
      same = λ on. ap (λ v. record { at = edge_offset l e; kind = e.kind; value = v }) (edge_same g live base bound chosen address e labels so here on);
      inside = λ on place in'. let at = edge_within g live e place fits in' in InBlock e.block fits.block on at.0 at.1;
      off = λ off place in'. block_off g live base chosen e.block place lies fits.block off (edge_within g live e place fits in');
    })
    g.edges (All-contains_itself g.edges)

three_written : (us vs ws : List Write) (f : ℕ → ℕ) → all_written (us ++ vs ++ ws) f ≡ all_written ws (all_written vs (all_written us f))
three_written us vs ws f = written_append (us ++ vs) ws f ∙ ap (all_written ws) (written_append us vs f)

pub image_is_linked : ImageIsLinked
image_is_linked g live base bound chosen address sound labels so place here =
    let l : Layout = layout_of g live in
    let m : Member = laid_out g live base in
    let told : ℕ → ℕ = told_address g l base bound in
    let area : ℕ → Type 0 = IsMapped m chosen in
    let lies = lies_apart g live sound in
    let raw : ℕ → ℕ = raw_byte (pieces g l) in
    let cell : ℕ × ℕ → Bool = λ p. uses_cell chosen m p.0 in
    let stub : ℕ × ℕ → Bool = λ p. uses_stub chosen m p.0 in
    let edge : Edge → Bool = λ e. chosen e.block in
    let cells = kept_agree area (cell_write told) (cell_write address) cell l.cells raw raw (cells_kept g live base bound chosen address lies so) (λ k in'. refl) in
    let stubs = kept_agree area (stub_write l) (stub_write l) stub l.stubs _ _ (stubs_kept g live base chosen lies) cells in
    let edges = kept_agree area (edge_write g l base told) (edge_write g l base address) edge g.edges _ _ (edges_kept g live base bound chosen address sound lies labels so) stubs in
    ap (λ (f : ℕ → ℕ). f place) (three_written (map (cell_write told) l.cells) (map (stub_write l) l.stubs) (map (edge_write g l base told) g.edges) raw)
    ∙ edges place here
    ∙ sym (ap (λ (f : ℕ → ℕ). f place) (three_written (map (cell_write address) (filter cell l.cells)) (map (stub_write l) (filter stub l.stubs)) (map (edge_write g l base address) (filter edge g.edges)) raw))
