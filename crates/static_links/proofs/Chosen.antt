-- Where a place of a member is mapped, some block of it is chosen.
use Rattle.std.proofs.Common.{◌≡◌, ℕ, Bool, true, ◌&&◌, ◌==◌, inl, inr, is_some}
use Rattle.std.proofs.lemmas.Bool.{and_parts, or_cases}
use Rattle.link_model.specs.Image.{offset_of}
use Rattle.link_model.specs.Layout.{needs_cell, needs_stub, some_edge}
use Rattle.link_model.specs.declared.graph.Edge.{Edge}
use Rattle.link_model.specs.declared.graph.LinkGraph.{LinkGraph}
use Rattle.static_links.specs.Links.{Member, IsMapped, InBlock, InCell, InStub, chosen_edges, uses_cell, uses_stub}
use Rattle.static_links.proofs.Lists.{any_found, filtered}

-- some edge of a chosen block passes
edge_chosen : (chosen : ℕ → Bool) (test : Edge → Bool) (g : LinkGraph) (s : ℕ) → some_edge test (chosen_edges chosen g) s ≡ true → (b : ℕ) × (chosen b ≡ true)
edge_chosen chosen test g s on =
    let e = any_found (λ (x : Edge). x.target == s && test x) (chosen_edges chosen g) on in
    (e.0.block, (filtered (λ (x : Edge). chosen x.block) g.edges e.0 e.1).1)

stub_chosen : (chosen : ℕ → Bool) (n : Member) (s : ℕ) → uses_stub chosen n s ≡ true → (b : ℕ) × (chosen b ≡ true)
stub_chosen chosen n s on = edge_chosen chosen needs_stub n.graph s (and_parts (is_some (offset_of n.layout.stubs s)) (some_edge needs_stub (chosen_edges chosen n.graph) s) on).1

cell_chosen : (chosen : ℕ → Bool) (n : Member) (s : ℕ) → uses_cell chosen n s ≡ true → (b : ℕ) × (chosen b ≡ true)
cell_chosen chosen n s on = elim (or_cases (some_edge needs_cell (chosen_edges chosen n.graph) s) (uses_stub chosen n s) on) [
  | inl cell ↦ edge_chosen chosen needs_cell n.graph s cell
  | inr stub ↦ stub_chosen chosen n s stub
]

-- where a place is mapped, some block is chosen
pub mapped_chosen : (n : Member) (chosen : ℕ → Bool) (place : ℕ) → IsMapped n chosen place → (b : ℕ) × (chosen b ≡ true)
mapped_chosen n chosen place (InBlock block lt on low high) = (block, on)
mapped_chosen n chosen place (InCell p here on low high) = cell_chosen chosen n p.0 on
mapped_chosen n chosen place (InStub p here on low high) = stub_chosen chosen n p.0 on
