-- What is chosen has the same values by what the unit is told and by the map.
use Rattle.std.proofs.Common.{◌≡◌, ℕ, ◌+◌, Bool, true, false, ◌&&◌, ◌==◌, cond, ℤ, pos, List, Contains, Option, Some, None, inl, inr, refl, ap, subst, ◌∙◌}
use Rattle.std.specs.Prelude.{unwrap_or, is_some}
use Rattle.std.specs.Option.{option_map_or}
use Rattle.std.proofs.lemmas.Bool.{and_parts, or_cases, eqb-true}
use Rattle.link_model.specs.Image.{edge_value, edge_offset, lone_value, rule_value, is_paired, is_upper, is_at, paired_with, place_of, offset_of, told_address}
use Rattle.link_model.specs.Layout.{needs_cell, needs_stub, some_edge, layout_of}
use Rattle.link_model.specs.declared.graph.Edge.{Edge}
use Rattle.link_model.specs.declared.graph.GPlace.{GPlace}
use Rattle.link_model.specs.declared.graph.GPlace.TheVariants.{In, Abs, External}
use Rattle.link_model.specs.declared.graph.Layout.{Layout}
use Rattle.link_model.specs.declared.graph.LinkGraph.{LinkGraph}
use Rattle.static_links.specs.Links.{chosen_edges, uses_cell, uses_stub}
use Rattle.static_links.specs.Laws.{laid_out, HasLabels, IsToldSo}
use Rattle.static_links.proofs.Lists.{found, any_found, filtered}

-- ---- values

-- a map's address of the symbol of an edge is all that its own value has of it
lone_same : (l : Layout) (base : ℕ) (told address : ℕ → ℕ) (e : Edge) → told e.target ≡ address e.target → lone_value l base told e ≡ lone_value l base address e
lone_same l base told address e same =
    ap
    (λ (a : ℕ). rule_value e.kind
    (cond (needs_cell e) (base + unwrap_or (offset_of l.cells e.target) 0)
    (cond (needs_stub e) (option_map_or (λ stub. base + stub) (offset_of l.stubs e.target) a) a))
    e.addend (base + edge_offset l e))
    same

both_same : {X : Type 0} (b : Bool) (x x' y y' : X) → (b ≡ true → x ≡ x') → (b ≡ false → y ≡ y') → cond b x y ≡ cond b x' y'
both_same true x x' y y' p q = p refl
both_same false x x' y y' p q = q refl

mapped_same : {X : Type 0} (f f' : X → ℤ) (o : Option X) → ((x : X) → o ≡ Some x → f x ≡ f' x) → option_map_or f o (pos 0) ≡ option_map_or f' o (pos 0)
mapped_same f f' None h = refl
mapped_same f f' (Some x) h = h x refl

at_label : (p : GPlace) (h : Edge) → is_at p h ≡ true → (block offset : ℕ) × (p ≡ In block offset) × (h.block ≡ block)
at_label (In block offset) h at = (block, offset, refl, eqb-true h.block block (and_parts (h.block == block) (h.offset == offset) at).0)
at_label (Abs address) h at = absurd cc
at_label (External weak) h at = absurd cc

-- the upper edge of a chosen pair is chosen
upper_chosen : (g : LinkGraph) (chosen : ℕ → Bool) (e h : Edge) → HasLabels g chosen → Contains g.edges e → chosen e.block ≡ true → is_paired e.kind ≡ true → paired_with g e ≡ Some h → Contains g.edges h × (chosen h.block ≡ true)
upper_chosen g chosen e h labels there on paired is =
    let upper = found (λ (x : Edge). is_upper x.kind && is_at (place_of g e.target) x) g.edges h is in
    let label = at_label (place_of g e.target) h (and_parts (is_upper h.kind) (is_at (place_of g e.target) h) upper.1).1 in
    (upper.0, ap chosen label.3 ∙ labels e label.0 label.1 there on paired label.2)

pub edge_same : (g : LinkGraph) (live : List Bool) (base : ℕ) (bound : List (Option ℕ)) (chosen : ℕ → Bool) (address : ℕ → ℕ) (e : Edge) → HasLabels g chosen → IsToldSo g live base bound chosen address → Contains g.edges e → chosen e.block ≡ true → edge_value g (layout_of g live) base (told_address g (layout_of g live) base bound) e ≡ edge_value g (layout_of g live) base address e
edge_same g live base bound chosen address e labels so there on =
    let l : Layout = layout_of g live in
    let told : ℕ → ℕ = told_address g l base bound in
    both_same (is_paired e.kind)
    (option_map_or (lone_value l base told) (paired_with g e) (pos 0)) (option_map_or (lone_value l base address) (paired_with g e) (pos 0))
    (lone_value l base told e) (lone_value l base address e)
    (λ paired. mapped_same (lone_value l base told) (lone_value l base address) (paired_with g e)
    (λ h is.
    let upper = upper_chosen g chosen e h labels there on paired is in
    lone_same l base told address h (so h upper.0 upper.1)))
    (λ other. lone_same l base told address e (so e there on))

-- the symbol of a used part is that of a chosen edge
used_symbol : (g : LinkGraph) (chosen : ℕ → Bool) (test : Edge → Bool) (s : ℕ) → some_edge test (chosen_edges chosen g) s ≡ true → (e : Edge) × Contains g.edges e × (chosen e.block ≡ true) × (e.target ≡ s)
used_symbol g chosen test s used =
    let any = any_found (λ (x : Edge). x.target == s && test x) (chosen_edges chosen g) used in
    let kept = filtered (λ (x : Edge). chosen x.block) g.edges any.0 any.1 in
    (any.0, kept.0, kept.1, eqb-true any.0.target s (and_parts (any.0.target == s) (test any.0) any.2).0)

told_used : (g : LinkGraph) (live : List Bool) (base : ℕ) (bound : List (Option ℕ)) (chosen : ℕ → Bool) (address : ℕ → ℕ) (test : Edge → Bool) (s : ℕ) → IsToldSo g live base bound chosen address → some_edge test (chosen_edges chosen g) s ≡ true → told_address g (layout_of g live) base bound s ≡ address s
told_used g live base bound chosen address test s so used =
    let edge = used_symbol g chosen test s used in
    subst (λ (t : ℕ). told_address g (layout_of g live) base bound t ≡ address t) edge.3 (so edge.0 edge.1 edge.2)

pub cell_same : (g : LinkGraph) (live : List Bool) (base : ℕ) (bound : List (Option ℕ)) (chosen : ℕ → Bool) (address : ℕ → ℕ) (s : ℕ) → IsToldSo g live base bound chosen address → uses_cell chosen (laid_out g live base) s ≡ true → told_address g (layout_of g live) base bound s ≡ address s
cell_same g live base bound chosen address s so used =
    elim (or_cases (some_edge needs_cell (chosen_edges chosen g) s) (uses_stub chosen (laid_out g live base) s) used) [
      | inl named ↦ told_used g live base bound chosen address needs_cell s so named
      | inr called ↦
          told_used g live base bound chosen address needs_stub s so
          (and_parts (is_some (offset_of (layout_of g live).stubs s)) (some_edge needs_stub (chosen_edges chosen g) s) called).1
    ]
