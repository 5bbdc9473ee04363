-- A closed graph, all of whose names are live, has no externals, cells and stubs.
use Rattle.std.proofs.Common.{◌≡◌, ◌≢◌, ℕ, zero, suc, ◌+◌, ◌<◌, Bool, true, false, cond, not, ◌&&◌, ◌||◌, ◌==◌, List, [], ◌∷◌, length, map, get_or, refl, ap, subst, ◌∙◌, inl, inr, arith}
use Rattle.std.specs.List.{All, filter}
use Rattle.std.proofs.lemmas.Bool.{eqb-true, ne_eqb, and_parts, and_left, and_right, or_from, or_cases, or_left, or_right, not_from_true, cond_both}
use Rattle.std.proofs.lemmas.List.Elements.{All-head, All-tail}
use Rattle.std.proofs.lemmas.List.Folds.{list_any_none, Any-from_list_any}
use Rattle.link_model.specs.Graph.{is_defined, is_offered, first_flag, other_flags, own_symbols, is_referred, numbers_where, external_symbols}
use Rattle.link_model.specs.Image.{at_or, place_of}
use Rattle.link_model.specs.Layout.{needs_cell, needs_stub, some_edge, cell_symbols, stub_symbols, in_turn, layout_of, cells_start, stubs_start, CELL_SIZE, STUB_SIZE}
use Rattle.link_model.specs.declared.graph.Edge.{Edge}
use Rattle.link_model.specs.declared.graph.GPlace.TheVariants.{Abs}
use Rattle.link_model.specs.declared.graph.GSym.{GSym}
use Rattle.link_model.specs.declared.graph.Layout.{Layout}
use Rattle.link_model.specs.declared.graph.LinkGraph.{LinkGraph}
use Rattle.unit_fixups.specs.Sound.{Alone, Closed, AllLive}

-- the flag of a symbol that is defined
abbrev place_at : List GSym → ℕ → Bool
place_at ss s = is_defined (at_or (Abs 0) (map (λ (x : GSym). x.place) ss) s)

live_rest : (live : List Bool) (n : ℕ) → length live ≡ suc n → All (λ b. b ≡ true) live → (first_flag live ≡ true) × (length (other_flags live) ≡ n) × All (λ b. b ≡ true) (other_flags live)
live_rest [] n e all = absurd (omega arith)
live_rest (b ∷ bs) n e all = (All-head (λ b. b ≡ true) b bs all, omega arith, All-tail (λ b. b ≡ true) b bs all)

abbrev Own : List Bool → List GSym → Type 0
Own bs ss = (s : ℕ) → s < length bs → place_at ss s ≡ true → get_or bs s false ≡ true

own_cons : (b : Bool) (bs : List Bool) (x : GSym) (ss : List GSym) → (is_defined x.place ≡ true → b ≡ true) → Own bs ss → Own (b ∷ bs) (x ∷ ss)
own_cons b bs x ss here rest zero lt defined = here defined
own_cons b bs x ss here rest (suc s) lt defined = rest s (omega arith) defined

-- each symbol that is defined is the unit's own
own_defined : (ss : List GSym) (live : List Bool) → length live ≡ length (filter is_offered ss) → All (λ b. b ≡ true) live → Own (own_symbols ss live) ss
own_defined [] live e all = λ s lt defined. absurd (omega arith)
own_defined (x ∷ ss) live e all =
    cond_both (is_offered x) (first_flag live ∷ own_symbols ss (other_flags live)) (is_defined x.place ∷ own_symbols ss live) (λ (bs : List Bool). Own bs (x ∷ ss))
    (λ offered.
    let count : length live ≡ suc (length (filter is_offered ss)) = e ∙ ap (λ (b : Bool). length (cond b (x ∷ filter is_offered ss) (filter is_offered ss))) offered in
    let rest = live_rest live (length (filter is_offered ss)) count all in
    own_cons (first_flag live) (own_symbols ss (other_flags live)) x ss (λ d. rest.0) (own_defined ss (other_flags live) rest.1 rest.2))
    (λ other.
    let count : length live ≡ length (filter is_offered ss) = e ∙ ap (λ (b : Bool). length (cond b (x ∷ filter is_offered ss) (filter is_offered ss))) other in
    own_cons (is_defined x.place) (own_symbols ss live) x ss (λ d. d) (own_defined ss live count all))

none_where : (test : ℕ → Bool → Bool) (k : ℕ) (bs : List Bool) → ((j : ℕ) → j < length bs → test (k + j) (get_or bs j false) ≡ false) → numbers_where test k bs ≡ []
none_where test k [] h = refl
none_where test k (b ∷ bs) h =
    let first : k ≡ k + 0 = omega arith in
    let here : test k b ≡ false = ap (λ (i : ℕ). test i b) first ∙ h 0 (omega arith) in
    let rest : numbers_where test (k + 1) bs ≡ [] = none_where test (k + 1) bs (λ j lt. let next : k + 1 + j ≡ k + suc j = omega arith in ap (λ (i : ℕ). test i (get_or bs j false)) next ∙ h (suc j) (omega arith)) in
    ap (λ (b : Bool). cond b (k ∷ numbers_where test (k + 1) bs) (numbers_where test (k + 1) bs)) here ∙ rest

some_refers : (test : Edge → Bool) (es : List Edge) (s : ℕ) → some_edge test es s ≡ true → is_referred es s ≡ true
some_refers test [] s h = h
some_refers test (e ∷ es) s h = elim (or_cases (e.target == s && test e) (some_edge test es s) h) [
  | inl here ↦ or_left (e.target == s) (is_referred es s) (and_parts (e.target == s) (test e) here).0
  | inr later ↦ or_right (e.target == s) (is_referred es s) (some_refers test es s later)
]

not_and : (own referred : Bool) → (referred ≡ true → own ≡ true) → (not own && referred) ≡ false
not_and own true h = and_left (not own) true (not_from_true own (h refl))
not_and own false h = and_right (not own) false refl

record Known (g : LinkGraph) (own : List Bool) : Type 0 where
  refers : (s : ℕ) → s < length own → is_referred g.edges s ≡ true → get_or own s false ≡ true
  cells : (s : ℕ) → some_edge needs_cell g.edges s ≡ false

known_of : (g : LinkGraph) (live : List Bool) → Closed g → AllLive g live → Known g (own_symbols g.symbols live)
known_of g live closed all = record {
  refers = λ s lt referred.
      let any = Any-from_list_any (λ (e : Edge). e.target == s) g.edges referred in
      let e : Edge = any.1 in
      let target : e.target ≡ s = eqb-true e.target s any.4 in
      let fact = subst (λ (x : Edge). (is_defined (place_of g x.target) ≡ true) × (x.kind ≢ 20)) any.3 (closed any.0 e any.2) in
      own_defined g.symbols live all.0 all.1 s lt (subst (λ (t : ℕ). is_defined (place_of g t) ≡ true) target fact.0);
  cells = λ s. list_any_none (λ (e : Edge). e.target == s && needs_cell e) g.edges (λ k d lt. and_right ((get_or g.edges k d).target == s) (needs_cell (get_or g.edges k d)) (ne_eqb (get_or g.edges k d).kind 20 (closed k d lt).1));
}

no_externals : (g : LinkGraph) (live : List Bool) → Known g (own_symbols g.symbols live) → external_symbols g live ≡ []
no_externals g live known =
    let own = own_symbols g.symbols live in
    none_where (λ s b. not b && is_referred g.edges s) 0 own
    (λ j lt. not_and (get_or own j false) (is_referred g.edges (0 + j)) (λ r. let at : 0 + j ≡ j = omega arith in known.refers j lt (subst (λ (i : ℕ). is_referred g.edges i ≡ true) at r)))

no_stubs : (g : LinkGraph) (live : List Bool) → Known g (own_symbols g.symbols live) → stub_symbols g live ≡ []
no_stubs g live known =
    let own = own_symbols g.symbols live in
    none_where (λ s b. not b && some_edge needs_stub g.edges s) 0 own
    (λ j lt. not_and (get_or own j false) (some_edge needs_stub g.edges (0 + j)) (λ r. let at : 0 + j ≡ j = omega arith in known.refers j lt (some_refers needs_stub g.edges j (subst (λ (i : ℕ). some_edge needs_stub g.edges i ≡ true) at r))))

no_cells : (g : LinkGraph) (live : List Bool) → Known g (own_symbols g.symbols live) → cell_symbols g live ≡ []
no_cells g live known =
    let own = own_symbols g.symbols live in
    none_where (λ s b. some_edge needs_cell g.edges s || not b && some_edge needs_stub g.edges s) 0 own
    (λ j lt. or_from (some_edge needs_cell g.edges (0 + j)) (not (get_or own j false) && some_edge needs_stub g.edges (0 + j)) (known.cells (0 + j))
    (not_and (get_or own j false) (some_edge needs_stub g.edges (0 + j)) (λ r. let at : 0 + j ≡ j = omega arith in known.refers j lt (some_refers needs_stub g.edges j (subst (λ (i : ℕ). some_edge needs_stub g.edges i ≡ true) at r)))))

pub closed_alone : (g : LinkGraph) (l : Layout) → Closed g → l ≡ layout_of g l.live → AllLive g l.live → Alone g l
closed_alone g l closed laid all =
    let known = known_of g l.live closed all in
    record {
      externals = ap (λ (x : Layout). x.externals) laid ∙ no_externals g l.live known;
      cells = ap (λ (x : Layout). x.cells) laid ∙ ap (in_turn (cells_start g) CELL_SIZE) (no_cells g l.live known);
      stubs = ap (λ (x : Layout). x.stubs) laid ∙ ap (in_turn (stubs_start g l.live) STUB_SIZE) (no_stubs g l.live known);
      edges = λ k d lt. (closed k d lt).1;
    }
