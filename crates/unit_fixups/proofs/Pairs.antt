-- The values of pairs: what the table of upper parts has is what the definition searches for.
use Rattle.std.proofs.Common.{◌≡◌, ℕ, suc, ◌<◌, Bool, true, false, ◌&&◌, cond, ℤ, pos, to_z, of_z, w64, SFits, List, [], ◌∷◌, length, drop, get_or, Option, Some, None, refl, sym, ap, ◌∙◌}
use Rattle.std.specs.Prelude.{find, option_map, unwrap_or, if◌then◌else◌}
use Rattle.std.specs.Option.{option_map_or}
use Rattle.std.proofs.lemmas.Int.{to_z-of_z}
use Rattle.std.proofs.Math.Seq.{drop-cons}
use Rattle.link_model.specs.Image.{is_upper, is_paired, is_at, place_of, lone_value, edge_value}
use Rattle.link_model.specs.declared.graph.Edge.{Edge}
use Rattle.link_model.specs.declared.graph.GPlace.TheVariants.{In}
use Rattle.link_model.specs.declared.graph.Layout.{Layout}
use Rattle.link_model.specs.declared.graph.LinkGraph.{LinkGraph}
use Rattle.unit_fixups.specs.Tables.{is_upper_at, upper_value}

-- the table after an upper part was noted
pub noted : (up here : Bool) (r v : ℤ) (old new : Option ℤ) → up ≡ true → SFits w64 r → r ≡ v → new ≡ cond here (Some (to_z w64 (of_z w64 r))) old → new ≡ (if up && here then Some v else old)
noted up here r v old new on fits e written =
    written ∙ ap (λ (z : ℤ). cond here (Some z) old) (to_z-of_z w64 r fits ∙ e) ∙ rw on refl

-- a value or 0
map_or : {X : Type 0} (f : X → ℤ) (o : Option X) → unwrap_or (option_map f o) (pos 0) ≡ option_map_or f o (pos 0)
map_or f None = refl
map_or f (Some x) = refl

-- what the table has for the label is the value of the edge
pub paired_is : (g : LinkGraph) (l : Layout) (base : ℕ) (address : ℕ → ℕ) (e : Edge) (block offset : ℕ) → is_paired e.kind ≡ true → place_of g e.target ≡ In block offset → unwrap_or (upper_value l base address g.edges block offset) (pos 0) ≡ edge_value g l base address e
paired_is g l base address e block offset paired place =
    rw (paired, place) (map_or (lone_value l base address) (find (is_upper_at block offset) g.edges))

find_never : {X : Type 0} (p : X → Bool) (xs : List X) → ((x : X) → p x ≡ false) → find p xs ≡ None
find_never p [] h = refl
find_never p (x ∷ xs) h = rw (h x) (find_never p xs h)

and_false : (b : Bool) → (b && false) ≡ false
and_false true = refl
and_false false = refl

-- a label outside the unit's blocks has no upper edge
pub paired_none : (g : LinkGraph) (l : Layout) (base : ℕ) (address : ℕ → ℕ) (e : Edge) → is_paired e.kind ≡ true → ((h : Edge) → is_at (place_of g e.target) h ≡ false) → pos 0 ≡ edge_value g l base address e
paired_none g l base address e paired never =
    let none = find_never (λ (h : Edge). is_upper h.kind && is_at (place_of g e.target) h) g.edges
    (λ h. ap (λ (b : Bool). is_upper h.kind && b) (never h) ∙ and_false (is_upper h.kind)) in
    rw (paired, none) refl

map_cons : (f : Edge → ℤ) (p : Edge → Bool) (x : Edge) (xs : List Edge) → (if p x then Some (f x) else option_map f (find p xs)) ≡ option_map f (find p (x ∷ xs))
map_cons f p x xs =
    elim (p x) as (λ b. (if b then Some (f x) else option_map f (find p xs)) ≡ option_map f (if b then Some x else find p xs)) [
      | true ↦ refl
      | false ↦ refl
    ]

-- one more edge before those that were noted
pub upper_step : (l : Layout) (base : ℕ) (address : ℕ → ℕ) (edges : List Edge) (k n : ℕ) (d : Edge) (block offset : ℕ) (old : Option ℤ) → n ≡ suc k → k < length edges → old ≡ upper_value l base address (drop n edges) block offset → (if is_upper_at block offset (get_or edges k d) then Some (lone_value l base address (get_or edges k d)) else old) ≡ upper_value l base address (drop k edges) block offset
upper_step l base address edges k n d block offset old next within e =
    let rest : old ≡ upper_value l base address (drop (suc k) edges) block offset = e ∙ ap (λ (x : ℕ). upper_value l base address (drop x edges) block offset) next in
    let value : Edge → ℤ = lone_value l base address in
    let x : Edge = get_or edges k d in
    ap (λ (o : Option ℤ). if is_upper_at block offset x then Some (value x) else o) rest
    ∙ map_cons value (is_upper_at block offset) x (drop (suc k) edges)
    ∙ ap (λ (xs : List Edge). upper_value l base address xs block offset) (sym (drop-cons edges k d within))
