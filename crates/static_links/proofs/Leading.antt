-- The blocks that lead to others, as one list over all edges of all members, and with it the test for needed blocks.
use Rattle.std.proofs.Common.{◌≡◌, ℕ, zero, suc, Bool, true, false, List, [], ◌∷◌, ◌++◌, length, Contains, Option, Some, None, inl, inr, refl, sym, ap, subst, ◌∙◌, arith}
use Rattle.std.specs.Prelude.{flat_map, slice_get}
use Rattle.std.proofs.lemmas.List.Elements.{All-weaker, All-contains_itself, Contains-append_left, Contains-append_right, Contains-append_cases}
use Rattle.std.proofs.lemmas.Option.{slice_get_within}
use Rattle.list_laws.proofs.Each.{contains_here}
use Rattle.link_model.specs.Image.{is_paired, place_of}
use Rattle.link_model.specs.declared.graph.Edge.{Edge}
use Rattle.link_model.specs.declared.graph.GPlace.{GPlace}
use Rattle.link_model.specs.declared.graph.GPlace.TheVariants.{In, Abs, External}
use Rattle.static_links.specs.Links.{Member, Spots, Leads, Refers, Pairs, IsNeeded}
use Rattle.static_links.proofs.Lists.{flat_mapped, contains_flat, numbers, number_there}
use Rattle.static_links.proofs.Reached.{Name, is_reached, way_of_reached, reached_of_way}

step_to : Name → Option Name → List (Name × Name)
step_to from None = []
step_to from (Some to) = (from, to) ∷ []

-- the block of the label that a paired edge refers to
label_block : ℕ → Bool → GPlace → Option Name
label_block k true (In block offset) = Some (k, block)
label_block k true (Abs address) = None
label_block k true (External weak) = None
label_block k false place = None

edge_steps : Spots → ℕ → Member → Edge → List (Name × Name)
edge_steps spots k m e = step_to (k, e.block) (spots k e.target).block ++ step_to (k, e.block) (label_block k (is_paired e.kind) (place_of m.graph e.target))

member_steps : Spots → ℕ → Option Member → List (Name × Name)
member_steps spots k None = []
member_steps spots k (Some m) = flat_map (edge_steps spots k m) m.graph.edges

pub steps_of : List Member → Spots → List (Name × Name)
steps_of members spots = flat_map (λ k. member_steps spots k (slice_get members k)) (numbers (length members))

-- ---- each of them leads on

step_is : (from : Name) (to : Option Name) (s : Name × Name) → Contains (step_to from to) s → (s.0 ≡ from) × (to ≡ Some s.1)
unfolding step_to
step_is from None s here = absurd (omega (arith, here.1))
step_is from (Some to) s (zero, lt, is) = (ap (λ (t : Name × Name). t.0) (sym is), ap (λ (t : Name × Name). Some t.1) is)
step_is from (Some to) s (suc k, lt, is) = absurd (omega (arith, lt))

label_is : (k : ℕ) (paired : Bool) (place : GPlace) (to : Name) → label_block k paired place ≡ Some to → (paired ≡ true) × (to.0 ≡ k) × (offset : ℕ) × (place ≡ In to.1 offset)
unfolding label_block
label_is k true (In block offset) to e =
    let same : (k, block) ≡ to = cc in
    (refl, ap (λ (x : Name). x.0) (sym same), offset, ap (λ (x : Name). In x.1 offset) same)
label_is k true (Abs address) to e = absurd cc
label_is k true (External weak) to e = absurd cc
label_is k false place to e = absurd cc

edge_leads : (members : List Member) (spots : Spots) (k : ℕ) (m : Member) (e : Edge) (s : Name × Name) → slice_get members k ≡ Some m → Contains m.graph.edges e → Contains (edge_steps spots k m e) s → Leads members spots s.0 s.1
unfolding edge_steps
edge_leads members spots k m e s there here step =
    let from : Name = (k, e.block) in
    let label : Option Name = label_block k (is_paired e.kind) (place_of m.graph e.target) in
    elim (Contains-append_cases (step_to from (spots k e.target).block) (step_to from label) s step) [
      | inl refers ↦
          let is = step_is from (spots k e.target).block s refers in
          let lead : Leads members spots from s.1 = Refers m e there here refl is.1 in
          subst (λ (x : Name). Leads members spots x s.1) (sym is.0) lead
      | inr pairs ↦
          let is = step_is from label s pairs in
          let at = label_is k (is_paired e.kind) (place_of m.graph e.target) s.1 is.1 in
          let lead : Leads members spots from s.1 = Pairs m e at.2 there here refl at.0 at.3 at.1 in
          subst (λ (x : Name). Leads members spots x s.1) (sym is.0) lead
    ]

member_leads : (members : List Member) (spots : Spots) (k : ℕ) (o : Option Member) (s : Name × Name) → slice_get members k ≡ o → Contains (member_steps spots k o) s → Leads members spots s.0 s.1
unfolding member_steps
member_leads members spots k None s there here = absurd (omega (arith, here.1))
member_leads members spots k (Some m) s there here =
    let edge = flat_mapped (edge_steps spots k m) m.graph.edges s here in
    edge_leads members spots k m edge.0 s there edge.1 edge.2

step_leads : (members : List Member) (spots : Spots) (s : Name × Name) → Contains (steps_of members spots) s → Leads members spots s.0 s.1
unfolding steps_of
step_leads members spots s here =
    let member = flat_mapped (λ k. member_steps spots k (slice_get members k)) (numbers (length members)) s here in
    member_leads members spots member.0 (slice_get members member.0) s refl member.2

-- ---- and all that leads on is among them

step_there : (from to : Name) (o : Option Name) → o ≡ Some to → Contains (step_to from o) (from, to)
unfolding step_to
step_there from to o e = subst (λ (x : Option Name). Contains (step_to from x) (from, to)) (sym e) (contains_here (from, to) [])

label_there : (k : ℕ) (paired : Bool) (place : GPlace) (to : Name) (offset : ℕ) → paired ≡ true → place ≡ In to.1 offset → to.0 ≡ k → label_block k paired place ≡ Some to
unfolding label_block
label_there k paired place to offset p at same =
    ap (λ (b : Bool). label_block k b place) p ∙ ap (label_block k true) at ∙ ap (λ (j : ℕ). Some (j, to.1)) (sym same)

edge_there : (members : List Member) (spots : Spots) (from to : Name) (m : Member) (e : Edge) → slice_get members from.0 ≡ Some m → Contains m.graph.edges e → Contains (edge_steps spots from.0 m e) (from, to) → Contains (steps_of members spots) (from, to)
unfolding steps_of member_steps
edge_there members spots from to m e there here step =
    let k : ℕ = from.0 in
    contains_flat (λ j. member_steps spots j (slice_get members j)) (numbers (length members)) k (from, to)
    (number_there (length members) k (slice_get_within members k m there))
    (subst (λ (o : Option Member). Contains (member_steps spots k o) (from, to)) (sym there)
    (contains_flat (edge_steps spots k m) m.graph.edges e (from, to) here step))

lead_there : (members : List Member) (spots : Spots) (from to : Name) → Leads members spots from to → Contains (steps_of members spots) (from, to)
unfolding edge_steps
lead_there members spots from to (Refers m e there here block spot) =
    let start : Name = (from.0, e.block) in
    let same : start ≡ from = ap (λ (b : ℕ). (from.0, b)) block in
    let label : Option Name = label_block from.0 (is_paired e.kind) (place_of m.graph e.target) in
    edge_there members spots from to m e there here
    (Contains-append_left (step_to start (spots from.0 e.target).block) (step_to start label) (from, to)
    (subst (λ (x : Name). Contains (step_to start (spots from.0 e.target).block) (x, to)) same
    (step_there start to (spots from.0 e.target).block spot)))
lead_there members spots from to (Pairs m e offset there here block paired at same_member) =
    let start : Name = (from.0, e.block) in
    let same : start ≡ from = ap (λ (b : ℕ). (from.0, b)) block in
    let label : Option Name = label_block from.0 (is_paired e.kind) (place_of m.graph e.target) in
    edge_there members spots from to m e there here
    (Contains-append_right (step_to start (spots from.0 e.target).block) (step_to start label) (from, to)
    (subst (λ (x : Name). Contains (step_to start label) (x, to)) same
    (step_there start to label (label_there from.0 (is_paired e.kind) (place_of m.graph e.target) to offset paired at same_member))))

-- ---- the needed blocks

needs : List (Name × Name) → Option Name → Name → Bool
needs steps None block = false
needs steps (Some first) block = is_reached steps first block

pub is_needed : List Member → Spots → Option Name → Name → Bool
is_needed members spots first block = needs (steps_of members spots) first block

pub needed_is : (members : List Member) (spots : Spots) (first : Option Name) (block : Name) → is_needed members spots first block ≡ true → IsNeeded members spots first block
unfolding is_needed needs
needed_is members spots None block e = absurd cc
needed_is members spots (Some first) block e =
    let steps = steps_of members spots in
    way_of_reached members spots steps first block
    (All-weaker (Contains steps) (λ (s : Name × Name). Leads members spots s.0 s.1) (step_leads members spots) steps (All-contains_itself steps)) e

pub is_needed_all : (members : List Member) (spots : Spots) (first : Option Name) (block : Name) → IsNeeded members spots first block → is_needed members spots first block ≡ true
unfolding is_needed needs
is_needed_all members spots None block e = absurd e
is_needed_all members spots (Some first) block way = reached_of_way members spots (steps_of members spots) first block (lead_there members spots) way
