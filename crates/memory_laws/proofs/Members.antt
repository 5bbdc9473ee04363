-- The instances of a unit by the blocks of their names, and the dependencies of an instance's group.
use Rattle.std.proofs.Common.{◌≡◌, ℕ, zero, suc, ◌+◌, ◌<◌, Bool, true, false, ◌&&◌, ◌==◌, cond, All, List, [], ◌∷◌, length, map, filter, flat_map, zip, slice_get, Contains, inl, inr, subst, sym, refl, ap, ◌∙◌, arith, Option, Some, None, unwrap_or}
use Rattle.std.specs.Bool.{if◌then◌else◌}
use Rattle.std.specs.List.{list_any, range_with_len}
use Rattle.std.proofs.lemmas.Bool.{both_ways, eqb-true, eq-eqb}
use Rattle.std.proofs.lemmas.List.{length-map}
use Rattle.std.proofs.lemmas.List.Elements.{All-head, All-tail, All-filter, Contains-append_left, Contains-append_cases}
use Rattle.std.proofs.lemmas.Option.{none-some, same_Some}
use Rattle.list_laws.proofs.Each.{contains_later, contains_here, at_contains, contains_at}
use Rattle.orc_ids.specs.declared.groups.Group.{Group}
use Rattle.orc_ids.specs.declared.ids.InstId.{InstId}
use Rattle.block_groups.specs.Groups.{block_of, group_of, groups_of, is_absolute, is_in, live_places, members_at, needed, needs}
use Rattle.block_groups.specs.Members.{places_of}
use Rattle.block_groups.proofs.Rows.{contains_cases, contains_none}
use Rattle.block_groups.proofs.Keyed.{block_there}
use Rattle.closure_laws.specs.Instances as law
use Rattle.closure_laws.specs.Instances.{offer_at}
use Rattle.link_model.specs.Graph.{is_defined, is_offered, first_flag, other_flags, own_symbols, external_symbols}
use Rattle.link_model.specs.Image.{at_or}
use Rattle.link_model.specs.Offers.{name_of, no_symbol, offered_symbols, offers_of}
use Rattle.link_model.specs.Sound.{PlaceFits, Sound}
use Rattle.link_model.specs.declared.graph.GPlace.{GPlace}
use Rattle.link_model.specs.declared.graph.GPlace.TheVariants.{In, Abs, External}
use Rattle.link_model.specs.declared.graph.GSym.{GSym}
use Rattle.link_model.specs.declared.graph.LinkGraph.{LinkGraph}
use Rattle.session_laws.proofs.Declared.{mapped_some, same_element}
use Rattle.session_model.specs.Change.{deps_in}
use Rattle.session_model.specs.Lists.{first_some, only_if, or_else}
use Rattle.session_model.specs.Plain.{is_owned, own_rows}
use Rattle.session_model.specs.declared.rows.InstRow.{InstRow}
use Rattle.static_links.proofs.Lists.{any_found, any_there, contains_flat, filtered, flat_mapped}
use Rattle.memory_laws.specs.Closures.{offer_place}
use Rattle.memory_laws.proofs.Lists.{chosen_here, filter_here, map_here, map_there, pair_parts, pair_there, range_here}

-- The places of the live names

-- of these symbols, the places of those whose flags are set
places_by : List GSym → List Bool → List GPlace
places_by [] flags = []
places_by (s ∷ ss) [] = []
places_by (s ∷ ss) (b ∷ bs) = cond b (s.place ∷ places_by ss bs) (places_by ss bs)

abbrev is_live : GSym × Bool → Bool
is_live p = is_offered p.0 && p.1

abbrev places_among : List (GSym × Bool) → List GPlace
places_among ps = map (λ (p : GSym × Bool). p.0.place) (filter is_live ps)

no_flags : (ss : List GSym) → places_by ss [] ≡ []
unfolding places_by
no_flags [] = refl
no_flags (s ∷ ss) = refl

-- the place of one offered symbol more
one_offered : (s : GSym) (ps : List (GSym × Bool)) (os : List GSym) (live : List Bool) → is_offered s ≡ true → places_among ps ≡ places_by os (other_flags live) → places_among ((s, first_flag live) ∷ ps) ≡ places_by (s ∷ os) live
unfolding places_by
one_offered s ps os [] on rest =
    ap (λ (t : Bool). map (λ (p : GSym × Bool). p.0.place) (cond (t && false) ((s, false) ∷ filter is_live ps) (filter is_live ps))) on ∙ rest ∙ no_flags os
one_offered s ps os (true ∷ bs) on rest =
    ap (λ (t : Bool). map (λ (p : GSym × Bool). p.0.place) (cond (t && true) ((s, true) ∷ filter is_live ps) (filter is_live ps))) on ∙ ap (λ (xs : List GPlace). s.place ∷ xs) rest
one_offered s ps os (false ∷ bs) on rest =
    ap (λ (t : Bool). map (λ (p : GSym × Bool). p.0.place) (cond (t && false) ((s, false) ∷ filter is_live ps) (filter is_live ps))) on ∙ rest

places_one : (s : GSym) (ss : List GSym) (t : Bool) (live : List Bool) → is_offered s ≡ t → ((bs : List Bool) → places_of ss (own_symbols ss bs) ≡ places_by (filter is_offered ss) bs) →
    places_among (zip (s ∷ ss) (cond t (first_flag live ∷ own_symbols ss (other_flags live)) (is_defined s.place ∷ own_symbols ss live))) ≡ places_by (cond t (s ∷ filter is_offered ss) (filter is_offered ss)) live
places_one s ss true live on rest = one_offered s (zip ss (own_symbols ss (other_flags live))) (filter is_offered ss) live on (rest (other_flags live))
places_one s ss false live off rest =
    ap (λ (t : Bool). map (λ (p : GSym × Bool). p.0.place) (cond (t && is_defined s.place) ((s, is_defined s.place) ∷ filter is_live (zip ss (own_symbols ss live))) (filter is_live (zip ss (own_symbols ss live))))) off
    ∙ rest live

places_are : (ss : List GSym) (live : List Bool) → places_of ss (own_symbols ss live) ≡ places_by (filter is_offered ss) live
unfolding places_by
places_are [] live = refl
places_are (s ∷ ss) live = places_one s ss (is_offered s) live refl (places_are ss)

mapped_one : (f : ℕ → GPlace) (k : ℕ) (p : GPlace) (b : Bool) (xs : List ℕ) (ps : List GPlace) → f k ≡ p → map f xs ≡ ps → map f (cond b (k ∷ xs) xs) ≡ cond b (p ∷ ps) ps
mapped_one f k p true xs ps e rest = ap (λ (q : GPlace). q ∷ map f xs) e ∙ ap (λ (qs : List GPlace). p ∷ qs) rest
mapped_one f k p false xs ps e rest = rest

places_numbered : (f : ℕ → GPlace) (k : ℕ) (os : List GSym) (live : List Bool) → length live ≡ length os → ((j n : ℕ) → n ≡ k + j → f n ≡ (at_or no_symbol os j).place) → map f (law.live_places k live) ≡ places_by os live
unfolding places_by
places_numbered f k [] [] whole h = refl
places_numbered f k [] (b ∷ bs) whole h = absurd (omega (arith, whole))
places_numbered f k (o ∷ os) [] whole h = absurd (omega (arith, whole))
places_numbered f k (o ∷ os) (b ∷ bs) whole h =
    mapped_one f k o.place b (law.live_places (k + 1) bs) (places_by os bs) (h 0 k (omega arith))
    (places_numbered f (k + 1) os bs (omega (arith, whole)) (λ j n e. h (suc j) n (omega (arith, e))))

-- the unit's instances stand at the places of what they are offered as
pub places_offered : (g : LinkGraph) (live : List Bool) (rows : List InstRow) (own : List InstId) → length live ≡ length (offers_of g) → map (offer_at rows) own ≡ law.live_places 0 live → live_places g live ≡ map (offer_place g) (map (offer_at rows) own)
places_offered g live rows own flags offered =
    places_are g.symbols live
    ∙ sym (places_numbered (offer_place g) 0 (offered_symbols g) live (flags ∙ length-map (offered_symbols g) (λ (s : GSym). (name_of s, s.flags))) (λ j n e. let same : n ≡ j = omega (arith, e) in ap (offer_place g) same))
    ∙ ap (map (offer_place g)) (sym offered)

-- The unit's instances

owned_first : (u k : ℕ) (r : InstRow) (is : List InstId) (t : Bool) → t ≡ true → Contains (cond t (record { 0 = k } ∷ is) is) (record { 0 = k })
owned_first u k r is true on = contains_here (record { 0 = k }) is
owned_first u k r is false on = absurd (both_ways false refl on)

owned_later : (k : ℕ) (i : InstId) (is : List InstId) (t : Bool) → Contains is i → Contains (cond t (record { 0 = k } ∷ is) is) i
owned_later k i is true c = contains_later (record { 0 = k }) i is c
owned_later k i is false c = c

-- a present instance of the unit is among them
pub owned_here : (u k n i : ℕ) (rows : List InstRow) (r : InstRow) → i ≡ k + n → slice_get rows n ≡ Some r → is_owned u r ≡ true → Contains (own_rows u k rows) (record { 0 = i })
owned_here u k n i [] r is e on = absurd (none-some r e)
owned_here u k zero i (x ∷ xs) r is e on =
    let same : k ≡ i = omega (arith, is) in
    let first : is_owned u x ≡ true = ap (is_owned u) (same_Some x r e) ∙ on in
    subst (λ (j : ℕ). Contains (own_rows u k (x ∷ xs)) (record { 0 = j })) same (owned_first u k x (own_rows u (k + 1) xs) (is_owned u x) first)
owned_here u k (suc n) i (x ∷ xs) r is e on = owned_later k (record { 0 = i }) (own_rows u (k + 1) xs) (is_owned u x) (owned_here u (k + 1) n i xs r (omega (arith, is)) e on)

-- Groups

abbrev has_member : ℕ → Group → Bool
has_member i x = list_any (λ (j : InstId). j.0 == i) x.members

abbrev deps_of : ℕ → Group → Option (List InstId)
deps_of i x = only_if (has_member i x) x.deps

first_group : (i : ℕ) (deps : List InstId) (y : Group) (ys : List Group) (t : Bool) → has_member i y ≡ t → (t ≡ true → y.deps ≡ deps) → (t ≡ false → deps_in ys i ≡ deps) → deps_in (y ∷ ys) i ≡ deps
first_group i deps y ys true on here later = ap (λ (t : Bool). unwrap_or (or_else (only_if t y.deps) (first_some (deps_of i) ys)) []) on ∙ here refl
first_group i deps y ys false off here later = ap (λ (t : Bool). unwrap_or (or_else (only_if t y.deps) (first_some (deps_of i) ys)) []) off ∙ later refl

-- where all groups of an instance have the same dependencies, they are what it has
deps_are : (i : ℕ) (deps : List InstId) (groups : List Group) (x : Group) → ((y : Group) → Contains groups y → has_member i y ≡ true → y.deps ≡ deps) → Contains groups x → has_member i x ≡ true → deps_in groups i ≡ deps
deps_are i deps [] x all c on = contains_none x c
deps_are i deps (y ∷ ys) x all c on = first_group i deps y ys (has_member i y) refl
    (λ here. all y (contains_here y ys) here)
    (λ off. elim (contains_cases y x ys c) [
      | inl is ↦ absurd (both_ways (has_member i y) off (ap (has_member i) is ∙ on))
      | inr rest ↦ deps_are i deps ys x (λ z d. all z (contains_later y z ys d)) rest on
    ])

group_parts : (is deps : List InstId) (x : Group) → Contains (group_of is deps) x → (x.members ≡ is) × (x.deps ≡ deps)
group_parts [] deps x c = contains_none x c
group_parts (i ∷ is) deps x c = elim (contains_cases (record { members = i ∷ is; deps = deps }) x [] c) [
  | inl same ↦ (ap (λ (y : Group). y.members) (sym same), ap (λ (y : Group). y.deps) (sym same))
  | inr rest ↦ contains_none x rest
]

group_there : (is deps : List InstId) (i : InstId) → Contains is i → Contains (group_of is deps) (record { members = is; deps = deps })
group_there [] deps i c = contains_none i c
group_there (j ∷ js) deps i c = contains_here (record { members = j ∷ js; deps = deps }) []

-- the place of a member passes
member_passes : (test : GPlace → Bool) (places : List GPlace) (own : List InstId) (f : InstId → GPlace) (i : ℕ) → places ≡ map f own → list_any (λ (j : InstId). j.0 == i) (members_at test places own) ≡ true → test (f (record { 0 = i })) ≡ true
member_passes test places own f i is any =
    let member = any_found (λ (j : InstId). j.0 == i) (members_at test places own) any in
    let kept : List (GPlace × InstId) = filter (λ (p : GPlace × InstId). test p.0) (zip places own) in
    let pair = map_there (λ (p : GPlace × InstId). p.1) kept member.0 member.1 in
    let from = filtered (λ (p : GPlace × InstId). test p.0) (zip places own) pair.0 pair.1 in
    let at = contains_at (zip places own) pair.0 from.0 in
    let parts = pair_parts places own at.0 pair.0 at.1 in
    let place : pair.0.0 ≡ f pair.0.1 = same_element (slice_get places at.0) pair.0.0 (f pair.0.1) parts.0 (ap (λ (ps : List GPlace). slice_get ps at.0) is ∙ mapped_some f own at.0 pair.0.1 parts.1) in
    let same : pair.0.1.0 ≡ i = ap (λ (j : InstId). j.0) pair.2 ∙ eqb-true member.0.0 i member.2 in
    ap (λ (n : ℕ). test (f (record { 0 = n }))) (sym same) ∙ ap test (sym place) ∙ from.1

-- an instance whose place passes is a member
member_there : (test : GPlace → Bool) (places : List GPlace) (own : List InstId) (f : InstId → GPlace) (i : InstId) → places ≡ map f own → Contains own i → test (f i) ≡ true → Contains (members_at test places own) i
member_there test places own f i is c on =
    let at = contains_at own i c in
    let place : slice_get places at.0 ≡ Some (f i) = ap (λ (ps : List GPlace). slice_get ps at.0) is ∙ mapped_some f own at.0 i at.1 in
    map_here (λ (p : GPlace × InstId). p.1) (filter (λ (p : GPlace × InstId). test p.0) (zip places own)) (f i, i)
    (filter_here (λ (p : GPlace × InstId). test p.0) (zip places own) (f i, i) (at_contains (zip places own) at.0 (f i, i) (pair_there places own at.0 (f i) i place at.1)) on)

-- a place in one block is in no other, and isn't absolute
in_block : (p : GPlace) (a b : ℕ) → block_of p ≡ Some b → is_in a p ≡ true → a ≡ b
in_block (In block offset) a b e on = sym (eqb-true block a on) ∙ same_Some block b e
in_block (Abs address) a b e on = absurd (none-some b e)
in_block (External weak) a b e on = absurd (none-some b e)

is_there : (p : GPlace) (b : ℕ) → block_of p ≡ Some b → is_in b p ≡ true
is_there (In block offset) b e = eq-eqb block b (same_Some block b e)
is_there (Abs address) b e = absurd (none-some b e)
is_there (External weak) b e = absurd (none-some b e)

not_absolute : (p : GPlace) (b : ℕ) → block_of p ≡ Some b → is_absolute p ≡ true → ⊥
not_absolute (In block offset) b e on = both_ways false refl on
not_absolute (Abs address) b e on = none-some b e
not_absolute (External weak) b e on = none-some b e

symbol_fits : (g : LinkGraph) (ss : List GSym) (k : ℕ) → All (λ (s : GSym). PlaceFits g s.place) ss → PlaceFits g (at_or no_symbol ss k).place
symbol_fits g [] k all = tt
symbol_fits g (s ∷ ss) zero all = All-head (λ (x : GSym). PlaceFits g x.place) s ss all
symbol_fits g (s ∷ ss) (suc k) all = symbol_fits g ss k (All-tail (λ (x : GSym). PlaceFits g x.place) s ss all)

-- the place of an instance, by its unit's graph
abbrev pub place_at : LinkGraph → List InstRow → InstId → GPlace
place_at g rows j = offer_place g (offer_at rows j)

abbrev block_members : LinkGraph → List Bool → List InstId → ℕ → List InstId
block_members g live own b = members_at (is_in b) (live_places g live) own

abbrev pub block_deps : LinkGraph → List Bool → List (Option InstId) → ℕ → List InstId
block_deps g live bound b = needed g live (external_symbols g live) bound b

abbrev block_group : LinkGraph → List Bool → List InstId → List (Option InstId) → ℕ → List Group
block_group g live own bound b = group_of (block_members g live own b) (block_deps g live bound b)

twice_mapped : {X Y Z : Type 0} (f : Y → Z) (h : X → Y) (xs : List X) → map f (map h xs) ≡ map (λ x. f (h x)) xs
twice_mapped f h [] = refl
twice_mapped {X} {Y} {Z} f h (x ∷ xs) = ap (λ (zs : List Z). f (h x) ∷ zs) (twice_mapped f h xs)

-- each group of the instance is that of its block
group_deps : (g : LinkGraph) (live : List Bool) (rows : List InstRow) (own : List InstId) (bound : List (Option InstId)) (i b : ℕ) → live_places g live ≡ map (place_at g rows) own → block_of (place_at g rows (record { 0 = i })) ≡ Some b →
    (y : Group) → Contains (groups_of g live own bound) y → has_member i y ≡ true → y.deps ≡ block_deps g live bound b
group_deps g live rows own bound i b places at y d on =
    let last : List InstId = members_at is_absolute (live_places g live) own in
    elim (Contains-append_cases (flat_map (block_group g live own bound) (range_with_len 0 (length g.blocks))) (group_of last []) y d) [
      | inl blocks ↦ (
          let from = flat_mapped (block_group g live own bound) (range_with_len 0 (length g.blocks)) y blocks in
          let parts = group_parts (block_members g live own from.0) (block_deps g live bound from.0) y from.2 in
          let passes = member_passes (is_in from.0) (live_places g live) own (place_at g rows) i places (ap (λ (is : List InstId). list_any (λ (j : InstId). j.0 == i) is) (sym parts.0) ∙ on) in
          parts.1 ∙ ap (block_deps g live bound) (in_block (place_at g rows (record { 0 = i })) from.0 b at passes))
      | inr absolute ↦ (
          let parts = group_parts last [] y absolute in
          let passes = member_passes is_absolute (live_places g live) own (place_at g rows) i places (ap (λ (is : List InstId). list_any (λ (j : InstId). j.0 == i) is) (sym parts.0) ∙ on) in
          absurd (not_absolute (place_at g rows (record { 0 = i })) b at passes))
    ]

-- the dependencies of an instance's group are the bound ones of what its block needs
pub instance_deps : (g : LinkGraph) (live : List Bool) (rows : List InstRow) (own : List InstId) (bound : List (Option InstId)) (i b : ℕ) → Sound g → live_places g live ≡ map (offer_place g) (map (offer_at rows) own) → Contains own (record { 0 = i }) →
    block_of (place_at g rows (record { 0 = i })) ≡ Some b → deps_in (groups_of g live own bound) i ≡ block_deps g live bound b
instance_deps g live rows own bound i b sound offered c at =
    let places : live_places g live ≡ map (place_at g rows) own = offered ∙ twice_mapped (offer_place g) (offer_at rows) own in
    let here : InstId = record { 0 = i } in
    let members : List InstId = block_members g live own b in
    let deps : List InstId = block_deps g live bound b in
    let group : Group = record { members = members; deps = deps } in
    let blocks : List ℕ = range_with_len 0 (length g.blocks) in
    let below : b < length g.blocks = block_there g (place_at g rows here) b (symbol_fits g (offered_symbols g) (offer_at rows here) (All-filter is_offered (λ (s : GSym). PlaceFits g s.place) g.symbols sound.symbols)) at in
    let member : Contains members here = member_there (is_in b) (live_places g live) own (place_at g rows) here places c (is_there (place_at g rows here) b at) in
    deps_are i deps (groups_of g live own bound) group (group_deps g live rows own bound i b places at)
    (Contains-append_left (flat_map (block_group g live own bound) blocks) (group_of (members_at is_absolute (live_places g live) own) []) group
    (contains_flat (block_group g live own bound) blocks b group (range_here 0 (length g.blocks) b (omega arith) (omega (arith, below))) (group_there members deps here member)))
    (any_there (λ (j : InstId). j.0 == i) members here member (eq-eqb i i refl))

-- a bound external that the block needs is among them
pub bound_needed : (g : LinkGraph) (live : List Bool) (bound : List (Option InstId)) (k s b : ℕ) (i : InstId) → slice_get (external_symbols g live) k ≡ Some s → slice_get bound k ≡ Some (Some i) → needs g live s b ≡ true → Contains (block_deps g live bound b) i
bound_needed g live bound k s b i external at needs_it =
    chosen_here (λ (p : ℕ × Option InstId). if needs g live p.0 b then p.1 else None) (zip (external_symbols g live) bound) (s, Some i) i
    (at_contains (zip (external_symbols g live) bound) k (s, Some i) (pair_there (external_symbols g live) bound k s (Some i) external at))
    (ap (λ (t : Bool). if t then Some i else None) needs_it)
