-- A core with one group more is sound.
use Rattle.std.proofs.Common.{◌≡◌, ℕ, true, false, Option, Some, None, ◌⊎◌, inl, inr, ⊎_elim, ◌<◌, ◌≤◌, ◌+◌, ◌^◌, List, [], ◌∷◌, ◌++◌, length, Contains, vec_len, vec_capacity, zero, suc, ap, sym, subst, ◌∙◌, refl, arith, length-append}
use Rattle.std.specs.Prelude.{slice_get}
use Rattle.std.specs.Option.{option_map_or}
use Rattle.std.proofs.lemmas.Option.{same_Some, none-some, slice_get_within}
use Rattle.std.proofs.lemmas.Bool.{cases_lt}
use Rattle.dep_groups.specs.declared.graph.Edge.{Edge}
use Rattle.dep_groups.specs.Nodes.{Node}
use Rattle.dep_groups.specs.declared.resolve.Core.{Core}
use Rattle.dep_groups.specs.Places.{place, is_set, unset}
use Rattle.dep_groups.specs.Shape.{home_in, deps_in, deps_of, ready_in, entries_of}
use Rattle.dep_groups.specs.Links.{linked_of, step, AreQueued, IsQueued}
use Rattle.dep_groups.specs.Marks.{members_of}
use Rattle.dep_groups.specs.Core.{IsSound}
use Rattle.dep_groups.specs.Wake.{IsListed, here, later}
use Rattle.dep_groups.specs.Added.{IsHoused, AreFresh}
use Rattle.dep_groups.proofs.Lists.{get_last, get_push}
use Rattle.dep_groups.proofs.Ways.{moved, comes_moved}
use Rattle.dep_groups.proofs.Entries.{reach_kept}
use Rattle.dep_groups.specs.Frontier.{Reaches}
use Rattle.dep_groups.proofs.Adds.{place_grown, flag_grown}

no_element : {X : Type 0} (x : X) → Contains [] x → ⊥
no_element x c = omega (arith, c.1)

-- what groups depend on and have as members, with one more
pub deps_here : (nodes : List Node) (n : Node) → deps_of (nodes ++ n ∷ []) (length nodes) ≡ n.deps
unfolding deps_of
deps_here nodes n = ap (λ o. option_map_or (λ (m : Node). m.deps) o []) (get_last nodes n)

pub members_here : (nodes : List Node) (n : Node) → members_of (nodes ++ n ∷ []) (length nodes) ≡ n.members
unfolding members_of
members_here nodes n = ap (λ o. option_map_or (λ (m : Node). m.members) o []) (get_last nodes n)

get_same : {X : Type 0} (xs ys : List X) (k : ℕ) → k < length xs → slice_get (xs ++ ys) k ≡ slice_get xs k
get_same [] ys k less = absurd (omega arith)
get_same (x ∷ xs) ys zero less = refl
get_same (x ∷ xs) ys (suc k) less = get_same xs ys k (omega (arith, less))

pub deps_before : (nodes : List Node) (n : Node) (g : ℕ) → g < length nodes → deps_of (nodes ++ n ∷ []) g ≡ deps_of nodes g
unfolding deps_of
deps_before nodes n g less = ap (λ o. option_map_or (λ (m : Node). m.deps) o []) (get_same nodes (n ∷ []) g less)

pub members_before : (nodes : List Node) (n : Node) (g : ℕ) → g < length nodes → members_of (nodes ++ n ∷ []) g ≡ members_of nodes g
unfolding members_of
members_before nodes n g less = ap (λ o. option_map_or (λ (m : Node). m.members) o []) (get_same nodes (n ∷ []) g less)

past_all : (nodes : List Node) (g : ℕ) → length nodes ≤ g → deps_of nodes g ≡ []
unfolding deps_of
past_all [] g past = refl
past_all (x ∷ xs) zero past = absurd (omega (arith, past))
past_all (x ∷ xs) (suc g) past = past_all xs g (omega (arith, past))

pub deps_there : (nodes : List Node) (g d : ℕ) → Contains (deps_of nodes g) d → g < length nodes
deps_there nodes g d named = ⊎_elim (λ (b : g < length nodes). b) (λ (b : length nodes ≤ g). absurd (no_element d (subst (λ ds. Contains ds d) (past_all nodes g b) named))) (cases_lt g (length nodes))

pub deps_kept : (nodes : List Node) (n : Node) (g d : ℕ) → Contains (deps_of nodes g) d → Contains (deps_of (nodes ++ n ∷ []) g) d
deps_kept nodes n g d named = subst (λ ds. Contains ds d) (sym (deps_before nodes n g (deps_there nodes g d named))) named

pub deps_cases : (nodes : List Node) (n : Node) (g d : ℕ) → Contains (deps_of (nodes ++ n ∷ []) g) d → Contains (deps_of nodes g) d ⊎ ((g ≡ length nodes) × Contains n.deps d)
deps_cases nodes n g d named = ⊎_elim
    (λ (b : g < length nodes). inl (subst (λ ds. Contains ds d) (deps_before nodes n g b) named))
    (λ (b : length nodes ≤ g).
    let there : g < length (nodes ++ n ∷ []) = deps_there (nodes ++ n ∷ []) g d named in
    let e : g ≡ length nodes = omega (arith, b, there, length-append nodes (n ∷ [])) in
    inr (e, subst (λ ds. Contains ds d) (deps_here nodes n) (subst (λ m. Contains (deps_of (nodes ++ n ∷ []) m) d) e named)))
    (cases_lt g (length nodes))

-- the lists of mentions, with one more group
pub indexed_added : (nodes : List Node) (n : Node) (firsts new : List (Option ℕ)) (edges more : List Edge) → ((g d : ℕ) → Contains (deps_of nodes g) d → IsListed edges (place firsts d) g) → ((d : ℕ) → Contains n.deps d → IsListed more (place new d) (length nodes)) → ((d g : ℕ) → IsListed edges (place firsts d) g → IsListed more (place new d) g) → (g d : ℕ) → Contains (deps_of (nodes ++ n ∷ []) g) d → IsListed more (place new d) g
indexed_added nodes n firsts new edges more complete listed kept g d named = sort (deps_cases nodes n g d named)
  where
    sort : Contains (deps_of nodes g) d ⊎ ((g ≡ length nodes) × Contains n.deps d) → IsListed more (place new d) g
    sort (inl e) = kept d g (complete g d e)
    sort (inr e) = subst (λ m. IsListed more (place new d) m) (sym e.0) (listed d e.1)

pub named_added : (nodes : List Node) (n : Node) (firsts new : List (Option ℕ)) (edges more : List Edge) → ((g d : ℕ) → IsListed edges (place firsts d) g → Contains (deps_of nodes g) d) → ((d g : ℕ) → IsListed more (place new d) g → IsListed edges (place firsts d) g ⊎ (Contains n.deps d × (g ≡ length nodes))) → (g d : ℕ) → IsListed more (place new d) g → Contains (deps_of (nodes ++ n ∷ []) g) d
named_added nodes n firsts new edges more named only g d listed = sort (only d g listed)
  where
    sort : IsListed edges (place firsts d) g ⊎ (Contains n.deps d × (g ≡ length nodes)) → Contains (deps_of (nodes ++ n ∷ []) g) d
    sort (inl e) = deps_kept nodes n g d (named g d e)
    sort (inr e) = subst (λ m. Contains (deps_of (nodes ++ n ∷ []) m) d) (sym e.1) (subst (λ ds. Contains ds d) (sym (deps_here nodes n)) e.0)

-- links of one more group
place_past_end : (xs : List (Option ℕ)) (k : ℕ) → length xs ≤ k → place xs k ≡ None
unfolding place
place_past_end [] k past = refl
place_past_end (x ∷ xs) zero past = absurd (omega (arith, past))
place_past_end (x ∷ xs) (suc k) past = place_past_end xs k (omega (arith, past))

pub unlisted : (edges : List Edge) (o : Option ℕ) (g : ℕ) → o ≡ None → IsListed edges o g → ⊥
unlisted edges o g e (here {k = k} f is same) = none-some k (sym e)
unlisted edges o g e (later {k = k} f is rest) = none-some k (sym e)

module _ (old new : Core) (node : Node) where
  pub record IsBigger : Type 0 where
    pub housed : IsHoused old.graph new.graph node.members (length old.graph.nodes.items)
    pub nodes : new.graph.nodes.items ≡ old.graph.nodes.items ++ node ∷ []
    pub links : new.links.items ≡ old.links.items ++ None ∷ []
    pub nexts : new.nexts.items ≡ old.nexts.items ++ None ∷ []
    pub heads : new.heads ≡ old.heads
    pub cursors : new.cursors.items ≡ old.cursors.items ++ 0 ∷ []
    pub seen : new.trail.seen.items ≡ old.trail.seen.items ++ false ∷ []
    pub order : new.trail.order ≡ old.trail.order
    pub ready : new.graph.ready ≡ old.graph.ready
    pub told : new.told ≡ old.told
    pub homes : length new.graph.homes.items ≡ length old.graph.homes.items
    pub fresh : AreFresh old.graph node.members
    pub deps : (d : ℕ) → Contains node.deps d → d < length old.graph.homes.items
    pub room : length old.trail.seen.items + 1 ≤ vec_capacity old.trail.order
    pub few : length new.graph.nodes.items < 2 ^ 32

  module _ (b : IsBigger) (s : IsSound old) where
    count : ℕ
    count = length old.graph.nodes.items

    -- an instance that was at home is where it was
    pub home_was : (i g : ℕ) → home_in old.graph i ≡ Some g → home_in new.graph i ≡ Some g
    home_was i g is = sort (b.housed.others i)
      where
        sort : (home_in new.graph i ≡ home_in old.graph i) ⊎ (Contains node.members (record { 0 = i }) × (home_in new.graph i ≡ Some (length old.graph.nodes.items))) → home_in new.graph i ≡ Some g
        sort (inl e) = e ∙ is
        sort (inr e) = absurd (none-some g (sym (b.fresh (record { 0 = i }) e.0) ∙ is))

    pub home_cases : (i g : ℕ) → home_in new.graph i ≡ Some g → (home_in old.graph i ≡ Some g) ⊎ ((g ≡ length old.graph.nodes.items) × Contains node.members (record { 0 = i }))
    home_cases i g is = sort (b.housed.others i)
      where
        sort : (home_in new.graph i ≡ home_in old.graph i) ⊎ (Contains node.members (record { 0 = i }) × (home_in new.graph i ≡ Some (length old.graph.nodes.items))) → (home_in old.graph i ≡ Some g) ⊎ ((g ≡ length old.graph.nodes.items) × Contains node.members (record { 0 = i }))
        sort (inl e) = inl (sym e ∙ is)
        sort (inr e) = inr (same_Some g (length old.graph.nodes.items) (sym is ∙ e.1), e.0)

    size : length new.graph.nodes.items ≡ length old.graph.nodes.items + 1
    size = ap length b.nodes ∙ length-append old.graph.nodes.items (node ∷ [])

    ready_was : (i : ℕ) → ready_in new.graph i ≡ ready_in old.graph i
    ready_was i = ap (λ rs. is_set rs.items i) b.ready

    link_was : (g : ℕ) → place new.links.items g ≡ place old.links.items g
    link_was g = ap (λ ls. place ls g) b.links ∙ place_grown old.links.items g

    same_step : (i : ℕ) → step (home_in new.graph) (place new.links.items) i ≡ step (home_in old.graph) (place old.links.items) i
    same_step i = sort (b.housed.others i)
      where
        all : (o : Option ℕ) → linked_of (place new.links.items) o ≡ linked_of (place old.links.items) o
        all None = refl
        all (Some g) = link_was g

        sort : (home_in new.graph i ≡ home_in old.graph i) ⊎ (Contains node.members (record { 0 = i }) × (home_in new.graph i ≡ Some (length old.graph.nodes.items))) → step (home_in new.graph) (place new.links.items) i ≡ step (home_in old.graph) (place old.links.items) i
        sort (inl e) = ap (linked_of (place new.links.items)) e ∙ all (home_in old.graph i)
        sort (inr e) = ap (linked_of (place new.links.items)) e.1 ∙ link_was (length old.graph.nodes.items) ∙ place_past_end old.links.items (length old.graph.nodes.items) (omega (arith, s.sizes.links)) ∙ sym (ap (linked_of (place old.links.items)) (b.fresh (record { 0 = i }) e.0))

    kept_deps : (g d : ℕ) → Contains (deps_in old.graph g) d → Contains (deps_in new.graph g) d
    kept_deps g d named = subst (λ ns. Contains (deps_of ns g) d) (sym b.nodes) (deps_kept old.graph.nodes.items node g d named)

    next_was : (g : ℕ) → place new.nexts.items g ≡ place old.nexts.items g
    next_was g = ap (λ ns. place ns g) b.nexts ∙ place_grown old.nexts.items g

    below : (g d : ℕ) → Contains (deps_in new.graph g) d → d < length new.graph.homes.items
    below g d named = sort (deps_cases old.graph.nodes.items node g d (subst (λ ns. Contains (deps_of ns g) d) b.nodes named))
      where
        sort : Contains (deps_in old.graph g) d ⊎ ((g ≡ length old.graph.nodes.items) × Contains node.deps d) → d < length new.graph.homes.items
        sort (inl e) = omega (arith, s.wired.deps g d e, b.homes)
        sort (inr e) = omega (arith, b.deps d e.1, b.homes)

    reached : (i g d : ℕ) → home_in new.graph i ≡ Some g → place old.links.items g ≡ Some d → Reaches (entries_of new.graph) i d
    reached i g d is link = sort (home_cases i g is)
      where
        sort : (home_in old.graph i ≡ Some g) ⊎ ((g ≡ length old.graph.nodes.items) × Contains node.members (record { 0 = i })) → Reaches (entries_of new.graph) i d
        sort (inl e) = reach_kept old.graph new.graph home_was (λ j h k at named. kept_deps h k named) i d (s.leads.reached i g d e link)
        sort (inr e) = absurd (none-some d (sym (place_past_end old.links.items g (omega (arith, s.sizes.links, e.0))) ∙ link))

    queued : AreQueued new.links.items new.nexts.items new.heads.items
    queued = record {
      only = λ d h is. moved (place old.nexts.items) (place new.nexts.items) (λ g. place old.links.items g ≡ Some d) (λ g. place new.links.items g ≡ Some d) (λ g at. next_was g) (λ g at. link_was g ∙ at) h (s.queued.only d h (ap (λ hs. place hs.items d) (sym b.heads) ∙ is));
      all = λ g d link. all g d (s.queued.all g d (sym (link_was g) ∙ link));
    }
      where
        all : (g d : ℕ) → IsQueued old.nexts.items old.heads.items d g → IsQueued new.nexts.items new.heads.items d g
        all g d x = record {
          head = x.head;
          is = ap (λ hs. place hs.items d) b.heads ∙ x.is;
          way = comes_moved (place old.nexts.items) (place new.nexts.items) (λ n. place old.links.items n ≡ Some d) (λ n at. next_was n) x.head g (s.queued.only d x.head x.is) x.way;
        }

    passed : (g n k d : ℕ) → slice_get new.cursors.items g ≡ Some n → k < n → slice_get (deps_in new.graph g) k ≡ Some d → ready_in new.graph d ≡ true
    passed g n k d at below is = sort (get_push old.cursors.items 0 g n (ap (λ cs. slice_get cs g) (sym b.cursors) ∙ at))
      where
        sort : (slice_get old.cursors.items g ≡ Some n) ⊎ ((g ≡ length old.cursors.items) × (0 ≡ n)) → ready_in new.graph d ≡ true
        sort (inl e) =
            let less : g < length old.graph.nodes.items = omega (arith, slice_get_within old.cursors.items g n e, s.sizes.cursors) in
            ready_was d ∙ s.cursors.passed g n k d e below (ap (λ ds. slice_get ds k) (sym (ap (λ ns. deps_of ns g) b.nodes ∙ deps_before old.graph.nodes.items node g less)) ∙ is)
        sort (inr e) = absurd (omega (arith, below, e.1))

    closed : (i g d : ℕ) → ready_in new.graph i ≡ true → home_in new.graph i ≡ Some g → Contains (deps_in new.graph g) d → ready_in new.graph d ≡ true
    closed i g d high member named =
        let was = sym (ready_was i) ∙ high in
        let h = s.ready.emitted i was in
        let same : h.0 ≡ g = same_Some h.0 g (sym (home_was i h.0 h.1) ∙ member) in
        let at : home_in old.graph i ≡ Some g = h.1 ∙ ap Some same in
        let less = s.wired.within i g at in
        ready_was d ∙ s.ready.closed i g d was at (subst (λ ds. Contains ds d) (ap (λ ns. deps_of ns g) b.nodes ∙ deps_before old.graph.nodes.items node g less) named)

    members : (i g : ℕ) → home_in new.graph i ≡ Some g → Contains (members_of new.graph.nodes.items g) (record { 0 = i })
    members i g is = subst (λ ns. Contains (members_of ns g) (record { 0 = i })) (sym b.nodes) (sort (home_cases i g is))
      where
        sort : (home_in old.graph i ≡ Some g) ⊎ ((g ≡ length old.graph.nodes.items) × Contains node.members (record { 0 = i })) → Contains (members_of (old.graph.nodes.items ++ node ∷ []) g) (record { 0 = i })
        sort (inl e) = subst (λ ms. Contains ms (record { 0 = i })) (sym (members_before old.graph.nodes.items node g (s.wired.within i g e))) (s.members i g e)
        sort (inr e) = subst (λ n. Contains (members_of (old.graph.nodes.items ++ node ∷ []) n) (record { 0 = i })) (sym e.0) (subst (λ ms. Contains ms (record { 0 = i })) (sym (members_here old.graph.nodes.items node)) e.1)

    within : (i g : ℕ) → home_in new.graph i ≡ Some g → g < length new.graph.nodes.items
    within i g is = sort (home_cases i g is)
      where
        sort : (home_in old.graph i ≡ Some g) ⊎ ((g ≡ length old.graph.nodes.items) × Contains node.members (record { 0 = i })) → g < length new.graph.nodes.items
        sort (inl e) = omega (arith, s.wired.within i g e, size)
        sort (inr e) = omega (arith, e.0, size)

    pub sound_added : IsSound new
    sound_added = record {
      sizes = record {
        links = ap length b.links ∙ length-append old.links.items (None ∷ []) ∙ ap (λ n. n + 1) s.sizes.links ∙ sym size;
        nexts = ap length b.nexts ∙ length-append old.nexts.items (None ∷ []) ∙ ap (λ n. n + 1) s.sizes.nexts ∙ sym size;
        heads = ap (λ hs. length hs.items) b.heads ∙ s.sizes.heads ∙ sym b.homes;
        cursors = ap length b.cursors ∙ length-append old.cursors.items (0 ∷ []) ∙ ap (λ n. n + 1) s.sizes.cursors ∙ sym size;
        seen = ap length b.seen ∙ length-append old.trail.seen.items (false ∷ []) ∙ ap (λ n. n + 1) s.sizes.seen ∙ sym size;
        ready = ap (λ rs. length rs.items) b.ready ∙ s.sizes.ready ∙ sym b.homes;
        few = b.few;
        places_few = omega (arith, b.homes, s.sizes.places_few);
      };
      wired = record { within = within; deps = below };
      members = members;
      ready = record {
        emitted = λ i high. let h = s.ready.emitted i (sym (ready_was i) ∙ high) in (h.0, home_was i h.0 h.1);
        closed = closed;
      };
      ends = record { each = λ i. moved (step (home_in old.graph) (place old.links.items)) (step (home_in new.graph) (place new.links.items)) (λ k. Unit {0}) (λ k. Unit {0}) (λ k u. same_step k) (λ k u. u) i (s.ends.each i) };
      leads = record {
        reached = λ i g d home is. reached i g d home (sym (link_was g) ∙ is);
        below = λ g d is. let less = s.leads.below g d (sym (link_was g) ∙ is) in omega (arith, less, b.homes);
      };
      queued = queued;
      cursors = record { passed = passed };
      clear = record {
        unseen = λ g. ap (λ xs. is_set xs g) b.seen ∙ flag_grown old.trail.seen.items g ∙ s.clear.unseen g;
        empty = ap (λ o. o.items) b.order ∙ s.clear.empty;
        room = subst (λ n. n ≤ vec_capacity new.trail.order) (sym (ap length b.seen ∙ length-append old.trail.seen.items (false ∷ []))) (subst (λ o. length old.trail.seen.items + 1 ≤ vec_capacity o) (sym b.order) b.room);
      };
      room = subst (λ t. vec_len t + unset new.graph.ready.items ≤ vec_capacity t) (sym b.told) (subst (λ r. vec_len old.told + unset r.items ≤ vec_capacity old.told) (sym b.ready) s.room);
    }
