-- One group more of a list is added.
use Rattle.std.proofs.Common.{◌≡◌, ℕ, false, Option, Some, None, ◌⊎◌, inl, inr, ◌<◌, ◌≤◌, ◌+◌, List, [], ◌∷◌, ◌++◌, length, take, Contains, ap, sym, subst, ◌∙◌, refl, arith, length-append}
use Rattle.std.specs.Prelude.{slice_get}
use Rattle.std.proofs.lemmas.Option.{same_Some, none-some, slice_get_within, get_or_from_slice_get}
use Rattle.std.specs.List.{sum_by}
use Rattle.std.proofs.lemmas.List.{take_all}
use Rattle.std.proofs.lemmas.List.Sums.{sum_by_more}
use Rattle.std.proofs.lemmas.Bool.{cases_lt}
use Rattle.orc_ids.specs.declared.ids.InstId.{InstId}
use Rattle.orc_ids.specs.declared.groups.Group.{Group}
use Rattle.dep_groups.specs.Nodes.{node_of}
use Rattle.dep_groups.specs.declared.resolve.Core.{Core}
use Rattle.dep_groups.specs.Places.{place, is_set}
use Rattle.dep_groups.specs.Shape.{home_in, deps_in, deps_of, ready_in}
use Rattle.dep_groups.specs.Links.{IsHeld}
use Rattle.dep_groups.specs.Core.{IsSound}
use Rattle.dep_groups.specs.Wake.{IsWaking, AreHeld, AreUnlinked}
use Rattle.dep_groups.specs.Added.{IsAdded, AreFresh, HasRoom}
use Rattle.dep_groups.specs.Adding.{member_count, dep_count, AreNew, IsHome, AreAdded}
use Rattle.dep_groups.specs.Frontier.{numbers, AreApart}
use Rattle.dep_groups.proofs.Adds.{place_grown}
use Rattle.dep_groups.proofs.Tables.{place_past}
use Rattle.dep_groups.proofs.Additions.{deps_here, deps_before}

-- the members of the next group are not emitted yet
pub still_fresh : (old mid : Core) (groups : List Group) (r k : ℕ) (group : Group) → k < r → slice_get groups k ≡ Some group → AreNew old.graph groups → AreApart groups → AreAdded old mid groups r → AreFresh mid.graph group.members
still_fresh old mid groups r k group less is fresh apart added = λ m named.
    added.others m.0 (λ j other past at too. let e : j ≡ k = apart j k other group m at is too named in omega (arith, e, less, past)) ∙ fresh.fresh k group is m named

module _ (old mid new : Core) (groups : List Group) (k : ℕ) (group : Group) (is : slice_get groups k ≡ Some group) (fresh : AreFresh mid.graph group.members) (sound : IsSound mid) (one : IsAdded mid new group) where
  home_was : (i g : ℕ) → home_in mid.graph i ≡ Some g → home_in new.graph i ≡ Some g
  home_was i g at = sort (one.housed.others i)
    where
      sort : (home_in new.graph i ≡ home_in mid.graph i) ⊎ (Contains group.members (record { 0 = i }) × (home_in new.graph i ≡ Some (length mid.graph.nodes.items))) → home_in new.graph i ≡ Some g
      sort (inl e) = e ∙ at
      sort (inr e) = absurd (none-some g (sym (fresh (record { 0 = i }) e.0) ∙ at))

  deps_was : (g : ℕ) → g < length mid.graph.nodes.items → deps_in new.graph g ≡ deps_in mid.graph g
  deps_was g less = ap (λ ns. deps_of ns g) one.nodes ∙ deps_before mid.graph.nodes.items (node_of group) g less

  size : length new.graph.nodes.items ≡ length mid.graph.nodes.items + 1
  size = ap length one.nodes ∙ length-append mid.graph.nodes.items (node_of group ∷ [])

  pub added_next : AreAdded old mid groups (k + 1) → AreAdded old new groups k
  added_next added = record {
    each = λ j other m past at named. each j other m at named (cases_lt k j) past;
    others = λ i none. others i none (one.housed.others i);
    deps = λ g less. deps_was g (omega (arith, less, added.longer)) ∙ added.deps g less;
    longer = omega (arith, added.longer, size);
    ready = one.ready ∙ added.ready;
    told = one.told ∙ added.told;
    homes = one.homes ∙ added.homes;
    firsts = one.firsts ∙ added.firsts;
  }
    where
      each : (j : ℕ) (other : Group) (m : InstId) → slice_get groups j ≡ Some other → Contains other.members m → (k < j) ⊎ (j ≤ k) → k ≤ j → IsHome new.graph (numbers other.deps) m.0
      each j other m at named (inl b) past =
          let h = added.each j other m (omega (arith, b)) at named in
          record { group = h.group; home = home_was m.0 h.group h.home; deps_same = deps_was h.group (sound.wired.within m.0 h.group h.home) ∙ h.deps_same }
      each j other m at named (inr b) past =
          let e : j ≡ k = omega (arith, b, past) in
          let same : other ≡ group = same_Some other group (sym (subst (λ n. slice_get groups n ≡ Some other) e at) ∙ is) in
          record {
            group = length mid.graph.nodes.items;
            home = one.housed.members_home m (subst (λ (g : Group). Contains g.members m) same named);
            deps_same = ap (λ ns. deps_of ns (length mid.graph.nodes.items)) one.nodes ∙ deps_here mid.graph.nodes.items (node_of group) ∙ ap (λ (g : Group). numbers g.deps) (sym same);
          }

      others : (i : ℕ) → ((j : ℕ) (other : Group) → k ≤ j → slice_get groups j ≡ Some other → Contains other.members (record { 0 = i }) → ⊥) → (home_in new.graph i ≡ home_in mid.graph i) ⊎ (Contains group.members (record { 0 = i }) × (home_in new.graph i ≡ Some (length mid.graph.nodes.items))) → home_in new.graph i ≡ home_in old.graph i
      others i none (inl e) = e ∙ added.others i (λ j other past at named. none j other (omega (arith, past)) at named)
      others i none (inr e) = absurd (none k group (omega arith) is e.0)

  pub held_added : (first : ℕ) → first ≤ length mid.graph.nodes.items → AreHeld mid first 0 → AreHeld new first 0
  held_added first few h = record { held = λ i g member low. sort i g member low (one.housed.others i) }
    where
      link : (g : ℕ) → place new.links.items g ≡ place mid.links.items g
      link g = ap (λ ls. place ls g) one.links ∙ place_grown mid.links.items g

      ready_was : (i : ℕ) → ready_in new.graph i ≡ ready_in mid.graph i
      ready_was i = ap (λ rs. is_set rs.items i) one.ready

      kept : (g : ℕ) → IsHeld mid.graph mid.links.items g ⊎ (IsWaking mid 0 g ⊎ (first ≤ g)) → IsHeld new.graph new.links.items g ⊎ (IsWaking new 0 g ⊎ (first ≤ g))
      kept g (inl e) = inl (record { to = e.to; link = link g ∙ e.link; unready = ready_was e.to ∙ e.unready })
      kept g (inr (inl e)) = inr (inl (record { to = e.to; link = link g ∙ e.link; told = record { at = e.told.at; after = e.told.after; is = ap (λ t. slice_get t.items e.told.at) one.told ∙ e.told.is } }))
      kept g (inr (inr e)) = inr (inr e)

      sort : (i g : ℕ) → home_in new.graph i ≡ Some g → ready_in new.graph i ≡ false → (home_in new.graph i ≡ home_in mid.graph i) ⊎ (Contains group.members (record { 0 = i }) × (home_in new.graph i ≡ Some (length mid.graph.nodes.items))) → IsHeld new.graph new.links.items g ⊎ (IsWaking new 0 g ⊎ (first ≤ g))
      sort i g member low (inl e) = kept g (h.held i g (sym e ∙ member) (sym (ready_was i) ∙ low))
      sort i g member low (inr e) = inr (inr (subst (λ n. first ≤ n) (same_Some (length mid.graph.nodes.items) g (sym e.1 ∙ member)) few))

pub unlinked_first : (core : Core) → IsSound core → AreUnlinked core.links.items (length core.graph.nodes.items)
unlinked_first core s = record { unlinked = λ g past. sym (place_past core.links.items g (omega (arith, past, s.sizes.links))) }

pub unlinked_more : (old new : List (Option ℕ)) (first : ℕ) → new ≡ old ++ None ∷ [] → AreUnlinked old first → AreUnlinked new first
unlinked_more old new first e u = record { unlinked = λ g past. ap (λ ls. place ls g) e ∙ place_grown old g ∙ u.unlinked g past }

pub added_none : (core : Core) (groups : List Group) (n : ℕ) → length groups ≤ n → AreAdded core core groups n
added_none core groups n past = record {
  each = λ k group m after is named. absurd (omega (arith, past, after, slice_get_within groups k group is));
  others = λ i none. refl;
  deps = λ g less. refl;
  longer = omega arith;
  ready = refl;
  told = refl;
  homes = refl;
  firsts = refl;
}

pub room_one : (core : Core) (groups m d members deps : ℕ) → HasRoom core (groups + 1) (m + members) (d + deps) → HasRoom core 1 m d
room_one core groups m d members deps r = record {
  edges = omega (arith, r.edges);
  nodes = record { groups_fit = omega (arith, r.nodes.groups_fit); members_fit = omega (arith, r.nodes.members_fit); deps_fit = omega (arith, r.nodes.deps_fit) };
  links = omega (arith, r.links);
  nexts = omega (arith, r.nexts);
  cursors = omega (arith, r.cursors);
  seen = omega (arith, r.seen);
  order = omega (arith, r.order);
}

-- the room for the first groups, of which the last is added next
abbrev pub RoomFor : Core → List Group → ℕ → Type 0
RoomFor core groups k = HasRoom core k (member_count (take k groups)) (dep_count (take k groups))

pub room_first : (core : Core) (groups : List Group) → HasRoom core (length groups) (member_count groups) (dep_count groups) → RoomFor core groups (length groups)
room_first core groups r = subst (λ gs. HasRoom core (length groups) (member_count gs) (dep_count gs)) (sym (take_all (length groups) groups (omega arith))) r

pub room_split : (core : Core) (groups : List Group) (k : ℕ) (group : Group) → slice_get groups k ≡ Some group → RoomFor core groups (k + 1) → HasRoom core (k + 1) (length group.members + member_count (take k groups)) (length group.deps + dep_count (take k groups))
room_split core groups k group is r =
    subst (λ m. HasRoom core (k + 1) m (length group.deps + dep_count (take k groups))) (more (λ (g : Group). length g.members))
    (subst (λ d. HasRoom core (k + 1) (member_count (take (k + 1) groups)) d) (more (λ (g : Group). length g.deps)) r)
  where
    more : (f : Group → ℕ) → sum_by f (take (k + 1) groups) ≡ f group + sum_by f (take k groups)
    more f =
        let e = sum_by_more f groups k group (slice_get_within groups k group is) in
        let same = ap f (get_or_from_slice_get groups k group group is) in
        omega (arith, e, same)
