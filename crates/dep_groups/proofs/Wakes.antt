-- A group that is looked at again waits or is ready, and whom it leaves is to be woken.
use Rattle.std.proofs.Common.{◌≡◌, ℕ, true, false, Option, Some, None, ◌⊎◌, inl, inr, ⊎_elim, ◌<◌, ◌≤◌, ◌+◌, List, length, get_or, Contains, suc, ap, sym, subst, ◌∙◌, refl, arith}
use Rattle.std.specs.Prelude.{slice_get}
use Rattle.std.proofs.lemmas.Option.{same_Some, none-some, slice_get_within, slice_get_read}
use Rattle.std.proofs.lemmas.Bool.{both_ways, cases_eq, cases_lt, cases_Bool, false_from_ne_true}
use Rattle.orc_ids.specs.declared.ids.InstId.{InstId}
use Rattle.dep_groups.specs.declared.graph.Edge.{Edge}
use Rattle.dep_groups.specs.declared.graph.Graph.{Graph}
use Rattle.dep_groups.specs.declared.resolve.Core.{Core}
use Rattle.dep_groups.specs.Places.{place}
use Rattle.dep_groups.specs.Shape.{home_in, deps_in, deps_of, ready_in}
use Rattle.dep_groups.specs.Links.{AreQueued, IsHeld, IsRelinked}
use Rattle.dep_groups.specs.Marks.{IsTold, Tells}
use Rattle.dep_groups.specs.Wake.{IsSameGraph, IsListed, IsIndexed, IsWaking, AreHeld, AllHeld, IsSettled}

-- how many mentions may be left
abbrev pub left : Option ℕ → ℕ
left None = 0
left (Some k) = suc k

pub same_none : (graph : Graph) → IsSameGraph graph graph
same_none graph = record { homes = refl; nodes = refl; firsts = refl; edges = refl }

pub same_then : (a b c : Graph) → IsSameGraph a b → IsSameGraph b c → IsSameGraph a c
same_then a b c p q = record { homes = q.homes ∙ p.homes; nodes = q.nodes ∙ p.nodes; firsts = q.firsts ∙ p.firsts; edges = q.edges ∙ p.edges }

pub same_home : (a b : Graph) (i : ℕ) → IsSameGraph a b → home_in b i ≡ home_in a i
same_home a b i s = ap (λ hs. place hs.items i) s.homes

pub same_deps : (a b : Graph) (g : ℕ) → IsSameGraph a b → deps_in b g ≡ deps_in a g
same_deps a b g s = ap (λ ns. deps_of ns.items g) s.nodes

pub indexed_same : (a b : Graph) → IsSameGraph a b → IsIndexed a → IsIndexed b
indexed_same a b s x = record {
  complete = λ g d named. subst (λ fs. IsListed b.edges.items (place fs.items d) g) (sym s.firsts) (subst (λ es. IsListed es.items (place a.firsts.items d) g) (sym s.edges) (x.complete g d (subst (λ ds. Contains ds d) (same_deps a b g s) named)));
  named = λ g d listed. subst (λ ds. Contains ds d) (sym (same_deps a b g s)) (x.named g d (subst (λ es. IsListed es.items (place a.firsts.items d) g) s.edges (subst (λ fs. IsListed b.edges.items (place fs.items d) g) s.firsts listed)));
  falls = λ k j e at next. x.falls k j e (ap (λ es. slice_get es.items k) (sym s.edges) ∙ at) next;
  groups = λ k e at. subst (λ ns. e.group < length ns.items) (sym s.nodes) (x.groups k e (ap (λ es. slice_get es.items k) (sym s.edges) ∙ at));
  firsts = λ d k is. subst (λ es. k < length es.items) (sym s.edges) (x.firsts d k (ap (λ fs. place fs.items d) (sym s.firsts) ∙ is));
}

-- what a look at one group leaves
module _ (old new : Core) (group : ℕ) where
  pub record IsResolved : Type 0 where
    pub graph : IsSameGraph old.graph new.graph
    pub tells : Tells old.graph.ready.items new.graph.ready.items old.told.items new.told.items
    pub settled : IsSettled new group
    pub only : IsRelinked old.links.items new.links.items group

  waking_kept : IsResolved → (at g : ℕ) → place new.links.items g ≡ place old.links.items g → IsWaking old at g → IsWaking new at g
  waking_kept r at g same w = record { to = w.to; link = same ∙ w.link; told = record { at = w.told.at; after = w.told.after; is = r.tells.front w.told.at (record { 0 = w.to }) w.told.is } }

  -- what was held is held, or to be woken
  held_kept : IsResolved → (at g : ℕ) → at ≤ length old.told.items → place new.links.items g ≡ place old.links.items g → IsHeld old.graph old.links.items g → IsHeld new.graph new.links.items g ⊎ IsWaking new at g
  held_kept r at g few same h = sort (cases_Bool (ready_in new.graph h.to))
    where
      told : (ready_in old.graph h.to ≡ true) ⊎ IsTold new.told.items (length old.told.items) (record { 0 = h.to }) → IsWaking new at g
      told (inl was) = absurd (both_ways (ready_in old.graph h.to) h.unready was)
      told (inr t) = record { to = h.to; link = same ∙ h.link; told = record { at = t.at; after = omega (arith, t.after, few); is = t.is } }

      sort : (ready_in new.graph h.to ≡ true) ⊎ (ready_in new.graph h.to ≡ false) → IsHeld new.graph new.links.items g ⊎ IsWaking new at g
      sort (inl is) = inr (told (r.tells.all h.to is))
      sort (inr low) = inl (record { to = h.to; link = same ∙ h.link; unready = low })

  was_unready : IsResolved → (i : ℕ) → ready_in new.graph i ≡ false → ready_in old.graph i ≡ false
  was_unready r i low = false_from_ne_true (ready_in old.graph i) (λ high. both_ways (ready_in new.graph i) low (r.tells.stays i high))

  pub held_next : IsResolved → (fresh next at : ℕ) → at ≤ length old.told.items → ((g : ℕ) → fresh ≤ g → (g ≡ group → ⊥) → next ≤ g) → AreHeld old fresh at → AreHeld new next at
  held_next r fresh next at few further h = record { held = λ i g member low. sort i g member low (cases_eq g group) }
    where
      kept : (g : ℕ) → (g ≡ group → ⊥) → place new.links.items g ≡ place old.links.items g → IsHeld old.graph old.links.items g ⊎ (IsWaking old at g ⊎ (fresh ≤ g)) → IsHeld new.graph new.links.items g ⊎ (IsWaking new at g ⊎ (next ≤ g))
      kept g apart same (inl e) = ⊎_elim (λ (x : IsHeld new.graph new.links.items g). inl x) (λ (x : IsWaking new at g). inr (inl x)) (held_kept r at g few same e)
      kept g apart same (inr (inl e)) = inr (inl (waking_kept r at g same e))
      kept g apart same (inr (inr e)) = inr (inr (further g e apart))

      mine : (i g : ℕ) → ready_in new.graph i ≡ false → g ≡ group → (ready_in new.graph i ≡ true) ⊎ IsHeld new.graph new.links.items group → IsHeld new.graph new.links.items g ⊎ (IsWaking new at g ⊎ (next ≤ g))
      mine i g low e (inl high) = absurd (both_ways (ready_in new.graph i) low high)
      mine i g low e (inr x) = inl (subst (λ n. IsHeld new.graph new.links.items n) (sym e) x)

      sort : (i g : ℕ) → home_in new.graph i ≡ Some g → ready_in new.graph i ≡ false → (g ≡ group) ⊎ (g ≡ group → ⊥) → IsHeld new.graph new.links.items g ⊎ (IsWaking new at g ⊎ (next ≤ g))
      sort i g member low (inl e) = mine i g low e (r.settled i (subst (λ n. home_in new.graph i ≡ Some n) e member))
      sort i g member low (inr e) = kept g e (r.only.kept g e) (h.held i g (sym (same_home old.graph new.graph i r.graph) ∙ member) (was_unready r i low))

-- nobody is linked to an instance without a queue
pub held_passed : (core : Core) (fresh at : ℕ) (m : InstId) → AreQueued core.links.items core.nexts.items core.heads.items → place core.heads.items m.0 ≡ None → slice_get core.told.items at ≡ Some m → AreHeld core fresh at → AreHeld core fresh (at + 1)
held_passed core fresh at m q none told h = record { held = λ i g member low. sort g (h.held i g member low) }
  where
    sort : (g : ℕ) → IsHeld core.graph core.links.items g ⊎ (IsWaking core at g ⊎ (fresh ≤ g)) → IsHeld core.graph core.links.items g ⊎ (IsWaking core (at + 1) g ⊎ (fresh ≤ g))
    sort g (inl e) = inl e
    sort g (inr (inr e)) = inr (inr e)
    sort g (inr (inl w)) = ⊎_elim
        (λ (b : at < w.told.at). inr (inl (record { to = w.to; link = w.link; told = record { at = w.told.at; after = omega (arith, b); is = w.told.is } })))
        (λ (b : w.told.at ≤ at).
        let e : w.told.at ≡ at = omega (arith, b, w.told.after) in
        let same : w.to ≡ m.0 = ap (λ (y : InstId). y.0) (same_Some (record { 0 = w.to }) m (sym w.told.is ∙ ap (λ n. slice_get core.told.items n) e ∙ told)) in
        let x = q.all g m.0 (w.link ∙ ap Some same) in
        absurd (none-some x.head (sym none ∙ x.is)))
        (cases_lt at w.told.at)

pub all_held : (core : Core) (fresh at : ℕ) → length core.told.items ≤ at → ((i g : ℕ) → home_in core.graph i ≡ Some g → g < fresh) → AreHeld core fresh at → AllHeld core.graph core.links.items
all_held core fresh at done within h = record { held = λ i g member low. sort i g member (h.held i g member low) }
  where
    sort : (i g : ℕ) → home_in core.graph i ≡ Some g → IsHeld core.graph core.links.items g ⊎ (IsWaking core at g ⊎ (fresh ≤ g)) → IsHeld core.graph core.links.items g
    sort i g member (inl e) = e
    sort i g member (inr (inl w)) = absurd (omega (arith, done, w.told.after, slice_get_within core.told.items w.told.at (record { 0 = w.to }) w.told.is))
    sort i g member (inr (inr e)) = absurd (omega (arith, e, within i g member))

pub further_one : (fresh g : ℕ) → fresh ≤ g → (g ≡ fresh → ⊥) → fresh + 1 ≤ g
further_one fresh g e apart = ⊎_elim (λ (b : fresh < g). omega (arith, b)) (λ (b : g ≤ fresh). let same : g ≡ fresh = omega (arith, e, b) in absurd (apart same)) (cases_lt fresh g)

pub left_falls : (next new : Option ℕ) (k : ℕ) → next ≡ Some k → ((j : ℕ) → new ≡ Some j → j < k) → left new < left next
left_falls next new k is falls = subst (λ o. left new < left o) (sym is) (sort new falls)
  where
    sort : (o : Option ℕ) → ((j : ℕ) → o ≡ Some j → j < k) → left o < suc k
    sort None f = omega arith
    sort (Some j) f = omega (arith, f j refl)

pub edge_there : (edges : List Edge) (k : ℕ) (d : Edge) → k < length edges → d ≡ get_or edges k d → slice_get edges k ≡ Some d
edge_there edges k d less read = slice_get_read edges (length edges) k d refl less read

pub told_there : (told : List InstId) (k : ℕ) (d : InstId) → k < length told → d ≡ get_or told k d → slice_get told k ≡ Some d
told_there told k d less read = slice_get_read told (length told) k d refl less read
