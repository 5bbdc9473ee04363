-- A search that found nothing leaves all that it came to ready.
use Rattle.std.proofs.Common.{◌≡◌, ℕ, Bool, true, Some, ◌⊎◌, inl, inr, ◌≤◌, ◌+◌, length, Contains, Vec, Global, vec_len, vec_capacity, ap, sym, subst, ◌∙◌, arith}
use Rattle.std.proofs.lemmas.Option.{same_Some}
use Rattle.orc_ids.specs.declared.ids.InstId.{InstId}
use Rattle.dep_groups.specs.declared.graph.Graph.{Graph}
use Rattle.dep_groups.specs.declared.trail.Trail.{Trail}
use Rattle.dep_groups.specs.declared.resolve.Core.{Core}
use Rattle.dep_groups.specs.Places.{is_set, unset}
use Rattle.dep_groups.specs.Shape.{home_in, deps_in, ready_in}
use Rattle.dep_groups.specs.Search.{IsTrailOf, IsRoomy, IsExhausted, IsSeen, ArePassed}
use Rattle.dep_groups.specs.Seek.{IsClear}
use Rattle.dep_groups.specs.Marks.{AreMarked, IsOfTrail}
use Rattle.dep_groups.specs.Core.{AreSized, IsSound}
use Rattle.dep_groups.proofs.Lists.{at_contains}
use Rattle.dep_groups.proofs.Tables.{unset_few}
use Rattle.dep_groups.proofs.Trails.{visit_below}

pub clear_roomy : (trail : Trail) → IsClear trail → IsRoomy trail
clear_roomy trail c = record { room = omega (arith, c.room, unset_few trail.seen.items, trail.order.ok.0, ap length c.empty) }

module _ (core : Core) (ready : Vec Bool Global) (trail : Trail) where
  abbrev marked_graph : Graph
  marked_graph = record core.graph { ready = ready }

  abbrev AreAllMarked : Type 0
  AreAllMarked = AreMarked core.graph.homes.items core.graph.nodes.items ready.items trail.order.items

  -- a member of a group that was seen is marked
  pub seen_marked : IsSound core → IsTrailOf core.graph trail → AreAllMarked → (i g : ℕ) → home_in core.graph i ≡ Some g → IsSeen trail.order.items g → is_set ready.items i ≡ true
  seen_marked s t marked i g member seen =
      marked.marked g (record { 0 = i }) (at_contains trail.order.items seen.at g seen.is.is) (s.members i g member) member

  pub ready_closed : IsSound core → IsTrailOf core.graph trail → IsExhausted core.graph trail (vec_len trail.order) → AreAllMarked → ((i : ℕ) → is_set core.graph.ready.items i ≡ true → is_set ready.items i ≡ true) → ((i : ℕ) → is_set ready.items i ≡ true → (is_set core.graph.ready.items i ≡ true) ⊎ IsOfTrail core.graph.homes.items trail.order.items i) → (i g d : ℕ) → is_set ready.items i ≡ true → home_in core.graph i ≡ Some g → Contains (deps_in core.graph g) d → is_set ready.items d ≡ true
  ready_closed s t all marked stays only i g d is member named = sort (only i is)
    where
      looked : (ready_in core.graph d ≡ true) ⊎ ((h : ℕ) × (home_in core.graph d ≡ Some h) × (is_set trail.seen.items h ≡ true)) → is_set ready.items d ≡ true
      looked (inl e) = stays d e
      looked (inr e) = seen_marked s t marked d e.0 e.1 (t.known e.0 e.2)

      sort : (is_set core.graph.ready.items i ≡ true) ⊎ IsOfTrail core.graph.homes.items trail.order.items i → is_set ready.items d ≡ true
      sort (inl was) = stays d (s.ready.closed i g d was member named)
      sort (inr o) = looked (all.looked o.at o.group d (omega (arith, visit_below trail.order.items o.at o.group o.is, trail.order.ok.0)) o.is (subst (λ n. Contains (deps_in core.graph n) d) (same_Some g o.group (sym member ∙ o.member)) named))

  pub ready_emitted : IsSound core → ((i : ℕ) → is_set ready.items i ≡ true → (is_set core.graph.ready.items i ≡ true) ⊎ IsOfTrail core.graph.homes.items trail.order.items i) → (i : ℕ) → is_set ready.items i ≡ true → (g : ℕ) × (home_in core.graph i ≡ Some g)
  ready_emitted s only i is = sort (only i is)
    where
      sort : (is_set core.graph.ready.items i ≡ true) ⊎ IsOfTrail core.graph.homes.items trail.order.items i → (g : ℕ) × (home_in core.graph i ≡ Some g)
      sort (inl was) = s.ready.emitted i was
      sort (inr o) = (o.group, o.member)

  module _ (cursors : Vec ℕ Global) (after : Trail) (told : Vec InstId Global) where
    abbrev pub marked_core : Core
    marked_core = record { graph = record core.graph { ready = ready }; links = core.links; nexts = core.nexts; heads = core.heads; cursors = cursors; trail = after; told = told }

    pub sound_marked : IsSound core → IsTrailOf core.graph trail → IsExhausted core.graph trail (vec_len trail.order) → AreAllMarked → ((i : ℕ) → is_set core.graph.ready.items i ≡ true → is_set ready.items i ≡ true) → ((i : ℕ) → is_set ready.items i ≡ true → (is_set core.graph.ready.items i ≡ true) ⊎ IsOfTrail core.graph.homes.items trail.order.items i) → ArePassed core.graph cursors.items → IsClear after → AreSized marked_core → vec_len told + unset ready.items ≤ vec_capacity told → IsSound marked_core
    sound_marked s t all marked stays only cursors_passed clear sizes room = record {
      sizes = sizes;
      wired = record { within = s.wired.within; deps = s.wired.deps };
      members = s.members;
      ready = record { emitted = ready_emitted s only; closed = ready_closed s t all marked stays only };
      ends = record { each = s.ends.each };
      leads = record { reached = s.leads.reached; below = s.leads.below };
      queued = s.queued;
      cursors = record { passed = λ g n k d at below is. stays d (cursors_passed.passed g n k d at below is) };
      clear = clear;
      room = room;
    }
