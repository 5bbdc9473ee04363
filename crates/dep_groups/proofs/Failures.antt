-- Instances that aren't ready are taken out of their groups.
use Rattle.std.proofs.Common.{◌≡◌, ℕ, true, false, Option, Some, None, ◌⊎◌, inl, inr, ⊎_elim, List, [], ◌∷◌, length, Contains, Vec, Global, ap, sym, subst, ◌∙◌, arith}
use Rattle.std.proofs.lemmas.Option.{none-some}
use Rattle.std.proofs.lemmas.Bool.{both_ways, false_from_ne_true}
use Rattle.graph_walks.specs.Walks.{IsPath}
use Rattle.graph_walks.proofs.Paths.{reaches_next}
use Rattle.orc_ids.specs.declared.ids.InstId.{InstId}
use Rattle.dep_groups.specs.declared.resolve.Core.{Core}
use Rattle.dep_groups.specs.declared.trail.Trail.{Trail}
use Rattle.dep_groups.specs.Places.{place}
use Rattle.dep_groups.specs.Shape.{home_in, ready_in, entry_of}
use Rattle.dep_groups.specs.Links.{linked_of, step}
use Rattle.dep_groups.specs.Seek.{IsClear}
use Rattle.dep_groups.specs.Core.{IsSound}
use Rattle.dep_groups.specs.Kept.{IsKept, entries_in}
use Rattle.dep_groups.specs.Frontier.{next_of, Reaches, IsHit, AreHits, AreFailed}
use Rattle.dep_groups.proofs.Ways.{ends_sooner}
use Rattle.dep_groups.proofs.Entries.{entry_here, named_next, next_named}
use Rattle.dep_groups.proofs.Exact.{marked_ready}

-- the groups without some instances that aren't ready, and nothing else changed
module _ (core : Core) (homes : Vec (Option ℕ) Global) (trail : Trail) where
  abbrev pub core_without : Core
  core_without = record { graph = record core.graph { homes = homes }; links = core.links; nexts = core.nexts; heads = core.heads; cursors = core.cursors; trail = trail; told = core.told }

  module _ (says : (i : ℕ) → (place homes.items i ≡ home_in core.graph i) ⊎ ((place homes.items i ≡ None) × (ready_in core.graph i ≡ false))) where
    home_was : (i g : ℕ) → place homes.items i ≡ Some g → home_in core.graph i ≡ Some g
    home_was i g is = ⊎_elim (λ (same : place homes.items i ≡ home_in core.graph i). sym same ∙ is) (λ (e : (place homes.items i ≡ None) × (ready_in core.graph i ≡ false)). absurd (none-some g (sym e.0 ∙ is))) (says i)

    home_stays : (i g : ℕ) → ready_in core.graph i ≡ true → home_in core.graph i ≡ Some g → place homes.items i ≡ Some g
    home_stays i g high is = ⊎_elim (λ (same : place homes.items i ≡ home_in core.graph i). same ∙ is) (λ (e : (place homes.items i ≡ None) × (ready_in core.graph i ≡ false)). absurd (both_ways (ready_in core.graph i) e.1 high)) (says i)

    step_cases : (i : ℕ) → (step (place homes.items) (place core.links.items) i ≡ step (home_in core.graph) (place core.links.items) i) ⊎ (step (place homes.items) (place core.links.items) i ≡ None)
    step_cases i = ⊎_elim (λ (same : place homes.items i ≡ home_in core.graph i). inl (ap (linked_of (place core.links.items)) same)) (λ (e : (place homes.items i ≡ None) × (ready_in core.graph i ≡ false)). inr (ap (linked_of (place core.links.items)) e.0)) (says i)

    pub kept_without : IsKept core → ((i g d : ℕ) → place homes.items i ≡ Some g → Reaches (entries_in core) i d → Reaches (entries_in core_without) i d) → length homes.items ≡ length core.graph.homes.items → IsClear trail → length trail.seen.items ≡ length core.trail.seen.items → IsKept core_without
    kept_without k reach count clear groups = let s = k.sound in record {
      sound = record {
        sizes = record { links = s.sizes.links; nexts = s.sizes.nexts; heads = s.sizes.heads ∙ sym count; cursors = s.sizes.cursors; seen = groups ∙ s.sizes.seen; ready = s.sizes.ready ∙ sym count; few = s.sizes.few; places_few = omega (arith, s.sizes.places_few, count) };
        wired = record { within = λ i g is. s.wired.within i g (home_was i g is); deps = λ g d named. let less = s.wired.deps g d named in omega (arith, less, count) };
        members = λ i g is. s.members i g (home_was i g is);
        ready = record {
          emitted = λ i high. let h = s.ready.emitted i high in (h.0, home_stays i h.0 high h.1);
          closed = λ i g d high is named. s.ready.closed i g d high (home_was i g is) named;
        };
        ends = record { each = λ i. ends_sooner (step (home_in core.graph) (place core.links.items)) (step (place homes.items) (place core.links.items)) step_cases i (s.ends.each i) };
        leads = record {
          reached = λ i g d is link. reach i g d is (s.leads.reached i g d (home_was i g is) link);
          below = λ g d link. let less = s.leads.below g d link in omega (arith, less, count);
        };
        queued = s.queued;
        cursors = record { passed = s.cursors.passed };
        clear = clear;
        room = s.room;
      };
      indexed = record { complete = k.indexed.complete; named = k.indexed.named; falls = k.indexed.falls; groups = k.indexed.groups; firsts = k.indexed.firsts };
      firsts = k.firsts ∙ sym count;
      held = λ i g is low. let h = k.held i g (home_was i g is) low in record { to = h.to; link = h.link; unready = h.unready };
    }

  -- what is left reaches what it did, since what reaches a hit instance is hit
  module _ (roots hits : List InstId) (a : AreHits (entries_in core) roots hits) (others : (i : ℕ) → (place homes.items i ≡ home_in core.graph i) ⊎ (Contains hits (record { 0 = i }) × (place homes.items i ≡ None))) where
    hit_before : (i k : ℕ) → Contains (next_of (entries_in core) i) k → IsHit (entries_in core) roots k → IsHit (entries_in core) roots i
    hit_before i k named h = record {
      unready = λ r. h.unready (record { each = λ j s. r.each j (reaches_next (next_of (entries_in core)) i k j named s) });
      root = h.root;
      chosen = h.chosen;
      reaches = reaches_next (next_of (entries_in core)) i k h.root.0 named h.reaches;
    }

    path_left : (i j : ℕ) (p : List ℕ) → (IsHit (entries_in core) roots i → ⊥) → IsPath (next_of (entries_in core)) i p j → IsPath (next_of (entries_in core_without)) i p j
    path_left i j [] never e = e
    path_left i j (k ∷ ks) never e =
        let n = next_named core.graph i k e.0 in
        let home : place homes.items i ≡ Some n.0 = ⊎_elim
        (λ (same : place homes.items i ≡ home_in core.graph i). same ∙ n.1)
        (λ (x : Contains hits (record { 0 = i }) × (place homes.items i ≡ None)). absurd (never (a.only (record { 0 = i }) x.0))) (others i) in
        (named_next core_without.graph i n.0 k home n.2, path_left k j ks (λ h. never (hit_before i k e.0 h)) e.1)

    pub reach_left : ((m : InstId) → Contains hits m → place homes.items m.0 ≡ None) → (i g d : ℕ) → place homes.items i ≡ Some g → Reaches (entries_in core) i d → Reaches (entries_in core_without) i d
    reach_left out i g d is r = record { path = r.path; leads = path_left i d r.path (λ h. none-some g (sym (out (record { 0 = i }) (a.all i h)) ∙ is)) r.leads }

  -- what was taken out is hit, and isn't emitted any more
  pub failed_without : (roots hits : List InstId) → AreHits (entries_in core) roots hits → ((m : InstId) → Contains hits m → place homes.items m.0 ≡ None) → ((i : ℕ) → (place homes.items i ≡ home_in core.graph i) ⊎ (Contains hits (record { 0 = i }) × (place homes.items i ≡ None))) → AreFailed (entries_in core) (entries_in core_without) roots
  failed_without roots hits a out others = record {
    hit = λ i h. entry_here core_without.graph i ∙ ap (entry_of core.graph.nodes.items) (out (record { 0 = i }) (a.all i h));
    others = λ i. ⊎_elim
        (λ (same : place homes.items i ≡ home_in core.graph i). inl (entry_here core_without.graph i ∙ ap (entry_of core.graph.nodes.items) same ∙ sym (entry_here core.graph i)))
        (λ (e : Contains hits (record { 0 = i }) × (place homes.items i ≡ None)). inr (a.only (record { 0 = i }) e.0))
        (others i);
  }

-- a table that was read and written as a slice
pub home_cases : (was now old new : List (Option ℕ)) (named hits : List InstId) → was ≡ old → new ≡ now → named ≡ hits → ((i : ℕ) → (place now i ≡ place was i) ⊎ (Contains named (record { 0 = i }) × (place now i ≡ None))) → (i : ℕ) → (place new i ≡ place old i) ⊎ (Contains hits (record { 0 = i }) × (place new i ≡ None))
home_cases was now old new named hits a b c says i = ⊎_elim
    (λ (same : place now i ≡ place was i). inl (ap (λ hs. place hs i) b ∙ same ∙ ap (λ hs. place hs i) a))
    (λ (e : Contains named (record { 0 = i }) × (place now i ≡ None)). inr (subst (λ ms. Contains ms (record { 0 = i })) c e.0, ap (λ hs. place hs i) b ∙ e.1))
    (says i)

-- what is taken out isn't marked as ready
pub unmarked : (core : Core) (roots hits : List InstId) (homes : List (Option ℕ)) → IsSound core → AreHits (entries_in core) roots hits → ((i : ℕ) → (place homes i ≡ home_in core.graph i) ⊎ (Contains hits (record { 0 = i }) × (place homes i ≡ None))) → (i : ℕ) → (place homes i ≡ home_in core.graph i) ⊎ ((place homes i ≡ None) × (ready_in core.graph i ≡ false))
unmarked core roots hits homes s a says i = ⊎_elim (λ (same : place homes i ≡ home_in core.graph i). inl same)
    (λ (e : Contains hits (record { 0 = i }) × (place homes i ≡ None)). inr (e.1, false_from_ne_true (ready_in core.graph i) (λ high. (a.only (record { 0 = i }) e.0).unready (marked_ready core s i high))))
    (says i)
