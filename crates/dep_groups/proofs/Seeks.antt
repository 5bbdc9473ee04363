-- A group is found to be ready, or what it waits for.
use Rattle.std.proofs.Common.{◌≡◌, ◌≢◌, ℕ, Bool, true, false, Option, Some, None, cond, ◌⊎◌, inl, inr, ⊎_elim, ◌<◌, ◌≤◌, ◌+◌, ◌==◌, if◌then◌else◌, List, [], ◌∷◌, vec_len, Contains, ap, sym, subst, ◌∙◌, arith}
use Rattle.std.specs.Prelude.{MatchOption, slice_get}
use Rattle.std.proofs.lemmas.Bool.{both_ways, cases_lt}
use Rattle.std.proofs.lemmas.Bool.Decides.{eqb_tells}
use Rattle.graph_walks.proofs.Paths.{reaches_self}
use Rattle.orc_ids.specs.declared.ids.InstId.{InstId}
use Rattle.dep_groups.specs.declared.graph.Graph.{Graph}
use Rattle.dep_groups.specs.declared.trail.Trail.{Trail}
use Rattle.dep_groups.specs.Places.{place}
use Rattle.dep_groups.specs.Shape.{home_in, deps_in, entries_of}
use Rattle.dep_groups.specs.Frontier.{next_of}
use Rattle.dep_groups.specs.Marks.{members_of}
use Rattle.dep_groups.specs.Search.{IsVisit, IsTrail, IsTrailOf, IsLooked, IsExhausted, IsSeen, IsOpen, IsWired}
use Rattle.dep_groups.specs.Links.{IsFound}
use Rattle.dep_groups.specs.Seek.{IsOwn, IsOther, AreOwn}
use Rattle.dep_groups.proofs.Lists.{contains_at}
use Rattle.dep_groups.proofs.Entries.{one_on}
use Rattle.dep_groups.proofs.Trails.{same_visit, visit_below, visit_push, visit_last, raised_here, raised_cases}

-- what holds either way
pub either_way : (o : Option ℕ) (A B : Type 0) (P Q : ℕ → Type 0) → (A → B) → ((n : ℕ) → P n → Q n) → MatchOption o A P → MatchOption o B Q
either_way None A B P Q f g m = f m
either_way (Some n) A B P Q f g m = g n m

pub own_exhausted : (graph : Graph) (trail : Trail) (g : ℕ) → IsTrailOf graph trail → IsVisit trail.order.items 0 g → vec_len trail.order ≡ 1 → AreOwn graph g → IsExhausted graph trail (vec_len trail.order)
own_exhausted graph trail g t at one own = record {
  looked = λ k h d below is named.
      let first : k ≡ 0 = omega (arith, below, one) in
      let group : h ≡ g = same_visit trail.order.items 0 h g (subst (λ n. IsVisit trail.order.items n h) first is) at in
      let j = contains_at (deps_in graph h) d named in
      sort d (own.own j.0 d (subst (λ n. slice_get (deps_in graph n) j.0 ≡ Some d) group j.1));
}
  where
    sort : (d : ℕ) → IsOwn graph g d → IsLooked graph trail d
    sort d (inl e) = inl e
    sort d (inr e) = inr (g, e, t.marked 0 g at)

-- what is met is reached by the group's members
pub found_open : (graph : Graph) (heads : List (Option ℕ)) (trail : Trail) (g to : ℕ) → IsVisit trail.order.items 0 g → IsOpen graph trail to → IsFound graph heads g to
found_open graph heads trail g to at o = record {
  reached = λ i home. o.met.reaches i (home ∙ ap Some (same_visit trail.order.items 0 g o.met.first at o.met.is));
  below = o.met.below;
  unready = o.unready;
  apart = inl o.absent;
}

pub found_other : (graph : Graph) (heads : List (Option ℕ)) (n g to : ℕ) → IsWired graph n → ((i g : ℕ) → home_in graph i ≡ Some g → Contains (members_of graph.nodes.items g) (record { 0 = i })) → ((m : InstId) → Contains (members_of graph.nodes.items g) m → place heads m.0 ≡ None) → IsOther graph g to → IsFound graph heads g to
found_other graph heads n g to wired members unwanted o = record {
  reached = λ i home. one_on graph i g to home o.named;
  below = wired.deps g to o.named;
  unready = o.unready;
  apart = inr (record { unlinked = λ d home. unwanted (record { 0 = d }) (members d g home); other = o.outside });
}

pub lowered_cases : (old new : ℕ → Bool) (p : ℕ) → ((n : ℕ) → new n ≡ (if p == n then false else old n)) → (n : ℕ) → new n ≡ true → (old n ≡ true) × (p ≡ n → ⊥)
lowered_cases old new p says n is =
    ⊎_elim (λ (e : ((p == n) ≡ true) × (p ≡ n)). absurd (both_ways (new n) (says n ∙ ap (λ b. cond b false (old n)) e.0) is))
    (λ (e : ((p == n) ≡ false) × (p ≢ n)). (sym (ap (λ b. cond b false (old n)) e.0) ∙ sym (says n) ∙ is, e.1))
    (eqb_tells p n)

pub seen_left : (order : List ℕ) (old new : ℕ → Bool) (n v : ℕ) → IsVisit order n v → ((m : ℕ) → new m ≡ (if v == m then false else old m)) → ((g : ℕ) → old g ≡ true → (s : IsSeen order g) × (n ≤ s.at)) → (g : ℕ) → new g ≡ true → (s : IsSeen order g) × (n + 1 ≤ s.at)
seen_left order old new n v here says left g is =
    let was = lowered_cases old new v says g is in
    let s = left g was.0 in (
      s.0,
      ⊎_elim (λ (b : n < s.0.at). omega (arith, b)) (λ (b : s.0.at ≤ n).
          let e : s.0.at ≡ n = omega (arith, b, s.1) in
          absurd (was.1 (same_visit order n v g here (subst (λ m. IsVisit order m g) e s.0.is)))) (cases_lt n s.0.at),
    )

-- a search begins
pub trail_first : (graph : Graph) (seen new : ℕ → Bool) (w : ℕ) → ((g : ℕ) → seen g ≡ false) → ((n : ℕ) → new n ≡ (if w == n then true else seen n)) → IsTrail graph new (w ∷ [])
trail_first graph seen new w unseen says = record {
  came = λ k g is. let e = only k g (visit_push [] w k g is) in record {
    first = w;
    is = visit_last [] w;
    comes = λ i home. record { via = i; member = home ∙ ap Some e; reaches = reaches_self (next_of (entries_of graph)) i };
  };
  marked = λ k g is. subst (λ n. new n ≡ true) (only k g (visit_push [] w k g is)) (raised_here seen new w says);
  known = λ g is. known g (raised_cases seen new w says g is);
}
  where
    only : (k g : ℕ) → IsVisit [] k g ⊎ ((k ≡ 0) × (w ≡ g)) → w ≡ g
    only k g (inl is) = absurd (omega (arith, visit_below [] k g is))
    only k g (inr e) = e.1

    known : (g : ℕ) → (seen g ≡ true) ⊎ (w ≡ g) → IsSeen (w ∷ []) g
    known g (inl was) = absurd (both_ways (seen g) (unseen g) was)
    known g (inr e) = record { at = 0; is = subst (λ n. IsVisit (w ∷ []) 0 n) e (visit_last [] w) }
