-- The flags of what one visit more depends on are taken back.
use Rattle.std.proofs.Common.{◌≡◌, ◌<◌, ◌≤◌, ◌∙◌, ⊎_elim, ℕ, List, Contains, subst, sym, arith}
use Rattle.std.proofs.lemmas.Bool.{cases_lt, false_from_ne_true}
use Rattle.dep_groups.specs.Places.{is_set}
use Rattle.dep_groups.specs.Shape.{deps_in}
use Rattle.dep_groups.specs.Search.{IsVisit}
use Rattle.dep_groups.proofs.Trails.{same_visit, visit_below}
use Rattle.dep_groups.proofs.pending.lower_noted.Goals as goal

pub lower_each-requires : goal.lower_each-requires
lower_each-requires c = record { within = λ d named. subst (λ n. d < n) (sym c.loop-k.invariant.places) (c.requires.within.within c.group_at.result d (subst (λ (ds : List ℕ). Contains ds d) c.deps_of.ensures named)) }

pub loop-k-preserved : goal.loop-k-preserved
loop-k-preserved c =
    let graph = c.args.graph.now in
    let order = c.args.trail.now.order.items in
    let i = c.loop-k.invariant in
    let at = c.group_at.ensures in
    let list : c.deps_of.result.now ≡ deps_in graph c.group_at.result = c.deps_of.ensures in
    record {
      places = c.lower_each.auto.flags ∙ i.places;
      left = λ n is. i.left n (c.lower_each.ensures n is).0;
      low = λ k n v less is named high. ⊎_elim
          (λ (b : k < c.loop-k.k). i.low k n v b is named (c.lower_each.ensures n high).0)
          (λ (b : c.loop-k.k ≤ k).
          let e : k ≡ c.loop-k.k = omega (arith, b, less) in
          let group : v ≡ c.group_at.result = same_visit order c.loop-k.k v c.group_at.result (subst (λ m. IsVisit order m v) e is) at in
          (c.lower_each.ensures n high).1 (subst (λ (ds : List ℕ). Contains ds n) (sym list) (subst (λ m. Contains (deps_in graph m) n) group named)))
          (cases_lt k c.loop-k.k);
    }

pub returns : goal.returns
returns c = λ n. false_from_ne_true (is_set c.loop-k.flags n) (λ high.
    let i = c.loop-k.invariant in
    let p = c.requires.noted.only n (i.left n high) in
    let v = p.named in
    i.low p.from n v.visit (omega (arith, visit_below c.args.trail.now.order.items p.from v.visit v.is, c.args.trail.now.order.ok.0, c.loop-k-test.false)) v.is v.named high)
