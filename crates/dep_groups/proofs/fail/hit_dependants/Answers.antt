-- The group of one mention more is come to.
use Rattle.std.proofs.Common.{◌≡◌, ◌∙◌, ◌<◌, inl, inr, ⊎_elim, ℕ, Option, Some, true, List, length, refl, subst, sym, ap, arith}
use Rattle.std.specs.Prelude.{slice_get}
use Rattle.std.proofs.lemmas.Option.{same_Some}
use Rattle.dep_groups.specs.declared.graph.Edge.{Edge}
use Rattle.dep_groups.specs.Places.{place, is_set}
use Rattle.dep_groups.specs.Shape.{entries_of}
use Rattle.dep_groups.specs.Wake.{IsListed, here, later}
use Rattle.dep_groups.proofs.Adds.{listed_next}
use Rattle.dep_groups.proofs.Additions.{unlisted}
use Rattle.dep_groups.proofs.Trails.{more_none, more_then}
use Rattle.dep_groups.proofs.Wakes.{left_falls, edge_there}
use Rattle.dep_groups.proofs.Spreads.{hit_none, hit_then}
use Rattle.dep_groups.proofs.fail.hit_dependants.Goals as goal

pub loop-next-init : goal.loop-next-init
loop-next-init c =
    let graph = c.args.graph.now in
    let next : c.at-next.result ≡ place graph.firsts.items c.args.instance = c.at-next.ensures ∙ ap (λ (fs : List (Option ℕ)). place fs c.args.instance) c.deref.ensures.value in
    record {
      noted = c.requires.noted;
      swept = c.requires.swept;
      hits = hit_none (entries_of graph) c.args.hits.now;
      more = more_none c.args.trail.now;
      within = λ k is. c.requires.complete.indexed.firsts c.args.instance k (sym next ∙ is);
      rest = λ g listed. subst (λ (o : Option ℕ). IsListed graph.edges.items o g) next listed;
      seen = λ g listed. inr (subst (λ (o : Option ℕ). IsListed graph.edges.items o g) (sym next) listed);
    }

pub hit_group-requires-clause-struck : goal.hit_group-requires-clause-struck
hit_group-requires-clause-struck c =
    let graph = c.args.graph.now in
    let i = c.loop-next.invariant in
    let edge : Edge = c.index.result.now in
    let is : slice_get graph.edges.items c.in-Some.mention ≡ Some edge = edge_there graph.edges.items c.in-Some.mention edge (i.within c.in-Some.mention c.in-Some.is) c.index.ensures in
    record {
      dep = c.args.instance;
      named = c.requires.complete.indexed.named edge.group c.args.instance (i.rest edge.group (subst (λ (o : Option ℕ). IsListed graph.edges.items o edge.group) (sym c.in-Some.is) (here edge is refl)));
      hit = i.hits.stays c.args.instance c.requires.hit;
    }

pub loop-next-smaller : goal.loop-next-smaller
loop-next-smaller c =
    let graph = c.args.graph.now in
    let edge : Edge = c.index-in-Some.result.now in
    let is = edge_there graph.edges.items c.in-Some.mention edge (c.loop-next.invariant.within c.in-Some.mention c.in-Some.is) c.index-in-Some.ensures in
    left_falls c.loop-next.next c.get-next.result c.in-Some.mention c.in-Some.is (λ j next. c.requires.complete.indexed.falls c.in-Some.mention j edge is (sym c.get-next.ensures ∙ next))

pub loop-next-preserved : goal.loop-next-preserved
loop-next-preserved c =
    let graph = c.args.graph.now in
    let i = c.loop-next.invariant in
    let e = c.hit_group.ensures in
    let edge : Edge = c.index-in-Some.result.now in
    let below : c.in-Some.mention < length graph.edges.items = i.within c.in-Some.mention c.in-Some.is in
    let is : slice_get graph.edges.items c.in-Some.mention ≡ Some edge = edge_there graph.edges.items c.in-Some.mention edge below c.index-in-Some.ensures in
    let group : c.index.result.now.group ≡ edge.group = ap (λ (x : Edge). x.group) (same_Some c.index.result.now edge (sym (edge_there graph.edges.items c.in-Some.mention c.index.result.now below c.index.ensures) ∙ is)) in
    record {
      noted = e.noted;
      swept = e.swept;
      hits = hit_then (entries_of graph) c.args.hits.now c.loop-next.hits c.hit_group.new.hits i.hits e.hits;
      more = more_then c.args.trail.now c.loop-next.trail c.hit_group.new.trail i.more e.more;
      within = λ k next. let less = c.requires.complete.indexed.falls c.in-Some.mention k edge is (sym c.get-next.ensures ∙ next) in omega (arith, less, below);
      rest = λ g listed. i.rest g (subst (λ (o : Option ℕ). IsListed graph.edges.items o g) (sym c.in-Some.is) (later edge is (subst (λ (o : Option ℕ). IsListed graph.edges.items o g) c.get-next.ensures listed)));
      seen = λ g listed. ⊎_elim (λ (was : is_set c.loop-next.trail.seen.items g ≡ true). inl (e.more.seen g was))
          (λ (left : IsListed graph.edges.items c.loop-next.next g). ⊎_elim
          (λ (same : edge.group ≡ g). inl (subst (λ (n : ℕ). is_set c.hit_group.new.trail.seen.items n ≡ true) (group ∙ same) e.seen))
          (λ (further : IsListed graph.edges.items edge.next g). inr (subst (λ (o : Option ℕ). IsListed graph.edges.items o g) (sym c.get-next.ensures) further))
          (listed_next graph.edges.items c.loop-next.next c.in-Some.mention g edge c.in-Some.is is left)) (i.seen g listed);
    }

pub returns-clause-seen : goal.returns-clause-seen
returns-clause-seen c = λ g listed. ⊎_elim (λ (was : is_set c.loop-next.trail.seen.items g ≡ true). was)
    (λ (left : IsListed c.args.graph.now.edges.items c.loop-next.next g). absurd (unlisted c.args.graph.now.edges.items c.loop-next.next g c.in_default.is left))
    (c.loop-next.invariant.seen g listed)
