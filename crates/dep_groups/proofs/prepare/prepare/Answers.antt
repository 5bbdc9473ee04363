use Rattle.std.proofs.Common.{◌∙◌, ℕ, Bool, Option, List, ap, sym, arith}
use Rattle.dep_groups.specs.declared.graph.Graph.{Graph}
use Rattle.dep_groups.specs.Places.{place, is_set}
use Rattle.dep_groups.proofs.Tables.{unset_few}
use Rattle.dep_groups.proofs.prepare.prepare.Goals as goal

pub returns-clause-alike : goal.returns-clause-alike
returns-clause-alike c = let t = c.reserve_tables.ensures in let g = c.reserve_graph.ensures in let w = c.grow.ensures in let x = c.clear.ensures in record {
  home = λ i. w.homes i ∙ ap (λ (hs : List (Option ℕ)). place hs i) g.same.homes ∙ ap (λ (gr : Graph). place gr.homes.items i) t.graph;
  ready = λ i. w.flags i ∙ ap (λ (rs : List Bool). is_set rs i) g.same.ready ∙ ap (λ (gr : Graph). is_set gr.ready.items i) t.graph;
  firsts = λ d. w.firsts d ∙ ap (λ (fs : List (Option ℕ)). place fs d) g.same.firsts ∙ ap (λ (gr : Graph). place gr.firsts.items d) t.graph;
  nodes = ap (λ ns. ns.items) w.nodes ∙ g.same.nodes ∙ ap (λ (gr : Graph). gr.nodes.items) t.graph;
  edges = ap (λ es. es.items) w.edges ∙ g.same.edges ∙ ap (λ (gr : Graph). gr.edges.items) t.graph;
  links = t.same.links;
  nexts = t.same.nexts;
  heads = λ d. c.grow_places.ensures.same d ∙ ap (λ (hs : List (Option ℕ)). place hs d) t.same.heads;
  cursors = t.same.cursors;
  seen = t.same.seen;
  order = t.same.order;
  order_room = t.same.order_room;
  heads_size = omega (arith, c.grow_places.ensures.len, c.grow_places.new.places.ok.0, w.sizes.0);
  few = λ was. omega (arith, w.sizes.0, c.in_ok-check_places.ensures);
  more = omega (arith, w.sizes.0, c.in_ok-needs.ensures.places, c.len.ensures, c.args.core.now.graph.homes.ok.0);
  size = w.sizes.2 ∙ sym w.sizes.0;
  room = omega (arith, x.len, x.capacity, unset_few c.grow.new.graph.ready.items, w.sizes.2, c.in_ok-reserve_tables.ensures.room.told, c.reserve_tables.ensures.same.count);
}
