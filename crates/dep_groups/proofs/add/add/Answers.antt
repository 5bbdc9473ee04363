use Rattle.std.proofs.Common.{◌∙◌, ◌<◌, ◌++◌, ◌∷◌, [], ℕ, Option, ap, refl, subst, arith}
use Rattle.dep_groups.specs.Nodes.{node_of}
use Rattle.dep_groups.proofs.Additions.{sound_added}
use Rattle.dep_groups.proofs.Needs.{numbers_below}
use Rattle.dep_groups.proofs.add.add.Goals as goal

pub returns-clause-sound : goal.returns-clause-sound
returns-clause-sound c =
    let old = c.args.core.now in
    let group = c.args.group.now in
    sound_added old _ (node_of group)
    (record {
      housed = c.add_group.ensures.housed;
      nodes = c.add_group.ensures.nodes;
      links = c.push_reserved.ensures.items ∙ ap (λ (o : Option ℕ). old.links.items ++ o ∷ []) c.none.ensures;
      nexts = c.push_reserved-2.ensures.items ∙ ap (λ (o : Option ℕ). old.nexts.items ++ o ∷ []) c.none-2.ensures;
      heads = refl;
      cursors = c.push_reserved-3.ensures.items;
      seen = c.push_reserved-4.ensures.items;
      order = refl;
      ready = c.add_group.ensures.ready;
      told = refl;
      homes = c.add_group.ensures.sizes.0;
      fresh = c.requires.fresh;
      deps = λ d named. subst (λ n. d < n) c.requires.firsts (numbers_below group.deps _ d c.requires.deps named);
      room = omega (arith, c.requires.room.order, old.trail.seen.ok.0);
      few = c.add_group.ensures.few;
    })
    c.requires.sound

pub returns-clause-added : goal.returns-clause-added
returns-clause-added c =
    let old = c.args.core.now in
    let e = c.add_group.ensures in
    record {
      housed = e.housed;
      nodes = e.nodes;
      links = c.push_reserved.ensures.items ∙ ap (λ (o : Option ℕ). old.links.items ++ o ∷ []) c.none.ensures;
      ready = e.ready;
      told = refl;
      homes = e.sizes.0;
      firsts = e.sizes.1;
      room = λ groups members deps r. record {
        edges = omega (arith, r.edges, e.edges, e.edges_room);
        nodes = e.room groups members deps r.nodes;
        links = omega (arith, r.links, c.push_reserved.ensures.len, c.push_reserved.ensures.capacity);
        nexts = omega (arith, r.nexts, c.push_reserved-2.ensures.len, c.push_reserved-2.ensures.capacity);
        cursors = omega (arith, r.cursors, c.push_reserved-3.ensures.len, c.push_reserved-3.ensures.capacity);
        seen = omega (arith, r.seen, c.push_reserved-4.ensures.len, c.push_reserved-4.ensures.capacity);
        order = omega (arith, r.order, c.push_reserved-4.ensures.len);
      };
    }
