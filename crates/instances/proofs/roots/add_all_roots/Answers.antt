use Rattle.std.proofs.Common.{◌≡◌, ◌||◌, List, subst, ◌∙◌, ◌<◌}
use Rattle.std.proofs.lemmas.List.Elements.{All-rest}
use Rattle.orc_ids.specs.declared.ids.UnitId.{UnitId}
use Rattle.instances.specs.Table.{is_among}
use Rattle.instances.specs.Removal.{roots}
use Rattle.instances.proofs.Beginnings.{roots_step}
use Rattle.instances.proofs.roots.add_all_roots.Goals as goal

pub loop-u-preserved : goal.loop-u-preserved
loop-u-preserved c =
    let now = c.loop-u.into.items in
    let rows = c.args.instances.now.rows in
    record {
      added = λ k. roots_step (is_among c.args.into.now.items k) (is_among now k) (is_among c.add_roots_of.new.into.items k) c.in-Some.u.now c.next.new.self c.args.gone.now rows k (c.add_roots_of.ensures.added k)
          (subst (λ (us : List UnitId). (is_among now k || roots us rows k) ≡ (is_among c.args.into.now.items k || roots c.args.gone.now rows k)) c.in-Some.ensures.steps (c.loop-u.invariant.added k));
      there = All-rest (λ (v : UnitId). v.0 < c.args.instances.now.units) c.in-Some.u.now c.next.new.self c.loop-u.u-iterator c.in-Some.ensures.steps c.loop-u.invariant.there;
      places = c.add_roots_of.ensures.places ∙ c.loop-u.invariant.places;
    }
