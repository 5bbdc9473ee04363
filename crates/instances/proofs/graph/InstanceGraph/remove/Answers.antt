use Rattle.std.proofs.Common.{◌≡◌, ◌≤◌, ◌<◌, ℕ, Bool, false, List, length, slice_get, Some, refl, ◌∙◌, arith}
use Rattle.std.proofs.lemmas.Bool.{both_ways, false_from_ne_true}
use Rattle.session_model.specs.Change.{hit_row}
use Rattle.session_model.specs.Reach.{is_hit}
use Rattle.session_model.specs.declared.rows.InstRow.{InstRow}
use Rattle.instances.specs.Table.{AreChanged, is_among}
use Rattle.instances.proofs.Kept.{changed_length}
use Rattle.instances.specs.Removal.{is_gone, removed_row}
use Rattle.instances.specs.Tied.{IsTied}
use Rattle.instances.proofs.Beginnings.{removed_alike}
use Rattle.instances.proofs.Failures.{hit_step, hit_alike}
use Rattle.instances.proofs.Readiness.{tied_changed, ready_kept}
use Rattle.instances.proofs.Standings.{mapped, stand_kept, unlisted, still_listed}
use Rattle.instances.proofs.graph.InstanceGraph.remove.Goals as goal

failed : (c : goal.After-remove_units) → AreChanged (hit_row (is_among c.as_slice.result.now) c.self.inside.instances.rows) c.self.inside.instances.rows c.fail_hits.new.instances.rows
failed c = hit_step c.self.inside.instances.rows c.fail_hits.new.instances.rows (is_among c.as_slice.result.now) c.fail_hits.ensures.rows

removed : (c : goal.After-remove_units) → AreChanged (λ _ r. removed_row c.args.gone.now r) c.fail_hits.new.instances.rows c.remove_units.new.instances.rows
removed c = mapped (removed_row c.args.gone.now) c.fail_hits.new.instances.rows c.remove_units.new.instances.rows c.remove_units.ensures.rows

tied : (c : goal.After-remove_units) → IsTied c.remove_units.new.instances.rows c.fail_hits.new.frontier.entries
tied c = tied_changed (λ _ r. removed_row c.args.gone.now r) c.fail_hits.new.instances.rows c.remove_units.new.instances.rows c.fail_hits.new.frontier.entries (removed c) (λ i r e. refl) c.fail_hits.ensures.tied

pub invariant_of-self : goal.invariant_of-self
invariant_of-self c =
    let long = changed_length (hit_row (is_among c.as_slice.result.now) c.self.inside.instances.rows) c.self.inside.instances.rows c.fail_hits.new.instances.rows (failed c) in
    let longer = changed_length (λ _ r. removed_row c.args.gone.now r) c.fail_hits.new.instances.rows c.remove_units.new.instances.rows (removed c) in
    let roomy = c.self.invariant.roomy in
    record {
      tied = tied c;
      roomy = record {
        there = let a = roomy.there in omega (arith, a, long, longer);
        in_table = let a = roomy.in_table in omega (arith, a, long, longer, c.fail_hits.ensures.rooms.1, c.remove_units.ensures.rooms.1);
        in_waiting = let a = roomy.in_waiting in omega (arith, a, c.fail_hits.ensures.places);
        in_changed = let a = roomy.in_changed in omega (arith, a, c.fail_hits.ensures.room, c.remove_units.ensures.places);
        in_roots = let a = roomy.in_roots in omega (arith, a, c.clear.ensures.places, c.add_all_roots.ensures.places);
      };
    }

-- what isn't noted in the end wasn't noted by the failure
unnoted : (c : goal.After-remove_units) (i : ℕ) → is_among c.remove_units.new.changed.items i ≡ false → is_among c.fail_hits.new.changed.items i ≡ false
unnoted c i none = false_from_ne_true _ (λ e. both_ways _ none (c.remove_units.ensures.kept i e))

pub returns-clause-tells : goal.returns-clause-tells
returns-clause-tells c =
    let rows : List InstRow = c.self.inside.instances.rows in
    let mid : List InstRow = c.fail_hits.new.instances.rows in
    let new : List InstRow = c.remove_units.new.instances.rows in
    let gone = c.args.gone.now in
    let roots : ℕ → Bool = is_among c.as_slice.result.now in
    let room : length rows ≤ c.self.inside.changed.places = let a = c.self.invariant.roomy.there in let b = c.self.invariant.roomy.in_changed in omega (arith, a, b) in
    rw (← c.self.view_is) (record {
      stands = λ i b none.
          let below : i < c.self.inside.changed.places = omega (arith, b, room) in
          let below_then : i < c.fail_hits.new.changed.places = omega (arith, below, c.fail_hits.ensures.room) in
          let kept : (r : InstRow) → slice_get mid i ≡ Some r → is_gone gone r.unit.0 ≡ false = λ r e. false_from_ne_true (is_gone gone r.unit.0) (λ g. both_ways _ none (c.remove_units.ensures.changed i r e g below_then)) in
          stand_kept (λ _ r. removed_row gone r) mid new i (removed c) (λ r e. removed_alike gone r (kept r e))
          (ready_kept c.ready_is_tested.ensures mid new c.fail_hits.new.frontier.entries c.fail_hits.ensures.tied (tied c) i)
          ∙ stand_kept (hit_row roots rows) rows mid i (failed c) (λ r e. hit_alike rows roots i r (unlisted _ _ (is_hit rows roots i) i c.self.inside.changed.places (c.fail_hits.ensures.changed i) below (unnoted c i none)))
          (c.fail_hits.ensures.ready i);
      kept = λ i e. c.remove_units.ensures.kept i (still_listed _ _ _ (c.fail_hits.ensures.changed i) e);
    })
