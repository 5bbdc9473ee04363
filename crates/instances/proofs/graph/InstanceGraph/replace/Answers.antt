use Rattle.std.proofs.Common.{◌≤◌, List, length, refl, arith}
use Rattle.std.proofs.lemmas.Option.{slice_get_within}
use Rattle.session_model.specs.declared.rows.InstRow.{InstRow}
use Rattle.instances.specs.Table.{replaced_row, is_among}
use Rattle.instances.proofs.Kept.{changed_length}
use Rattle.instances.specs.Tied.{IsTied}
use Rattle.instances.proofs.Readiness.{tied_changed, ready_kept}
use Rattle.instances.proofs.Standings.{tells_changed, replace_alike, unlisted, still_listed}
use Rattle.instances.proofs.graph.InstanceGraph.replace.Goals as goal

tied : (c : goal.After-add_all) → IsTied c.replace.new.self.rows c.self.inside.frontier.entries
tied c = tied_changed (replaced_row c.args.gone.now) c.self.inside.instances.rows c.replace.new.self.rows c.self.inside.frontier.entries c.replace.ensures.rows (λ i r e. refl) c.self.invariant.tied

pub invariant_of-self : goal.invariant_of-self
invariant_of-self c =
    let long = changed_length (replaced_row c.args.gone.now) c.self.inside.instances.rows c.replace.new.self.rows c.replace.ensures.rows in
    let roomy = c.self.invariant.roomy in
    record {
      tied = tied c;
      roomy = record {
        there = let a = roomy.there in omega (arith, a, long);
        in_table = let a = roomy.in_table in omega (arith, a, long, c.replace.ensures.rooms.1);
        in_waiting = roomy.in_waiting;
        in_changed = let a = roomy.in_changed in omega (arith, a, c.add_all.ensures.places);
        in_roots = roomy.in_roots;
      };
    }

pub returns-clause-tells : goal.returns-clause-tells
returns-clause-tells c =
    let rows : List InstRow = c.self.inside.instances.rows in
    let new : List InstRow = c.replace.new.self.rows in
    let room : length rows ≤ c.self.inside.changed.places = let a = c.self.invariant.roomy.there in let b = c.self.invariant.roomy.in_changed in omega (arith, a, b) in
    rw (← c.self.view_is) (tells_changed (replaced_row c.args.gone.now) c.replace.ensures.rows
    (λ i r e n. replace_alike c.args.gone.now i r (unlisted _ _ (is_among c.args.gone.now i) i c.self.inside.changed.places (c.add_all.ensures.added i) (let b = slice_get_within rows i r e in omega (arith, b, room)) n))
    (λ i b n. ready_kept c.ready_is_tested.ensures rows new c.self.inside.frontier.entries c.self.invariant.tied (tied c) i)
    (λ i e. still_listed _ _ _ (c.add_all.ensures.added i) e))
