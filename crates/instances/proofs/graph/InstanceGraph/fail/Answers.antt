use Rattle.std.proofs.Common.{◌≡◌, ◌≤◌, ◌&&◌, ◌||◌, ℕ, Bool, not, List, length, ap, sym, subst, ◌∙◌, arith}
use Rattle.std.proofs.lemmas.Option.{slice_get_within}
use Rattle.orc_ids.specs.declared.ids.InstId.{InstId}
use Rattle.session_model.specs.Change.{hit_row}
use Rattle.session_model.specs.Plain.{is_owned_at}
use Rattle.session_model.specs.Reach.{is_ready, is_hit}
use Rattle.session_model.specs.declared.rows.InstRow.{InstRow}
use Rattle.instances.specs.Table.{AreChanged, is_among}
use Rattle.instances.proofs.Kept.{changed_length}
use Rattle.instances.specs.Graph.{Graph, NoneEmitted}
use Rattle.instances.proofs.Failures.{owned_roots, failed_same, hit_step, hit_alike}
use Rattle.instances.proofs.Standings.{tells_changed, unlisted, still_listed}
use Rattle.instances.proofs.graph.InstanceGraph.fail.Goals as goal

step : (c : goal.After-fail_hits) → AreChanged (hit_row (is_among c.as_slice.result.now) c.self.inside.instances.rows) c.self.inside.instances.rows c.fail_hits.new.instances.rows
step c = hit_step c.self.inside.instances.rows c.fail_hits.new.instances.rows (is_among c.as_slice.result.now) c.fail_hits.ensures.rows

pub invariant_of-self : goal.invariant_of-self
invariant_of-self c =
    let rows : List InstRow = c.self.inside.instances.rows in
    let long = changed_length (hit_row (is_among c.as_slice.result.now) rows) rows c.fail_hits.new.instances.rows (step c) in
    let roomy = c.self.invariant.roomy in
    record {
      tied = c.fail_hits.ensures.tied;
      roomy = record {
        there = let a = roomy.there in omega (arith, a, long);
        in_table = let a = roomy.in_table in omega (arith, a, long, c.fail_hits.ensures.rooms.1);
        in_waiting = let a = roomy.in_waiting in omega (arith, a, c.fail_hits.ensures.places);
        in_changed = let a = roomy.in_changed in omega (arith, a, c.fail_hits.ensures.room);
        in_roots = let a = roomy.in_roots in omega (arith, a, c.clear.ensures.places, c.add_roots_of.ensures.places);
      };
    }

pub returns-clause-rows : goal.returns-clause-rows
returns-clause-rows c =
    let rows : List InstRow = c.self.inside.instances.rows in
    let u : ℕ = c.args.u.0 in
    let none : NoneEmitted u rows = subst (λ (x : Graph). NoneEmitted u x.rows) (sym c.self.view_is) c.requires.unemitted in
    let roots : (i : ℕ) → is_among c.as_slice.result.now i ≡ is_owned_at u rows i = λ i.
    ap (λ (ms : List InstId). is_among ms i) c.as_slice.ensures ∙ c.add_roots_of.ensures.added i
    ∙ ap (λ (ms : List InstId). is_among ms i || (is_owned_at u rows i && not (is_ready rows i))) c.clear.ensures.items
    ∙ owned_roots c.ready_is_tested.ensures u rows i none in
    rw (← c.self.view_is) (c.fail_hits.ensures.rows ∙ failed_same c.hit_is_tested.ensures rows (is_among c.as_slice.result.now) (is_owned_at u rows) roots)

pub returns-clause-tells : goal.returns-clause-tells
returns-clause-tells c =
    let rows : List InstRow = c.self.inside.instances.rows in
    let roots : ℕ → Bool = is_among c.as_slice.result.now in
    let room : length rows ≤ c.self.inside.changed.places = let a = c.self.invariant.roomy.there in let b = c.self.invariant.roomy.in_changed in omega (arith, a, b) in
    rw (← c.self.view_is) (tells_changed (hit_row roots rows) (step c)
    (λ i r e none. hit_alike rows roots i r (unlisted _ _ (is_hit rows roots i) i c.self.inside.changed.places (c.fail_hits.ensures.changed i) (let b = slice_get_within rows i r e in omega (arith, b, room)) none))
    (λ i b none. c.fail_hits.ensures.ready i)
    (λ i e. still_listed _ _ _ (c.fail_hits.ensures.changed i) e))
