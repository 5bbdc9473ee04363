use Rattle.std.proofs.Common.{◌≡◌, ◌⊎◌, ◌<◌, true, List, map, subst, ap, sym, ◌∙◌}
use Rattle.std.proofs.lemmas.List.Elements.{All-rest}
use Rattle.orc_ids.specs.declared.ids.UnitId.{UnitId}
use Rattle.session_model.specs.declared.rows.InstRow.{InstRow}
use Rattle.instances.specs.Table.{Table, is_among}
use Rattle.instances.specs.Removal.{is_gone, removed_row}
use Rattle.instances.proofs.Beginnings.{removed_then, removed_nil, unit_kept, noted_more}
use Rattle.instances.proofs.removal.remove_units.Goals as goal

pub loop-u-preserved : goal.loop-u-preserved
loop-u-preserved c =
    let u = c.in-Some.u.now in
    let us : List UnitId = c.next.new.self in
    let now : List InstRow = c.loop-u.instances.rows in
    let steps = c.in-Some.ensures.steps in
    let made = ap (λ (t : Table). t.rows) c.remove_unit.ensures.rows in
    record {
      rows = ap (λ (xs : List InstRow). map (removed_row us) xs) made ∙ removed_then u us now ∙ subst (λ (vs : List UnitId). map (removed_row vs) now ≡ map (removed_row c.args.gone.now) c.args.instances.now.rows) steps c.loop-u.invariant.rows;
      rooms = (
        ap (λ (t : Table). t.units) c.remove_unit.ensures.rows ∙ c.loop-u.invariant.rooms.0,
        ap (λ (t : Table). t.spare) c.remove_unit.ensures.rows ∙ c.loop-u.invariant.rooms.1,
        ap (λ (t : Table). t.spare_units) c.remove_unit.ensures.rows ∙ c.loop-u.invariant.rooms.2,
      );
      there = All-rest (λ (v : UnitId). v.0 < c.args.instances.now.units) u us c.loop-u.u-iterator steps c.loop-u.invariant.there;
      units = λ k r e. unit_kept u.0 now c.remove_unit.new.instances.rows k r made (c.loop-u.invariant.units k r e);
      changed = λ k r e g b. noted_more u us now (is_among c.loop-u.changed.items k) (is_among c.remove_unit.new.changed.items k) k r (c.loop-u.invariant.units k r e) (c.remove_unit.ensures.kept k)
          (λ q at is. c.remove_unit.ensures.changed k q at is (subst (λ n. k < n) (sym c.loop-u.invariant.places) b))
          (subst (λ (vs : List UnitId). (is_among c.loop-u.changed.items k ≡ true) ⊎ (is_gone vs r.unit.0 ≡ true)) steps (c.loop-u.invariant.changed k r e g b));
      kept = λ k e. c.remove_unit.ensures.kept k (c.loop-u.invariant.kept k e);
      places = c.remove_unit.ensures.places ∙ c.loop-u.invariant.places;
    }

pub returns-clause-rows : goal.returns-clause-rows
returns-clause-rows c =
    sym (removed_nil c.loop-u.instances.rows) ∙ subst (λ (vs : List UnitId). map (removed_row vs) c.loop-u.instances.rows ≡ map (removed_row c.args.gone.now) c.args.instances.now.rows) c.in-None.ensures.steps.0 c.loop-u.invariant.rows
