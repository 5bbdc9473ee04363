-- One client more: its calls are what its lines ask for, so they take as many notes as those have watches.
use Rattle.std.proofs.Common.{◌∙◌, ap, map, flat_map, arith}
use Rattle.std.specs.Vec.Iter.{into_iter_items}
use Rattle.std.proofs.lemmas.Grind.{common_steps}
use Rattle.session_units.specs.Units.{meaning_of}
use Rattle.script_plan.specs.Asked.{asked_line}
use Rattle.script_plan.specs.Notes.{watch_of}
use Rattle.script_plan.proofs.Numbers.{client_has_notes}
use Rattle.script_plan.proofs.Taken.{taken_by_client, enough_behind}
use Rattle.script_plan.proofs.clients.plan_clients.Goals as goal

pub loop-lines-preserved : goal.loop-lines-preserved
loop-lines-preserved g c =
    let units = map meaning_of c.args.units.now in
    let lines = c.lines-item.result in
    let calls = c.in_ok-plan_client.field-0 in
    let before = into_iter_items c.loop-lines.notes in
    let after = into_iter_items c.plan_client.new.notes in
    let asked = c.in_ok-plan_client.ensures.asked ∙ ap (map (asked_line units)) c.as_slice.ensures in
    record {
      asked = grind (arith, common_steps);
      taken = taken_by_client (λ calls. calls.items) c.loop-lines.plans.items c.push.new.self.items calls (into_iter_items c.args.notes.now) before after
          c.in_ok-push.ensures.items c.loop-lines.invariant.taken c.in_ok-plan_client.ensures.taken;
      enough = enough_behind c.args.clients.now c.loop-lines.lines-index lines (flat_map watch_of calls.items) before after c.loop-lines-test.true c.lines-item.is
          (client_has_notes meaning_of units calls.items lines asked) c.in_ok-plan_client.ensures.taken c.loop-lines.invariant.enough;
    }
