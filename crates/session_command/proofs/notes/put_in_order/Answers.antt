use Rattle.std.proofs.Common.{length, ◌∙◌}
use Rattle.session_command.proofs.Placing.{back_ordered, put_back}
use Rattle.session_command.proofs.notes.put_in_order.Goals as goal

pub returns-clause-back : goal.returns-clause-back
returns-clause-back g c =
    let size = c.put_unused.ensures.count ∙ (c.put_armed.ensures.count ∙ c.put_all_unlodged.ensures.count) in
    put_back g.N.Notify.heard (length c.args.places) c.args.notified.told.items c.put_unused.new.places c.into_notes.result size c.put_unused.ensures.places (rw (← c.put_all_told.ensures) c.into_notes.ensures.back)

pub returns-clause-in_order : goal.returns-clause-in_order
returns-clause-in_order g c =
    let size = c.put_unused.ensures.count ∙ (c.put_armed.ensures.count ∙ c.put_all_unlodged.ensures.count) in
    back_ordered g.N.Notify.number c.args.notified.told.items c.put_unused.new.places c.into_notes.result (length c.args.places) size (rw (← c.put_all_told.ensures) c.into_notes.ensures.in_order)
