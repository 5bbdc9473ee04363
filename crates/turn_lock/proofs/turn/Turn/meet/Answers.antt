use Rattle.std.proofs.Common.{rules, ap, sym, ◌∙◌, subst, List, ◌++◌}
use Rattle.turn_lock.specs.Told.{Shows}
use Rattle.turn_lock.specs.Handles.{view}
use Rattle.turn_lock.proofs.Seats.{splits_note, joins_note}
use Rattle.turn_lock.proofs.Steps.{counts}
use Rattle.turn_lock.proofs.Parts.{told_by_note}
use Rattle.turn_lock.proofs.turn.Turn.meet.Goals as goal

pub split_seat-note-requires : goal.split_seat-note-requires
split_seat-note-requires g c = (search rules, search rules, splits_note g.T.Counted.history g.T.Counted.seat_of g.T.Counted.lawful g.T.Counted.posted _ _ _)

pub join_seat-requires : goal.join_seat-requires
join_seat-requires g c = (search rules, search rules, search rules, search rules, joins_note g.T.Counted.history g.T.Counted.seat_of g.T.Counted.lawful g.T.Counted.posted _ _ _ _ _ (search rules) (search rules))

pub load-requires : goal.load-requires
load-requires g c = (search rules, search rules, counts g.T.Counted.history g.T.Counted.seat_of g.T.Counted.lawful g.T.Counted.posted _ _ _ _ (search rules))

pub returns-clause-seen : goal.returns-clause-seen
returns-clause-seen g c =
    let told = c.load.ensures.2 in
    let met = told_by_note g.T.Counted.seat_of g.T.Counted.lawful g.T.Counted.posted told.0 (view c.args.to.now) c.split_seat-note.result.me.0 c.join_seat.new.seat.me.0 (ap (λ m. m.0) c.join_seat.ensures.2) told.3 in
    (search rules, subst (λ (l : List g.row.T-Entry.Denot). Shows g.T.Counted.seat_of g.T.Counted.lawful g.T.Counted.posted l (view c.args.to.now)) (sym (ap (λ m. m.0.seen) told.1)) met.0)

pub returns-clause-met : goal.returns-clause-met
returns-clause-met g c =
    let told = c.load.ensures.2 in
    let met = told_by_note g.T.Counted.seat_of g.T.Counted.lawful g.T.Counted.posted told.0 (view c.args.to.now) c.split_seat-note.result.me.0 c.join_seat.new.seat.me.0 (ap (λ m. m.0) c.join_seat.ensures.2) told.3 in
    let noted = ap (λ m. m.0.seen) c.split_seat-note.ensures.4 in
    (met.1.0, ap (λ m. m.0.seen) told.1 ∙ (met.1.1 ∙ ap (λ (l : List g.row.T-Entry.Denot). l ++ met.1.0) noted))
