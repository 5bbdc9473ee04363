use Rattle.std.proofs.Common.{rules, ◌+◌, length, sym, ap, subst, ◌∙◌}
use Rattle.turn_lock.specs.Handles.{view, turn_id}
use Rattle.crew.specs.Crew.{AreSeats, IsNew}
use Rattle.crew.proofs.NewMembers.{one_more_seat}
use Rattle.crew.proofs.seating.new_seats.Goals as goal

pub loop-seat-preserved : goal.loop-seat-preserved
loop-seat-preserved g c =
    let i = c.loop-seat.invariant in
    let v = view c.args.first.now in
    let new = c.split.ensures.new_seat in
    let begins : IsNew (v.spare_from + length c.loop-seat.seats.items) v.seen (view c.split.result) = record {
      number_is = ap (λ u. u.number) new ∙ (ap (λ u. u.spare_from) i.1 ∙ ap (λ n. v.spare_from + n) (sym i.2));
      seen_is = ap (λ u. u.seen) new ∙ ap (λ u. u.seen) i.1;
    } in
    let more = one_more_seat (turn_id c.args.turn.now) v.spare_from v.seen c.loop-seat.seats.items c.split.result (c.split.ensures.same.1 ∙ i.0.0, ap (λ u. u.turn) new) begins i.4 in
    (search rules, search rules, search rules, search rules, subst (AreSeats (turn_id c.args.turn.now) v.spare_from v.seen) (sym c.push_reserved.ensures.items) more)
