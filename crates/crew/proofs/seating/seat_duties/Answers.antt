use Rattle.std.proofs.Common.{rules, ◌≡◌, ◌+◌, arith, [], ◌∷◌, ◌++◌, length, map, sym, ap, subst, ◌∙◌}
use Rattle.std.proofs.lemmas.List.{length_push, map-append}
use Rattle.std.specs.Vec.Iter.{into_iter_items}
use Rattle.turn_lock.specs.declared.seat.Seat.{Seat}
use Rattle.crew.specs.Crew.{AreSeated}
use Rattle.crew.specs.declared.seating.Member.{Member}
use Rattle.crew.proofs.NewMembers.{given_more, last_seat, one_more_member, popped, seats_before}
use Rattle.crew.proofs.seating.seat_duties.Goals as goal

pub loop-duty-preserved : goal.loop-duty-preserved
loop-duty-preserved g c =
    let i = c.loop-duty.invariant in
    let rest = c.pop.new.self.items in
    let seat = c.in-Some-pop.seat in
    let steps = c.in-Some.ensures.steps in
    let is = popped c.loop-duty.seats.items rest c.pop.result seat c.pop.ensures.items c.in-Some-pop.is in
    let member : Member (Seat g.row.T.Denot g.row.T-Entry.Denot) g.row.D.Denot = record { seat = seat; duty = c.in-Some.duty } in
    let duty : Member (Seat g.row.T.Denot g.row.T-Entry.Denot) g.row.D.Denot → g.row.D.Denot = λ x. x.duty in
    let fewer : length c.loop-duty.seats.items ≡ length rest + 1 = ap length is ∙ length_push rest seat in
    record {
      duties = ap (map duty) c.push_reserved.ensures.items ∙ (map-append duty c.loop-duty.members.items (member ∷ []) ∙ ap (λ l. l ++ c.in-Some.duty ∷ []) i.duties);
      rest = given_more c.loop-duty.yielded c.in-Some.duty (into_iter_items c.next.new.self) (into_iter_items c.loop-duty.duty-iterator) (into_iter_items c.into_iter-duty-iterator.result) steps.0 i.rest;
      left = let short = ap length steps.0 in omega (arith, i.left, steps.1, short);
      count = omega (arith, i.count, fewer, length_push c.loop-duty.yielded c.in-Some.duty);
      few = omega (arith, i.few, ap length c.push_reserved.ensures.items ∙ length_push c.loop-duty.members.items member, length_push c.loop-duty.yielded c.in-Some.duty);
      capacity = search rules;
      seated = λ turn from seen are.
          let before = i.seated turn from seen are in
          let last = last_seat turn from seen c.loop-duty.seats.items rest seat is before.0 in (
            seats_before turn from seen c.loop-duty.seats.items rest seat is before.0,
            subst (AreSeated turn (from + length c.args.duties.items) seen) (sym c.push_reserved.ensures.items)
                (one_more_member turn (from + length c.args.duties.items) (from + length rest) seen c.loop-duty.members.items member (omega (arith, i.count, i.few, fewer)) last before.1),
          );
    }

pub returns-clause-seated : goal.returns-clause-seated
returns-clause-seated g c turn from seen are = (c.loop-duty.invariant.seated turn from seen are).1
