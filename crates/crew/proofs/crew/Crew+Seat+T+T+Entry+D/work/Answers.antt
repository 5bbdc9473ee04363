use Rattle.std.proofs.Common.{rules, ◌≡◌, ◌+◌, ◌≤◌, All, length, map, sym, ap, subst, ◌∙◌}
use Rattle.turn_lock.specs.Handles.{view, turn_id, post_count, IsReady}
use Rattle.crew.specs.Crew.{AllServed, HaveWorked, IsAble, IsKept, MayBegin, Says}
use Rattle.crew.proofs.Worked.{all_able, all_ready, have_worked, written_back}
use Rattle.crew.proofs.crew.Crew+Seat+T+T+Entry+D.work.Goals as goal

pub serve_all-requires-clause-able : goal.serve_all-requires-clause-able
serve_all-requires-clause-able g c κs within =
    let v = view c.args.first.now in
    let duties = c.self.inside.duties.items in
    let same : c.args.self ≡ duties = search rules in
    let members = c.seat_duties-members in
    let seated = members.ensures.seated (turn_id c.args.turn.now) v.spare_from v.seen c.new_seats-seats.ensures.seats in
    let may = g.D.Duty.may (post_count c.args.turn.now) in
    subst (All (IsAble may (turn_id c.args.turn.now))) (sym c.as_mut_slice.ensures.value)
    (all_able (turn_id c.args.turn.now) may v duties members.result.items (subst (λ l. v.spare_from + length l ≤ v.spare_to) same c.requires.spare) members.ensures.duties (subst (MayBegin may v) same c.requires.may) seated)

pub gather-requires-clause-members : goal.gather-requires-clause-members
gather-requires-clause-members g c =
    let members = c.seat_duties-members in
    let served = c.serve_all.ensures.served in
    let written = written_back members.result.len members.result.items c.serve_all.new.members members.result.ok.0 (served.count ∙ ap length c.as_mut_slice.ensures.value) in
    subst (All (λ m. IsReady (turn_id c.args.turn.now) m.seat)) (sym written) (all_ready (turn_id c.args.turn.now) g.D.Duty.does c.as_mut_slice.result.now c.serve_all.new.members served)

pub returns-clause-worked : goal.returns-clause-worked
returns-clause-worked g c =
    let v = view c.args.first.now in
    let w = view c.gather.new.into in
    let duties = c.self.inside.duties.items in
    let same : c.args.self ≡ duties = search rules in
    let members = c.seat_duties-members in
    let new = c.serve_all.new.members in
    let served = subst (λ l. AllServed g.D.Duty.does (turn_id c.args.turn.now) l new) c.as_mut_slice.ensures.value c.serve_all.ensures.served in
    let written = written_back members.result.len members.result.items new members.result.ok.0 served.count in
    let seated = members.ensures.seated (turn_id c.args.turn.now) v.spare_from v.seen c.new_seats-seats.ensures.seats in
    subst (λ l. HaveWorked g.T.Counted.seat_of g.D.Duty.does v w l c.gather.result.items) (sym same)
    (have_worked (turn_id c.args.turn.now) g.D.Duty.does g.T.Counted.seat_of v w duties c.gather.result.items members.result.items new members.ensures.duties (c.gather.ensures.duties ∙ ap (map (λ m. m.duty)) written) seated served
    (λ log said.
    let gathered = c.gather.ensures.kept log said in
    let first = subst (Says g.T.Counted.seat_of log) c.new_seats-seats.ensures.same gathered.0 in
    (record { later = first.later; told = first.told; ended = first.ended; mine = first.mine; below = first.below }, subst (All (λ m. IsKept g.T.Counted.seat_of log (view m.seat))) written gathered.1)))
