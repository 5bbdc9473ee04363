use Rattle.std.proofs.Common.{◌≤◌, ◌++◌, ◌∷◌, [], ◌∙◌, ap, refl, length, vec_capacity, arith}
use Rattle.query_book.specs.declared.rows.State.TheVariants.{Open}
use Rattle.query_book.proofs.Endings.{sound_same, sound_push, account_same, account_push}
use Rattle.query_book.proofs.Lodging.{if_err}
use Rattle.query_book.proofs.rows.Rows.add.Goals as goal

pub invariant_of-self : goal.invariant_of-self
invariant_of-self g c =
    sound_same c.self.inside.queries.items c.make_room.new.queries.items c.self.inside.states.items c.make_room.new.states.items c.self.inside.armed.items c.make_room.new.armed.items _ _ _ _ _ c.self.invariant
    c.make_room.ensures.queries c.make_room.ensures.states c.make_room.ensures.armed c.make_room.ensures.len c.make_room.ensures.more

pub invariant_of-self-2 : goal.invariant_of-self-2
invariant_of-self-2 g c =
    sound_push c.self.inside.queries.items c.push_reserved.new.self.items c.self.inside.states.items c.push_reserved-2.new.self.items c.self.inside.armed.items c.push_reserved-3.new.self.items _ _ _ _ _ c.args.q (Open c.in_ok-room.room) c.take.result c.self.invariant
    (c.push_reserved.ensures.items ∙ ap (λ l. l ++ c.args.q ∷ []) c.make_room.ensures.queries)
    (c.push_reserved-2.ensures.items ∙ ap (λ l. l ++ Open c.in_ok-room.room ∷ []) c.make_room.ensures.states)
    (c.push_reserved-3.ensures.items ∙ ap (λ l. l ++ c.take.result ∷ []) c.make_room.ensures.armed)
    (let h : length c.args.q.matched ≤ vec_capacity c.in_ok-room.room = omega (arith, c.in_ok-room.ensures.capacity, c.len.ensures) in h)
    refl
    (omega (arith, c.in_ok-make_room.ensures.due_room, c.make_room.new.states.ok.0, ap length c.make_room.ensures.states))

pub push_reserved-requires : goal.push_reserved-requires
push_reserved-requires g c = c.in_ok-make_room.ensures.query_room

pub push_reserved-requires-2 : goal.push_reserved-requires-2
push_reserved-requires-2 g c = c.in_ok-make_room.ensures.state_room

pub push_reserved-requires-3 : goal.push_reserved-requires-3
push_reserved-requires-3 g c = c.in_ok-make_room.ensures.armed_room

pub returns-in_err-make_room-clause-err : goal.returns-in_err-make_room-clause-err
returns-in_err-make_room-clause-err g c =
    if_err c.from_residual-in_err-make_room.result
    (account_same c.self.inside.queries.items c.make_room.new.queries.items c.self.inside.states.items c.make_room.new.states.items c.self.inside.armed.items c.make_room.new.armed.items c.self.inside.due.items c.make_room.new.due.items c.args.self.now c.self.view_is
    c.make_room.ensures.queries c.make_room.ensures.states c.make_room.ensures.armed c.make_room.ensures.due)

pub returns-clause-ok : goal.returns-clause-ok
returns-clause-ok g c =
    account_push c.self.inside.queries.items c.push_reserved.new.self.items c.self.inside.states.items c.push_reserved-2.new.self.items c.self.inside.armed.items c.push_reserved-3.new.self.items c.self.inside.due.items c.make_room.new.due.items c.args.self.now c.args.q (Open c.in_ok-room.room) c.args.then.now c.self.view_is refl
    (c.push_reserved.ensures.items ∙ ap (λ l. l ++ c.args.q ∷ []) c.make_room.ensures.queries)
    (c.push_reserved-2.ensures.items ∙ ap (λ l. l ++ Open c.in_ok-room.room ∷ []) c.make_room.ensures.states)
    (c.push_reserved-3.ensures.items ∙ ap (λ l. l ++ c.take.result ∷ []) c.make_room.ensures.armed ∙ ap (λ o. c.self.inside.armed.items ++ o ∷ []) c.take.ensures.value)
    c.make_room.ensures.due

pub returns-clause-taken : goal.returns-clause-taken
returns-clause-taken g c = c.take.ensures.after

pub returns-clause-err : goal.returns-clause-err
returns-clause-err g c = tt

pub returns-clause-kept : goal.returns-clause-kept
returns-clause-kept g c = tt
