use Rattle.std.proofs.Common.{◌≡◌, [], ◌∷◌, ◌++◌, ap, sym, subst, ◌∙◌, refl, arith, rules}
use Rattle.std.specs.Vec.{vec_capacity}
use Rattle.session_model.specs.State.{plain_history}
use Rattle.session_model.specs.declared.entry.Event.TheVariants as event
use Rattle.session_parts.specs.Lodged.{note_of}
use Rattle.session_steps.specs.Fires.{AreFires}
use Rattle.session_steps.specs.Lookups.{armed_by}
use Rattle.session_steps.specs.Moved.{CanEnter}
use Rattle.session_steps.proofs.Declared.{counted, stands, entry, can_step, did_step}
use Rattle.execution_session.proofs.session.Session.ask_telling.Goals as goal

pub check_places-requires : goal.check_places-requires
check_places-requires g c κs within = (within.0, (within.1, ((search rules), (refl, (c.self.invariant, (omega arith))))))

pub look_up-requires : goal.look_up-requires
look_up-requires g c κs within =
    let live = c.self.inside.live in
    (within.0, (within.1, (stands g.U.UnitKind.meaning g.row.JMAX live.parts live.journal.items _ c.self.invariant, (counted g.U.UnitKind.meaning live.journal.items, (c.requires.order, c.requires.wanted)))))

pub enter_stirring-requires-clause-can : goal.enter_stirring-requires-clause-can
enter_stirring-requires-clause-can g c =
    let new = c.look_up.new.self in
    let asks = event.Ask c.args.order.now c.args.wanted.now c.args.level (note_of c.args.then.now) in
    let is : c.in-Ok.event ≡ asks = c.in-Ok.ensures ∙ ap (event.Ask c.args.order.now c.args.wanted.now c.args.level) c.note_of-note.ensures in
    subst (λ e. CanEnter g.U.UnitKind.meaning g.row.JMAX new.journal.items (vec_capacity new.journal) (entry c.args.s e c.in-Ok-look_up.reply) new.parts) (sym is)
    (can_step g.U.UnitKind.meaning g.row.JMAX 1 c.self.inside.live new c.args.s asks c.in-Ok-look_up.reply c.self.invariant c.in-Ok-look_up.ensures.rest refl c.in_ok-check_places.ensures.places (c.in-Ok-look_up.ensures.step c.args.s.0).step)

pub returns-clause-performs : goal.returns-clause-performs
returns-clause-performs g c =
    let new = c.look_up.new.self in
    let asks = event.Ask c.args.order.now c.args.wanted.now c.args.level (note_of c.args.then.now) in
    let is : c.in-Ok.event ≡ asks = c.in-Ok.ensures ∙ ap (event.Ask c.args.order.now c.args.wanted.now c.args.level) c.note_of-note.ensures in
    let seen : c.args.self.now.journal ≡ c.self.inside.live.journal.items = search rules in
    did_step g.U.UnitKind.meaning g.row.JMAX 1 c.self.inside.live new c.args.self.now.journal c.enter_stirring.new.live.journal.items c.args.s asks c.in-Ok-look_up.reply c.enter_stirring.result seen c.self.invariant c.in-Ok-look_up.ensures.rest refl c.in_ok-check_places.ensures.places (c.in-Ok-look_up.ensures.step c.args.s.0).step
    (c.enter_stirring.ensures.grown ∙ ap (λ e. new.journal.items ++ entry c.args.s e c.in-Ok-look_up.reply ∷ []) is) c.enter_stirring.ensures.reply

pub returns-clause-fires : goal.returns-clause-fires
returns-clause-fires g c =
    let seen : c.self.inside.live.parts.book.armed ≡ c.args.self.now.armed = search rules in
    let kept : c.look_up.new.self.parts.book.armed ≡ armed_by c.args.then.now c.enter_stirring.result c.args.self.now.armed
    = (c.in-Ok-look_up.ensures.step c.args.s.0).armed
    ∙ (ap (λ r. armed_by c.args.then.now r c.self.inside.live.parts.book.armed) (sym c.enter_stirring.ensures.reply)
    ∙ ap (armed_by c.args.then.now c.enter_stirring.result) seen) in
    subst (λ armed. AreFires (plain_history g.U.UnitKind.meaning c.enter_stirring.new.live.journal.items) armed c.enter_stirring.new.live.parts.book.armed c.enter_stirring.new.fires) kept c.enter_stirring.ensures.fires
