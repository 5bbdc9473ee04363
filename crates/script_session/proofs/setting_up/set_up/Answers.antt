use Rattle.std.specs.Prelude.{OnOk, IfErr}
use Rattle.std.proofs.Common.{◌≡◌, ◌∷◌, [], ◌++◌, List, append-nil, arith, length, map, ap, subst, sym, ◌∙◌}
use Rattle.std.specs.Vec.Iter.{into_iter_items}
use Rattle.session_model.specs.Meaning.{Meaning}
use Rattle.session_model.specs.declared.entry.Event.{Event}
use Rattle.turn_lock.specs.Handles.{view}
use Rattle.script_session.proofs.Loops.{given_more, none_left}
use Rattle.script_model.specs.Plans.{event_of}
use Rattle.script_session.specs.SetUps.{IsAt, IsStoppedIn}
use Rattle.script_session.proofs.Setting.{called_more, next_allowed, stopped_next}
use Rattle.script_session.proofs.setting_up.set_up.Goals as goal

pub perform-requires : goal.perform-requires
perform-requires g c =
    let done = c.loop-call.yielded in
    let x = c.in-Some.call in
    let rest = into_iter_items c.next.new.self in
    let whole : c.args.calls.items ≡ done ++ x ∷ rest = sym c.into_iter-call-iterator.ensures.into_iter_gives.0 ∙ (sym c.loop-call.invariant.rest ∙ ap (λ l. done ++ l) c.in-Some.ensures.steps.0) in
    (omega arith, (c.loop-call.invariant.ready, ((map (event_of g.U.UnitKind.meaning) done, c.loop-call.invariant.at), next_allowed g.U.UnitKind.meaning g.row.JMAX c.args.calls.items done rest x whole (view c.loop-call.pass) c.requires.can c.loop-call.invariant.at)))

pub loop-call-preserved : goal.loop-call-preserved
loop-call-preserved g c =
    let means = g.U.UnitKind.meaning in
    let done = c.loop-call.yielded in
    let x = c.in-Some.call in
    let steps = c.in-Some.ensures.steps in
    let ok = c.in_default.ensures.none in
    record {
      ready = c.perform.ensures.ready;
      seats = c.perform.ensures.seats ∙ c.loop-call.invariant.seats;
      at = called_more means g.row.JMAX done x (view c.perform.new.pass) (subst (λ r. OnOk r ((evs : List (Event Meaning)) → IsAt means g.row.JMAX evs (view c.loop-call.pass) → IsAt means g.row.JMAX (evs ++ event_of means x ∷ []) (view c.perform.new.pass))) ok.1 c.perform.ensures.called (map (event_of means) done) c.loop-call.invariant.at);
      rest = given_more done x (into_iter_items c.next.new.self) (into_iter_items c.loop-call.call-iterator) (into_iter_items c.into_iter-call-iterator.result) steps.0 c.loop-call.invariant.rest;
      left = let short = ap length steps.0 in omega (arith, c.loop-call.invariant.left, steps.1, short);
    }

pub returns-in-Some-stopped-clause-set_up : goal.returns-in-Some-stopped-clause-set_up
returns-in-Some-stopped-clause-set_up g c =
    let means = g.U.UnitKind.meaning in
    let done = c.loop-call.yielded in
    let x = c.in-Some.call in
    let rest = into_iter_items c.next.new.self in
    let whole : c.args.calls.items ≡ done ++ x ∷ rest = sym c.into_iter-call-iterator.ensures.into_iter_gives.0 ∙ (sym c.loop-call.invariant.rest ∙ ap (λ l. done ++ l) c.in-Some.ensures.steps.0) in
    stopped_next means g.row.JMAX c.args.calls.items done rest x whole (view c.perform.new.pass) c.in-Some-stopped.stop
    (subst (λ r. IfErr r (λ st. (evs : List (Event Meaning)) → IsAt means g.row.JMAX evs (view c.loop-call.pass) → IsStoppedIn means g.row.JMAX evs (view c.perform.new.pass) st)) c.in-Some-stopped.ensures.some c.perform.ensures.stopped (map (event_of means) done) c.loop-call.invariant.at)

pub returns-clause-set_up : goal.returns-clause-set_up
returns-clause-set_up g c =
    let means = g.U.UnitKind.meaning in
    let done = c.loop-call.yielded in
    let empty : into_iter_items c.loop-call.call-iterator ≡ [] = none_left (into_iter_items c.loop-call.call-iterator) (sym c.loop-call.invariant.left ∙ c.in-None.ensures.steps.0) in
    let all : done ≡ c.args.calls.items = sym (append-nil done) ∙ (ap (λ l. done ++ l) (sym empty) ∙ (c.loop-call.invariant.rest ∙ c.into_iter-call-iterator.ensures.into_iter_gives.0)) in
    subst (λ l. IsAt means g.row.JMAX (map (event_of means) l) (view c.loop-call.pass)) all c.loop-call.invariant.at
