use Rattle.std.proofs.Common.{rules, ◌≡◌, ◌++◌, ◌∷◌, ◌||◌, [], length, map, append-nil, arith, ap, refl, subst, sym, ◌∙◌}
use Rattle.std.proofs.lemmas.List.{length-append, length_push, map-append}
use Rattle.std.proofs.lemmas.Option.{none-some}
use Rattle.std.specs.Vec.Iter.{into_iter_items}
use Rattle.turn_lock.specs.Handles.{view}
use Rattle.script_session.proofs.Loops.{given_more, none_left}
use Rattle.script_model.specs.Given.{match_of}
use Rattle.script_model.specs.Plans.{CanCall, line_of}
use Rattle.script_session.specs.Posts.{KnowsGiven}
use Rattle.script_session.specs.Clients.{AreUnheard, HasDoneAll, HasDoneSome}
use Rattle.script_session.proofs.ManyLines.{all_done, next_of_all, none_done}
use Rattle.script_session.proofs.client.do_lines.Goals as goal

pub loop-call-init : goal.loop-call-init
loop-call-init g c =
    let gives = c.into_iter-call-iterator.ensures.into_iter_gives in
    let room = c.requires.room in
    record {
      ready = c.requires.ready;
      free = c.requires.free;
      known = λ isnt. subst (λ table. KnowsGiven table (view c.args.pass.now)) (sym c.new-given.ensures) (λ name m at. absurd (none-some m at));
      some = subst (λ l. HasDoneSome g.U.UnitKind.meaning g.N.Notify.heard g.row.JMAX [] l _ c.new-given.result (view c.args.pass.now) (view c.args.pass.now) c.args.fired.now c.args.fired.now) (sym room.none)
          (none_done g.U.UnitKind.meaning g.N.Notify.heard g.row.JMAX c.new-given.result (view c.args.pass.now) c.args.fired.now (λ name. ap (match_of name) c.new-given.ensures));
      rest = refl;
      left = search rules;
      lines = ap length room.none;
      lines_room = omega (arith, room.room, ap length gives.0);
      unlodged = omega (arith, ap length room.none_unlodged);
      unlodged_room = omega (arith, room.unlodged_room, ap length gives.0);
      unheard = subst (AreUnheard g.N.Notify.heard g.N.Notify.number) (sym room.none_unlodged) (Rattle.std.proofs.lemmas.List.Elements.All-nil _);
    }

pub do_or_skip-done-requires : goal.do_or_skip-done-requires
do_or_skip-done-requires g c =
    let done = c.loop-call.yielded in
    let x = c.in-Some.call in
    let whole : c.args.calls.items ≡ done ++ x ∷ into_iter_items c.next.new.self = sym c.into_iter-call-iterator.ensures.into_iter_gives.0 ∙ (sym c.loop-call.invariant.rest ∙ ap (λ l. done ++ l) c.in-Some.ensures.steps.0) in
    (omega arith, (c.loop-call.invariant.ready, (c.loop-call.invariant.free, (next_of_all (CanCall g.U.UnitKind.meaning g.N.Notify.heard g.N.Notify.number) c.args.calls.items done (into_iter_items c.next.new.self) x whole c.requires.can, (c.requires.posts, c.loop-call.invariant.known)))))

pub add-requires-clause-lines : goal.add-requires-clause-lines
add-requires-clause-lines g c =
    let i = c.loop-call.invariant in
    omega (arith, i.lines, i.lines_room, ap length i.rest, length-append c.loop-call.yielded (into_iter_items c.loop-call.call-iterator), ap length c.in-Some.ensures.steps.0)

pub add-requires-clause-unlodged : goal.add-requires-clause-unlodged
add-requires-clause-unlodged g c =
    let i = c.loop-call.invariant in
    omega (arith, i.unlodged, i.unlodged_room, ap length i.rest, length-append c.loop-call.yielded (into_iter_items c.loop-call.call-iterator), ap length c.in-Some.ensures.steps.0)

pub loop-call-preserved : goal.loop-call-preserved
loop-call-preserved g c =
    let i = c.loop-call.invariant in
    let done = c.loop-call.yielded in
    let x = c.in-Some.call in
    let line = line_of g.U.UnitKind.meaning in
    let steps = c.in-Some.ensures.steps in
    let v = view c.args.pass.now in
    let w = view c.do_or_skip-done.new.pass in
    let ends = c.loop-call.client.lines.items in
    let one = c.do_or_skip-done.ensures.next v c.args.fired.now (map line done) ends i.some in
    record {
      ready = c.do_or_skip-done.ensures.ready;
      free = c.do_or_skip-done.ensures.free;
      known = λ isnt. c.do_or_skip-done.ensures.known (sym (c.is_either-stopped.ensures ∙ ap (λ b. c.loop-call.stopped || b) c.is_stopped.ensures) ∙ isnt);
      some = subst (λ l. HasDoneSome g.U.UnitKind.meaning g.N.Notify.heard g.row.JMAX l c.add.new.self.lines.items c.is_either-stopped.result c.do_or_skip-done.new.given v w c.args.fired.now c.do_or_skip-done.new.fired) (sym (map-append line done (x ∷ [])))
          (subst (λ l. HasDoneSome g.U.UnitKind.meaning g.N.Notify.heard g.row.JMAX (map line done ++ line x ∷ []) l c.is_either-stopped.result c.do_or_skip-done.new.given v w c.args.fired.now c.do_or_skip-done.new.fired) (sym c.add.ensures.lines)
          (subst (λ b. HasDoneSome g.U.UnitKind.meaning g.N.Notify.heard g.row.JMAX (map line done ++ line x ∷ []) (ends ++ c.do_or_skip-done.result.end ∷ []) b c.do_or_skip-done.new.given v w c.args.fired.now c.do_or_skip-done.new.fired) (sym (c.is_either-stopped.ensures ∙ ap (λ b. c.loop-call.stopped || b) c.is_stopped.ensures)) one));
      rest = given_more done x (into_iter_items c.next.new.self) (into_iter_items c.loop-call.call-iterator) (into_iter_items c.into_iter-call-iterator.result) steps.0 i.rest;
      left = let short = ap length steps.0 in omega (arith, i.left, steps.1, short);
      lines = omega (arith, ap length c.add.ensures.lines ∙ length_push ends c.do_or_skip-done.result.end, i.lines, length_push done x);
      lines_room = omega (arith, i.lines_room, c.add.ensures.lines_room);
      unlodged = omega (arith, c.add.ensures.unlodged, i.unlodged, length_push done x);
      unlodged_room = omega (arith, i.unlodged_room, c.add.ensures.unlodged_room);
      unheard = c.add.ensures.unheard i.unheard;
    }

pub returns-clause-ready : goal.returns-clause-ready
returns-clause-ready g c = c.loop-call.invariant.ready

pub returns-clause-free : goal.returns-clause-free
returns-clause-free g c = c.loop-call.invariant.free

pub returns-clause-done : goal.returns-clause-done
returns-clause-done g c =
    let i = c.loop-call.invariant in
    let done = c.loop-call.yielded in
    let empty : into_iter_items c.loop-call.call-iterator ≡ [] = none_left (into_iter_items c.loop-call.call-iterator) (sym i.left ∙ c.in-None.ensures.steps.0) in
    let all : done ≡ c.args.calls.items = sym (append-nil done) ∙ (ap (λ l. done ++ l) (sym empty) ∙ (i.rest ∙ c.into_iter-call-iterator.ensures.into_iter_gives.0)) in
    subst (λ l. HasDoneAll g.U.UnitKind.meaning g.N.Notify.heard g.row.JMAX (map (line_of g.U.UnitKind.meaning) l) c.loop-call.client.lines.items (view c.args.pass.now) (view c.loop-call.pass) c.args.fired.now c.loop-call.fired) all
    (all_done g.U.UnitKind.meaning g.N.Notify.heard g.row.JMAX (map (line_of g.U.UnitKind.meaning) done) c.loop-call.client.lines.items c.loop-call.stopped c.loop-call.given (view c.args.pass.now) (view c.loop-call.pass) c.args.fired.now c.loop-call.fired i.some)

pub returns-clause-unlodged : goal.returns-clause-unlodged
returns-clause-unlodged g c = c.loop-call.invariant.unheard
