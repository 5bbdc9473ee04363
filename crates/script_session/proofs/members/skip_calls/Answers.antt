use Rattle.std.proofs.Common.{rules, ◌≡◌, ◌++◌, ◌∷◌, [], length, map, append-nil, arith, ap, refl, subst, sym, ◌∙◌}
use Rattle.std.proofs.lemmas.List.{length-append, length_push, map-append}
use Rattle.std.proofs.lemmas.List.Elements.{All-nil}
use Rattle.std.specs.Vec.Iter.{into_iter_items}
use Rattle.script_model.specs.Plans.{CanCall, line_of}
use Rattle.script_model.specs.Lines.{AreSkipped}
use Rattle.script_session.specs.Clients.{AreUnheard}
use Rattle.script_session.proofs.Loops.{given_more, none_left}
use Rattle.script_session.proofs.ManyLines.{next_of_all, skipped_last}
use Rattle.script_session.proofs.members.skip_calls.Goals as goal

pub loop-call-init : goal.loop-call-init
loop-call-init g c =
    let gives = c.into_iter-call-iterator.ensures.into_iter_gives in
    let room = c.requires.empty in
    record {
      skipped = subst (AreSkipped []) (sym room.none) tt;
      rest = refl;
      left = search rules;
      lines = ap length room.none;
      lines_room = omega (arith, room.room, ap length gives.0);
      unlodged = omega (arith, ap length room.none_unlodged);
      unlodged_room = omega (arith, room.unlodged_room, ap length gives.0);
      unheard = subst (AreUnheard g.N.Notify.heard g.N.Notify.number) (sym room.none_unlodged) (All-nil _);
    }

pub skip-requires : goal.skip-requires
skip-requires g c =
    let done = c.loop-call.yielded in
    let x = c.in-Some.call in
    let whole : c.args.calls.items ≡ done ++ x ∷ into_iter_items c.next.new.self = sym c.into_iter-call-iterator.ensures.into_iter_gives.0 ∙ (sym c.loop-call.invariant.rest ∙ ap (λ l. done ++ l) c.in-Some.ensures.steps.0) in
    next_of_all (CanCall g.U.UnitKind.meaning g.N.Notify.heard g.N.Notify.number) c.args.calls.items done (into_iter_items c.next.new.self) x whole c.requires.can

pub add-requires-clause-lines : goal.add-requires-clause-lines
add-requires-clause-lines g c =
    let i = c.loop-call.invariant in
    omega (arith, i.lines, i.lines_room, ap length i.rest, length-append c.loop-call.yielded (into_iter_items c.loop-call.call-iterator), ap length c.in-Some.ensures.steps.0)

pub add-requires-clause-unlodged : goal.add-requires-clause-unlodged
add-requires-clause-unlodged g c =
    let i = c.loop-call.invariant in
    omega (arith, i.unlodged, i.unlodged_room, ap length i.rest, length-append c.loop-call.yielded (into_iter_items c.loop-call.call-iterator), ap length c.in-Some.ensures.steps.0)

pub loop-call-preserved : goal.loop-call-preserved
loop-call-preserved g c =
    let i = c.loop-call.invariant in
    let done = c.loop-call.yielded in
    let x = c.in-Some.call in
    let line = line_of g.U.UnitKind.meaning in
    let steps = c.in-Some.ensures.steps in
    let ends = c.loop-call.client.lines.items in
    record {
      skipped = subst (λ l. AreSkipped l c.add.new.self.lines.items) (sym (map-append line done (x ∷ []))) (subst (AreSkipped (map line done ++ line x ∷ [])) (sym c.add.ensures.lines) (skipped_last (map line done) ends (line x) c.skip.result.end c.skip.ensures.end i.skipped));
      rest = given_more done x (into_iter_items c.next.new.self) (into_iter_items c.loop-call.call-iterator) (into_iter_items c.into_iter-call-iterator.result) steps.0 i.rest;
      left = let short = ap length steps.0 in omega (arith, i.left, steps.1, short);
      lines = omega (arith, ap length c.add.ensures.lines ∙ length_push ends c.skip.result.end, i.lines, length_push done x);
      lines_room = omega (arith, i.lines_room, c.add.ensures.lines_room);
      unlodged = omega (arith, c.add.ensures.unlodged, i.unlodged, length_push done x);
      unlodged_room = omega (arith, i.unlodged_room, c.add.ensures.unlodged_room);
      unheard = c.add.ensures.unheard i.unheard;
    }

pub returns-clause-lines : goal.returns-clause-lines
returns-clause-lines g c =
    let i = c.loop-call.invariant in
    let done = c.loop-call.yielded in
    let empty : into_iter_items c.loop-call.call-iterator ≡ [] = none_left (into_iter_items c.loop-call.call-iterator) (sym i.left ∙ c.in-None.ensures.steps.0) in
    let all : done ≡ c.args.calls.items = sym (append-nil done) ∙ (ap (λ l. done ++ l) (sym empty) ∙ (i.rest ∙ c.into_iter-call-iterator.ensures.into_iter_gives.0)) in
    subst (λ l. AreSkipped (map (line_of g.U.UnitKind.meaning) l) c.loop-call.client.lines.items) all i.skipped

pub returns-clause-unlodged : goal.returns-clause-unlodged
returns-clause-unlodged g c = c.loop-call.invariant.unheard
