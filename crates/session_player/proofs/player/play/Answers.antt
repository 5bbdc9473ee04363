use Rattle.std.proofs.Common.{◌≡◌, [], ◌∷◌, ◌++◌, List, length, subst, sym, ◌∙◌, append_assoc, arith}
use Rattle.std.proofs.iter.Next.{Yields-more}
use Rattle.std.proofs.lemmas.List.{length_push}
use Rattle.std.specs.Vec.Iter.{into_iter_items, into_iter_steps}
use Rattle.session_player.specs.Fits.{EachFits}
use Rattle.session_player.specs.Plays.{IsStoppedAt}
use Rattle.session_player.specs.declared.call.SeatCall.{SeatCall}
use Rattle.session_player.proofs.Playing.{fits_on, plays_push, stopped_at, taken_front}
use Rattle.session_player.proofs.player.play.Goals as goal

pub make-requires : goal.make-requires
make-requires g c =
    let means = g.U.UnitKind.meaning in
    let it = c.into_iter-call-iterator in
    let done = c.loop-call.yielded in
    let x = c.in-Some.call in
    let rest : List (SeatCall g.row.U.Denot) = into_iter_items c.next.new.self in
    let more = Yields-more into_iter_steps it.result done c.loop-call.call-iterator x c.next.new.self c.loop-call.yielded_by c.in-Some.ensures.steps in
    let whole : c.args.calls.items ≡ done ++ x ∷ rest = sym it.ensures.into_iter_gives.0 ∙ (taken_front it.result (done ++ x ∷ []) c.next.new.self more ∙ append_assoc done (x ∷ []) rest) in
    (omega arith, (fits_on means g.row.JMAX done (x ∷ rest) c.args.session.now.journal c.loop-call.session.journal (subst (EachFits means g.row.JMAX c.args.session.now.journal) whole c.requires.fits) c.loop-call.invariant.plays).0)

pub returns-in-Err-clause-stopped : goal.returns-in-Err-clause-stopped
returns-in-Err-clause-stopped g c =
    let means = g.U.UnitKind.meaning in
    let it = c.into_iter-call-iterator in
    let done = c.loop-call.yielded in
    let x = c.in-Some.call in
    let old = c.args.session.now.journal in
    let new = c.make.new.session.journal in
    let rest : List (SeatCall g.row.U.Denot) = into_iter_items c.next.new.self in
    let more = Yields-more into_iter_steps it.result done c.loop-call.call-iterator x c.next.new.self c.loop-call.yielded_by c.in-Some.ensures.steps in
    let whole : c.args.calls.items ≡ done ++ x ∷ rest = sym it.ensures.into_iter_gives.0 ∙ (taken_front it.result (done ++ x ∷ []) c.next.new.self more ∙ append_assoc done (x ∷ []) rest) in
    subst (λ n. IsStoppedAt means g.row.JMAX c.args.calls.items n c.in-Err.why old new) (sym c.loop-call.invariant.count)
    (subst (λ cs. IsStoppedAt means g.row.JMAX cs (length done) c.in-Err.why old new) (sym whole)
    (stopped_at means g.row.JMAX done rest x c.in-Err.why old c.loop-call.session.journal new c.loop-call.invariant.plays c.in-Err.ensures.does))

pub loop-call-preserved-in-Ok : goal.loop-call-preserved-in-Ok
loop-call-preserved-in-Ok g c =
    let done = c.loop-call.yielded in
    let x = c.in-Some.call in
    record {
      plays = plays_push g.U.UnitKind.meaning g.row.JMAX done x _ c.args.session.now.journal c.loop-call.session.journal c.make.new.session.journal c.loop-call.invariant.plays c.in-Ok.ensures.does;
      count = omega (arith, c.loop-call.invariant.count, length_push done x);
    }

pub loop-call-preserved-in-Ok-2 : goal.loop-call-preserved-in-Ok-2
loop-call-preserved-in-Ok-2 g c =
    let done = c.loop-call.yielded in
    let x = c.in-Some.call in
    record {
      plays = plays_push g.U.UnitKind.meaning g.row.JMAX done x _ c.args.session.now.journal c.loop-call.session.journal c.make.new.session.journal c.loop-call.invariant.plays c.in-Ok.ensures.does;
      count = omega (arith, c.loop-call.invariant.count, length_push done x);
    }

pub loop-call-preserved-in-Ok-3 : goal.loop-call-preserved-in-Ok-3
loop-call-preserved-in-Ok-3 g c =
    let done = c.loop-call.yielded in
    let x = c.in-Some.call in
    record {
      plays = plays_push g.U.UnitKind.meaning g.row.JMAX done x _ c.args.session.now.journal c.loop-call.session.journal c.make.new.session.journal c.loop-call.invariant.plays c.in-Ok.ensures.does;
      count = omega (arith, c.loop-call.invariant.count, length_push done x);
    }

pub loop-call-preserved-in-Ok-4 : goal.loop-call-preserved-in-Ok-4
loop-call-preserved-in-Ok-4 g c =
    let done = c.loop-call.yielded in
    let x = c.in-Some.call in
    record {
      plays = plays_push g.U.UnitKind.meaning g.row.JMAX done x _ c.args.session.now.journal c.loop-call.session.journal c.make.new.session.journal c.loop-call.invariant.plays c.in-Ok.ensures.does;
      count = omega (arith, c.loop-call.invariant.count, length_push done x);
    }
