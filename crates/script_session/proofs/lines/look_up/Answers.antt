use Rattle.std.proofs.Common.{◌≡◌, ℕ, List, Option, arith, refl, subst}
use Rattle.std.specs.Prelude.{option_map}
use Rattle.orc_ids.specs.declared.lookup.OrderItem.{OrderItem}
use Rattle.orc_ids.specs.declared.lookup.Wanted.{Wanted}
use Rattle.session_model.specs.Meaning.{Bindings}
use Rattle.session_model.specs.declared.look_end.LookEnd.TheVariants as look
use Rattle.turn_lock.specs.Handles.{view}
use Rattle.link_worker.specs.Looks.{HasLooked}
use Rattle.script_model.specs.Plans.{lookup_of}
use Rattle.script_model.specs.Asking.{LookUp}
use Rattle.script_session.specs.Posts.{MayBeKept}
use Rattle.script_session.proofs.Keeping.{looked_may_be_kept, looked_notes}
use Rattle.script_session.proofs.ManyLines.{still_done}
use Rattle.script_session.proofs.OneLine.{kept_end, not_armed}
use Rattle.script_session.proofs.Posting.{still_given}
use Rattle.script_session.proofs.lines.look_up.Goals as goal

pub returns-in_default-clause-done : goal.returns-in_default-clause-done
returns-in_default-clause-done g c given = not_armed g.U.UnitKind.meaning g.N.Notify.heard g.row.JMAX (view c.args.pass.now) (view c.args.pass.now) given (lookup_of c.args.names.now c.args.watch) c.args.fired.now refl

-- what was found may be kept, and what was known is known
pub keep_given-requires : goal.keep_given-requires
keep_given-requires g c =
    let v = view c.args.pass.now in
    let w = view c.lookup-end.new.pass in
    let may : (found : Bindings) → c.lookup-end.result.end ≡ look.Found found → MayBeKept g.U.UnitKind.meaning g.row.JMAX c.args.names.now.level found w.seen =
    λ found is. looked_may_be_kept g.U.UnitKind.meaning g.row.JMAX g.N.Notify.heard v w c.args.fired.now c.lookup-end.new.fired _ c.in-Ok.then c.lookup-end.result.back c.lookup-end.result.end found is c.lookup-end.ensures.looked in
    let known = still_given g.U.UnitKind.meaning c.args.given.now v w
    (looked_notes g.U.UnitKind.meaning g.row.JMAX g.N.Notify.heard v w c.args.fired.now c.lookup-end.new.fired _ c.in-Ok.then c.lookup-end.result.back c.lookup-end.result.end c.lookup-end.ensures.looked) c.requires.known in
    (omega arith, (c.lookup-end.ensures.ready, (c.requires.posts, (c.lookup-end.ensures.free, (may, known)))))

pub returns-clause-done : goal.returns-clause-done
returns-clause-done g c given =
    let Has : List OrderItem → List Wanted → Option ℕ → Type 0 = λ order wanted note. HasLooked g.U.UnitKind.meaning g.N.Notify.heard g.row.JMAX (view c.args.pass.now) (view c.lookup-end.new.pass) c.args.fired.now c.lookup-end.new.fired (record { order = order; wanted = wanted; level = c.args.names.now.level; note = note }) c.in-Ok.then c.lookup-end.result.end c.lookup-end.result.back in
    still_done g.U.UnitKind.meaning g.N.Notify.heard g.row.JMAX given (LookUp (lookup_of c.args.names.now c.args.watch)) c.keep_given.result (view c.args.pass.now) (view c.lookup-end.new.pass) (view c.keep_given.new.pass) c.args.fired.now c.lookup-end.new.fired
    (kept_end g.U.UnitKind.meaning g.N.Notify.heard g.row.JMAX (view c.args.pass.now) (view c.lookup-end.new.pass) given c.args.fired.now c.lookup-end.new.fired (lookup_of c.args.names.now c.args.watch) c.in-Ok.then c.lookup-end.result.back c.lookup-end.result.end c.keep_given.result c.keep_given.ensures.end
    (subst (λ note. Has c.args.names.now.order c.args.names.now.wanted note) c.in-Ok.ensures
    (subst (λ order. Has order c.args.names.now.wanted (option_map (λ a. a.note) c.in-Ok.then)) c.as_slice.ensures
    (subst (λ wanted. Has c.as_slice.result.now wanted (option_map (λ a. a.note) c.in-Ok.then)) c.as_slice-2.ensures c.lookup-end.ensures.looked))))
    c.keep_given.ensures.quiet
