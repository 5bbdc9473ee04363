-- What a lookup at Ready found may be posted by the pass that has seen the history since.
use Rattle.std.proofs.Common.{ap, arith, sym, ◌∙◌}
use Rattle.session_model.specs.declared.look_end.LookEnd.TheVariants.{Found}
use Rattle.turn_lock.specs.Handles.{view, post_count}
use Rattle.ready_words_tests.proofs.Found.{may_post}
use Rattle.ready_words_tests.proofs.tests.session.look_up_and_post.Goals as goal

pub post_found-requires : goal.post_found-requires
post_found-requires g c =
    let front = c.front-entries.ensures in
    let seen = front.seen.1 in
    let ready = c.look_up-end.ensures.ready in (
      omega arith,
      (
        (front.same ∙ ready.0, ap (λ v. v.turn) front.seen.0 ∙ ready.1),
        may_post g.U.UnitKind.meaning g.row.JMAX (post_count c.args.shared.now) (view c.args.pass.now) (view c.look_up-end.new.pass) (view c.front-entries.new.seat) c.look_up-end.result c.as_slice.result.now c.requires.posts
            (c.in-Found.is ∙ ap Found (sym c.as_slice.ensures)) c.look_up-end.ensures.looked seen.later seen.legal,
      ),
    )
