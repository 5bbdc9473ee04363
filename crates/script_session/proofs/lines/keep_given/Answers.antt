use Rattle.std.proofs.Common.{All, ap, arith, subst, sym, ◌∙◌}
use Rattle.std.proofs.lemmas.Bool.{both_ways}
use Rattle.std.specs.Prelude.{true}
use Rattle.session_model.specs.declared.look_end.LookEnd.TheVariants as look
use Rattle.turn_lock.specs.Handles.{view}
use Rattle.script_session.specs.Posts.{MayBeKept}
use Rattle.script_session.proofs.Keeping.{known_kept}
use Rattle.script_session.proofs.OneLine.{kept_given}
use Rattle.script_session.proofs.lines.keep_given.Goals as goal

pub post_ready-requires : goal.post_ready-requires
post_ready-requires g c = (
  omega arith,
  (c.requires.ready, (c.requires.posts, (c.requires.free, c.requires.may c.as_slice-found.result.now (c.in-Found.is ∙ ap look.Found (sym c.as_slice-found.ensures))))),
)

pub returns-in-Ok-clause-given : goal.returns-in-Ok-clause-given
returns-in-Ok-clause-given g c l known at wanted same isnt = kept_given l known c.args.given.now c.add.new.self c.args.names.now.level c.as_slice.result.now c.as_slice-found.result.now c.args.end c.lookup_end.result at (wanted ∙ sym c.as_slice.ensures) (c.in-Found.is ∙ ap look.Found (sym c.as_slice-found.ensures)) c.lookup_end.ensures same c.in-Ok.ensures

pub returns-in-Ok-clause-known : goal.returns-in-Ok-clause-known
returns-in-Ok-clause-known g c isnt = known_kept g.U.UnitKind.meaning g.row.JMAX c.args.names.now.level c.as_slice.result.now c.as_slice-found.result.now c.args.given.now c.add.new.self (view c.args.pass.now) (view c.post_ready.new.pass) c.post_ready.ensures.quiet c.requires.known c.post_ready.ensures.known c.in-Ok.ensures
