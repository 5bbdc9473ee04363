-- The history that the pass sees now is one of the session, so what was found may be posted.
use Rattle.std.proofs.Common.{All, ap, arith, subst, sym, ◌∙◌}
use Rattle.turn_lock.specs.Handles.{view, post_count}
use Rattle.shared_session.specs.Did.{Did, Nothing}
use Rattle.link_worker.specs.Works.{IsFree}
use Rattle.script_session.proofs.Keeping.{KnowsFound, apart, free_posted, free_seen, known_posted, known_seen, may_post, quiet_posted, quiet_seen}
use Rattle.script_session.proofs.lines.post_ready.Goals as goal

pub post_found-requires : goal.post_found-requires
post_found-requires g c = let front = c.front-entries.ensures in let s = front.seen in (
  omega arith,
  (
    (front.same ∙ c.requires.ready.0, ap (λ v. v.turn) s.0 ∙ c.requires.ready.1),
    may_post g.U.UnitKind.meaning g.row.JMAX (view c.args.pass.now) (view c.front-entries.new.seat) c.args.found.now c.args.level s.0 s.1 c.requires.may c.in-Ready.is (post_count c.args.shared.now) c.requires.posts,
  ),
)

pub returns-in-Ready-clause-free : goal.returns-in-Ready-clause-free
returns-in-Ready-clause-free g c = let s = c.front-entries.ensures.seen in
    subst (IsFree g.U.UnitKind.meaning) (sym c.post_found.ensures.posted) (free_posted g.U.UnitKind.meaning g.row.JMAX (view c.args.pass.now) (view c.front-entries.new.seat) c.args.found.now c.args.level s.0 s.1 c.requires.may c.requires.free)

pub returns-in-Ready-clause-quiet : goal.returns-in-Ready-clause-quiet
returns-in-Ready-clause-quiet g c = let s = c.front-entries.ensures.seen in
    subst (λ x. Did g.U.UnitKind.meaning (view c.args.pass.now) x Nothing) (sym c.post_found.ensures.posted) (quiet_posted g.U.UnitKind.meaning g.row.JMAX (view c.args.pass.now) (view c.front-entries.new.seat) c.args.found.now c.args.level s.0 s.1 c.requires.may)

pub returns-in-Ready-clause-known : goal.returns-in-Ready-clause-known
returns-in-Ready-clause-known g c = let s = c.front-entries.ensures.seen in
    subst (λ x. All (KnowsFound c.args.level x) c.args.found.now) (sym c.post_found.ensures.posted) (known_posted g.U.UnitKind.meaning g.row.JMAX (view c.args.pass.now) (view c.front-entries.new.seat) c.args.found.now c.args.level s.0 s.1 c.requires.may)

pub returns-in-Resolved-clause-free : goal.returns-in-Resolved-clause-free
returns-in-Resolved-clause-free g c = let s = c.front-entries.ensures.seen in
    free_seen g.U.UnitKind.meaning g.row.JMAX (view c.args.pass.now) (view c.front-entries.new.seat) c.args.found.now c.args.level s.0 s.1 c.requires.may c.requires.free

pub returns-in-Resolved-clause-quiet : goal.returns-in-Resolved-clause-quiet
returns-in-Resolved-clause-quiet g c = let s = c.front-entries.ensures.seen in
    quiet_seen g.U.UnitKind.meaning g.row.JMAX (view c.args.pass.now) (view c.front-entries.new.seat) c.args.found.now c.args.level s.0 s.1 c.requires.may

pub returns-in-Resolved-clause-known : goal.returns-in-Resolved-clause-known
returns-in-Resolved-clause-known g c = let s = c.front-entries.ensures.seen in
    known_seen g.U.UnitKind.meaning g.row.JMAX (view c.args.pass.now) (view c.front-entries.new.seat) c.args.found.now c.args.level s.0 s.1 c.requires.may (λ at. apart (sym c.in-Resolved.is ∙ at))
