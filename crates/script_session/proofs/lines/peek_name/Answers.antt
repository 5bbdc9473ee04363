use Rattle.std.proofs.Common.{◌<◌, arith, subst, sym, ◌∙◌}
use Rattle.turn_lock.specs.Handles.{view}
use Rattle.script_session.proofs.Peeking.{free_peeked, peek_done, peek_unfound}
use Rattle.script_session.proofs.lines.peek_name.Goals as goal

pub peek_at-requires : goal.peek_at-requires
peek_at-requires g c =
    let known = c.requires.known c.args.name c.in-Some.found (sym c.match_of.ensures ∙ c.in-Some.is) in
    (omega arith, (c.requires.ready, subst (λ n. c.in-Some.found.instance.0 < n) (sym c.requires.posts) known.post))

pub returns-in-Some-clause-free : goal.returns-in-Some-clause-free
returns-in-Some-clause-free g c = free_peeked g.U.UnitKind.meaning g.row.JMAX (view c.args.pass.now) (view c.peek_at.new.pass) c.in-Some.found (c.requires.known c.args.name c.in-Some.found (sym c.match_of.ensures ∙ c.in-Some.is)) c.peek_at.result c.peek_at.ensures.peeked c.requires.free

pub returns-in-Some-clause-done : goal.returns-in-Some-clause-done
returns-in-Some-clause-done g c given told same =
    let at = sym c.match_of.ensures ∙ c.in-Some.is in
    peek_done g.U.UnitKind.meaning g.row.JMAX (view c.args.pass.now) (view c.peek_at.new.pass) c.in-Some.found (c.requires.known c.args.name c.in-Some.found at) g.N.Notify.heard given c.args.name told c.peek_at.result (sym (same c.args.name) ∙ at) c.peek_at.ensures.peeked

pub returns-in-None-clause-done : goal.returns-in-None-clause-done
returns-in-None-clause-done g c given told same = peek_unfound g.U.UnitKind.meaning g.N.Notify.heard g.row.JMAX (view c.args.pass.now) given c.args.name told (sym (same c.args.name) ∙ (sym c.match_of.ensures ∙ c.in-None.is))
