-- What is kept tells what is.
use Rattle.std.proofs.Common.{sym, subst}
use Rattle.dep_groups.specs.Emit.{IsEmitted}
use Rattle.dep_groups.specs.Kept.{entries_in}
use Rattle.dep_groups.specs.Frontier.{Waiting, AreAbsent, AreEmitted, IsNews}
use Rattle.dep_groups.proofs.Emissions.{on_ok, absent_new, entries_emitted, news_told}
use Rattle.dep_groups.proofs.frontier.Frontier.emit.Goals as goal

pub emit_groups-requires-clause-fresh : goal.emit_groups-requires-clause-fresh
emit_groups-requires-clause-fresh c = absent_new c.args.groups.now c.self.inside.core (subst (λ (w : Waiting). AreAbsent w.entries c.args.groups.now) (sym c.self.view_is) c.requires.absent)

pub returns-clause-emitted : goal.returns-clause-emitted
returns-clause-emitted c =
    let old = c.self.inside.core in
    let new = c.emit_groups.new.core in
    on_ok c.emit_groups.result
    (λ (e : IsEmitted old new c.args.groups.now). subst (λ (w : Waiting). AreEmitted c.args.groups.now w.entries (entries_in new)) c.self.view_is
    (entries_emitted c.args.groups.now old new c.self.invariant.kept c.emit_groups.ensures.whole.kept e))
    c.emit_groups.ensures.emitted

pub returns-clause-told : goal.returns-clause-told
returns-clause-told c =
    let old = c.self.inside.core in
    let new = c.emit_groups.new.core in
    on_ok c.emit_groups.result
    (λ (e : IsEmitted old new c.args.groups.now). subst (λ (w : Waiting). IsNews w.entries (entries_in new) new.told.items) c.self.view_is
    (news_told c.args.groups.now old new c.self.invariant.kept c.emit_groups.ensures.whole.kept e))
    c.emit_groups.ensures.emitted
