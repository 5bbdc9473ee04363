use Rattle.std.proofs.Common.{ap, sym, subst, ◌∙◌}
use Rattle.session_parts.specs.Defined.{exchanged}
use Rattle.session_parts.specs.Parts.{AreParts}
use Rattle.session_parts.proofs.Entered.{judged_is, judged_of, parts_roomy, entered_parts}
use Rattle.session_parts.proofs.parts.Parts.define.Goals as goal

pub enter-requires-clause-its : goal.enter-requires-clause-its
enter-requires-clause-its g c = let r = c.requires.1.1 in
    let names = c.in-Ok.judged.names in
    judged_of g.U.UnitKind.meaning c.args.self.now (record (c.judge.new.self) { dylibs = c.args.self.now.dylibs }) g.m c.args.d.0 c.args.t.0 (g.U.UnitKind.meaning c.args.unit) c.judge.new.self.dylibs names.live names.replaced c.in-Ok.ensures.same r.0 r.1.0
    (judged_is g.U.UnitKind.meaning c.args.self.now g.m c.args.d.0 c.args.t.0 (g.U.UnitKind.meaning c.args.unit) c.judge.new.self.dylibs names.live names.replaced c.shelf_judges.ensures c.shelf_defines.ensures r.0 r.1.1.0 r.1.1.1.0 c.in-Ok.ensures.judged)

pub returns-in-Ok-clause-ok : goal.returns-in-Ok-clause-ok
returns-in-Ok-clause-ok g c = let r = c.requires.1.1 in
    let names = c.in-Ok.judged.names in
    let old = c.judge.new.self in
    entered_parts g.U.UnitKind.meaning old c.enter.new.self c.args.self.now.dylibs g.m c.args.d c.args.t c.enter.result.unit c.args.unit names.live names.replaced
    (parts_roomy g.U.UnitKind.meaning c.args.self.now (record old { dylibs = c.args.self.now.dylibs }) g.m c.in-Ok.ensures.same r.0) r.1.0 r.1.1.1.1.0
    (judged_is g.U.UnitKind.meaning c.args.self.now g.m c.args.d.0 c.args.t.0 (g.U.UnitKind.meaning c.args.unit) old.dylibs names.live names.replaced c.shelf_judges.ensures c.shelf_defines.ensures r.0 r.1.1.0 r.1.1.1.0 c.in-Ok.ensures.judged)
    (record {
      rest = c.enter.ensures.rest;
      rows = c.enter.ensures.rows ∙ ap (λ os. exchanged c.args.d.0 old.graph.units os names.live names.replaced old.graph.rows) c.in-Ok.ensures.offers;
      graph_units = c.enter.ensures.graph_units;
      units = c.enter.ensures.units;
      owners = c.enter.ensures.owners;
      number = c.enter.ensures.unit;
    })

pub returns-in-Err-clause-err : goal.returns-in-Err-clause-err
returns-in-Err-clause-err g c = let new = c.judge.new.self in
    subst (λ shelf. AreParts g.U.UnitKind.meaning (record new { dylibs = shelf }) g.m) (sym c.in-Err.ensures.err)
    (parts_roomy g.U.UnitKind.meaning c.args.self.now (record new { dylibs = c.args.self.now.dylibs }) g.m c.in-Err.ensures.same c.requires.1.1.0)
