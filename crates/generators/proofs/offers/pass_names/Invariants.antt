use Rattle.std.proofs.Common.{take}
use Rattle.orc_ids.specs.declared.lookup.Scope.TheVariants.{All}
use Rattle.generators.specs.Kept.{offered_in}
use Rattle.generators.specs.Lines.{without_spent, ChangesLines}
use Rattle.generators.specs.Rows.{spent_at}
use Rattle.generators.proofs.offers.pass_names.Given as goal

abbrev pub invariant-loop-k : goal.invariant-loop-k
invariant-loop-k g l =
    let offers = (g.U.UnitKind.meaning l.unit).offers in
    ChangesLines l.d.0 (offered_in (take l.k offers) All) (without_spent (spent_at l.rows)) l.initial.lines l.lines
