use Rattle.std.proofs.Common.{◌-◌, length, take}
use Rattle.generators.specs.Kept.{offered_in}
use Rattle.generators.specs.Lines.{joined_by, HasRoom, ChangesLines}
use Rattle.generators.proofs.offers.join_names.Given as goal

abbrev pub invariant-loop-k : goal.invariant-loop-k
invariant-loop-k g l =
    let offers = (g.U.UnitKind.meaning l.unit).offers in
    record {
      queues : ChangesLines l.d.0 (offered_in (take l.k offers) l.fn.scope) (joined_by l.fn.who) l.initial.lines l.lines;
      room : HasRoom (length offers - l.k) l.lines;
    }
