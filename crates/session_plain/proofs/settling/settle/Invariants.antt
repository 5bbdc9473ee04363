use Rattle.std.proofs.Common.{◌≡◌, drop}
use Rattle.session_model.specs.Change.{settled, settled_from}
use Rattle.session_plain.specs.Meant.{meant}
use Rattle.session_plain.proofs.settling.settle.Given as goal

abbrev pub invariant-loop-k : goal.invariant-loop-k
invariant-loop-k g l =
    let means = g.U.UnitKind.meaning in
    record {
      settled : settled_from l.k (drop l.k l.initial.s.queries.items) (meant means l.s) ≡ settled (meant means l.initial.s);
      rows : l.s.rows.items ≡ l.initial.s.rows.items;
      queries : l.s.queries.items ≡ l.initial.s.queries.items;
    }
