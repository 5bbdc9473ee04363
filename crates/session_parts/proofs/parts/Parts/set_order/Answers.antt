use Rattle.session_parts.specs.Parts.{kept_of}
use Rattle.session_parts.proofs.Others.{order_set}
use Rattle.session_parts.proofs.Steps.{ok_map}
use Rattle.session_parts.proofs.parts.Parts.set_order.Goals as goal

pub returns-clause-ok : goal.returns-clause-ok
returns-clause-ok g c = let a = c.requires.1.1.0 in
    ok_map c.set_order.result (λ ds. record { kept = order_set g.U.UnitKind.meaning (kept_of c.args.self.now) g.m c.args.d c.args.order.now c.set_order.new.self a.kept ds c.set_order.ensures.tables; spans = a.spans }) c.set_order.ensures.dylibs
