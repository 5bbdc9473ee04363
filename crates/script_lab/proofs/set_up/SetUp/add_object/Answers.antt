use Rattle.std.proofs.Common.{◌<◌, Option, sym, subst}
use Rattle.std.specs.Prelude.{IfSome}
use Rattle.orc_ids.specs.declared.ids.DylibId.{DylibId}
use Rattle.script_lab.proofs.set_up.SetUp.add_object.Goals as goal

pub add-requires-clause-can : goal.add-requires-clause-can
add-requires-clause-can c =
    let dylibs = c.next_unit-number.new.self.dylibs in
    c.hand_in.ensures dylibs (subst (λ (o : Option DylibId). IfSome o (λ source. source.0 < dylibs)) (sym c.in_ok-unit.ensures) tt)
