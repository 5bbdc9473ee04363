use Rattle.std.specs.Prelude.{All}
use Rattle.script_lab.specs.Plans.{IsCallable}
use Rattle.script_lab.specs.SettingUp.{IsMade}
use Rattle.script_lab.proofs.clients.Maker.lines.Given as goal

abbrev pub invariant-loop : goal.invariant-loop
invariant-loop l = record {
  can : All IsCallable l.lines.items;
  made : IsMade l.self.set_up;
}
