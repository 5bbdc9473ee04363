-- The lines of each client so far can be called.
use Rattle.std.proofs.Common.{◌≡◌, ◌≤◌, length}
use Rattle.std.specs.Prelude.{All}
use Rattle.script_lab.specs.Plans.{IsCallable}
use Rattle.script_lab.specs.SettingUp.{IsMade}
use Rattle.script_lab.proofs.plans.make_plan.Given as goal

abbrev pub invariant-loop : goal.invariant-loop
invariant-loop l = record {
  made : IsMade l.maker.set_up;
  can : All (λ lines. All IsCallable lines.items) l.clients.items;
  count : length l.clients.items ≡ l.counter;
  few : l.end ≤ 3;
}
