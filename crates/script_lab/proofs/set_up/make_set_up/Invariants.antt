use Rattle.std.proofs.Common.{◌≡◌, ◌<◌, ◌≤◌}
use Rattle.script_lab.specs.SettingUp.{IsMade}
use Rattle.script_lab.proofs.set_up.make_set_up.Given as goal

-- as many dylibs as rounds
abbrev pub invariant-loop : goal.invariant-loop
invariant-loop l = record {
  made : IsMade l.set_up;
  count : l.set_up.dylibs ≡ l.counter;
  some : 0 < l.end;
  few : l.end ≤ 4;
}

abbrev pub invariant-loop-2 : goal.invariant-loop-2
invariant-loop-2 l = IsMade l.set_up × (0 < l.set_up.dylibs)

abbrev pub invariant-loop-3 : goal.invariant-loop-3
invariant-loop-3 l = IsMade l.set_up × (0 < l.set_up.dylibs)
