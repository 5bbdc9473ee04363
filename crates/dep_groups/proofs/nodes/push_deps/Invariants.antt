use Rattle.std.proofs.Common.{◌≡◌, ◌+◌, ◌++◌, take, vec_len, vec_capacity}
use Rattle.dep_groups.specs.Frontier.{numbers}
use Rattle.dep_groups.proofs.nodes.push_deps.Given as goal

abbrev pub invariant-loop-instance : goal.invariant-loop-instance
invariant-loop-instance l = record {
  items : l.table.items ≡ l.initial.table.items ++ numbers (take l.instance-index l.deps);
  len : vec_len l.table ≡ vec_len l.initial.table + l.instance-index;
  capacity : vec_capacity l.table ≡ vec_capacity l.initial.table;
}
