use Rattle.std.proofs.Common.{◌≡◌, ◌+◌, ◌++◌, take, vec_len, vec_capacity}
use Rattle.dep_groups.proofs.nodes.push_members.Given as goal

abbrev pub invariant-loop-member : goal.invariant-loop-member
invariant-loop-member l = record {
  items : l.table.items ≡ l.initial.table.items ++ take l.member-index l.members;
  len : vec_len l.table ≡ vec_len l.initial.table + l.member-index;
  capacity : vec_capacity l.table ≡ vec_capacity l.initial.table;
}
