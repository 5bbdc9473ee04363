-- The units that are left, and what was marked so far, are all that is marked.
use Rattle.std.proofs.Common.{◌≡◌, ℕ, cond, vec_len, vec_capacity}
use Rattle.mat_unit.specs.Jobs.{is_among, AreUnits}
use Rattle.mat_unit.specs.Kept.{is_marked}
use Rattle.mat_unit.proofs.jobs.mark_all.Given as goal

abbrev pub invariant-loop-u : goal.invariant-loop-u
invariant-loop-u l = record {
  marks : (k : ℕ) → cond (is_among l.u-iterator k) l.to (is_marked l.marks.items k) ≡ cond (is_among l.units k) l.to (is_marked l.initial.marks.items k);
  exist : AreUnits (vec_len l.marks) l.u-iterator;
  length : vec_len l.marks ≡ vec_len l.initial.marks;
  capacity : vec_capacity l.marks ≡ vec_capacity l.initial.marks;
}
