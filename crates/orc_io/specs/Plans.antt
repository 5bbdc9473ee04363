-- Which calls of a form in memory fail.
use Rattle.std.specs.Prelude.{◌≡◌, ◌+◌, ◌-◌, ◌^◌, min, Contains}
use Rattle.orc_io.specs.declared.memory.fault_plan.FaultPlan.{FaultPlan}

-- the call that comes next is one of those that are to fail
abbrev pub NextIsListed : FaultPlan → Type 0
NextIsListed plan = Contains plan.failing.items plan.calls

-- one more call was made, and the same calls are to fail
pub record CountsCall (old new : FaultPlan) : Type 0 where
  pub calls : new.calls ≡ min (old.calls + 1) (2 ^ 64 - 1)
  pub failing : new.failing.items ≡ old.failing.items
