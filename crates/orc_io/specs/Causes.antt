-- When a fault may be answered.
use Rattle.std.specs.Prelude.{ℕ, ◌+◌, ◌-◌, ◌^◌, ◌≤◌, min, Bool, true, false, Result, Ok, Err}
use Rattle.orc_io.specs.declared.errors.FileError.{FileError}
use Rattle.orc_io.specs.declared.errors.FileError.TheVariants.{TooLong, Failed, NoMemory}

-- a count of faults has risen, or stands at the end of its type
abbrev pub Rose : ℕ → ℕ → Type 0
Rose before now = min (before + 1) (2 ^ 64 - 1) ≤ now

-- the read of a file was a fault
abbrev pub is_fault : {A : Type 0} → Result A FileError → Bool
is_fault (Ok bytes) = false
is_fault (Err Failed) = true
is_fault (Err TooLong) = false
is_fault (Err NoMemory) = false
