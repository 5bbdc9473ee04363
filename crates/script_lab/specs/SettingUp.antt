-- The set-up of a random script, as it is made.
use Rattle.std.specs.Prelude.{◌≡◌, ◌≤◌, ℕ, List, [], ◌∷◌, length, map, take, slice_get, Some}
use Rattle.std.specs.List.{range_with_len}
use Rattle.orc_ids.specs.declared.limits.TheConstants.{DYLIB_LIMIT}
use Rattle.script_model.specs.Dylibs.{dylib_names}
use Rattle.script_model.specs.Plans.{CanSetUp, event_of}
use Rattle.script_model.specs.declared.calls.SetUpCall.{SetUpCall}
use Rattle.script_lab.specs.declared.set_up.SetUp.{SetUp}
use Rattle.script_lab.specs.Units.{lab_meaning}
use Rattle.script_lab.specs.declared.unit.LabUnit.{LabUnit}

-- the names of the dylibs that these calls make
abbrev pub names_of : List (SetUpCall LabUnit) → List ℕ
names_of calls = dylib_names (map (event_of lab_meaning) calls)

-- The calls make so many dylibs, whose names are their numbers, and each can be made after those before it.
pub record IsSetUp (dylibs : ℕ) (calls : List (SetUpCall LabUnit)) : Type 0 where
  pub named : names_of calls ≡ range_with_len 0 dylibs
  pub few : dylibs ≤ DYLIB_LIMIT
  pub each : (k : ℕ) (call : SetUpCall LabUnit) → slice_get calls k ≡ Some call → CanSetUp lab_meaning (length (names_of (take k calls))) call

-- a call that makes no dylib, and can be made where so many are there
pub record CanAdd (dylibs : ℕ) (call : SetUpCall LabUnit) : Type 0 where
  pub none : names_of (call ∷ []) ≡ []
  pub can : CanSetUp lab_meaning dylibs call

abbrev pub IsMade : SetUp → Type 0
IsMade s = IsSetUp s.dylibs s.calls.items
