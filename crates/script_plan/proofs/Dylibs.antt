-- The dylibs that the events of lines make have the names that the lines declare.
use Rattle.std.proofs.Common.{◌≡◌, ◌≢◌, ℕ, zero, suc, List, [], ◌∷◌, ◌++◌, take, AllPairs, Some, refl, ◌∙◌, ap, arith}
use Rattle.std.specs.Prelude.{slice_get}
use Rattle.std.proofs.lemmas.Option.{same_Some}
use Rattle.script_model.specs.Dylibs.{DifferentNames, dylib_names}
use Rattle.script_plan.specs.Asked.{asked_event, events_from}
use Rattle.script_plan.specs.Counts.{with_line}
use Rattle.script_plan.specs.declared.unit_counts.UnitCounts.{UnitCounts}
use Rattle.session_model.specs.Meaning.{Meaning}
use Rattle.session_model.specs.declared.entry.Event.{Event}
use Rattle.session_script.specs.WellFormed.{dylib_of, dylibs_of}
use Rattle.session_script.specs.declared.script.SetupLine.{SetupLine}
use Rattle.session_script.specs.declared.script.SetupLine.TheVariants as setup

pub different : (ns : List ℕ) → AllPairs (λ m n. m ≢ n) ns → DifferentNames ns
different [] pairs = tt
different (n ∷ ns) pairs = (
  (λ j d below. pairs zero (suc j) d (omega arith) (omega arith)),
  different ns (λ i j d less below. pairs (suc i) (suc j) d (omega arith) (omega arith)),
)

module _ (units : List Meaning) where
  one_named : (counts : UnitCounts) (line : SetupLine) (events : List (Event Meaning)) → dylib_names (asked_event units counts line ∷ events) ≡ dylib_of line ++ dylib_names events
  one_named counts (setup.Dylib name) events = refl
  one_named counts (setup.Order d order) events = refl
  one_named counts (setup.Tracker d t) events = refl
  one_named counts (setup.Object d t file) events = refl
  one_named counts (setup.Absolute d t symbols) events = refl
  one_named counts (setup.Generator d t file) events = refl
  one_named counts (setup.Alias alias) events = refl

  pub named : (counts : UnitCounts) (lines : List SetupLine) → dylib_names (events_from units counts lines) ≡ dylibs_of lines
  named counts [] = refl
  named counts (line ∷ lines) =
      one_named counts line (events_from units (with_line line counts) lines)
      ∙ ap (λ ns. dylib_of line ++ ns) (named (with_line line counts) lines)

  pub events_before : (counts : UnitCounts) (lines : List SetupLine) (k : ℕ) → take k (events_from units counts lines) ≡ events_from units counts (take k lines)
  events_before counts lines zero = refl
  events_before counts [] (suc k) = refl
  events_before counts (line ∷ lines) (suc k) = ap (λ es. asked_event units counts line ∷ es) (events_before (with_line line counts) lines k)

  -- the line that an event is asked by
  pub line_at : (counts : UnitCounts) (lines : List SetupLine) (k : ℕ) (event : Event Meaning) → slice_get (events_from units counts lines) k ≡ Some event → (line : SetupLine) × (before : UnitCounts) × (slice_get lines k ≡ Some line) × (asked_event units before line ≡ event)
  line_at counts [] k event at = absurd cc
  line_at counts (line ∷ lines) zero event at = (line, counts, refl, same_Some _ _ at)
  line_at counts (line ∷ lines) (suc k) event at = line_at (with_line line counts) lines k event at
