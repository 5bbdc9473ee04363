-- Without workers, a run has one history.
use Rattle.std.specs.Prelude.{◌≡◌, ℕ, ◌+◌, ◌*◌, ◌<◌, true, false, List, length, All, None}
use Rattle.orc_ids.specs.declared.ids.NameId.{NameId}
use Rattle.session_model.specs.Meaning.{Meaning}
use Rattle.session_model.specs.declared.entry.Entry.{Entry}
use Rattle.run_laws.specs.Ended.{IsRun, is_whole}
use Rattle.run_laws.specs.declared.linked.Linked.{Linked}
use Rattle.one_log.specs.Beginnings.{AreOne, EndAlike, IsSpared, StopsClean}

-- Two histories of runs of the same units, in a dylib of the same name, from the same entry, with journals of as many places and no workers,
-- are one, as far as both go. Only of a run that was stopped anything more has to be known.
abbrev pub OneHistory : Type 0
OneHistory = (jmax : ℕ) (main entry : NameId) (units : List Meaning) (h g : List (Entry Meaning)) (h_end g_end : Linked) →
    IsRun jmax 0 main entry units h h_end → IsRun jmax 0 main entry units g g_end → StopsClean h_end h → StopsClean g_end g → AreOne h g h_end g_end

-- Two that weren't stopped are the same, and ended alike.
abbrev pub WholeRunsAreOne : Type 0
WholeRunsAreOne = (jmax : ℕ) (main entry : NameId) (units : List Meaning) (h g : List (Entry Meaning)) (h_end g_end : Linked) →
    IsRun jmax 0 main entry units h h_end → IsRun jmax 0 main entry units g g_end → is_whole h_end ≡ true → is_whole g_end ≡ true → (h ≡ g) × EndAlike h_end g_end

-- In a journal of more places than such a run can fill no unit is given up for want of one: there memory alone is left open, and where it stopped a run.
abbrev pub OneHistoryWithPlaces : Type 0
OneHistoryWithPlaces = (jmax : ℕ) (main entry : NameId) (units : List Meaning) (h g : List (Entry Meaning)) (h_end g_end : Linked) → All (λ (u : Meaning). u.source ≡ None) units → 5 + 14 * length units < jmax →
    IsRun jmax 0 main entry units h h_end → IsRun jmax 0 main entry units g g_end → (is_whole h_end ≡ false → IsSpared h) → (is_whole g_end ≡ false → IsSpared g) → AreOne h g h_end g_end
