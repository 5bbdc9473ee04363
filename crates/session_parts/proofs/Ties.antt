-- Each change of one unit, of what is kept and of the session alike.
use Rattle.std.proofs.Common.{◌≡◌, ℕ, Bool, true, false, List, ◌∷◌, [], ◌++◌, drop, length, map, slice_get, Some, None, option_map, refl, ap, sym, subst, ◌∙◌}
use Rattle.std.proofs.lemmas.Bool.{both_ways}
use Rattle.std.proofs.lemmas.Option.{same_Some}
use Rattle.orc_ids.specs.declared.groups.Group.{Group}
use Rattle.orc_ids.specs.declared.ids.SeatNo.{SeatNo}
use Rattle.orc_ids.specs.declared.ids.UnitId.{UnitId}
use Rattle.orc_ids.specs.declared.place.Shape.{Shape}
use Rattle.session_model.specs.Lists.{changed_at, numbered}
use Rattle.session_model.specs.Meaning.{Meaning}
use Rattle.session_model.specs.Plain.{Plain, UnitRow, unit_shape, is_owned_at}
use Rattle.session_model.specs.Change.{taken_start, taken_finish, placed, let_go, finish_listed, bindings_of, started_unit, finishing_unit, placed_unit, done_unit, failed_unit, let_go_unit, linked_unit, listed_unit, claimed, claimed_row, emitted, emitted_row, failed, hits_failed, hit_row}
use Rattle.session_model.specs.Memory.{is_done, unit_image}
use Rattle.session_model.specs.declared.entry.Finishing.{Finishing}
use Rattle.session_model.specs.declared.rows.InstRow.{InstRow}
use Rattle.session_model.specs.declared.rows.Job.{Job}
use Rattle.session_model.specs.declared.rows.Job.TheVariants as job
use Rattle.session_model.specs.declared.rows.UnitPhase.TheVariants as stage
use Rattle.session_laws.proofs.Declared.{map_parts}
use Rattle.code_memory.specs.Places.{with_range, with_bytes, without}
use Rattle.code_memory.specs.declared.placement.Placement.{Placement}
use Rattle.mat_unit.specs.declared.unit.Unit.{Unit as OneUnit}
use Rattle.mat_unit.specs.Changes as one
use Rattle.mat_unit.specs.Rows.{unit_row}
use Rattle.session_parts.specs.Units.{IsReadied, tracker_at, is_unlinked}
use Rattle.session_parts.specs.Stored.{AreStored, is_placed}
use Rattle.session_parts.specs.Tied.{Kept, IsTied, AreDylibs}
use Rattle.session_parts.proofs.UnitChanges.{GoesWith, unit_changed, owners_stay, change_keeps}
use Rattle.session_parts.proofs.Storing.{changed_one, rephased}
use Rattle.session_parts.proofs.Memories.{HasNoRange, stored_placed, stored_done, stored_done_bare, stored_freed, stored_unplaced}
use Rattle.session_parts.proofs.RowChanges.{IsSeenSame, dylibs_mapped, dylibs_numbered}

-- a unit of the session is kept
pub kept_unit : {U : Type 0} (means : U → Meaning) (k : Kept U) (m : Plain) (u : ℕ) (x : UnitRow) → IsTied means k m → slice_get m.units u ≡ Some x →
    (y : OneUnit U) × (slice_get k.units u ≡ Some y) × (x ≡ unit_row means (tracker_at m.units u) y)
kept_unit means k m u x t e = map_parts (unit_row means (tracker_at m.units u)) (slice_get k.units u) x (sym (t.units.rows u) ∙ e)

-- and the other way round
pub session_unit : {U : Type 0} (means : U → Meaning) (k : Kept U) (m : Plain) (u : ℕ) (y : OneUnit U) → IsTied means k m → slice_get k.units u ≡ Some y → slice_get m.units u ≡ Some (unit_row means (tracker_at m.units u) y)
session_unit means k m u y t e = t.units.rows u ∙ ap (option_map (unit_row means (tracker_at m.units u))) e

-- one unit is changed, with the rows, the jobs and the memory
pub unit_ties : {U : Type 0} (means : U → Meaning) (k : Kept U) (m : Plain) (u : ℕ) (f : OneUnit U → OneUnit U) (g : UnitRow → UnitRow) (rows : List InstRow) (jobs : List Job) (memory : List Placement) → IsTied means k m → GoesWith means f g →
    AreDylibs k.shelf m.dylibs rows → ((x : OneUnit U) → slice_get k.units u ≡ Some x → IsReadied means x → IsReadied means (f x)) → AreStored (changed_at u g m.units) memory →
    IsTied means (record k { rows = rows; units = changed_at u f k.units; jobs = jobs; memory = memory }) (record m { rows = rows; units = changed_at u g m.units; jobs = jobs })
unit_ties means k m u f g rows jobs memory t c shelf readied stored = record {
  dylibs = shelf;
  rows = refl;
  units = unit_changed means k.units m.units m.trackers u f g c readied t.units;
  jobs = refl;
  generators = t.generators;
  owners = owners_stay k.owners m.trackers m.units (changed_at u g m.units) m.generators (change_keeps u g m.units c.tracker) t.owners;
  memory = stored;
}

-- the same with the rows and jobs as they are kept
pub as_kept : {U : Type 0} (means : U → Meaning) (k : Kept U) (m : Plain) (rows : List InstRow) (jobs : List Job) → rows ≡ k.rows → jobs ≡ k.jobs → IsTied means (record k { rows = rows; jobs = jobs }) m → IsTied means k m
as_kept {U} means k m rows jobs r j t = subst (λ js. IsTied means (record k { jobs = js }) m) j (subst (λ rs. IsTied means (record k { rows = rs; jobs = jobs }) m) r t)

-- the phase of a kept unit is the session's
pub phase_of_kept : {U : Type 0} (means : U → Meaning) (k : Kept U) (m : Plain) (u : ℕ) (x : UnitRow) (y : OneUnit U) → IsTied means k m → slice_get m.units u ≡ Some x → slice_get k.units u ≡ Some y → y.phase ≡ x.phase
phase_of_kept means k m u x y t e f = ap (λ (z : UnitRow). z.phase) (same_Some (unit_row means (tracker_at m.units u) y) x (sym (session_unit means k m u y t f) ∙ e))

-- A unit that goes on to another phase

pub ready_after : {U : Type 0} (means : U → Meaning) (x y : OneUnit U) → y.live ≡ x.live → y.unit ≡ x.unit → y.can_finish ≡ x.can_finish → (y.phase ≡ stage.Unclaimed → ⊥) → (is_unlinked y.phase ≡ true → is_unlinked x.phase ≡ true) → IsReadied means x → IsReadied means y
ready_after means x y live unit room claimed linked r = record {
  flags = ap length live ∙ r.flags ∙ ap (λ u. length (means u).offers) (sym unit);
  starts = λ h. absurd (claimed h);
  finishes = λ h. room ∙ r.finishes (linked h);
}

-- Start

pub start_tied : {U : Type 0} (means : U → Meaning) (k : Kept U) (m : Plain) (s : SeatNo) (u : ℕ) (x : UnitRow) → IsTied means k m → slice_get m.units u ≡ Some x → x.phase ≡ stage.Listed →
    IsTied means (record k { units = changed_at u (one.started s) k.units; jobs = drop 1 k.jobs }) (taken_start s.0 u m)
start_tied means k m s u x t e p = as_kept means (record k { units = changed_at u (one.started s) k.units; jobs = drop 1 k.jobs }) (taken_start s.0 u m) m.rows (drop 1 m.jobs) (sym t.rows) (ap (drop 1) (sym t.jobs))
    (unit_ties means k m u (one.started s) (started_unit s.0) m.rows (drop 1 m.jobs) k.memory t
    (record { row = λ t x. refl; tracker = λ x. refl; dylib = λ x. refl }) t.dylibs
    (λ y f r. ready_after means y (one.started s y) refl refl refl (λ h. absurd cc) (λ h. subst (λ q. is_unlinked q ≡ true) (sym (phase_of_kept means k m u x y t e f ∙ p)) refl) r)
    (changed_one m.units k.memory u (started_unit s.0) x t.memory e
    (rephased k.memory u x (started_unit s.0 x) (t.memory.each u x e) (ap is_done p) refl refl refl refl (λ h a. absurd (both_ways false refl h)))))

-- Finish

pub finish_tied : {U : Type 0} (means : U → Meaning) (k : Kept U) (m : Plain) (s : SeatNo) (u : ℕ) (how : Finishing) (x : UnitRow) → IsTied means k m → slice_get m.units u ≡ Some x → x.phase ≡ stage.Linked →
    IsTied means (record k { units = changed_at u (one.finishing s (bindings_of how)) k.units; jobs = drop 1 k.jobs }) (taken_finish s.0 u how m)
finish_tied means k m s u how x t e p = as_kept means (record k { units = changed_at u (one.finishing s (bindings_of how)) k.units; jobs = drop 1 k.jobs }) (taken_finish s.0 u how m) m.rows (drop 1 m.jobs) (sym t.rows) (ap (drop 1) (sym t.jobs))
    (unit_ties means k m u (one.finishing s (bindings_of how)) (finishing_unit s.0 how) m.rows (drop 1 m.jobs) k.memory t
    (record { row = λ t x. refl; tracker = λ x. refl; dylib = λ x. refl }) t.dylibs
    (λ y f r. ready_after means y (one.finishing s (bindings_of how) y) refl refl refl (λ h. absurd cc) (λ h. absurd (both_ways false refl h)) r)
    (changed_one m.units k.memory u (finishing_unit s.0 how) x t.memory e
    (rephased k.memory u x (finishing_unit s.0 how x) (t.memory.each u x e) (ap is_done p) refl refl refl refl (λ h a. (t.memory.each u x e).placed (ap is_placed p) a))))

-- Place

pub place_tied : {U : Type 0} (means : U → Meaning) (k : Kept U) (m : Plain) (u : UnitId) (shape : Shape) (base : ℕ) (x : UnitRow) → IsTied means k m → slice_get m.units u.0 ≡ Some x → x.phase ≡ stage.Started → x.base ≡ None → unit_shape x ≡ Some shape →
    IsTied means (record k { units = changed_at u.0 (one.placed base) k.units; memory = with_range k.memory u shape base }) (placed u.0 base m)
place_tied means k m u shape base x t e p none its = as_kept means (record k { units = changed_at u.0 (one.placed base) k.units; memory = with_range k.memory u shape base }) (placed u.0 base m) m.rows m.jobs (sym t.rows) (sym t.jobs)
    (unit_ties means k m u.0 (one.placed base) (placed_unit base) m.rows m.jobs (with_range k.memory u shape base) t
    (record { row = λ t x. refl; tracker = λ x. refl; dylib = λ x. refl }) t.dylibs
    (λ y f r. ready_after means y (one.placed base y) refl refl refl (λ h. absurd cc) (λ h. subst (λ q. is_unlinked q ≡ true) (sym (phase_of_kept means k m u.0 x y t e f ∙ p)) refl) r)
    (stored_placed m.units k.memory u shape base x t.memory e none its))

-- Letting go

pub let_go_tied : {U : Type 0} (means : U → Meaning) (k : Kept U) (m : Plain) (s : SeatNo) (u : ℕ) (x : UnitRow) → IsTied means k m → slice_get m.units u ≡ Some x →
    IsTied means (record k { units = changed_at u (one.let_go s) k.units }) (let_go s.0 u m)
let_go_tied means k m s u x t e = as_kept means (record k { units = changed_at u (one.let_go s) k.units }) (let_go s.0 u m) m.rows m.jobs (sym t.rows) (sym t.jobs)
    (unit_ties means k m u (one.let_go s) (let_go_unit s.0) m.rows m.jobs k.memory t
    (record { row = λ t x. refl; tracker = λ x. refl; dylib = λ x. refl }) t.dylibs
    (λ y f r. record { flags = r.flags; starts = r.starts; finishes = r.finishes })
    (changed_one m.units k.memory u (let_go_unit s.0) x t.memory e
    (record { range = (t.memory.each u x e).range; based = (t.memory.each u x e).based; placed = (t.memory.each u x e).placed })))

-- A Finish that is listed

pub listed_finish_tied : {U : Type 0} (means : U → Meaning) (k : Kept U) (m : Plain) (u : UnitId) (x : UnitRow) → IsTied means k m → slice_get m.units u.0 ≡ Some x → x.phase ≡ stage.Waiting →
    IsTied means (record k { units = changed_at u.0 one.linked k.units; jobs = k.jobs ++ job.Finish u ∷ [] }) (finish_listed u.0 m)
listed_finish_tied means k m u x t e p = as_kept means (record k { units = changed_at u.0 one.linked k.units; jobs = k.jobs ++ job.Finish u ∷ [] }) (finish_listed u.0 m) m.rows (m.jobs ++ job.Finish u ∷ []) (sym t.rows) (ap (λ js. js ++ job.Finish u ∷ []) (sym t.jobs))
    (unit_ties means k m u.0 one.linked linked_unit m.rows (m.jobs ++ job.Finish u ∷ []) k.memory t
    (record { row = λ t x. refl; tracker = λ x. refl; dylib = λ x. refl }) t.dylibs
    (λ y f r. record { flags = r.flags; starts = λ h. absurd cc; finishes = λ h. absurd (both_ways false refl h) })
    (changed_one m.units k.memory u.0 linked_unit x t.memory e
    (rephased k.memory u.0 x (linked_unit x) (t.memory.each u.0 x e) (ap is_done p) refl refl refl refl (λ h a. (t.memory.each u.0 x e).placed (ap is_placed p) a))))

-- Claims

claimed_seen : (u : ℕ) (r : InstRow) → IsSeenSame r (claimed_row u r)
claimed_seen u r = record { present = refl; dylib = refl; name = refl; flags = refl }

pub claim_tied : {U : Type 0} (means : U → Meaning) (k : Kept U) (m : Plain) (u : UnitId) (x : UnitRow) → IsTied means k m → slice_get m.units u.0 ≡ Some x → x.phase ≡ stage.Unclaimed →
    IsTied means (record k { rows = map (claimed_row u.0) k.rows; units = changed_at u.0 one.listed k.units; jobs = k.jobs ++ job.Start u ∷ [] }) (claimed u.0 m)
claim_tied means k m u x t e p = as_kept means (record k { rows = map (claimed_row u.0) k.rows; units = changed_at u.0 one.listed k.units; jobs = k.jobs ++ job.Start u ∷ [] }) (claimed u.0 m) (map (claimed_row u.0) m.rows) (m.jobs ++ job.Start u ∷ []) (ap (map (claimed_row u.0)) (sym t.rows)) (ap (λ js. js ++ job.Start u ∷ []) (sym t.jobs))
    (unit_ties means k m u.0 one.listed listed_unit (map (claimed_row u.0) m.rows) (m.jobs ++ job.Start u ∷ []) k.memory t
    (record { row = λ t x. refl; tracker = λ x. refl; dylib = λ x. refl })
    (dylibs_mapped k.shelf m.dylibs m.rows (claimed_row u.0) (claimed_seen u.0) t.dylibs)
    (λ y f r. ready_after means y (one.listed y) refl refl refl (λ h. absurd cc) (λ h. subst (λ q. is_unlinked q ≡ true) (sym (phase_of_kept means k m u.0 x y t e f ∙ p)) refl) r)
    (changed_one m.units k.memory u.0 listed_unit x t.memory e
    (rephased k.memory u.0 x (listed_unit x) (t.memory.each u.0 x e) (ap is_done p) refl refl refl refl (λ h a. absurd (both_ways false refl h)))))

-- Emission

emitted_seen : (u : ℕ) (groups : List Group) (i : ℕ) (r : InstRow) → IsSeenSame r (emitted_row u groups i r)
emitted_seen u groups i r = record { present = refl; dylib = refl; name = refl; flags = refl }

emit_ties : {U : Type 0} (means : U → Meaning) (k : Kept U) (m : Plain) (u : ℕ) (groups : List Group) (x : UnitRow) (memory : List Placement) → IsTied means k m → slice_get m.units u ≡ Some x → x.phase ≡ stage.Finishing → AreStored (changed_at u done_unit m.units) memory →
    IsTied means (record k { rows = numbered (emitted_row u groups) 0 k.rows; units = changed_at u one.done k.units; memory = memory }) (emitted u groups m)
emit_ties means k m u groups x memory t e p stored = as_kept means (record k { rows = numbered (emitted_row u groups) 0 k.rows; units = changed_at u one.done k.units; memory = memory }) (emitted u groups m) (numbered (emitted_row u groups) 0 m.rows) m.jobs (ap (numbered (emitted_row u groups) 0) (sym t.rows)) (sym t.jobs)
    (unit_ties means k m u one.done done_unit (numbered (emitted_row u groups) 0 m.rows) m.jobs memory t
    (record { row = λ t x. refl; tracker = λ x. refl; dylib = λ x. refl })
    (dylibs_numbered k.shelf m.dylibs m.rows (emitted_row u groups) (emitted_seen u groups) t.dylibs)
    (λ y f r. ready_after means y (one.done y) refl refl refl (λ h. absurd cc) (λ h. absurd (both_ways false refl h)) r)
    stored)

pub emit_tied : {U : Type 0} (means : U → Meaning) (k : Kept U) (m : Plain) (u : UnitId) (groups : List Group) (x : UnitRow) → IsTied means k m → slice_get m.units u.0 ≡ Some x → x.phase ≡ stage.Finishing →
    IsTied means (record k { rows = numbered (emitted_row u.0 groups) 0 k.rows; units = changed_at u.0 one.done k.units; memory = with_bytes k.memory u (unit_image x) }) (emitted u.0 groups m)
emit_tied means k m u groups x t e p = emit_ties means k m u.0 groups x (with_bytes k.memory u (unit_image x)) t e p (stored_done m.units k.memory u x t.memory e p)

pub emit_bare_tied : {U : Type 0} (means : U → Meaning) (k : Kept U) (m : Plain) (u : ℕ) (groups : List Group) (x : UnitRow) → IsTied means k m → slice_get m.units u ≡ Some x → x.phase ≡ stage.Finishing → HasNoRange x →
    IsTied means (record k { rows = numbered (emitted_row u groups) 0 k.rows; units = changed_at u one.done k.units }) (emitted u groups m)
emit_bare_tied means k m u groups x t e p bare = emit_ties means k m u groups x k.memory t e p (stored_done_bare m.units k.memory u x t.memory e p bare)

-- Failure

hit_seen : (roots : ℕ → Bool) (rows : List InstRow) (i : ℕ) (r : InstRow) → IsSeenSame r (hit_row roots rows i r)
hit_seen roots rows i r = record { present = refl; dylib = refl; name = refl; flags = refl }

fail_ties : {U : Type 0} (means : U → Meaning) (k : Kept U) (m : Plain) (u : ℕ) (memory : List Placement) → IsTied means k m → AreStored (changed_at u failed_unit m.units) memory →
    IsTied means (record k { rows = hits_failed (is_owned_at u k.rows) k.rows; units = changed_at u one.failed k.units; memory = memory }) (failed u m)
fail_ties means k m u memory t stored = as_kept means (record k { rows = hits_failed (is_owned_at u k.rows) k.rows; units = changed_at u one.failed k.units; memory = memory }) (failed u m) (hits_failed (is_owned_at u m.rows) m.rows) m.jobs (ap (λ rows. hits_failed (is_owned_at u rows) rows) (sym t.rows)) (sym t.jobs)
    (unit_ties means k m u one.failed failed_unit (hits_failed (is_owned_at u m.rows) m.rows) m.jobs memory t
    (record { row = λ t x. refl; tracker = λ x. refl; dylib = λ x. refl })
    (dylibs_numbered k.shelf m.dylibs m.rows (hit_row (is_owned_at u m.rows) m.rows) (hit_seen (is_owned_at u m.rows) m.rows) t.dylibs)
    (λ y f r. record { flags = r.flags; starts = λ h. absurd cc; finishes = λ h. absurd (both_ways false refl h) })
    stored)

pub fail_tied : {U : Type 0} (means : U → Meaning) (k : Kept U) (m : Plain) (u : UnitId) (x : UnitRow) → IsTied means k m → slice_get m.units u.0 ≡ Some x →
    IsTied means (record k { rows = hits_failed (is_owned_at u.0 k.rows) k.rows; units = changed_at u.0 one.failed k.units; memory = without k.memory u }) (failed u.0 m)
fail_tied means k m u x t e = fail_ties means k m u.0 (without k.memory u) t (stored_freed m.units k.memory u failed_unit x t.memory e refl refl)

pub fail_bare_tied : {U : Type 0} (means : U → Meaning) (k : Kept U) (m : Plain) (u : ℕ) (x : UnitRow) → IsTied means k m → slice_get m.units u ≡ Some x → HasNoRange x →
    IsTied means (record k { rows = hits_failed (is_owned_at u k.rows) k.rows; units = changed_at u one.failed k.units }) (failed u m)
fail_bare_tied means k m u x t e bare = fail_ties means k m u k.memory t (stored_unplaced m.units k.memory u failed_unit x t.memory e bare refl refl)
