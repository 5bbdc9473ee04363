-- What a reply does to a session. Each change is a sentence of its own; a reply that isn't named
-- changes nothing.
use Rattle.std.specs.Prelude.{ℕ, ◌+◌, Bool, true, false, ◌&&◌, ◌||◌, ◌==◌, not, nat_eq, List, [], ◌∷◌, ◌++◌, length, slice_get, drop, filter, map, Option, Some, None, option_map, option_and_then, unwrap_or, if◌then◌else◌}
use Rattle.std.specs.List.{list_any}
use Rattle.std.specs.Option.{option_map_or}
use Rattle.orc_ids.specs.declared.ids.DylibId.{DylibId}
use Rattle.orc_ids.specs.declared.ids.InstId.{InstId}
use Rattle.orc_ids.specs.declared.ids.NameId.{NameId}
use Rattle.orc_ids.specs.declared.flags.SymFlags.{SymFlags}
use Rattle.orc_ids.specs.declared.groups.Group.{Group}
use Rattle.orc_ids.specs.declared.lookup.Level.{Level}
use Rattle.orc_ids.specs.declared.lookup.Level.TheVariants as level
use Rattle.orc_ids.specs.declared.lookup.OrderItem.{OrderItem}
use Rattle.orc_ids.specs.declared.lookup.Scope.TheVariants as scope
use Rattle.orc_ids.specs.declared.lookup.Wanted.{Wanted}
use Rattle.session_model.specs.Lists.{changed_at, numbered, first_some, only_if}
use Rattle.session_model.specs.Meaning.{Meaning, Bindings}
use Rattle.session_model.specs.Plain.{Plain, UnitRow, GenRow, Dylib, Query, Track, is_alias, unit_tracker, is_owned, is_owned_at, is_unsearched, is_waiting, phase_address, unsearched_at}
use Rattle.session_model.specs.Match.{Match, Instance, match_of, row_of}
use Rattle.session_model.specs.Reach.{is_ready, is_hit}
use Rattle.session_model.specs.Query.{is_met}
use Rattle.session_model.specs.declared.change.Change.{Change}
use Rattle.session_model.specs.declared.change.Change.TheVariants as change
use Rattle.session_model.specs.declared.entry.Event.{Event}
use Rattle.session_model.specs.declared.entry.Event.TheVariants as event
use Rattle.session_model.specs.declared.entry.Finishing.{Finishing}
use Rattle.session_model.specs.declared.entry.Finishing.TheVariants as finishing
use Rattle.session_model.specs.declared.entry.Reply.{Reply}
use Rattle.session_model.specs.declared.entry.Reply.TheVariants as reply
use Rattle.session_model.specs.declared.rows.InstRow.{InstRow}
use Rattle.session_model.specs.declared.rows.Job.{Job}
use Rattle.session_model.specs.declared.rows.Job.TheVariants as job
use Rattle.session_model.specs.declared.rows.Phase.TheVariants as phase
use Rattle.session_model.specs.declared.rows.Row.{Row}
pub use Rattle.session_model.specs.declared.rows.Verdict.{Verdict}
pub use Rattle.session_model.specs.declared.rows.Verdict.TheVariants.{Kept, Replaces, Discarded, Clashes}
use Rattle.session_model.specs.declared.rows.UnitPhase.TheVariants as stage

-- Definitions (ORC: JITDylib::define and its linkage rules)

-- a weak or common definition isn't strong
abbrev pub is_strong : SymFlags → Bool
is_strong flags = not (flags.weak || flags.common)

-- over a present definition
abbrev pub verdict_on : List InstRow → SymFlags → Row → Verdict
verdict_on rows flags old =
    if not (is_strong flags) then Discarded
    else (if is_strong old.flags || not (unsearched_at rows old.inst.0) then Clashes old.inst else Replaces old.inst)

abbrev pub verdict : List InstRow → ℕ → NameId × SymFlags → Verdict
verdict rows d offer = option_map_or (verdict_on rows offer.1) (row_of rows d offer.0.0) Kept

-- what becomes of each offered name
abbrev pub verdicts : List InstRow → ℕ → List (NameId × SymFlags) → List Verdict
verdicts rows d offers = map (verdict rows d) offers

abbrev pub is_kept : Verdict → Bool
is_kept Kept = true
is_kept (Replaces i) = true
is_kept _ = false

abbrev pub replaced_by : Verdict → Option ℕ
replaced_by (Replaces i) = Some i.0
replaced_by _ = None

-- the names that a unit keeps
abbrev pub kept_names : List Verdict → List Bool
kept_names found = map is_kept found

-- the instance is replaced
abbrev pub is_replaced : List Verdict → ℕ → Bool
is_replaced found i = list_any (λ v. option_map_or (nat_eq i) (replaced_by v) false) found

abbrev pub unreplaced_row : List Verdict → ℕ → InstRow → InstRow
unreplaced_row found i r = record r { present = r.present && not (is_replaced found i) }

-- an instance that no lookup has asked for, offered at k
abbrev pub new_row : ℕ → ℕ → ℕ → NameId × SymFlags → InstRow
new_row d u k offer = record { dylib = record { 0 = d }; name = offer.0; flags = offer.1; unit = record { 0 = u }; offer = k; present = true; phase = phase.Unsearched }

-- the rows of the names that stay, in order; the first is offered at k
abbrev pub new_rows : ℕ → ℕ → ℕ → List (NameId × SymFlags) → List Verdict → List InstRow
new_rows d u k (offer ∷ offers) (v ∷ vs) = if is_kept v then new_row d u k offer ∷ new_rows d u (k + 1) offers vs else new_rows d u (k + 1) offers vs
new_rows d u k _ _ = []

-- the unit's name at k is replaced
abbrev pub loses_name : List InstRow → List Verdict → ℕ → ℕ → Bool
loses_name rows found u k = list_any (λ (b : Bool). b) (numbered (λ i (r : InstRow). is_replaced found i && r.unit.0 == u && r.offer == k) 0 rows)

-- a unit no longer offers its replaced names
abbrev pub without_replaced : List InstRow → List Verdict → ℕ → UnitRow → UnitRow
without_replaced rows found u x = record x { live = numbered (λ k (flag : Bool). flag && not (loses_name rows found u k)) 0 x.live }

abbrev pub new_unit : ℕ → Meaning → List Verdict → UnitRow
new_unit t u found = record { meaning = u; tracker = t; live = kept_names found; phase = stage.Unclaimed; seat = None; base = None; query = None; bound = None }

abbrev pub defined : ℕ → ℕ → Meaning → List Verdict → Plain → Plain
defined d t u found m = record m {
  rows = numbered (unreplaced_row found) 0 m.rows ++ new_rows d (length m.units) 0 u.offers found;
  units = numbered (without_replaced m.rows found) 0 m.units ++ new_unit t u found ∷ [];
}

abbrev pub spent_generator : GenRow → GenRow
spent_generator g = record g { spent = true }

abbrev pub spent : ℕ → Plain → Plain
spent g m = record m { generators = changed_at g spent_generator m.generators }

-- Lookups (ORC: ExecutionSession::lookup)

abbrev pub instance_of : Option Match → Option InstId
instance_of (Some (Instance i)) = Some i
instance_of _ = None

-- the match of each wanted name
abbrev pub matched : Plain → List OrderItem → List Wanted → List (Option InstId)
matched m order wanted = map (λ w. instance_of (match_of m order w.name.0)) wanted

-- all instances of a unit become Claimed, and its job Start is listed
abbrev pub claimed_row : ℕ → InstRow → InstRow
claimed_row u r = record r { phase = if is_owned u r && is_unsearched r.phase then phase.Claimed else r.phase }

abbrev pub listed_unit : UnitRow → UnitRow
listed_unit x = record x { phase = stage.Listed }

abbrev pub claimed : ℕ → Plain → Plain
claimed u m = record m {
  rows = map (claimed_row u) m.rows;
  units = changed_at u listed_unit m.units;
  jobs = m.jobs ++ job.Start (record { 0 = u }) ∷ [];
}

-- the unit of an instance that no lookup has asked for is claimed
abbrev pub claimed_for : InstId → Plain → Plain
claimed_for i m = option_map_or (λ r. if is_unsearched r.phase then claimed r.unit.0 m else m) (slice_get m.rows i.0) m

-- in the order of the wanted names
abbrev pub all_claimed : List (Option InstId) → Plain → Plain
all_claimed [] m = m
all_claimed (None ∷ os) m = all_claimed os m
all_claimed (Some i ∷ os) m = all_claimed os (claimed_for i m)

-- a query for what was matched, lodged by the next entry
abbrev pub lodged : List (Option InstId) → Level → Option ℕ → Option ℕ → Plain → Plain
lodged found lev unit note m =
    let after = all_claimed found m in
    record after { queries = after.queries ++ record { asked = m.entries + 1; matched = found; level = lev; unit = unit; note = note } ∷ [] }

-- the dylib itself, with all its names, and then these
abbrev pub itself_then : ℕ → List OrderItem → List OrderItem
itself_then d order = record { dylib = record { 0 = d }; scope = scope.All } ∷ order

-- where a unit's externals are looked up: in the order of its dylib; of an alias in its source alone
abbrev pub link_order : Plain → UnitRow → List OrderItem
link_order m x = option_map_or (λ (d : DylibId). itself_then d.0 [])
    x.meaning.source
    (option_map_or (λ d. d.order) (option_and_then (λ t. slice_get m.dylibs t.dylib) (slice_get m.trackers x.tracker)) [])

-- what they match there
abbrev pub link_matches : Plain → UnitRow → List (Option InstId)
link_matches m x = matched m (link_order m x) (x.meaning.externals x.live)

abbrev pub waiting_unit : ℕ → UnitRow → UnitRow
waiting_unit k x = record x { phase = stage.Waiting; seat = None; query = Some k }

-- the unit waits for the query of its externals; where all are found already, it is linked as the
-- query settles, at this same entry
abbrev pub linked : ℕ → List (Option InstId) → Plain → Plain
linked u found m =
    let after = lodged found level.Resolved (Some u) None m in
    record after { units = changed_at u (waiting_unit (length m.queries)) after.units }

-- Materialization

abbrev pub bindings_of : Finishing → Option Bindings
bindings_of (finishing.Bound bound) = Some bound
bindings_of (finishing.Lost i) = None

abbrev pub started_unit : ℕ → UnitRow → UnitRow
started_unit s x = record x { phase = stage.Started; seat = Some s }

abbrev pub taken_start : ℕ → ℕ → Plain → Plain
taken_start s u m = record m { jobs = drop 1 m.jobs; units = changed_at u (started_unit s) m.units }

abbrev pub finishing_unit : ℕ → Finishing → UnitRow → UnitRow
finishing_unit s how x = record x { phase = stage.Finishing; seat = Some s; bound = bindings_of how }

abbrev pub taken_finish : ℕ → ℕ → Finishing → Plain → Plain
taken_finish s u how m = record m { jobs = drop 1 m.jobs; units = changed_at u (finishing_unit s how) m.units }

abbrev pub placed_unit : ℕ → UnitRow → UnitRow
placed_unit base x = record x { phase = stage.Placed; base = Some base }

abbrev pub placed : ℕ → ℕ → Plain → Plain
placed u base m = record m { units = changed_at u (placed_unit base) m.units }

-- the address that an alias was bound to
abbrev pub target_address : UnitRow → ℕ
target_address x = unwrap_or (first_some (λ (b : Option (InstId × ℕ)). option_map (λ p. p.1) b) (unwrap_or x.bound [])) 0

-- an alias takes its target's address for its base, and is finished next; any other unit is linked next
abbrev pub resolved_unit : UnitRow → UnitRow
resolved_unit x = record x {
  phase = if is_alias x then x.phase else stage.Linking;
  base = if is_alias x then Some (target_address x) else x.base;
}

abbrev pub resolved_row : ℕ → UnitRow → InstRow → InstRow
resolved_row u x r = record r { phase = if is_owned u r then phase.Resolved (x.meaning.address r.offer (unwrap_or x.base 0)) else r.phase }

-- each of the unit's instances gets its address
abbrev pub resolved : ℕ → Plain → Plain
resolved u m = option_map_or (λ x. record m {
  rows = map (resolved_row u (resolved_unit x)) m.rows;
  units = changed_at u resolved_unit m.units;
}) (slice_get m.units u) m

-- the dependencies of the group that an instance is in
abbrev pub deps_in : List Group → ℕ → List InstId
deps_in groups i = unwrap_or (first_some (λ g. only_if (list_any (λ (j : InstId). j.0 == i) g.members) g.deps) groups) []

abbrev pub emitted_row : ℕ → List Group → ℕ → InstRow → InstRow
emitted_row u groups i r = record r { phase = if is_owned u r then phase.Emitted (unwrap_or (phase_address r.phase) 0) (deps_in groups i) else r.phase }

abbrev pub done_unit : UnitRow → UnitRow
done_unit x = record x { phase = stage.Done; seat = None }

-- each of the unit's instances is Emitted, with its group's dependencies
abbrev pub emitted : ℕ → List Group → Plain → Plain
emitted u groups m = record m {
  rows = numbered (emitted_row u groups) 0 m.rows;
  units = changed_at u done_unit m.units;
}

-- Failure and removal (ORC: notifyFailed, ResourceTracker::remove)

-- the roots' unready dependants fail, the roots that aren't ready among them
abbrev pub hit_row : (ℕ → Bool) → List InstRow → ℕ → InstRow → InstRow
hit_row roots rows i r = record r { phase = if is_hit rows roots i then phase.Failed else r.phase }

abbrev pub hits_failed : (ℕ → Bool) → List InstRow → List InstRow
hits_failed roots rows = numbered (hit_row roots rows) 0 rows

abbrev pub failed_unit : UnitRow → UnitRow
failed_unit x = record x { phase = stage.Failed; seat = None; base = None }

abbrev pub failed : ℕ → Plain → Plain
failed u m = record m {
  rows = hits_failed (is_owned_at u m.rows) m.rows;
  units = changed_at u failed_unit m.units;
}

-- the unit is of the tracker
abbrev pub is_unit_of : Plain → ℕ → ℕ → Bool
is_unit_of m t u = option_map_or (λ v. v == t) (unit_tracker m u) false

abbrev pub tracker_roots : Plain → ℕ → ℕ → Bool
tracker_roots m t i = option_map_or (λ r. r.present && is_unit_of m t r.unit.0) (slice_get m.rows i) false && not (is_ready m.rows i)

abbrev pub job_unit : Job → ℕ
job_unit (job.Start u) = u.0
job_unit (job.Finish u) = u.0

abbrev pub removed_row : Plain → ℕ → InstRow → InstRow
removed_row m t r = record r { present = r.present && not (is_unit_of m t r.unit.0) }

abbrev pub removed_unit : ℕ → UnitRow → UnitRow
removed_unit t x = record x { phase = if x.tracker == t then stage.Defunct else x.phase; base = if x.tracker == t then None else x.base }

abbrev pub removed_generator : ℕ → GenRow → GenRow
removed_generator t g = record g { spent = g.spent || g.tracker == t }

abbrev pub gone_tracker : Track → Track
gone_tracker x = record x { gone = true }

abbrev pub removed : ℕ → Plain → Plain
removed t m = record m {
  rows = map (removed_row m t) (hits_failed (tracker_roots m t) m.rows);
  units = map (removed_unit t) m.units;
  jobs = filter (λ j. not (is_unit_of m t (job_unit j))) m.jobs;
  generators = map (removed_generator t) m.generators;
  trackers = changed_at t gone_tracker m.trackers;
}

abbrev pub moved_unit : ℕ → ℕ → UnitRow → UnitRow
moved_unit t to x = record x { tracker = if x.tracker == t then to else x.tracker }

abbrev pub moved_generator : ℕ → ℕ → GenRow → GenRow
moved_generator t to g = record g { tracker = if g.tracker == t then to else g.tracker }

abbrev pub moved : ℕ → ℕ → Plain → Plain
moved t to m = if t == to then m else record m {
  units = map (moved_unit t to) m.units;
  generators = map (moved_generator t to) m.generators;
  trackers = changed_at t gone_tracker m.trackers;
}

-- a seat that was told that a unit is gone no longer holds it
abbrev pub let_go_unit : ℕ → UnitRow → UnitRow
let_go_unit s x = record x { seat = if option_map_or (nat_eq s) x.seat false then None else x.seat }

abbrev pub let_go : ℕ → ℕ → Plain → Plain
let_go s u m = record m { units = changed_at u (let_go_unit s) m.units }

-- Settling: a unit that waits for a query that is met is linked, in rising query number
abbrev pub waits_for : Plain → ℕ → ℕ → Bool
waits_for m u k = option_map_or (λ x. option_map_or (nat_eq k) x.query false && is_waiting x.phase) (slice_get m.units u) false

abbrev pub linked_unit : UnitRow → UnitRow
linked_unit x = record x { phase = stage.Linked }

abbrev pub finish_listed : ℕ → Plain → Plain
finish_listed u m = record m {
  units = changed_at u linked_unit m.units;
  jobs = m.jobs ++ job.Finish (record { 0 = u }) ∷ [];
}

abbrev pub settled_one : ℕ → Query → Plain → Plain
settled_one k q m = option_map_or (λ u. if is_met m.rows q && waits_for m u k then finish_listed u m else m) q.unit m

abbrev pub settled_from : ℕ → List Query → Plain → Plain
settled_from k [] m = m
settled_from k (q ∷ qs) m = settled_from (k + 1) qs (settled_one k q m)

abbrev pub settled : Plain → Plain
settled m = settled_from 0 m.queries m

-- Which change a reply makes

-- Defunct answers of any call on a unit, and the two refusals that use a generator up
abbrev pub other_change : ℕ → Event Meaning → Reply → Change Meaning
other_change s e (reply.Defunct u) = change.LetGo (record { 0 = s }) u
other_change s (event.Generate g) reply.TooMany = change.Spend g
other_change s (event.Generate g) (reply.Duplicate name i) = change.Spend g
other_change s e r = change.Nothing

-- the verdicts on the names of a generator's unit
abbrev pub generated : Plain → ℕ → List Verdict
generated m g = option_map_or (λ x. verdicts m.rows x.dylib x.meaning.offers) (slice_get m.generators g) []

-- what the externals of a unit match
abbrev pub linked_matches : Plain → ℕ → List (Option InstId)
linked_matches m u = option_map_or (link_matches m) (slice_get m.units u) []

abbrev pub change_of : Plain → ℕ → Event Meaning → Reply → Change Meaning
change_of m s (event.Dylib name) (reply.Made d) = change.MakeDylib name
change_of m s (event.Tracker d) (reply.Tracker t) = change.MakeTracker d
change_of m s (event.SetOrder d order) reply.Set = change.SetOrder d order
change_of m s (event.Attach d t u) (reply.Generator g) = change.Attach d t u
change_of m s (event.Define d t u) (reply.Defined v first count) = change.Define d t u (verdicts m.rows d.0 u.offers)
change_of m s (event.Generate g) (reply.Defined v first count) = change.Generate g (generated m g.0)
change_of m s (event.Ask order wanted lev note) (reply.Done q) = change.Ask (matched m order wanted) lev note
change_of m s (event.Ask order wanted lev note) (reply.Pending q) = change.Ask (matched m order wanted) lev note
change_of m s event.Take (reply.Start u) = change.Start (record { 0 = s }) u
change_of m s event.Take (reply.Finish u how) = change.Finish (record { 0 = s }) u how
change_of m s (event.Place u shape) (reply.Placed base) = change.Place u base
change_of m s (event.Resolve u) reply.Resolved = change.Resolve u
change_of m s (event.Link u) (reply.Done q) = change.Link u (linked_matches m u.0)
change_of m s (event.Link u) (reply.Pending q) = change.Link u (linked_matches m u.0)
change_of m s (event.Emit u groups) reply.Emitted = change.Emit u groups
change_of m s (event.Fail u why) reply.Failed = change.Fail u
change_of m s (event.MoveTracker t to) reply.Moved = change.Move t to
change_of m s (event.Remove t) reply.Removed = change.Remove t
change_of m s e r = other_change s e r

-- what a change does

abbrev pub new_dylib : ℕ → ℕ → Dylib
new_dylib d name = record { name = name; order = itself_then d [] }

abbrev pub ordered_dylib : ℕ → List OrderItem → Dylib → Dylib
ordered_dylib d order x = record x { order = itself_then d order }

abbrev pub changed : Change Meaning → Plain → Plain
changed change.Nothing m = m
changed (change.MakeDylib name) m = record m { dylibs = m.dylibs ++ new_dylib (length m.dylibs) name.0 ∷ [] }
changed (change.MakeTracker d) m = record m { trackers = m.trackers ++ record { dylib = d.0; gone = false } ∷ [] }
changed (change.SetOrder d order) m = record m { dylibs = changed_at d.0 (ordered_dylib d.0 order) m.dylibs }
changed (change.Attach d t u) m = record m { generators = m.generators ++ record { dylib = d.0; tracker = t.0; meaning = u; spent = false } ∷ [] }
changed (change.Define d t u found) m = defined d.0 t.0 u found m
changed (change.Generate g found) m = option_map_or (λ x. spent g.0 (defined x.dylib x.tracker x.meaning found m)) (slice_get m.generators g.0) m
changed (change.Spend g) m = spent g.0 m
changed (change.Ask found lev note) m = lodged found lev None note m
changed (change.Start s u) m = taken_start s.0 u.0 m
changed (change.Finish s u how) m = taken_finish s.0 u.0 how m
changed (change.Place u base) m = placed u.0 base m
changed (change.Resolve u) m = resolved u.0 m
changed (change.Link u found) m = linked u.0 found m
changed (change.Emit u groups) m = emitted u.0 groups m
changed (change.Fail u) m = failed u.0 m
changed (change.Move t to) m = moved t.0 to.0 m
changed (change.Remove t) m = removed t.0 m
changed (change.LetGo s u) m = let_go s.0 u.0 m
