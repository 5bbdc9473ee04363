-- What a write to one unit makes of the roster, and how units stay kept.
use Rattle.std.proofs.Common.{◌≡◌, ℕ, Bool, true, false, Option, Some, None, ◌+◌, ◌-◌, ◌<◌, ◌≤◌, List, [], ◌∷◌, ◌++◌, length, get_or, set, cond, nat_eq, refl, ap, sym, subst, ◌∙◌, arith, length-set, length-append, Fits, w32}
use Rattle.std.specs.Prelude.{not, option_map, slice_get, count_by, is_some, if◌then◌else◌}
use Rattle.std.specs.Option.{option_map_or}
use mir.Val.{bool_byte}
use Rattle.std.proofs.lemmas.List.Sums.{get_or-le-sum_by, sum_by-append, count_by-le-length}
use Rattle.session_model.specs.Lists.{changed_at}
use Rattle.session_model.specs.declared.rows.Job.{Job}
use Rattle.mat_unit.specs.declared.unit.Unit.{Unit as OneUnit}
use Rattle.orc_ids.specs.declared.ids.SeatNo.{SeatNo}
use Rattle.mat_unit.specs.Changes.{is_held, is_held_by, let_go}
use Rattle.mat_unit.specs.Kept.{Listed, IsKept, owed}
use Rattle.mat_unit.specs.Roster.{Roster, held}
use Rattle.orc_ids.specs.declared.limits.TheConstants.{UNIT_LIMIT}
use Rattle.mat_unit.proofs.Writes.{set_is_changed, is_there, read_passes, count_write}

-- one unit is changed by f, and the jobs by g
pub roster_write : {U : Type 0} (f : OneUnit U → OneUnit U) (g : List Job → List Job) (inside m : Roster U) (at : ℕ) (old new : OneUnit U) (jobs : List Job) → inside ≡ m → at < length m.units → old ≡ get_or inside.units at old → new ≡ f old → jobs ≡ g inside.jobs → record { units = set inside.units at new; jobs = jobs; spare = inside.spare } ≡ record m { units = changed_at at f m.units; jobs = g m.jobs }
roster_write f g inside m at old new jobs is less read new-is jobs-is =
    let below : at < length inside.units = subst (λ (r : Roster _). at < length r.units) (sym is) less in
    ap (λ us. record { units = us; jobs = jobs; spare = inside.spare }) (set_is_changed f inside.units at old new below read new-is)
    ∙ ap (λ js. record { units = changed_at at f inside.units; jobs = js; spare = inside.spare }) jobs-is
    ∙ ap (λ (r : Roster _). record r { units = changed_at at f r.units; jobs = g r.jobs }) is

-- a unit that passes a test of the roster is there, and is what is read
pub roster_has : {U : Type 0} (p : OneUnit U → Bool) (inside m : Roster U) (at : ℕ) (old : OneUnit U) → inside ≡ m → option_map p (slice_get m.units at) ≡ Some true → old ≡ get_or inside.units at old → (at < length inside.units) × (p old ≡ true)
roster_has p inside m at old is has read =
    let here : option_map p (slice_get inside.units at) ≡ Some true = subst (λ (r : Roster _). option_map p (slice_get r.units at) ≡ Some true) (sym is) has in
    (is_there p inside.units at here, read_passes p inside.units at old here read)

-- how many of a unit's jobs are owed
abbrev pub owed_of : {U : Type 0} → OneUnit U → ℕ
owed_of x = cond x.can_start 1 0 + cond x.can_finish 1 0

pub owed_write : {U : Type 0} (units : List (OneUnit U)) (at : ℕ) (old new : OneUnit U) → at < length units → old ≡ get_or units at old → owed (set units at new) + owed_of old ≡ owed units + owed_of new
owed_write units at old new less read = omega (arith, count_write (λ x. x.can_start) units at old new less read, count_write (λ x. x.can_finish) units at old new less read)

-- a unit whose job is owed, so that there is room for it
pub has_room : {U : Type 0} (units : List (OneUnit U)) (jobs : Listed) (capacity count spare at : ℕ) (old : OneUnit U) → IsKept units jobs capacity count spare → at < length units → old ≡ get_or units at old → 0 < owed_of old → 0 < jobs.room
has_room units jobs capacity count spare at old kept less read some =
    let start : cond old.can_start 1 0 ≤ count_by (λ x. x.can_start) units = subst (λ x. cond x.can_start 1 0 ≤ count_by (λ x. x.can_start) units) (sym read) (get_or-le-sum_by (λ x. cond x.can_start 1 0) units at old less) in
    let finish : cond old.can_finish 1 0 ≤ count_by (λ x. x.can_finish) units = subst (λ x. cond x.can_finish 1 0 ≤ count_by (λ x. x.can_finish) units) (sym read) (get_or-le-sum_by (λ x. cond x.can_finish 1 0) units at old less) in
    omega (arith, kept.job_room, start, finish, some)

-- one that a seat holds is counted
pub held_counted : {U : Type 0} (units : List (OneUnit U)) (at : ℕ) (old : OneUnit U) → at < length units → old ≡ get_or units at old → cond (is_held old) 1 0 ≤ held units
held_counted units at old less read = subst (λ x. cond (is_held x) 1 0 ≤ held units) (sym read) (get_or-le-sum_by (λ x. cond (is_held x) 1 0) units at old less)

-- a unit goes on: there is room for each job that it is owed more, and its seat is counted
pub kept_write : {U : Type 0} (units : List (OneUnit U)) (jobs more : Listed) (capacity count counted spare at : ℕ) (old new : OneUnit U) → IsKept units jobs capacity count spare → at < length units → old ≡ get_or units at old → owed_of new + jobs.room ≤ owed_of old + more.room → counted + cond (is_held old) 1 0 ≡ count + cond (is_held new) 1 0 → more.units ≡ jobs.units → more.unit_room ≡ jobs.unit_room → IsKept (set units at new) more capacity counted spare
kept_write units jobs more capacity count counted spare at old new kept less read owed-is count-is units-is unit_room-is =
    let long : length (set units at new) ≡ length units = length-set units at new in
    record {
      few = omega (arith, kept.few, long);
      counted = omega (arith, kept.counted, count_write is_held units at old new less read, count-is);
      known = units-is ∙ kept.known ∙ sym long;
      room = omega (arith, kept.room, long);
      unit_room = omega (arith, kept.unit_room, unit_room-is);
      job_room = omega (arith, kept.job_room, owed_write units at old new less read, owed-is);
    }

-- a unit goes on, and no job, in the same hands and with the same jobs owed
pub kept_same : {U : Type 0} (units : List (OneUnit U)) (jobs : Listed) (capacity count spare at : ℕ) (old new : OneUnit U) → IsKept units jobs capacity count spare → at < length units → old ≡ get_or units at old → owed_of new ≡ owed_of old → is_held new ≡ is_held old → IsKept (set units at new) jobs capacity count spare
kept_same units jobs capacity count spare at old new kept less read owed-is held-is = kept_write units jobs jobs capacity count count spare at old new kept less read (omega (arith, owed-is)) (ap (λ b. count + cond b 1 0) (sym held-is)) refl refl

byte_of : (b : Bool) → bool_byte b ≡ cond b 1 0
byte_of true = refl
byte_of false = refl

byte_most : (b : Bool) → bool_byte b ≤ 1
byte_most true = omega arith
byte_most false = omega arith

-- a unit goes on, and no job; where the seat lets it go, it is counted no more
pub kept_freed : {U : Type 0} (units : List (OneUnit U)) (jobs : Listed) (capacity count spare at : ℕ) (old new : OneUnit U) (flag : Bool) → IsKept units jobs capacity count spare → at < length units → old ≡ get_or units at old → owed_of new ≡ owed_of old → cond flag 1 0 + cond (is_held new) 1 0 ≡ cond (is_held old) 1 0 → IsKept (set units at new) jobs capacity (count - bool_byte flag) spare
kept_freed units jobs capacity count spare at old new flag kept less read owed-is freed =
    kept_write units jobs jobs capacity count (count - bool_byte flag) spare at old new kept less read (omega (arith, owed-is)) (omega (arith, freed, byte_of flag, kept.counted, held_counted units at old less read)) refl refl

-- only one that is counted is let go
pub counted_there : {U : Type 0} (units : List (OneUnit U)) (count at : ℕ) (old : OneUnit U) (flag : Bool) → count ≡ held units → at < length units → old ≡ get_or units at old → cond flag 1 0 ≤ cond (is_held old) 1 0 → bool_byte flag ≤ count
counted_there units count at old flag counted less read is = omega (arith, counted, byte_of flag, is, held_counted units at old less read)

-- one more can be counted
pub one_more_fits : {U : Type 0} (units : List (OneUnit U)) (count : ℕ) (flag : Bool) → count ≡ held units → length units ≤ UNIT_LIMIT → Fits w32 (count + bool_byte flag)
one_more_fits units count flag counted few = omega (arith, counted, few, count_by-le-length is_held units, byte_most flag)

-- a unit goes on, and jobs are taken out; where no seat held it, it is counted
pub kept_taken : {U : Type 0} (units : List (OneUnit U)) (jobs more : Listed) (capacity count spare at : ℕ) (old new : OneUnit U) (flag : Bool) → IsKept units jobs capacity count spare → at < length units → old ≡ get_or units at old → owed_of new ≡ owed_of old → cond flag 1 0 + cond (is_held old) 1 0 ≡ cond (is_held new) 1 0 → jobs.room ≤ more.room → more.units ≡ jobs.units → more.unit_room ≡ jobs.unit_room → IsKept (set units at new) more capacity (count + bool_byte flag) spare
kept_taken units jobs more capacity count spare at old new flag kept less read owed-is held-is room-is units-is unit_room-is =
    kept_write units jobs more capacity count (count + bool_byte flag) spare at old new kept less read (omega (arith, owed-is, room-is)) (omega (arith, held-is, byte_of flag)) units-is unit_room-is

pub no_more : (flag before : Bool) → flag ≡ before → cond flag 1 0 ≤ cond before 1 0
no_more flag before is = omega (arith, ap {B = ℕ} (λ b. cond b 1 0) is)

-- who held it doesn't hold it any longer
pub freed : (flag before after : Bool) → flag ≡ before → after ≡ false → cond flag 1 0 + cond after 1 0 ≡ cond before 1 0
freed flag before after is none = omega (arith, ap {B = ℕ} (λ b. cond b 1 0) is, ap {B = ℕ} (λ b. cond b 1 0) none)

-- only where nobody held it is one more held
pub seized : (flag before after : Bool) → flag ≡ before → after ≡ true → cond (not flag) 1 0 + cond before 1 0 ≡ cond after 1 0
seized flag true after is held = omega (arith, ap {B = ℕ} (λ b. cond (not b) 1 0) is, ap {B = ℕ} (λ b. cond b 1 0) held)
seized flag false after is held = omega (arith, ap {B = ℕ} (λ b. cond (not b) 1 0) is, ap {B = ℕ} (λ b. cond b 1 0) held)

one_seat : (t : ℕ) (is : Bool) → cond is 1 0 + cond (is_some (if is then None else Some t)) 1 0 ≡ 1
one_seat t true = refl
one_seat t false = refl

-- the seat that lets it go, if it held it
pub seat_freed : (s : ℕ) (seat : Option ℕ) → cond (option_map_or (nat_eq s) seat false) 1 0 + cond (is_some (if option_map_or (nat_eq s) seat false then None else seat)) 1 0 ≡ cond (is_some seat) 1 0
seat_freed s None = refl
seat_freed s (Some t) = one_seat t (nat_eq s t)

-- only who holds it lets it go
pub by_holder : {U : Type 0} (s : SeatNo) (old : OneUnit U) (flag : Bool) → flag ≡ is_held_by s old → cond flag 1 0 ≤ cond (is_held old) 1 0
by_holder s old flag is = omega (arith, ap {B = ℕ} (λ b. cond b 1 0) is, seat_freed s.0 old.seat)

pub let_go_freed : {U : Type 0} (s : SeatNo) (old new : OneUnit U) (flag : Bool) → flag ≡ is_held_by s old → new ≡ let_go s old → cond flag 1 0 + cond (is_held new) 1 0 ≡ cond (is_held old) 1 0
let_go_freed s old new flag is on =
    ap {B = ℕ} (λ b. cond b 1 0 + cond (is_held new) 1 0) is ∙ ap {B = ℕ} (λ (x : OneUnit _). cond (is_held_by s old) 1 0 + cond (is_held x) 1 0) on ∙ seat_freed s.0 old.seat

-- the unit that is added uses the room for it and for its two jobs
pub kept_added : {U : Type 0} (units grown : List (OneUnit U)) (jobs more : Listed) (capacity place count spare : ℕ) (x : OneUnit U) → IsKept units jobs capacity count spare → 0 < spare → length units < UNIT_LIMIT → grown ≡ units ++ x ∷ [] → place ≡ capacity → owed_of x ≡ 2 → is_held x ≡ false → more.room ≡ jobs.room → more.units ≡ jobs.units + 1 → more.unit_room + 1 ≡ jobs.unit_room → IsKept grown more place count (spare - 1)
kept_added units grown jobs more capacity place count spare x kept some few grown-is place-is owed-is held-is room-is units-is unit_room-is =
    let long : length grown ≡ length units + 1 = ap length grown-is ∙ length-append units (x ∷ []) in
    let start : count_by (λ x. x.can_start) grown ≡ count_by (λ x. x.can_start) units + (0 + cond x.can_start 1 0) = ap (λ us. count_by (λ x. x.can_start) us) grown-is ∙ sum_by-append (λ x. cond x.can_start 1 0) units (x ∷ []) in
    let finish : count_by (λ x. x.can_finish) grown ≡ count_by (λ x. x.can_finish) units + (0 + cond x.can_finish 1 0) = ap (λ us. count_by (λ x. x.can_finish) us) grown-is ∙ sum_by-append (λ x. cond x.can_finish 1 0) units (x ∷ []) in
    let seats : held grown ≡ held units + (0 + cond (is_held x) 1 0) = ap (λ us. held us) grown-is ∙ sum_by-append (λ x. cond (is_held x) 1 0) units (x ∷ []) in
    record {
      few = omega (arith, few, long);
      counted = omega (arith, kept.counted, seats, ap {B = ℕ} (λ b. cond b 1 0) held-is);
      known = omega (arith, kept.known, units-is, long);
      room = omega (arith, kept.room, some, long, place-is);
      unit_room = omega (arith, kept.unit_room, some, unit_room-is);
      job_room = omega (arith, kept.job_room, some, start, finish, owed-is, room-is);
    }

-- a unit whose job is listed
pub kept_with_job : {U : Type 0} (units : List (OneUnit U)) (jobs more : Listed) (capacity count spare at : ℕ) (old new : OneUnit U) → IsKept units jobs capacity count spare → at < length units → old ≡ get_or units at old → is_held new ≡ is_held old → owed_of new + 1 ≡ owed_of old → more.room + 1 ≡ jobs.room → more.units ≡ jobs.units → more.unit_room ≡ jobs.unit_room → IsKept (set units at new) more capacity count spare
kept_with_job units jobs more capacity count spare at old new kept less read held-is owed-is room-is units-is unit_room-is =
    kept_write units jobs more capacity count count spare at old new kept less read (omega (arith, owed-is, room-is)) (ap (λ b. count + cond b 1 0) (sym held-is)) units-is unit_room-is
