-- The lists of a session fit each other, and its limits.
use Rattle.std.specs.Prelude.{◌≡◌, ℕ, ◌<◌, ◌≤◌, ◌^◌, List, length, slice_get, Some}
use Rattle.orc_ids.specs.declared.limits.TheConstants.{DYLIB_LIMIT, TRACKER_LIMIT, UNIT_LIMIT, GENERATOR_LIMIT, INSTANCE_LIMIT}
use Rattle.session_model.specs.Meaning.{Meaning}
use Rattle.session_model.specs.Plain.{Plain, UnitRow, empty}
use Rattle.session_model.specs.Answer.{Answers}
use Rattle.session_model.specs.State.{after}
use Rattle.session_model.specs.declared.entry.Entry.{Entry}
use Rattle.session_model.specs.declared.rows.InstRow.{InstRow}
use Rattle.session_plain.specs.Meant.{meant, IsSmall, LiveFit, OffersFit}
use Rattle.session_plain.specs.declared.plain.PlainSession.{PlainSession}

pub record FitTogether (rows : List InstRow) (units : List UnitRow) : Type 0 where
  -- a unit has a flag for each name that it offers
  pub live : (u : ℕ) (x : UnitRow) → slice_get units u ≡ Some x → length x.live ≡ length x.meaning.offers
  -- an instance has its unit, which offers its name
  pub offers : (i : ℕ) (r : InstRow) → slice_get rows i ≡ Some r → (x : UnitRow) × (slice_get units r.unit.0 ≡ Some x) × (r.offer < length x.meaning.offers)

pub record IsFit (m : Plain) : Type 0 where
  pub together : FitTogether m.rows m.units
  pub rows : length m.rows ≤ INSTANCE_LIMIT
  pub units : length m.units ≤ UNIT_LIMIT
  pub generators : length m.generators ≤ GENERATOR_LIMIT
  pub dylibs : length m.dylibs ≤ DYLIB_LIMIT
  pub trackers : length m.trackers ≤ TRACKER_LIMIT
  -- an entry asks one query at most
  pub queries : length m.queries ≤ m.entries

-- the session before its first entry is fit
abbrev pub EmptyIsFit : Type 0
EmptyIsFit = IsFit empty

-- an entry with a right reply keeps a session fit
abbrev pub FitStays : Type 0
FitStays = (jmax : ℕ) (past : List (Entry Meaning)) (m : Plain) (e : Entry Meaning) → IsFit m → Answers jmax past m e.seat.0 e.event e.reply → IsFit (after m e)

-- a fit session meets what its answers and its changes ask for, while it counts its entries by 32 bits
abbrev pub FitSuits : {U : Type 0} → (U → Meaning) → Type 0
FitSuits means = (s : PlainSession _) → IsFit (meant means s) → s.entries < 2 ^ 32 → IsSmall s × LiveFit means s.units.items × OffersFit means s.units.items s.rows.items
