-- The unit of a generator that is about to be defined.
use Rattle.std.specs.Prelude.{◌≡◌, ℕ, ◌+◌, Bool, ◌||◌, nat_le, nat_lt, true, false, length, slice_get, Some}
use Rattle.std.specs.Option.{option_map_or}
use Rattle.jit_dylib.specs.declared.error.DefineError.{DefineError}
use Rattle.jit_dylib.specs.declared.error.DefineError.TheVariants as error
use Rattle.orc_ids.specs.declared.ids.DylibId.{DylibId}
use Rattle.orc_ids.specs.declared.ids.GenId.{GenId}
use Rattle.orc_ids.specs.declared.ids.TrackId.{TrackId}
use Rattle.orc_ids.specs.declared.limits.TheConstants.{UNIT_LIMIT, INSTANCE_LIMIT}
use Rattle.session_model.specs.Meaning.{Meaning}
use Rattle.session_model.specs.Plain.{Plain, GenRow, is_tracker_of}
use Rattle.session_model.specs.declared.entry.Reply.{Reply}
use Rattle.session_model.specs.declared.entry.Reply.TheVariants as reply
use Rattle.session_parts.specs.Defined.{after_define}

-- the generator is unspent, and this is its dylib, its tracker and its unit
pub record IsReady (m : Plain) (g : GenId) (d : DylibId) (t : TrackId) (u : Meaning) : Type 0 where
  pub there : slice_get m.generators g.0 ≡ Some (record { dylib = d.0; tracker = t.0; meaning = u; spent = false })
  pub tracker : is_tracker_of m d.0 t.0 ≡ true

-- one more unit, which offers so many names, would be too many
abbrev pub lacks_room : Plain → ℕ → Bool
lacks_room m count = nat_le UNIT_LIMIT (length m.units) || nat_lt INSTANCE_LIMIT (length m.rows + count)

-- the session with the unit of the generator
abbrev pub after_generate : GenId → Plain → Plain
after_generate g m = option_map_or (λ (x : GenRow). after_define (record { 0 = x.dylib }) (record { 0 = x.tracker }) x.meaning m) (slice_get m.generators g.0) m

-- it wasn't defined for the sake of a name
abbrev pub IsClash : DefineError → Reply → Type 0
IsClash (error.Duplicate name i) r = r ≡ reply.Duplicate name i
IsClash error.NoMemory r = ⊥
