-- What a lookup found.
use Rattle.std.specs.Prelude.{◌≡◌, ⊤}
use Rattle.orc_ids.specs.declared.lookup.Level.{Level}
use Rattle.session_model.specs.Calls.{Lookup, Looks}
use Rattle.session_model.specs.Meaning.{Meaning}
use Rattle.session_model.specs.declared.entry.Entry.{Entry}
use Rattle.turn_lock.specs.declared.view.View.{View}
use Rattle.session_model.specs.Ends.{EndsAs}
use Rattle.session_model.specs.declared.look_end.LookEnd.{LookEnd}
use Rattle.session_model.specs.declared.look_end.LookEnd.TheVariants.{Found}
use Rattle.shared_session.specs.Did.{Did}

-- where a lookup of names at this level was found, its calls are those of one
abbrev pub FindsAt : {U : Type 0} → (U → Meaning) → Level → View (Entry U) → View (Entry U) → LookEnd → Type 0
FindsAt means level v w (Found matches) = (l : Lookup) × (l.level ≡ level) × Did means v w (λ h cs. Looks h l cs × EndsAs (Found matches) cs)
FindsAt means level v w end = ⊤
