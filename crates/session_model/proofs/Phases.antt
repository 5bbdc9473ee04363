-- Phases that a test names.
use Rattle.std.proofs.Common.{◌≡◌, true, false, refl}
use Rattle.std.proofs.lemmas.Bool.{both_ways}
use Rattle.session_model.specs.Answer.{is_stage}
use Rattle.session_model.specs.Plain.{is_defunct, is_emitted, is_failed, is_waiting}
use Rattle.session_model.specs.declared.rows.Phase.{Phase}
use Rattle.session_model.specs.declared.rows.Phase.TheVariants as phase
use Rattle.session_model.specs.declared.rows.UnitPhase.{UnitPhase}
use Rattle.session_model.specs.declared.rows.UnitPhase.TheVariants as stage

-- Of units

pub started_stage : (p : UnitPhase) → is_stage stage.Started p ≡ true → p ≡ stage.Started
started_stage stage.Started e = refl
started_stage _ e = absurd (both_ways false refl e)

pub linking_stage : (p : UnitPhase) → is_stage stage.Linking p ≡ true → p ≡ stage.Linking
linking_stage stage.Linking e = refl
linking_stage _ e = absurd (both_ways false refl e)

pub waiting_stage : (p : UnitPhase) → is_waiting p ≡ true → p ≡ stage.Waiting
waiting_stage stage.Waiting e = refl
waiting_stage _ e = absurd (both_ways false refl e)

pub defunct_stage : (p : UnitPhase) → is_defunct p ≡ true → p ≡ stage.Defunct
defunct_stage stage.Defunct e = refl
defunct_stage _ e = absurd (both_ways false refl e)

-- Of instances

pub emitted_unfailed : (p : Phase) → is_emitted p ≡ true → is_failed p ≡ false
emitted_unfailed (phase.Emitted a ds) e = refl
emitted_unfailed phase.Unsearched e = refl
emitted_unfailed phase.Claimed e = refl
emitted_unfailed (phase.Resolved a) e = refl
emitted_unfailed phase.Failed e = absurd (both_ways false refl e)
