-- That what a seat knows, as it must to make a call, stays so after entries of other seats.
use Rattle.std.specs.Prelude.{ℕ, List, ◌++◌}
use Rattle.orc_ids.specs.declared.groups.Group.{Group}
use Rattle.orc_ids.specs.declared.ids.UnitId.{UnitId}
use Rattle.orc_ids.specs.declared.place.Shape.{Shape}
use Rattle.session_model.specs.Meaning.{Meaning}
use Rattle.session_model.specs.State.{state}
use Rattle.session_model.specs.Answer.{HasSource}
use Rattle.session_model.specs.History.{IsLegal, HasPlaces}
use Rattle.session_model.specs.declared.entry.Entry.{Entry}
use Rattle.session_model.specs.declared.entry.Why.{Why}
use Rattle.session_laws.specs.Holding.{AllOthers}
use Rattle.session_steps.specs.Allowed.{MayPlace, MayEmit, MayFail}

-- a condition on a seat and a history that entries of other seats leave as it is
abbrev pub Stays : ℕ → ℕ → (List (Entry Meaning) → Type 0) → Type 0
Stays jmax s P = (h more : List (Entry Meaning)) → IsLegal jmax (h ++ more) → HasPlaces jmax (h ++ more) → AllOthers s more → P h → P (h ++ more)

abbrev pub PlaceStays : Type 0
PlaceStays = (jmax s : ℕ) (u : UnitId) (shape : Shape) → Stays jmax s (λ h. MayPlace (state h) s u shape)

abbrev pub EmitStays : Type 0
EmitStays = (jmax s : ℕ) (u : UnitId) (groups : List Group) (bytes : List ℕ) → Stays jmax s (λ h. MayEmit (state h) s u groups bytes)

abbrev pub FailStays : Type 0
FailStays = (jmax s : ℕ) (u : UnitId) (why : Why) → Stays jmax s (λ h. MayFail jmax h (state h) s u why)

-- a dylib stays, so the source of an alias does
abbrev pub SourceStays : Type 0
SourceStays = (jmax s : ℕ) (u : Meaning) → Stays jmax s (λ h. HasSource (state h) u)
