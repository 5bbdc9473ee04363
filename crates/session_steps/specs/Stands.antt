-- What an event finds: the parts of a session, and what is known of every session.
use Rattle.std.specs.Prelude.{◌≡◌, ℕ, ◌+◌, ◌<◌, ◌^◌, true, length, slice_get, Some}
use Rattle.session_model.specs.Meaning.{Meaning}
use Rattle.session_model.specs.Plain.{Plain, UnitRow}
use Rattle.session_model.specs.declared.rows.InstRow.{InstRow}
use Rattle.session_laws.specs.Sound.{IsSound}
use Rattle.session_laws.specs.Chains.{AllEnd}
use Rattle.closure_laws.specs.Bound.{AreBound}
use Rattle.closure_laws.specs.Homes.{HasHomes}
use Rattle.jit_dylib.specs.Laws.{HasOneRowInEach}
use Rattle.session_parts.specs.declared.parts.Parts.{Parts}
use Rattle.session_parts.specs.Parts.{AreParts}
use Rattle.session_steps.specs.Rest.{AllLawful}

-- each present instance is one of the names that its unit offers
abbrev pub AreOffered : Plain → Type 0
AreOffered m = (i : ℕ) (r : InstRow) (x : UnitRow) → slice_get m.rows i ≡ Some r → r.present ≡ true → slice_get m.units r.unit.0 ≡ Some x → r.offer < length x.meaning.offers

pub record Stands {U N : Type 0} (means : U → Meaning) (m : Plain) (p : Parts U N) : Type 0 where
  pub parts : AreParts means p m
  pub queries : p.book.queries ≡ m.queries
  pub lawful : AllLawful m
  pub sound : IsSound m
  pub homes : HasHomes m
  pub once : HasOneRowInEach m.rows
  pub offered : AreOffered m
  pub bound : AreBound m
  pub chains : AllEnd m
  pub numbered : m.entries + 1 < 2 ^ 32
  pub few : length m.queries + 1 < 2 ^ 32
