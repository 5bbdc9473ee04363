-- What the generators are to a session.
use Rattle.std.specs.Prelude.{◌≡◌, ℕ, List, map}
use Rattle.orc_ids.specs.declared.lookup.Scope.{Scope}
use Rattle.session_model.specs.Match.{offered_by}
use Rattle.session_model.specs.Meaning.{Meaning}
use Rattle.session_model.specs.Plain.{GenRow}
use Rattle.generators.specs.declared.generator.Generator.{Generator}
use Rattle.generators.specs.Rows.{first_offer, gen_row}

abbrev pub without_tracker : GenRow → GenRow
without_tracker g = record g { tracker = 0 }

-- they are the session's, whatever their trackers are
abbrev pub AreRowsOf : {U : Type 0} → (U → Meaning) → List (Generator U) → List GenRow → Type 0
AreRowsOf means rows generators = map without_tracker generators ≡ map (gen_row means 0) rows

-- the generator that offers a name is the session's
abbrev pub OffersAsTheSession : {U : Type 0} → (U → Meaning) → Type 0
OffersAsTheSession {U = U} means = (rows : List (Generator U)) (generators : List GenRow) (d name : ℕ) (scope : Scope) → AreRowsOf means rows generators →
    offered_by generators d name scope ≡ first_offer means rows d name scope
