-- Queries that are lodged, for the parts.
use Rattle.std.proofs.Common.{◌≡◌, ℕ, ◌⊎◌, inl, inr, true, List, [], ◌∷◌, ◌++◌, length, slice_get, Option, Some, None, ap, sym, ◌∙◌}
use Rattle.std.specs.Option.{option_map_or}
use Rattle.orc_ids.specs.declared.ids.InstId.{InstId}
use Rattle.orc_ids.specs.declared.lookup.Level.TheVariants as level
use Rattle.session_model.specs.Lists.{changed_at}
use Rattle.session_model.specs.Meaning.{Meaning}
use Rattle.session_model.specs.Plain.{Plain, UnitRow, is_alias, present_at}
use Rattle.session_model.specs.Change.{all_claimed, lodged, linked, waiting_unit}
use Rattle.session_model.specs.declared.rows.Query.{Query}
use Rattle.session_model.specs.declared.rows.UnitPhase.TheVariants as stage
use Rattle.session_laws.specs.Sound.{IsSound, AllMatched}
use Rattle.session_laws.proofs.Declared.{pushed_last, claims_leave}
use Rattle.session_parts.specs.declared.parts.Parts.{Parts}
use Rattle.session_parts.specs.Parts.{AreParts}

-- queries are kept in the book
pub with_queries : {U N : Type 0} (means : U → Meaning) (p : Parts U N) (m : Plain) (qs : List Query) → AreParts means p m → AreParts means p (record m { queries = qs })
with_queries means p m qs a = record {
  kept = record { dylibs = a.kept.dylibs; rows = a.kept.rows; units = a.kept.units; jobs = a.kept.jobs; generators = a.kept.generators; owners = a.kept.owners; memory = a.kept.memory };
  spans = a.spans;
}

-- a unit that may be linked
abbrev pub MayWait : UnitRow → Type 0
MayWait x = (x.phase ≡ stage.Linking) ⊎ ((x.phase ≡ stage.Started) × (is_alias x ≡ true))

-- isn't one that a lookup asks for
busy : (x : UnitRow) → MayWait x → x.phase ≡ stage.Unclaimed → ⊥
busy x (inl p) e = absurd (let q : stage.Unclaimed ≡ stage.Linking = sym e ∙ p in cc)
busy x (inr p) e = absurd (let q : stage.Unclaimed ≡ stage.Started = sym e ∙ p.0 in cc)

pub link_stays : (m : Plain) (u : ℕ) (found : List (Option InstId)) (x : UnitRow) → IsSound m → slice_get m.units u ≡ Some x → MayWait x → AllMatched (λ i. present_at m.rows i ≡ true) found → slice_get (all_claimed found m).units u ≡ Some x
link_stays m u found x s t w here = claims_leave m u x found s t (busy x w) here

-- the session that the last query was lodged in, by the query itself
abbrev pub link_stage : Plain → ℕ → List Query → Plain
link_stage m k qs = option_map_or (λ (q : Query). lodged q.matched q.level q.unit q.note m) (slice_get qs k) m

pub staged : (m : Plain) (qs : List Query) (q : Query) (k : ℕ) → k ≡ length qs → link_stage m k (qs ++ q ∷ []) ≡ lodged q.matched q.level q.unit q.note m
staged m qs q k e = ap (λ o. option_map_or (λ (p : Query). lodged p.matched p.level p.unit p.note m) o m) (ap (slice_get (qs ++ q ∷ [])) e ∙ pushed_last qs q)

pub waiting_staged : (m : Plain) (u k : ℕ) (found : List (Option InstId)) (n : Plain) → n ≡ lodged found level.Resolved (Some u) None m → k ≡ length m.queries → record n { units = changed_at u (waiting_unit k) n.units } ≡ linked u found m
waiting_staged m u k found n s e = ap (λ (n : Plain). record n { units = changed_at u (waiting_unit k) n.units }) s ∙ ap (λ i. let after = lodged found level.Resolved (Some u) None m in record after { units = changed_at u (waiting_unit i) after.units }) e
