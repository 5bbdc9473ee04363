-- The invariant holds in the session after a legal history.
use Rattle.std.proofs.Common.{◌≡◌, ℕ, ◌+◌, true, false, ◌==◌, map, List, [], ◌∷◌, ◌++◌, length, drop, slice_get, subst, sym, refl, ap, ◌∙◌, Option, Some, None}
use Rattle.std.specs.Bool.{if◌then◌else◌}
use Rattle.std.specs.Option.{option_map_or}
use Rattle.std.proofs.lemmas.Option.{none-some}
use Rattle.orc_ids.specs.declared.ids.InstId.{InstId}
use Rattle.session_model.specs.Lists.{changed_at}
use Rattle.session_model.specs.Plain.{Plain, UnitRow, GenRow, is_unsearched, failed_at}
use Rattle.session_model.specs.declared.rows.InstRow.{InstRow}
use Rattle.session_model.specs.declared.rows.UnitPhase.TheVariants as stage
use Rattle.orc_ids.specs.declared.lookup.Level.TheVariants as level
use Rattle.session_model.specs.Change.{claimed}
use Rattle.session_laws.proofs.Elements.{changed_elsewhere, same_element}
use Rattle.session_laws.proofs.Facts.{no_dep, unsearched_unclaimed, matched_more}
use Rattle.session_laws.proofs.Settling.{chosen}
use Rattle.session_laws.proofs.Steps.{unit_stepped}
use Rattle.session_laws.specs.Sound.{Sound, IsSound, AllMatched}
use Rattle.session_laws.proofs.Changes.{own_jobs}
use Rattle.orc_ids.specs.declared.lookup.Level.{Level}
use Rattle.session_model.specs.Meaning.{Meaning}
use Rattle.session_model.specs.Change.{defined, all_claimed, lodged}
use Rattle.session_laws.proofs.Elements.{pushed_last}
use Rattle.session_model.specs.Change.{change_of, changed}
use Rattle.session_model.specs.declared.change.Change.{Change}
use Rattle.session_model.specs.declared.change.Change.TheVariants.{Nothing, MakeDylib, MakeTracker, SetOrder, Attach, Define, Generate, Spend, Ask, Start, Finish, Place, Resolve, Link, Emit, Fail, Move, Remove, LetGo}
use Rattle.session_model.specs.Answer.{Answers}
use Rattle.session_model.specs.declared.entry.Entry.{Entry}
use Rattle.session_laws.proofs.Defining.{IsHere}
use Rattle.session_laws.proofs.Replies.{GoodMatches, Guard}
use Rattle.session_model.specs.Plain.{empty}
use Rattle.session_model.specs.State.{after, state_from}
use Rattle.session_model.specs.History.{LegalFrom}
use Rattle.session_model.specs.Change.{spent}
use Rattle.session_laws.proofs.Guards.{guard_of}
use Rattle.session_laws.proofs.Changes.{sound_started, sound_finishing, sound_placed, sound_let_go, sound_resolved}
use Rattle.session_laws.proofs.Losing.{sound_emitted, sound_failed, sound_removed}
use Rattle.session_laws.proofs.Defining.{sound_defined, sound_lodged, sound_moved, claims_keep, claim_sound, all_searched, sound_settled}
use Rattle.session_laws.specs.Sound.{LegalIsSound}
use Rattle.session_model.specs.declared.rows.Query.{Query}
use Rattle.std.proofs.lemmas.Bool.{both_ways}
use Rattle.session_model.specs.Answer.{can_link}
use Rattle.session_model.specs.Change.{verdicts, linked, listed_unit, waiting_unit, started_unit, finishing_unit, resolved_row, resolved_unit, moved_unit, moved_generator, gone_tracker}
use Rattle.session_laws.specs.Sound.{row_stage, is_held_phase}
use Rattle.session_laws.proofs.Facts.{held_due}
use Rattle.session_laws.proofs.RowStages.{waiting_fits, linkable_held, unclaimed_row}

-- where the matches are good, they are there
pub good_here : (m : Plain) (os : List (Option InstId)) → GoodMatches m os → AllMatched (IsHere m.rows) os
good_here m os g = matched_more (λ i. IsHere m.rows i × (failed_at m.rows i ≡ false)) (IsHere m.rows) (λ i p. p.0) os g

pub claims_sound : (m : Plain) (os : List (Option InstId)) → IsSound m → AllMatched (IsHere m.rows) os → IsSound (all_claimed os m)
claims_sound m os s h = claims_keep IsSound (λ i r n p e present unsearched. claim_sound i r n p e present unsearched) os m h s

-- claiming changes no query
pub claims_queries : (m : Plain) (os : List (Option InstId)) → AllMatched (IsHere m.rows) os → (all_claimed os m).queries ≡ m.queries
claims_queries m os h = claims_keep (λ n. n.queries ≡ m.queries) (λ i r n p e present unsearched. p) os m h refl

-- claiming leaves a unit that is at work as it was
abbrev pub SoundWith : ℕ → UnitRow → Plain → Type 0
SoundWith u x n = IsSound n × (slice_get n.units u ≡ Some x)

pub claim_leaves : (u : ℕ) (x : UnitRow) → (x.phase ≡ stage.Unclaimed → ⊥) → (i : ℕ) (r : InstRow) (n : Plain) → SoundWith u x n → slice_get n.rows i ≡ Some r → r.present ≡ true → is_unsearched r.phase ≡ true → SoundWith u x (claimed r.unit.0 n)
claim_leaves u x busy i r n p e present unsearched = (claim_sound i r n p.0 e present unsearched, changed_elsewhere r.unit.0 listed_unit n.units u apart ∙ p.1)
  where
    apart : u ≡ r.unit.0 → ⊥
    apart is = let y = (p.0.rows_fit i r e).here present in
        busy (ap (λ (z : UnitRow). z.phase) (sym (same_element (slice_get n.units u) y.0 x (ap (slice_get n.units) is ∙ y.1) p.1)) ∙ unclaimed_row y.0 (unsearched_unclaimed (row_stage y.0) r.phase y.2 unsearched))

pub claims_leave : (m : Plain) (u : ℕ) (x : UnitRow) (os : List (Option InstId)) → IsSound m → slice_get m.units u ≡ Some x → (x.phase ≡ stage.Unclaimed → ⊥) → AllMatched (IsHere m.rows) os → slice_get (all_claimed os m).units u ≡ Some x
claims_leave m u x os s t busy h = (claims_keep (SoundWith u x) (claim_leaves u x busy) os m h (s, t)).1

sound_asked : (m : Plain) (os : List (Option InstId)) (lev : Level) (unit n : Option ℕ) → IsSound m → GoodMatches m os → IsSound (lodged os lev unit n m)
sound_asked m os lev unit n s g =
    let here = good_here m os g in
    let c = all_claimed os m in
    sound_lodged c.rows c.units c.queries c.jobs (record { asked = m.entries + 1; matched = os; level = lev; unit = unit; note = n }) (claims_sound m os s here) (all_searched os m here)

sound_link : (m : Plain) (u : ℕ) (x : UnitRow) (os : List (Option InstId)) → IsSound m → slice_get m.units u ≡ Some x → can_link x ≡ true → GoodMatches m os → IsSound (linked u os m)
sound_link m u x os s t p g = unit_stepped found.rows found.units found.queries found.jobs found.jobs u x (waiting_unit (length m.queries)) sound there (record {
  mine = waiting_fits x (length m.queries) p (s.units_fit u x t).early;
  unit = record { seat = λ n. refl; waits = λ w. record { number = length m.queries; query = query; its = refl; there = last; links = refl; level = refl }; early = λ e. absurd (both_ways false refl e) };
  own = own_jobs found.rows found.units found.queries found.jobs u x sound there ∙ held_due u x.phase (linkable_held x p);
  others = λ v n. refl;
})
  where
    found : Plain
    found = lodged os level.Resolved (Some u) None m

    query : Query
    query = record { asked = m.entries + 1; matched = os; level = level.Resolved; unit = Some u; note = None }

    here : AllMatched (IsHere m.rows) os
    here = good_here m os g

    sound : IsSound found
    sound = sound_asked m os level.Resolved (Some u) None s g

    there : slice_get found.units u ≡ Some x
    there = claims_leave m u x os s t (λ e. both_ways (is_held_phase x.phase) (ap is_held_phase e) (linkable_held x p)) here

    last : slice_get found.queries (length m.queries) ≡ Some query
    last = ap (λ (k : ℕ). slice_get found.queries k) (ap length (sym (claims_queries m os here))) ∙ pushed_last (all_claimed os m).queries query

pub sound_changed : (m : Plain) (s : ℕ) (c : Change Meaning) → IsSound m → Guard m s c → IsSound (changed c m)
sound_changed m s Nothing h g = h
sound_changed m s (MakeDylib name) h g = h
sound_changed m s (MakeTracker d) h g = h
sound_changed m s (SetOrder d order) h g = h
sound_changed m s (Attach d t u) h g = h
sound_changed m s (Define d t u found) h g = subst (λ vs. IsSound (defined d.0 t.0 u vs m)) (sym g) (sound_defined m d.0 t.0 u h)
sound_changed m s (Generate k found) h g = subst (λ vs. IsSound (changed (Generate k vs) m)) (sym g) (split (slice_get m.generators k.0))
  where
    split : (o : Option GenRow) → IsSound (option_map_or (λ x. spent k.0 (defined x.dylib x.tracker x.meaning (option_map_or (λ (y : GenRow). verdicts m.rows y.dylib y.meaning.offers) o []) m)) o m)
    split None = h
    split (Some x) = sound_defined m x.dylib x.tracker x.meaning h
sound_changed m s (Spend k) h g = h
sound_changed m s (Ask found lev n) h g = sound_asked m found lev None n h g
sound_changed m s (Start t u) h g = subst (λ l. Sound m.rows (changed_at u.0 (started_unit t.0) m.units) m.queries (drop 1 l)) (sym g.2)
    (sound_started m.rows m.units m.queries g.1 u.0 t.0 (subst (λ l. Sound m.rows m.units m.queries l) g.2 h))
sound_changed m s (Finish t u how) h g = subst (λ l. Sound m.rows (changed_at u.0 (finishing_unit t.0 how) m.units) m.queries (drop 1 l)) (sym g.2)
    (sound_finishing m.rows m.units m.queries g.1 u.0 t.0 how (subst (λ l. Sound m.rows m.units m.queries l) g.2 h))
sound_changed m s (Place u base) h g = sound_placed m.rows m.units m.queries m.jobs u.0 base g.0 h g.1 g.3.0
sound_changed m s (Resolve u) h g = subst (λ o. IsSound (option_map_or (λ (x : UnitRow). record m { rows = map (resolved_row u.0 (resolved_unit x)) m.rows; units = changed_at u.0 resolved_unit m.units }) o m)) (sym g.1)
    (sound_resolved m.rows m.units m.queries m.jobs u.0 g.0 h g.1 g.3)
sound_changed m s (Link u found) h g = sound_link m u.0 g.0 found h g.1 g.3.0 g.3.3
sound_changed m s (Emit u groups) h g = sound_emitted m.rows m.units m.queries m.jobs u.0 groups g.0 h g.1 g.3.0 g.3.1
sound_changed m s (Fail u) h g = sound_failed m.rows m.units m.queries m.jobs u.0 g.0 s h g.1 g.3 g.2
sound_changed m s (Move t to) h g = chosen IsSound (t.0 == to.0) m (record m { units = map (moved_unit t.0 to.0) m.units; generators = map (moved_generator t.0 to.0) m.generators; trackers = changed_at t.0 gone_tracker m.trackers })
    (λ b. h) (λ b. sound_moved m.rows m.units m.queries m.jobs (λ x. if x.tracker == t.0 then to.0 else x.tracker) h)
sound_changed m s (Remove t) h g = sound_removed m t.0 h
sound_changed m s (LetGo t u) h g = sound_let_go m.rows m.units m.queries m.jobs u.0 t.0 g.1 h g.2 g.3

pub sound_after : (jmax : ℕ) (past : List (Entry Meaning)) (m : Plain) (e : Entry Meaning) → IsSound m → Answers jmax past m e.seat.0 e.event e.reply → IsSound (after m e)
sound_after jmax past m e s a = sound_settled (changed (change_of m e.seat.0 e.event e.reply) m) (sound_changed m e.seat.0 (change_of m e.seat.0 e.event e.reply) s (guard_of jmax past m e.seat.0 e.event e.reply a))

pub sound_from : (jmax : ℕ) (past : List (Entry Meaning)) (m : Plain) (h : List (Entry Meaning)) → IsSound m → LegalFrom jmax past m h → IsSound (state_from m h)
sound_from jmax past m [] s l = s
sound_from jmax past m (e ∷ es) s l = sound_from jmax (past ++ e ∷ []) (after m e) es (sound_after jmax past m e s l.0) l.1

pub empty_sound : IsSound empty
empty_sound = record {
  rows_fit = λ i r e. absurd (none-some r e);
  deps = λ i j c. absurd (no_dep j c);
  units_fit = λ u x e. absurd (none-some x e);
  jobs_due = λ u. refl;
  searched = λ k q e. absurd (none-some q e);
}

pub legal_is_sound : LegalIsSound
legal_is_sound jmax h l = sound_from jmax [] empty h empty_sound l
