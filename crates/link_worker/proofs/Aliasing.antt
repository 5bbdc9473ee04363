-- An alias that was given its address may be emitted.
use Rattle.std.proofs.Common.{◌≡◌, ℕ, ◌+◌, ◌<◌, ◌^◌, Bool, List, [], ◌∷◌, ◌++◌, length, map, slice_get, refl, sym, ap, subst, ◌∙◌, arith, Some, None, unwrap_or}
use Rattle.std.specs.Bool.{if◌then◌else◌}
use Rattle.std.specs.Option.{option_map_or}
use Rattle.std.proofs.lemmas.Option.{none-some}
use Rattle.orc_ids.specs.declared.ids.InstId.{InstId}
use Rattle.orc_ids.specs.declared.ids.SeatNo.{SeatNo}
use Rattle.orc_ids.specs.declared.ids.UnitId.{UnitId}
use Rattle.session_model.specs.Lists.{changed_at}
use Rattle.session_model.specs.Meaning.{Meaning, Bindings, IsAlias, IsLawful}
use Rattle.session_model.specs.Plain.{Plain, UnitRow, empty, is_owned, own_rows}
use Rattle.session_model.specs.State.{plain_entry, plain_history, state}
use Rattle.session_model.specs.Answer.{called, Right, can_emit, can_resolve}
use Rattle.session_model.specs.Change.{changed, resolved_unit, resolved_row}
use Rattle.session_model.specs.History.{IsLegal}
use Rattle.session_model.specs.declared.change.Change.TheVariants.{Resolve}
use Rattle.session_model.specs.declared.entry.Entry.{Entry}
use Rattle.session_model.specs.declared.entry.Event.TheVariants as event
use Rattle.session_model.specs.declared.entry.Reply.TheVariants as reply
use Rattle.session_model.specs.declared.rows.InstRow.{InstRow}
use Rattle.session_laws.specs.Holding.{AllOthers}
use Rattle.session_laws.proofs.Declared.{state_from_push, changed_some, same_element, call_cases, sound_changed, settled_rows}
use Rattle.closure_laws.proofs.Declared.{OneMore, one_more, lawful_alias}
use Rattle.session_steps.specs.Allowed.{MayEmit}
use Rattle.session_steps.specs.Finish.{IsFinish}
use Rattle.execution_session.specs.Holding.{IsFinished}
use Rattle.session_steps.specs.Performs.{state_of}
use Rattle.execution_session.specs.declared.holding.Finished.{Finished}
use Rattle.history_laws.specs.Holders.{Holds, WasHeld}
use Rattle.history_laws.proofs.Calling.{own_list, owned_same, right_parts}
use Rattle.history_laws.proofs.Giving.{others_give_none}
use Rattle.materialization.proofs.Seats.{seated_stays}
use Rattle.shared_session.specs.Does.{seat}
use Rattle.turn_lock.specs.declared.view.View.{View}
use Rattle.link_worker.specs.Jobs.{MayFinish, MayResolve}
use Rattle.link_worker.specs.Units.{own_refusal}
use Rattle.link_worker.specs.declared.job.Job.{Job}
use Rattle.link_worker.proofs.Turning.{Found, TurnOf, found, legal_after, number_is, seen_plain}

-- Aliases

none_of : {X : Type 0} (xs : List X) → length xs ≡ 0 → xs ≡ []
none_of [] e = refl
none_of (x ∷ xs) e = absurd (omega arith)

-- an alias has no bytes
no_image : (u : Meaning) → IsLawful u → IsAlias u → (live : List Bool) (base : ℕ) (bound : Bindings) → u.image live base bound ≡ []
no_image u lawful alias live base bound = none_of (u.image live base bound) (lawful.image live base bound ∙ ap (λ o. option_map_or (λ s. s.need) o 0) (alias.shape live))

-- What is made of an alias at one base is made of it at any other.
at_any_base : (u : Meaning) → IsLawful u → IsAlias u → (live : List Bool) (base other : ℕ) (bound : Bindings) (own : List InstId) (made : Finished) → IsFinished u live base bound own made → IsFinished u live other bound own made
at_any_base u lawful alias live base other bound own made f = record {
  groups_are = f.groups_are ∙ (alias.groups live base bound own ∙ sym (alias.groups live other bound own));
  allowed = alias.refusal live other bound;
  image = f.image ∙ (no_image u lawful alias live base bound ∙ sym (no_image u lawful alias live other bound));
}

-- The row of an alias after it was resolved

-- resolving leaves a unit its instances
own_resolved : (u v k : ℕ) (x : UnitRow) (rows : List InstRow) → own_rows u k (map (resolved_row v x) rows) ≡ own_rows u k rows
own_resolved u v k x [] = refl
own_resolved u v k x (r ∷ rs) = ap (λ l. if is_owned u r then record { 0 = k } ∷ l else l) (own_resolved u v (k + 1) x rs)

-- the unit's row, and its instances
record IsResolved (m n : Plain) (u : UnitId) (x : UnitRow) : Type 0 where
  there : slice_get n.units u.0 ≡ Some (resolved_unit x)
  own : own_rows u.0 0 n.rows ≡ own_rows u.0 0 m.rows

change_there : (m : Plain) (u : UnitId) (x : UnitRow) → slice_get m.units u.0 ≡ Some x → IsResolved m (changed (Resolve u) m) u x
change_there m u x t = subst (λ o. IsResolved m (option_map_or (λ (y : UnitRow). record m { rows = map (resolved_row u.0 (resolved_unit y)) m.rows; units = changed_at u.0 resolved_unit m.units }) o m) u x) (sym t)
    (record { there = changed_some u.0 resolved_unit m.units x t; own = own_resolved u.0 u.0 0 (resolved_unit x) m.rows })

resolved_there : (jmax : ℕ) (h : List (Entry Meaning)) (s : SeatNo) (u : UnitId) (x : UnitRow) → OneMore jmax h (record { seat = s; event = event.Resolve u; reply = reply.Resolved }) → slice_get (state h).units u.0 ≡ Some x → x.seat ≡ Some s.0 →
    IsResolved (state h) (state (h ++ record { seat = s; event = event.Resolve u; reply = reply.Resolved } ∷ [])) u x
resolved_there jmax h s u x one t k =
    let c = change_there (state h) u x t in
    let after : Plain = changed (Resolve u) (state h) in
    let led = state_from_push empty h (record { seat = s; event = event.Resolve u; reply = reply.Resolved }) in
    record {
      there = ap (λ (m : Plain). slice_get m.units u.0) led ∙ seated_stays after s.0 u.0 (resolved_unit x) (sound_changed (state h) s.0 (Resolve u) one.sound one.guard) c.there k;
      own = ap (λ (m : Plain). own_rows u.0 0 m.rows) led ∙ (ap (own_rows u.0 0) (settled_rows after) ∙ c.own);
    }

module _ {U : Type 0} (means : U → Meaning) (jmax : ℕ) where
  -- where the call was answered Resolved, the unit is held, and was before, as it is
  found_resolvable : (h more : List (Entry Meaning)) (s : SeatNo) (u : UnitId) → IsLegal jmax (h ++ more) → AllOthers s.0 more → OneMore jmax (h ++ more) (record { seat = s; event = event.Resolve u; reply = reply.Resolved }) →
      (y : UnitRow) × Holds (state (h ++ more)) s.0 u.0 y × WasHeld (state h) (state (h ++ more)) s.0 u.0 y
  found_resolvable h more s u legal others one = call_cases (state (h ++ more)) s.0 u can_resolve (λ z. reply.Resolved ≡ reply.Resolved) reply.Resolved one.answers
      (λ z t d w. absurd (cc)) (λ w f. absurd (cc))
      (λ z t d k f p. let now : Holds (state (h ++ more)) s.0 u.0 z = record { there = t; seat = k; here = d } in (z, now, others_give_none jmax h more legal s.0 u.0 z others now))

  -- what is made of the one unit is made of the other
  as_row : (u v : Meaning) (live flags : List Bool) (base : ℕ) (bound found : Bindings) (own mine : List InstId) (made : Finished) → u ≡ v → live ≡ flags → bound ≡ found → own ≡ mine → IsFinished u live base bound own made → IsFinished v flags base found mine made
  as_row u v live flags base bound found own mine made e f g k finished =
      subst (λ z. IsFinished v flags base found z made) k (subst (λ z. IsFinished v flags base z own made) g (subst (λ z. IsFinished v z base bound own made) f (subst (λ z. IsFinished z live base bound own made) e finished)))

  -- the history after the call, as plain entries
  alias_emits : (h more : List (Entry Meaning)) (s : SeatNo) (job : Job U) → IsLegal jmax (h ++ more) → AllOthers s.0 more → MayResolve means (state h) job →
      OneMore jmax (h ++ more) (record { seat = s; event = event.Resolve job.unit; reply = reply.Resolved }) →
      (made : Finished) → IsFinished (means job.taken.share) job.taken.live (unwrap_or job.taken.base 0) job.bound job.taken.instances made →
      (z : UnitRow) → called (state ((h ++ more) ++ record { seat = s; event = event.Resolve job.unit; reply = reply.Resolved } ∷ [])) s.0 job.unit can_emit ≡ Right z →
      IsFinish (state ((h ++ more) ++ record { seat = s; event = event.Resolve job.unit; reply = reply.Resolved } ∷ [])) job.unit z made.groups made.bytes
  alias_emits h more s job legal others knows one made finished z right = record { groups_are = g.groups_are; allowed = g.allowed; image = g.image }
    where
      u : UnitId
      u = job.unit

      n : Plain
      n = state ((h ++ more) ++ record { seat = s; event = event.Resolve u; reply = reply.Resolved } ∷ [])

      held : (y : UnitRow) × Holds (state (h ++ more)) s.0 u.0 y × WasHeld (state h) (state (h ++ more)) s.0 u.0 y
      held = found_resolvable h more s u legal others one

      y : UnitRow
      y = held.0

      was : WasHeld (state h) (state (h ++ more)) s.0 u.0 y
      was = held.2

      after : IsResolved (state (h ++ more)) n u y
      after = resolved_there jmax (h ++ more) s u y one held.1.there held.1.seat

      is : resolved_unit y ≡ z
      is = same_element (slice_get n.units u.0) (resolved_unit y) z after.there (right_parts n s.0 u can_emit z right).0.there

      first : was.unit ≡ knows.its.unit
      first = same_element (slice_get (state h).units u.0) was.unit knows.its.unit was.held.there knows.its.there

      meaning_is : means job.taken.share ≡ z.meaning
      meaning_is = knows.its.share ∙ (ap (λ (x : UnitRow). x.meaning) (sym first) ∙ (ap (λ (x : UnitRow). x.meaning) (sym was.same) ∙ ap (λ (x : UnitRow). x.meaning) is))

      live_is : job.taken.live ≡ z.live
      live_is = knows.its.live ∙ (ap (λ (x : UnitRow). x.live) (sym first) ∙ (ap (λ (x : UnitRow). x.live) (sym was.same) ∙ ap (λ (x : UnitRow). x.live) is))

      bound_is : job.bound ≡ unwrap_or z.bound []
      bound_is = ap (λ o. unwrap_or o []) (sym (knows.bound was.unit was.held.there) ∙ (ap (λ (x : UnitRow). x.bound) (sym was.same) ∙ ap (λ (x : UnitRow). x.bound) is))

      own_is : job.taken.instances ≡ own_rows u.0 0 n.rows
      own_is = knows.its.instances ∙ (sym (own_list u.0 0 (state h).rows (state (h ++ more)).rows (owned_same (state h).rows (state (h ++ more)).rows u.0 was.own)) ∙ sym after.own)

      g : IsFinished z.meaning z.live (unwrap_or z.base 0) (unwrap_or z.bound []) (own_rows u.0 0 n.rows) made
      g = as_row (means job.taken.share) z.meaning job.taken.live z.live (unwrap_or z.base 0) job.bound (unwrap_or z.bound []) job.taken.instances (own_rows u.0 0 n.rows) made meaning_is live_is bound_is own_is
          (at_any_base (means job.taken.share) knows.lawful (lawful_alias (means job.taken.share) knows.lawful knows.alias) job.taken.live (unwrap_or job.taken.base 0) (unwrap_or z.base 0) job.bound job.taken.instances made finished)

  alias_low : (job : Job U) (m : Plain) → MayResolve means m job → unwrap_or job.taken.base 0 < 2 ^ 62
  alias_low job m knows = subst (λ o. unwrap_or o 0 < 2 ^ 62) (sym knows.unbased) (omega arith)

  -- an alias has no edge
  pub alias_refuses_none : (job : Job U) (m : Plain) → MayResolve means m job → own_refusal means job ≡ None
  alias_refuses_none job m knows = (lawful_alias (means job.taken.share) knows.lawful knows.alias).refusal job.taken.live (unwrap_or job.taken.base 0) job.bound

  -- An alias that was resolved by its seat may be emitted by it.
  pub alias_finishes : (v w : View (Entry U)) (job : Job U) → MayResolve means (state_of means v.seen) job → (does : List (Entry U) → List (Entry U) → Type 0) (t : TurnOf means jmax v w does) →
      t.new ≡ t.old ++ record { seat = seat v.number; event = event.Resolve job.unit; reply = reply.Resolved } ∷ [] → MayFinish means jmax w.seen w.number job
  alias_finishes v w job knows does t grown = record {
    fits = knows.fits;
    low = alias_low job (state_of means v.seen) knows;
    emits = λ made finished. subst (λ s. MayEmit (state_of means w.seen) s job.unit made.groups made.bytes) (sym (number_is means jmax v w does t))
        (subst (λ l. MayEmit (state l) v.number job.unit made.groups made.bytes) (sym whole)
        (alias_emits (plain_history means v.seen) (plain_history means f.more) (seat v.number) job f.legal f.others knows one made finished));
    fails = λ r is. absurd (none-some r (sym (alias_refuses_none job (state_of means v.seen) knows) ∙ is));
  }
    where
      f : Found means jmax v t.old
      f = found means jmax v w does t

      e : Entry U
      e = record { seat = seat v.number; event = event.Resolve job.unit; reply = reply.Resolved }

      whole : plain_history means w.seen ≡ (plain_history means v.seen ++ plain_history means f.more) ++ plain_entry means e ∷ []
      whole = seen_plain means jmax v w does t e grown ∙ ap (λ l. l ++ plain_entry means e ∷ []) f.grown

      one : OneMore jmax (plain_history means v.seen ++ plain_history means f.more) (plain_entry means e)
      one = one_more jmax (plain_history means v.seen ++ plain_history means f.more) (plain_entry means e) (subst (λ l. IsLegal jmax (l ++ plain_entry means e ∷ [])) f.grown (legal_after means jmax v w does t e grown))
