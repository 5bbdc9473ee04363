-- What a lookup has done, while it goes on and at its end.
use Rattle.std.specs.Prelude.{◌≡◌, ℕ, ◌≤◌, ◌&&◌, Bool, true, false, List, ◌++◌, length, slice_get, take, Option, Some, None, option_map, if◌then◌else◌}
use Rattle.std.specs.List.{list_any}
use Rattle.orc_ids.specs.declared.ids.GenId.{GenId}
use Rattle.orc_ids.specs.declared.ids.QueryId.{QueryId}
use Rattle.orc_ids.specs.declared.lookup.Level.{Level}
use Rattle.orc_ids.specs.declared.lookup.OrderItem.{OrderItem}
use Rattle.orc_ids.specs.declared.lookup.Outcome.{Outcome}
use Rattle.orc_ids.specs.declared.lookup.Stop.{Stop}
use Rattle.orc_ids.specs.declared.lookup.Stop.TheVariants as stop
use Rattle.orc_ids.specs.declared.lookup.Wanted.{Wanted}
use Rattle.session_model.specs.Calls.{Lookup, Looks, Works}
use Rattle.session_model.specs.Meaning.{Meaning}
use Rattle.session_model.specs.State.{plain_history, state}
use Rattle.session_model.specs.declared.entry.Entry.{Entry}
use Rattle.session_model.specs.declared.entry.Event.{Event}
use Rattle.session_model.specs.declared.entry.Event.TheVariants as event
use Rattle.session_model.specs.declared.entry.Reply.{Reply}
use Rattle.session_model.specs.declared.entry.Reply.TheVariants as reply
use Rattle.session_model.specs.declared.rows.Query.{Query}
use Rattle.session_steps.specs.Fires.{is_lodged}
use Rattle.notifiers.specs.declared.notice.Notice.{Notice}
use Rattle.notifiers.specs.declared.notice.Unheard.{Unheard}
use Rattle.turn_lock.specs.declared.view.View.{View}
use Rattle.session_model.specs.Ends.{EndsAs}
use Rattle.session_model.specs.Stopped.{IsCutShort}
use Rattle.link_worker.specs.Does.{Does}
use Rattle.link_worker.specs.Jobs.{SpareAll}
use Rattle.link_worker.specs.Works.{WasStopped}
use Rattle.session_model.specs.declared.look_end.LookEnd.{LookEnd}
use Rattle.session_model.specs.declared.look_end.LookEnd.TheVariants.{Found, Failed, InError, Missing, NoDylib, JournalFull, NoMemory}

-- what is looked up, with the note of the notifier
abbrev pub lookup_of : {N : Type 0} → List OrderItem → List Wanted → Level → Option (Unheard N) → Lookup
lookup_of order wanted level then' = record { order = order; wanted = wanted; level = level; note = option_map (λ a. a.note) then' }

-- a query was lodged for the lookup at one of these calls
abbrev pub is_ask : Event Meaning → Bool
is_ask (event.Ask order wanted level _) = true
is_ask e = false

abbrev pub has_lodged : List (ℕ × Entry Meaning) → Bool
has_lodged cs = list_any (λ c. is_ask c.1.event && is_lodged c.1.reply) cs

-- what is left of the notifier
abbrev pub left_of : {N : Type 0} → Option (Unheard N) → List (ℕ × Entry Meaning) → Option (Unheard N)
left_of then' cs = if has_lodged cs then None else then'

-- Calls after which the names are asked for again: each generator that they were offered was used.
pub record Asking (l : Lookup) (h : List (Entry Meaning)) (cs : List (ℕ × Entry Meaning)) : Type 0 where
  pub rest : (ds : List (ℕ × Entry Meaning)) → Looks h l ds → Looks h l (cs ++ ds)
  pub none : has_lodged cs ≡ false
  pub spare : SpareAll cs

-- Calls since call n, at which the query was there: jobs that were begun while it was open. At most k entries were seen since.
pub record Waits (q : QueryId) (n k : ℕ) (h : List (Entry Meaning)) (cs : List (ℕ × Entry Meaning)) : Type 0 where
  pub last : ℕ
  pub within : last ≤ k
  pub query : Query
  pub there : slice_get (state (take last h)).queries q.0 ≡ Some query
  pub rest : (ds : List (ℕ × Entry Meaning)) → Works h q last ds → Works h q n (cs ++ ds)
  pub spare : SpareAll cs

module _ {U : Type 0} (means : U → Meaning) where
  -- the pass has seen call n, after which the query is there
  pub record IsLodgedBy (v : View (Entry U)) (q : QueryId) (n : ℕ) : Type 0 where
    pub within : n ≤ length (plain_history means v.seen)
    pub query : Query
    pub there : slice_get (state (take n (plain_history means v.seen))).queries q.0 ≡ Some query

  -- what is known after an ask that was answered so, and didn't offer a generator
  abbrev pub IsAsked : View (Entry U) → Reply → Type 0
  IsAsked v (reply.Done q) = (n : ℕ) × IsLodgedBy v q n
  IsAsked v (reply.Pending q) = (n : ℕ) × IsLodgedBy v q n
  IsAsked v (reply.InError i) = Unit {0}
  IsAsked v (reply.Missing name) = Unit {0}
  IsAsked v (reply.NoDylib d) = Unit {0}
  IsAsked v r = ⊥

  module _ {N : Type 0} (heard : N → Option Outcome) (jmax : ℕ) (v w : View (Entry U)) (old new : List (Notice N)) where
    -- the calls since call n are jobs that were begun while the query was open, none of which was cut, and its end; or they were stopped
    abbrev pub HasAwaited : QueryId → ℕ → LookEnd → Type 0
    HasAwaited q n (JournalFull len) = Does means heard v w old new (λ h cs. IsCutShort (Works h q n) cs) × WasStopped means jmax v.seen w.seen (stop.JournalFull len)
    HasAwaited q n NoMemory = Does means heard v w old new (λ h cs. IsCutShort (Works h q n) cs)
    HasAwaited q n end = Does means heard v w old new (λ h cs. Works h q n cs × EndsAs end cs × SpareAll cs)

    -- what follows an ask that was answered so
    abbrev pub HasSettled : Reply → LookEnd → Type 0
    HasSettled (reply.Done q) end = (n : ℕ) → IsLodgedBy v q n → HasAwaited q n end
    HasSettled (reply.Pending q) end = (n : ℕ) → IsLodgedBy v q n → HasAwaited q n end
    HasSettled (reply.InError i) end = (end ≡ InError i) × (w ≡ v) × (new ≡ old)
    HasSettled (reply.Missing name) end = (end ≡ Missing name) × (w ≡ v) × (new ≡ old)
    HasSettled (reply.NoDylib d) end = (end ≡ NoDylib d) × (w ≡ v) × (new ≡ old)
    HasSettled r end = ⊥

    -- The calls are those of a lookup, which ended so, and no job of it was cut; or it was stopped. What is left of the notifier is it, unless a query was lodged.
    abbrev pub HasLooked : Lookup → Option (Unheard N) → LookEnd → Option (Unheard N) → Type 0
    HasLooked l then' (JournalFull len) back = Does means heard v w old new (λ h cs. IsCutShort (Looks h l) cs × (back ≡ left_of then' cs)) × WasStopped means jmax v.seen w.seen (stop.JournalFull len)
    HasLooked l then' NoMemory back = Does means heard v w old new (λ h cs. IsCutShort (Looks h l) cs × (back ≡ left_of then' cs))
    HasLooked l then' end back = Does means heard v w old new (λ h cs. Looks h l cs × EndsAs end cs × (back ≡ left_of then' cs) × SpareAll cs)

-- the end of a lookup, by the reply to its collect; none while its query is open
abbrev pub end_in : Reply → Option LookEnd
end_in (reply.Found at matches) = Some (Found matches)
end_in (reply.Lost at i) = Some (Failed i)
end_in r = None

-- the generator that an ask was offered
abbrev pub offered_in : Reply → Option GenId
offered_in (reply.Offer g) = Some g
offered_in r = None

-- the end of a lookup of which a call was stopped
abbrev pub end_stopped : Stop → LookEnd
end_stopped (stop.JournalFull len) = JournalFull len
end_stopped stop.NoMemory = NoMemory
