-- Jobs that are handed out: the answers, the steps, and the unit that comes with a job.
use Rattle.std.proofs.Common.{◌≡◌, ◌⊎◌, inl, inr, ℕ, ◌+◌, Ok, true, false, List, [], ◌∷◌, ◌++◌, slice_get, length, Option, Some, None, subst, sym, refl, ap, ◌∙◌, arith}
use Rattle.std.proofs.lemmas.Bool.{both_ways, cases_eq}
use Rattle.std.proofs.lemmas.Option.{none-some, same_Some}
use Rattle.list_laws.proofs.Lists.{missing_past}
use Rattle.orc_ids.specs.declared.ids.SeatNo.{SeatNo}
use Rattle.orc_ids.specs.declared.ids.UnitId.{UnitId}
use Rattle.session_model.specs.Lists.{changed_at}
use Rattle.session_model.specs.Meaning.{Meaning}
use Rattle.session_model.specs.Plain.{Plain, UnitRow, own_rows, is_defunct, kept}
use Rattle.session_model.specs.Query.{is_met}
use Rattle.session_model.specs.State.{state, plain_history, IsEnd}
use Rattle.session_model.specs.Change.{finish_listed, finishing_unit, settled, started_unit, taken_finish, taken_start, waits_for}
use Rattle.session_model.specs.Answer.{AnswersTake, AnswersFinish, LinkEnded}
use Rattle.session_model.specs.declared.change.Change.TheVariants as change
use Rattle.session_model.specs.declared.entry.Entry.{Entry}
use Rattle.session_model.specs.declared.entry.Event.TheVariants as event
use Rattle.session_model.specs.declared.entry.Finishing.{Finishing}
use Rattle.session_model.specs.declared.entry.Reply.{Reply}
use Rattle.session_model.specs.declared.entry.Reply.TheVariants as reply
use Rattle.session_model.specs.declared.rows.Ending.{Ending}
use Rattle.session_model.specs.declared.rows.Ending.TheVariants.{Found, Lost}
use Rattle.session_model.specs.declared.rows.Job.{Job}
use Rattle.session_model.specs.declared.rows.Job.TheVariants as job
use Rattle.session_model.specs.declared.rows.Query.{Query}
use Rattle.session_model.specs.declared.rows.UnitPhase.TheVariants as stage
use Rattle.session_laws.proofs.Declared.{linked_ends, changed_elsewhere, changed_some, element_below, mapped_length, same_element, start_listed, finish_linked, settled_rows, settling_keeps}
use Rattle.closure_laws.proofs.Declared.{instances_are_live, live_count}
use Rattle.query_book.specs.declared.ends.QueryEnd.{QueryEnd}
use Rattle.session_parts.specs.declared.parts.Parts.{Parts}
use Rattle.session_parts.specs.Ends.{AreEnds, IsKept}
use Rattle.session_parts.specs.Parts.{AreParts}
use Rattle.session_steps.specs.declared.jobs.TakenUnit.{TakenUnit}
use Rattle.session_steps.specs.Performs.{Enters, Takes, state_of}
use Rattle.session_steps.specs.Rest.{IsAtRest}
use Rattle.session_steps.specs.Stands.{Stands}
use Rattle.session_steps.specs.Steps.{IsQuietStep}
use Rattle.session_steps.specs.Taken.{IsUnitOf, GivesUnit, BindsUnit, finishing_of, LinkEnd, CanHandOut}
use Rattle.session_steps.proofs.Rested.{leads}
use Rattle.session_steps.proofs.Standing.{goes_by}

-- What is known of a session at rest

both_some : {X : Type 0} (o : Option X) → (o ≡ None → ⊥) → (x : X) × (o ≡ Some x)
both_some None n = absurd (n refl)
both_some (Some x) n = (x, refl)

-- the link query of a linked unit has its end in the book
link_end : (past : List (Entry Meaning)) (ends : List (Option QueryEnd)) (u : ℕ) (x : UnitRow) → AreEnds past ends → slice_get (state past).units u ≡ Some x → x.phase ≡ stage.Linked → LinkEnd (state past) ends u
link_end past ends u x are there linked =
    let law = linked_ends past u x there linked in
    let k = law.0 in
    let it = law.4 in
    let kept = both_some (slice_get ends k) (λ n. absurd (omega (arith, missing_past ends k n, are.count, element_below (state past).queries k it.query it.there))) in
    ended law k it kept
  where
    open_is_not : (k n : ℕ) (end : Ending) (it : IsEnd past k n end) (o : Option QueryEnd) → slice_get ends k ≡ Some o → o ≡ None → ⊥
    open_is_not k n end it o at none = both_ways _ ((subst (IsKept past k it.query) none (are.each k it.query o it.there at)).unmet n it.settles.from it.settles.here) it.settles.met

    ended : (law : (k : ℕ) × (x.query ≡ Some k) × (n : ℕ) × (end : Ending) × IsEnd past k n end) (k : ℕ) (it : IsEnd past law.0 law.2 law.3) → (o : Option QueryEnd) × (slice_get ends law.0 ≡ Some o) → LinkEnd (state past) ends u
    ended law k it kept = let e = both_some kept.0 (open_is_not law.0 law.2 law.3 it kept.0 kept.1) in
        record { unit = x; there = there; query = law.0; its = law.1; end = e.0; ended = kept.1 ∙ ap Some e.1 }

pub can_hand_out : {U N : Type 0} (means : U → Meaning) (jmax : ℕ) (p : Parts U N) (h : List (Entry U)) (capacity : ℕ) → IsAtRest means jmax p h capacity → CanHandOut (state_of means h) p.book.ends
can_hand_out means jmax p h capacity r = record {
  ended = λ u x t e. link_end (plain_history means h) p.book.ends u x r.ends t e;
  owned = λ u x t alive. let are = instances_are_live jmax (plain_history means h) r.legal u x t alive in
      sym (mapped_length _ (own_rows u 0 (state_of means h).rows)) ∙ (ap length are.instances ∙ live_count x.live);
}

-- The steps

pub start_there : {U N : Type 0} (means : U → Meaning) (m : Plain) (p : Parts U N) (u : UnitId) → Stands means m p → (js : List Job) × (m.jobs ≡ job.Start u ∷ js) → (x : UnitRow) × (slice_get m.units u.0 ≡ Some x) × (x.phase ≡ stage.Listed)
start_there means m p u at first = start_listed m u.0 first.0 at.sound first.1

pub finish_there : {U N : Type 0} (means : U → Meaning) (m : Plain) (p : Parts U N) (u : UnitId) → Stands means m p → (js : List Job) × (m.jobs ≡ job.Finish u ∷ js) → (x : UnitRow) × (slice_get m.units u.0 ≡ Some x) × (x.phase ≡ stage.Linked)
finish_there means m p u at first = finish_linked m u.0 first.0 at.sound first.1

pub finish_end : {U N : Type 0} (means : U → Meaning) (m : Plain) (p : Parts U N) (u : UnitId) → Stands means m p → CanHandOut m p.book.ends → (js : List Job) × (m.jobs ≡ job.Finish u ∷ js) → LinkEnd m p.book.ends u.0
finish_end means m p u at can first = let x = finish_there means m p u at first in can.ended u.0 x.0 x.1 x.2

-- it isn't gone
pub listed_alive : (m : Plain) (u : UnitId) → (x : UnitRow) × (slice_get m.units u.0 ≡ Some x) × (x.phase ≡ stage.Listed) → (x : UnitRow) × (slice_get m.units u.0 ≡ Some x) × (is_defunct x.phase ≡ false)
listed_alive m u x = (x.0, x.1, ap is_defunct x.2)

pub linked_alive : (m : Plain) (u : UnitId) → (x : UnitRow) × (slice_get m.units u.0 ≡ Some x) × (x.phase ≡ stage.Linked) → (x : UnitRow) × (slice_get m.units u.0 ≡ Some x) × (is_defunct x.phase ≡ false)
linked_alive m u x = (x.0, x.1, ap is_defunct x.2)

pub start_step : {U N : Type 0} (means : U → Meaning) (m : Plain) (s : SeatNo) (u : UnitId) (old new : Parts U N) → Stands means m old → (js : List Job) × (m.jobs ≡ job.Start u ∷ js) → AreParts means new (taken_start s.0 u.0 m) → new ≡ record old { units = new.units } →
    IsQuietStep means m s.0 event.Take (reply.Start u) old new
start_step {U} {N} means m s u old new at first parts rest = record {
  step = record {
    answered = λ jmax past led ends. subst (λ jobs. AnswersTake past m jobs (reply.Start u)) (sym first.1) refl;
    goes = goes_by means m s.0 event.Take (reply.Start u) (change.Start s u) old new refl parts (ap (λ (p : Parts U N). p.graph) rest) (ap (λ (p : Parts U N). p.book) rest) refl at.queries;
    lawful = tt;
  };
  quiet = refl;
  book = ap (λ (p : Parts U N). p.book) rest;
}

-- what is kept of a link query is its end
link_ended : (past : List (Entry Meaning)) (ends : List (Option QueryEnd)) (u : ℕ) → AreEnds past ends → (f : LinkEnd (state past) ends u) → LinkEnded past (state past) u f.end.end
link_ended past ends u are f =
    let q = both_some (slice_get (state past).queries f.query) (λ n. absurd (omega (arith, missing_past (state past).queries f.query n, are.count, element_below ends f.query (Some f.end) f.ended))) in
    record { unit = f.unit; there = f.there; query = f.query; its = f.its; at = f.end.at; ended = are.each f.query q.0 (Some f.end) q.1 f.ended }

finish_answered : (past : List (Entry Meaning)) (m : Plain) (ends : List (Option QueryEnd)) (u : UnitId) (how : Finishing) → state past ≡ m → AreEnds past ends → (f : LinkEnd m ends u.0) → how ≡ finishing_of f.end.end → AnswersFinish past m u.0 (reply.Finish u how)
finish_answered past m ends u how led are f is = subst (λ w. AnswersFinish past m u.0 (reply.Finish u w)) (sym is) (told f.end.end ended)
  where
    ended : LinkEnded past m u.0 f.end.end
    ended = moved m led f
      where
        moved : (n : Plain) → state past ≡ n → (f : LinkEnd n ends u.0) → LinkEnded past n u.0 f.end.end
        moved n e = subst (λ n. (f : LinkEnd n ends u.0) → LinkEnded past n u.0 f.end.end) e (link_ended past ends u.0 are)

    told : (e : Ending) → LinkEnded past m u.0 e → AnswersFinish past m u.0 (reply.Finish u (finishing_of e))
    told (Found matches) l = (refl, l)
    told (Lost i) l = (refl, l)

pub finish_step : {U N : Type 0} (means : U → Meaning) (m : Plain) (s : SeatNo) (u : UnitId) (how : Finishing) (old new : Parts U N) → Stands means m old → (js : List Job) × (m.jobs ≡ job.Finish u ∷ js) → (f : LinkEnd m old.book.ends u.0) → how ≡ finishing_of f.end.end →
    AreParts means new (taken_finish s.0 u.0 how m) → new ≡ record old { units = new.units } → IsQuietStep means m s.0 event.Take (reply.Finish u how) old new
finish_step {U} {N} means m s u how old new at first f is parts rest = record {
  step = record {
    answered = λ jmax past led ends. subst (λ jobs. AnswersTake past m jobs (reply.Finish u how)) (sym first.1) (finish_answered past m old.book.ends u how led ends f is);
    goes = goes_by means m s.0 event.Take (reply.Finish u how) (change.Finish s u how) old new refl parts (ap (λ (p : Parts U N). p.graph) rest) (ap (λ (p : Parts U N). p.book) rest) refl at.queries;
    lawful = tt;
  };
  quiet = refl;
  book = ap (λ (p : Parts U N). p.book) rest;
}

-- The unit that is handed out

-- settling changes no more of a unit than its phase
settled_unit : (m : Plain) (u : ℕ) (x : UnitRow) → slice_get m.units u ≡ Some x → (y : UnitRow) × (slice_get (settled m).units u ≡ Some y) × (y ≡ record x { phase = y.phase })
settled_unit m u x t = settling_keeps Stays step 0 m.queries m (x, t, refl)
  where
    Stays : Plain → Type 0
    Stays n = (y : UnitRow) × (slice_get n.units u ≡ Some y) × (y ≡ record x { phase = y.phase })

    step : (v k : ℕ) (q : Query) (n : Plain) → Stays n → waits_for n v k ≡ true → is_met n.rows q ≡ true → q.unit ≡ Some v → Stays (finish_listed v n)
    step v k q n p w b e = split (cases_eq u v)
      where
        split : (u ≡ v) ⊎ (u ≡ v → ⊥) → Stays (finish_listed v n)
        split (inl is) = (
          record (p.0) { phase = stage.Linked },
          subst (λ w. slice_get (finish_listed w n).units u ≡ Some (record (p.0) { phase = stage.Linked })) is (changed_some u (λ y. record y { phase = stage.Linked }) n.units p.0 p.1),
          ap (λ (y : UnitRow). record y { phase = stage.Linked }) p.2,
        )
        split (inr apart) = (p.0, changed_elsewhere v (λ y. record y { phase = stage.Linked }) n.units u apart ∙ p.1, p.2)

-- a change of one unit that leaves its meaning, its live names and its base
record Keeps (f : UnitRow → UnitRow) : Type 0 where
  meaning : (x : UnitRow) → (f x).meaning ≡ x.meaning
  live : (x : UnitRow) → (f x).live ≡ x.live
  base : (x : UnitRow) → (f x).base ≡ x.base

-- the session after the change of a take
abbrev took : ℕ → (UnitRow → UnitRow) → List Job → Plain → Plain
took u f jobs m = record m { jobs = jobs; units = changed_at u f m.units }

still_unit : {U : Type 0} (means : U → Meaning) (m n : Plain) (jobs : List Job) (f : UnitRow → UnitRow) (u : UnitId) (taken : TakenUnit U) → Keeps f → n ≡ record (settled (took u.0 f jobs m)) { entries = m.entries + 1 } → IsUnitOf means m u taken → IsUnitOf means n u taken
still_unit means m n jobs f u taken keeps led k =
    let p = settled_unit (took u.0 f jobs m) u.0 (f k.unit) (changed_some u.0 f m.units k.unit k.there) in
    record {
      unit = p.0;
      there = ap (λ (w : Plain). slice_get w.units u.0) led ∙ p.1;
      share = k.share ∙ sym (ap (λ (y : UnitRow). y.meaning) p.2 ∙ keeps.meaning k.unit);
      live = k.live ∙ sym (ap (λ (y : UnitRow). y.live) p.2 ∙ keeps.live k.unit);
      instances = k.instances ∙ sym (ap (λ (w : Plain). own_rows u.0 0 w.rows) led ∙ ap (own_rows u.0 0) (settled_rows (took u.0 f jobs m)));
      base = k.base ∙ sym (ap (λ (y : UnitRow). y.base) p.2 ∙ keeps.base k.unit);
      flags = k.flags;
      owned = k.owned;
    }

-- the entry of a take
abbrev pub take_entry : {U : Type 0} → SeatNo → Reply → Entry U
take_entry s r = record { seat = s; event = event.Take; reply = r }

-- what was handed out is the unit after the entry too
pub gives_after : {U : Type 0} (means : U → Meaning) (h : List (Entry U)) (s : SeatNo) (r : Reply) (taken : TakenUnit U) → GivesUnit means (state_of means h) (Ok r) (Some taken) → GivesUnit means (state_of means (h ++ take_entry s r ∷ [])) (Ok r) (Some taken)
gives_after means h s (reply.Start u) taken k = still_unit means (state_of means h) (state_of means (h ++ take_entry s (reply.Start u) ∷ [])) _ (started_unit s.0) u taken (record { meaning = λ x. refl; live = λ x. refl; base = λ x. refl }) (leads means h (take_entry s (reply.Start u))) k
gives_after means h s (reply.Finish u how) taken k = still_unit means (state_of means h) (state_of means (h ++ take_entry s (reply.Finish u how) ∷ [])) _ (finishing_unit s.0 how) u taken (record { meaning = λ x. refl; live = λ x. refl; base = λ x. refl }) (leads means h (take_entry s (reply.Finish u how))) k
gives_after means h s _ taken k = absurd cc

-- and it has the bindings of the reply
pub binds_after : {U : Type 0} (means : U → Meaning) (h : List (Entry U)) (s : SeatNo) (r : Reply) (taken : TakenUnit U) → GivesUnit means (state_of means h) (Ok r) (Some taken) → BindsUnit (state_of means (h ++ take_entry s r ∷ [])) (Ok r)
binds_after means h s (reply.Finish u how) taken k = λ y at.
    let m = state_of means h in
    let f = finishing_unit s.0 how in
    let p = settled_unit (taken_finish s.0 u.0 how m) u.0 (f k.unit) (changed_some u.0 f m.units k.unit k.there) in
    let new = state_of means (h ++ take_entry s (reply.Finish u how) ∷ []) in
    ap (λ (z : UnitRow). z.bound) (same_element (slice_get new.units u.0) y p.0 at (ap (λ (w : Plain). slice_get w.units u.0) (leads means h (take_entry s (reply.Finish u how))) ∙ p.1) ∙ p.2)
binds_after means h s (reply.Start u) taken k = tt
binds_after means h s _ taken k = absurd cc

-- What a take did

-- no job is listed
pub takes_none : {U : Type 0} (means : U → Meaning) (jmax : ℕ) (h : List (Entry U)) (s : SeatNo) (held : ℕ) → slice_get (state_of means h).jobs 0 ≡ None → held ≡ kept (state_of means h) → Takes means jmax h h s (Ok (reply.Idle held))
takes_none means jmax h s held none is = (refl, empty (state_of means h).jobs none, is)
  where
    empty : (js : List Job) → slice_get js 0 ≡ None → js ≡ []
    empty [] e = refl
    empty (j ∷ js) e = absurd (none-some j (sym e))

-- the oldest job
pub first_of : (m : Plain) (j : Job) → slice_get m.jobs 0 ≡ Some j → (js : List Job) × (m.jobs ≡ j ∷ js)
first_of m j e = split m.jobs e
  where
    split : (jobs : List Job) → slice_get jobs 0 ≡ Some j → (js : List Job) × (jobs ≡ j ∷ js)
    split [] e = absurd (none-some j e)
    split (i ∷ js) e = (js, ap (λ k. k ∷ js) (same_Some i j e))

pub takes_entered : {U : Type 0} (means : U → Meaning) (jmax : ℕ) (old new : List (Entry U)) (s : SeatNo) (r : Reply) → Enters means jmax old new (take_entry s r) → Takes means jmax old new s (Ok r)
takes_entered means jmax old new s (reply.Idle held) x = absurd (never_idle (state_of means old).jobs x.answered)
  where
    never_idle : (jobs : List Job) → AnswersTake (plain_history means old) (state_of means old) jobs (reply.Idle held) → ⊥
    never_idle [] a = a
    never_idle (job.Start u ∷ js) a = cc
    never_idle (job.Finish u ∷ js) a = a
takes_entered means jmax old new s _ x = x
