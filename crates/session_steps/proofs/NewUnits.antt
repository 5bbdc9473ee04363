-- Units that are defined, and those whose names clash.
use Rattle.std.proofs.Common.{◌≡◌, ℕ, List, length, Some, None, refl, ap, sym, subst, ◌∙◌}
use Rattle.std.specs.Prelude.{Result, Ok, Err, unwrap_or, IfOk}
use Rattle.orc_ids.specs.declared.ids.DylibId.{DylibId}
use Rattle.orc_ids.specs.declared.ids.InstId.{InstId}
use Rattle.orc_ids.specs.declared.ids.NameId.{NameId}
use Rattle.orc_ids.specs.declared.ids.TrackId.{TrackId}
use Rattle.orc_ids.specs.declared.ids.UnitId.{UnitId}
use Rattle.orc_ids.specs.declared.ids.SeatNo.{SeatNo}
use Rattle.orc_ids.specs.declared.lookup.Stop.{Stop}
use Rattle.orc_ids.specs.declared.lookup.Stop.TheVariants as stop
use Rattle.session_model.specs.Meaning.{Meaning, IsLawful}
use Rattle.session_model.specs.Plain.{Plain}
use Rattle.session_model.specs.Answer.{HasSource}
use Rattle.session_model.specs.Change.{change_of, changed, verdicts}
use Rattle.session_model.specs.declared.change.Change.{Change}
use Rattle.session_model.specs.declared.change.Change.TheVariants as change
use Rattle.session_model.specs.declared.entry.Entry.{Entry}
use Rattle.session_model.specs.declared.entry.Event.{Event}
use Rattle.session_model.specs.declared.entry.Event.TheVariants as event
use Rattle.session_model.specs.declared.entry.Reply.{Reply}
use Rattle.session_model.specs.declared.entry.Reply.TheVariants as reply
use Rattle.closure_laws.specs.Quiet.{stirs}
use Rattle.instances.specs.Graph.{Tells}
use Rattle.query_book.specs.Ledger.{Ledger}
use Rattle.session_parts.specs.declared.parts.Parts.{Parts}
use Rattle.session_parts.specs.Defined.{after_define, first_duplicate, kept_count}
use Rattle.session_parts.specs.Parts.{AreParts}
use Rattle.session_parts.specs.Replies.{Refuses}
use Rattle.session_replies.specs.Accepted.{AcceptsDefine, next_defined}
use Rattle.session_steps.specs.Given.{HandsBack, HandsBackGenerator}
use Rattle.session_steps.specs.Moved.{Same, Goes, HandsInLawful}
use Rattle.session_steps.specs.Performs.{Enters, Performs}
use Rattle.session_steps.specs.Stands.{Stands}
use Rattle.session_steps.specs.Steps.{IsStep, IsQuietStep}

-- What a definition did to the parts, or didn't

-- its instances are told by the graph, and the book of queries is as it was
pub record IsToldOn {U N : Type 0} (old new : Parts U N) : Type 0 where
  pub tells : Tells old.graph new.graph
  pub book : new.book ≡ old.book

pub goes_told : {U N : Type 0} (means : U → Meaning) (m : Plain) (s : ℕ) (e : Event Meaning) (r : Reply) (c : Change Meaning) (old new : Parts U N) → Stands means m old → change_of m s e r ≡ c → AreParts means new (changed c m) → IsToldOn old new → (changed c m).queries ≡ m.queries → Goes means m s e r old new
goes_told {U} {N} means m s e r c old new at is parts told queries = record {
  parts = subst (λ d. AreParts means new (changed d m)) (sym is) parts;
  tells = told.tells;
  queries = ap (λ (b : Ledger N). b.queries) told.book ∙ (at.queries ∙ (sym queries ∙ ap (λ d. (changed d m).queries) (sym is)));
  book = Same told.book;
}

-- a refusal that may have made room
pub refused_after : {U N : Type 0} (means : U → Meaning) (m : Plain) (s : ℕ) (e : Event Meaning) (r : Reply) (old new : Parts U N) → Stands means m old → Refuses m e r → AreParts means new m → IsToldOn old new → IsQuietStep means m s e r old new
refused_after means m s e r old new at it parts told = record {
  step = record {
    answered = λ jmax past l ends. it.answered jmax past s;
    goes = goes_told means m s e r change.Nothing old new at (it.quiet s) parts told refl;
    lawful = subst HandsInLawful (sym (it.quiet s)) tt;
  };
  quiet = ap stirs (it.quiet s);
  book = told.book;
}

-- Defining

-- the name clashes
pub duplicate_refused : (m : Plain) (d : DylibId) (t : TrackId) (u : Meaning) (count : ℕ) (name : NameId) (i : InstId) → HasSource m u → AcceptsDefine m d t count → length u.offers ≡ count → first_duplicate m.rows d.0 u.offers ≡ Some (reply.Duplicate name i) → Refuses m (event.Define d t u) (reply.Duplicate name i)
duplicate_refused m d t u count name i source a same clash = record {
  answered = λ jmax past s. (source, sym (a.answered u same ∙ ap (λ o. unwrap_or o (next_defined m d.0 u.offers)) clash));
  quiet = λ s. refl;
}

-- none clashes
pub defined_step : {U N : Type 0} (means : U → Meaning) (m : Plain) (s : ℕ) (d : DylibId) (t : TrackId) (u : Meaning) (count : ℕ) (v : UnitId) (first : InstId) (n : ℕ) (old new : Parts U N) → Stands means m old → HasSource m u → IsLawful u → AcceptsDefine m d t count → length u.offers ≡ count →
    v.0 ≡ length m.units → first.0 ≡ length m.rows → n ≡ kept_count m.rows d.0 u.offers → first_duplicate m.rows d.0 u.offers ≡ None → AreParts means new (after_define d t u m) → IsToldOn old new → IsQuietStep means m s (event.Define d t u) (reply.Defined v first n) old new
defined_step means m s d t u count v first n old new at source lawful a same unit one kept none parts told = record {
  step = record {
    answered = λ jmax past l ends. (source, sym (a.answered u same ∙ (ap (λ o. unwrap_or o (next_defined m d.0 u.offers)) none ∙ numbers)));
    goes = goes_told means m s (event.Define d t u) (reply.Defined v first n) (change.Define d t u (verdicts m.rows d.0 u.offers)) old new at refl parts told refl;
    lawful = lawful;
  };
  quiet = refl;
  book = told.book;
}
  where
    numbers : next_defined m d.0 u.offers ≡ reply.Defined v first n
    numbers = ap (λ a. reply.Defined (record { 0 = a }) (record { 0 = length m.rows }) (kept_count m.rows d.0 u.offers)) (sym unit)
        ∙ (ap (λ b. reply.Defined v (record { 0 = b }) (kept_count m.rows d.0 u.offers)) (sym one)
        ∙ ap (λ c. reply.Defined v first c) (sym kept))

-- one that is refused comes back
pub refused_back : {U : Type 0} (means : U → Meaning) (m : Plain) (d : DylibId) (t : TrackId) (unit : U) (r : Reply) → Refuses m (event.Define d t (means unit)) r → HandsBack means unit (Ok r) (Some unit)
refused_back means m d t unit (reply.Defined v first count) it = absurd (defines (it.quiet 0))
  where
    defines : {u : Meaning} {found : List Rattle.session_model.specs.declared.rows.Verdict.Verdict} → change.Define d t u found ≡ change.Nothing → ⊥
    defines e = cc
refused_back means m d t unit _ it = (unit, refl, refl)

-- one of which no generator is made comes back
pub generator_back : {U : Type 0} (means : U → Meaning) (m : Plain) (d : DylibId) (t : TrackId) (unit : U) (r : Reply) → Refuses m (event.Attach d t (means unit)) r → HandsBackGenerator means unit (Ok r) (Some unit)
generator_back means m d t unit (reply.Generator g) it = absurd (attaches (it.quiet 0))
  where
    attaches : change_of m 0 (event.Attach d t (means unit)) (reply.Generator g) ≡ change.Nothing → ⊥
    attaches e = absurd cc
generator_back means m d t unit _ it = (unit, refl, refl)

-- what was answered was a step, for a share of the unit too
pub told_step : {U N : Type 0} (means : U → Meaning) (m : Plain) (s : ℕ) (e : Meaning → Event Meaning) (unit share : U) (answer : Result Reply Stop) (r : Reply) (old new : Parts U N) → means share ≡ means unit → answer ≡ Ok r → IfOk answer (λ r. (s : ℕ) → IsQuietStep means m s (e (means unit)) r old new) → IsStep means m s (e (means share)) r old new
told_step means m s e unit share answer r old new same is step = (subst (λ u. IsQuietStep means m s (e u) r old new) (sym same) (subst (λ a. IfOk a (λ r. (s : ℕ) → IsQuietStep means m s (e (means unit)) r old new)) is step s)).step

-- An answer, with or without an entry

pub did_perform : {U : Type 0} (means : U → Meaning) (jmax : ℕ) (h new : List (Entry U)) (s : SeatNo) (e : Event U) (answer : Result Reply Stop) (r : Reply) → answer ≡ Ok r → Enters means jmax h new (record { seat = s; event = e; reply = r }) → Performs means jmax h new s e answer
did_perform means jmax h new s e answer r is did = subst (Performs means jmax h new s e) (sym is) did

pub lacked_memory : {U : Type 0} (means : U → Meaning) (jmax : ℕ) (h new : List (Entry U)) (s : SeatNo) (e : Event U) (answer : Result Reply Stop) (why : Stop) → answer ≡ Err why → why ≡ stop.NoMemory → new ≡ h → Performs means jmax h new s e answer
lacked_memory means jmax h new s e answer why is memory same = subst (Performs means jmax h new s e) (sym (is ∙ ap Err memory)) same
