-- Who is told at one call, and at none; and where a call places a unit.
use Rattle.std.proofs.Common.{◌≡◌, ℕ, ◌+◌, ◌-◌, Bool, true, false, List, [], ◌∷◌, ◌++◌, length, take, append-nil, append_assoc, refl, sym, ap, subst, ◌∙◌, arith}
use Rattle.std.proofs.lemmas.Bool.{both_ways}
use Rattle.std.proofs.lemmas.List.Elements.{All-append, All-cons, All-nil}
use Rattle.orc_ids.specs.declared.ids.UnitId.{UnitId}
use Rattle.orc_ids.specs.declared.lookup.Outcome.{Outcome}
use Rattle.orc_ids.specs.declared.place.Shape.{Shape}
use Rattle.std.specs.Prelude.{Option}
use Rattle.session_model.specs.Meaning.{Meaning}
use Rattle.session_model.specs.Plain.{Plain}
use Rattle.session_model.specs.State.{state}
use Rattle.session_model.specs.Change.{change_of}
use Rattle.session_model.specs.History.{IsLegal}
use Rattle.session_model.specs.declared.entry.Entry.{Entry}
use Rattle.session_model.specs.declared.entry.Event.{Event}
use Rattle.session_model.specs.declared.entry.Event.TheVariants as event
use Rattle.session_model.specs.declared.entry.Reply.{Reply}
use Rattle.session_steps.specs.Handed.{IsLowest}
use Rattle.closure_laws.specs.Quiet.{stirs}
use Rattle.closure_laws.proofs.Declared.{quiet_settles_none}
use Rattle.notifiers.specs.Notices.{AreHeard, Told}
use Rattle.notifiers.specs.declared.notice.Notice.{Notice}
use Rattle.history_laws.specs.Notes.{AreTold}
use Rattle.turn_lock.specs.declared.view.View.{View}
use Rattle.shared_session.specs.Did.{Did, Promise, Nothing, Single, Then}
use Rattle.shared_session.proofs.Doing.{less_is_done, parts_are_done}
use Rattle.link_worker.specs.Does.{Does, PlacesLowest, ToldAt, Nobody, Call}

-- the notices that were told have the outcomes that they were to be told
pub told_by : {N : Type 0} (hears : N → Option Outcome) (h : List (Entry Meaning)) (fires from to : List (Notice N)) → AreTold h fires → (t : Told hears fires from to) → AreTold h t.told
told_by hears h fires from to a t = record { numbers = a.numbers; rising = a.rising; settle = a.settle; told = t.same ∙ a.told }

-- at an entry that stirs nothing nobody is told
pub told_none : {N : Type 0} (jmax : ℕ) (h : List (Entry Meaning)) (e : Entry Meaning) → IsLegal jmax (h ++ e ∷ []) → stirs (change_of (state h) e.seat.0 e.event e.reply) ≡ false → AreTold {N = N} (h ++ e ∷ []) []
told_none jmax h e legal quiet = record {
  numbers = [];
  rising = tt;
  settle = λ k. (λ is. absurd (both_ways false refl is), λ now. absurd (quiet_settles_none jmax h e legal quiet k now));
  told = refl;
}

-- what is told at two lists of calls
pub told_both : {N : Type 0} (h : List (Entry Meaning)) (cs ds : List (ℕ × Entry Meaning)) (ts us : List (Notice N)) → ToldAt h cs ts → ToldAt h ds us → ToldAt h (cs ++ ds) (ts ++ us)
told_both h _ ds _ us Nobody rest = rest
told_both h _ ds _ us (Call n e cs now later t more) rest = subst (ToldAt h ((n, e) ∷ (cs ++ ds))) (sym (append_assoc now later us)) (Call n e (cs ++ ds) now (later ++ us) t (told_both h cs ds later us more rest))

-- Where a call places

abbrev pub is_placing : Event Meaning → Bool
is_placing (event.Place u shape) = true
is_placing e = false

-- what a call at a state places is placed at the lowest base that is free
abbrev pub IsPlacedLowest : Plain → Event Meaning → Reply → Type 0
IsPlacedLowest m e r = (u : UnitId) (shape : Shape) → e ≡ event.Place u shape → IsLowest m shape r

-- the same of a call of a history
abbrev pub IsCalledLowest : List (Entry Meaning) → ℕ × Entry Meaning → Type 0
IsCalledLowest h c = IsPlacedLowest (state (take (c.0 - 1) h)) c.1.event c.1.reply

-- what is no place places nothing
pub places_nothing : (m : Plain) (e : Event Meaning) (r : Reply) → is_placing e ≡ false → IsPlacedLowest m e r
places_nothing m e r other u shape is = absurd (both_ways (is_placing e) other (ap is_placing is))

abbrev shape_in : Shape → Event Meaning → Shape
shape_in other (event.Place u shape) = shape
shape_in other e = other

-- a place at the lowest base
pub places_there : (m : Plain) (u : UnitId) (shape : Shape) (r : Reply) → IsLowest m shape r → IsPlacedLowest m (event.Place u shape) r
places_there m u shape r lowest v other is = subst (λ s. IsLowest m s r) (ap (shape_in shape) is) lowest

-- no call
pub lowest_none : (h : List (Entry Meaning)) → PlacesLowest h []
lowest_none h = All-nil (IsCalledLowest h)

-- one call, at the lowest base of the history before it
one_lowest : (before : List (Entry Meaning)) (e : Entry Meaning) → IsPlacedLowest (state before) e.event e.reply → (h : List (Entry Meaning)) → take (length before) h ≡ before → PlacesLowest h ((length before + 1, e) ∷ [])
one_lowest before e lowest h starts =
    let last : length before + 1 - 1 ≡ length before = omega arith in
    let same : take (length before + 1 - 1) h ≡ before = ap (λ k. take k h) last ∙ starts in
    All-cons (IsCalledLowest h) (length before + 1, e) []
    (λ u shape is. subst (λ l. IsLowest (state l) shape e.reply) (sym same) (lowest u shape is)) (lowest_none h)

-- two lists of calls
lowest_both : (h : List (Entry Meaning)) (cs ds : List (ℕ × Entry Meaning)) → PlacesLowest h cs → PlacesLowest h ds → PlacesLowest h (cs ++ ds)
lowest_both h cs ds a b = All-append (IsCalledLowest h) cs ds a b

module _ {U N : Type 0} (means : U → Meaning) (hears : N → Option Outcome) where
  -- a promise, and what is said of all calls: these were told at them, and what they placed is at the lowest base
  abbrev With : Promise → List (Notice N) → Promise
  With P told h cs = P h cs × ToldAt h cs told × PlacesLowest h cs

  -- one call that keeps the promise, at which these were told
  pub does_one : (v w : View (Entry U)) (before : List (Entry Meaning)) (e : Entry Meaning) (from to told : List (Notice N)) → to ≡ from ++ told → AreHeard hears told → AreTold (before ++ e ∷ []) told → IsPlacedLowest (state before) e.event e.reply →
      (P : Promise) → ((h : List (Entry Meaning)) (cs : List (ℕ × Entry Meaning)) → Single before e h cs → P h cs) → Did means v w (Single before e) → Does means hears v w from to P
  does_one v w before e from to told added heard_it at_it lowest P each did = record {
    told = told;
    added = added;
    heard_it = heard_it;
    did = less_is_done means v w (Single before e) (With P told) follows did;
  }
    where
      follows : (h : List (Entry Meaning)) (cs : List (ℕ × Entry Meaning)) → Single before e h cs → With P told h cs
      follows h cs s = let n = length before + 1 in (
        each h cs s,
        subst (λ l. ToldAt h l told) (sym s.0) (subst (ToldAt h ((n, e) ∷ [])) (append-nil told) (Call n e [] told [] (subst (λ l. AreTold l told) (sym s.2) at_it) Nobody)),
        subst (PlacesLowest h) (sym s.0) (one_lowest before e lowest h s.1),
      )

  -- no call
  pub does_none : (v w : View (Entry U)) (from : List (Notice N)) (P : Promise) → ((h : List (Entry Meaning)) → P h []) → Did means v w Nothing → Does means hears v w from from P
  does_none v w from P each did = record {
    told = [];
    added = sym (append-nil from);
    heard_it = All-nil (λ n. hears n.what ≡ Option.Some n.outcome);
    did = less_is_done means v w Nothing (With P []) (λ h cs none. subst (With P [] h) (sym none) (each h, Nobody, lowest_none h)) did;
  }

  -- one part and then the other
  pub does_both : (u v w : View (Entry U)) (a b c : List (Notice N)) (P Q R : Promise) → ((h : List (Entry Meaning)) (cs ds : List (ℕ × Entry Meaning)) → P h cs → Q h ds → R h (cs ++ ds)) →
      Does means hears u v a b P → Does means hears v w b c Q → Does means hears u w a c R
  does_both u v w a b c P Q R both first second = record {
    told = first.told ++ second.told;
    added = second.added ∙ (ap (λ l. l ++ second.told) first.added ∙ append_assoc a first.told second.told);
    heard_it = All-append (λ n. hears n.what ≡ Option.Some n.outcome) first.told second.told first.heard_it second.heard_it;
    did = less_is_done means u w (Then (With P first.told) (With Q second.told)) (With R (first.told ++ second.told)) join (parts_are_done means u v w (With P first.told) (With Q second.told) first.did second.did);
  }
    where
      join : (h : List (Entry Meaning)) (cs : List (ℕ × Entry Meaning)) → Then (With P first.told) (With Q second.told) h cs → With R (first.told ++ second.told) h cs
      join h cs (xs, ys, same, p, q) = subst (With R (first.told ++ second.told) h) (sym same) (both h xs ys p.0 q.0, told_both h xs ys first.told second.told p.1 q.1, lowest_both h xs ys p.2 q.2)

  -- another promise that follows
  pub does_less : (v w : View (Entry U)) (a b : List (Notice N)) (P Q : Promise) → ((h : List (Entry Meaning)) (cs : List (ℕ × Entry Meaning)) → P h cs → Q h cs) → Does means hears v w a b P → Does means hears v w a b Q
  does_less v w a b P Q follows d = record {
    told = d.told;
    added = d.added;
    heard_it = d.heard_it;
    did = less_is_done means v w (With P d.told) (With Q d.told) (λ h cs p. (follows h cs p.0, p.1, p.2)) d.did;
  }
