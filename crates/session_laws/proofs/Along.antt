-- Inductions along a history.
use Rattle.std.proofs.Common.{◌≡◌, ℕ, List, [], ◌∷◌, ◌++◌, append_assoc, subst, sym, refl, ap, append-nil, ◌∙◌}
use Rattle.session_model.specs.Meaning.{Meaning}
use Rattle.session_model.specs.Plain.{Plain, empty}
use Rattle.session_model.specs.State.{after, state_from}
use Rattle.session_model.specs.Answer.{Answers}
use Rattle.session_model.specs.History.{LegalFrom, HasPlacesFrom}
use Rattle.session_model.specs.declared.entry.Entry.{Entry}
use Rattle.session_laws.specs.Histories.{Leads, StateIsUnique, OneMoreIsLegal, PrefixesAreLegal, EmptyIsLegal}

pub empty_legal : EmptyIsLegal
empty_legal jmax = (tt, tt)

legal_front : (jmax : ℕ) (past : List (Entry Meaning)) (m : Plain) (h more : List (Entry Meaning)) → LegalFrom jmax past m (h ++ more) → LegalFrom jmax past m h
legal_front jmax past m [] more l = tt
legal_front jmax past m (e ∷ es) more l = (l.0, legal_front jmax (past ++ e ∷ []) (after m e) es more l.1)

places_front : (jmax : ℕ) (m : Plain) (h more : List (Entry Meaning)) → HasPlacesFrom jmax m (h ++ more) → HasPlacesFrom jmax m h
places_front jmax m [] more l = tt
places_front jmax m (e ∷ es) more l = (l.0, places_front jmax (after m e) es more l.1)

pub prefixes_legal : PrefixesAreLegal
prefixes_legal jmax h more = (legal_front jmax [] empty h more, places_front jmax empty h more)

pub state_from_push : (m : Plain) (h : List (Entry Meaning)) (e : Entry Meaning) → state_from m (h ++ e ∷ []) ≡ after (state_from m h) e
state_from_push m [] e = refl
state_from_push m (f ∷ fs) e = state_from_push (after m f) fs e

legal_push : (jmax : ℕ) (past : List (Entry Meaning)) (m : Plain) (h : List (Entry Meaning)) (e : Entry Meaning) → LegalFrom jmax past m h → Answers jmax (past ++ h) (state_from m h) e.seat.0 e.event e.reply → LegalFrom jmax past m (h ++ e ∷ [])
legal_push jmax past m [] e l a = (subst (λ p. Answers jmax p m e.seat.0 e.event e.reply) (append-nil past) a, tt)
legal_push jmax past m (f ∷ fs) e l a = (l.0, legal_push jmax (past ++ f ∷ []) (after m f) fs e l.1 (subst (λ p. Answers jmax p (state_from (after m f) fs) e.seat.0 e.event e.reply) (sym (append_assoc past (f ∷ []) fs)) a))

legal_last : (jmax : ℕ) (past : List (Entry Meaning)) (m : Plain) (h : List (Entry Meaning)) (e : Entry Meaning) → LegalFrom jmax past m (h ++ e ∷ []) → Answers jmax (past ++ h) (state_from m h) e.seat.0 e.event e.reply
legal_last jmax past m [] e l = subst (λ p. Answers jmax p m e.seat.0 e.event e.reply) (sym (append-nil past)) l.0
legal_last jmax past m (f ∷ fs) e l = subst (λ p. Answers jmax p (state_from (after m f) fs) e.seat.0 e.event e.reply) (append_assoc past (f ∷ []) fs) (legal_last jmax (past ++ f ∷ []) (after m f) fs e l.1)

pub one_more_legal : OneMoreIsLegal
one_more_legal jmax h e = (legal_push jmax [] empty h e, legal_last jmax [] empty h e, state_from_push empty h e)

leads_state : (jmax : ℕ) (past : List (Entry Meaning)) (m : Plain) (h : List (Entry Meaning)) (new : Plain) → Leads jmax past m h new → LegalFrom jmax past m h × (new ≡ state_from m h)
leads_state jmax past m [] new l = (tt, l)
leads_state jmax past m (e ∷ es) new l = go (leads_state jmax (past ++ e ∷ []) l.0 es new l.2)
  where
    go : LegalFrom jmax (past ++ e ∷ []) l.0 es × (new ≡ state_from l.0 es) → LegalFrom jmax past m (e ∷ es) × (new ≡ state_from m (e ∷ es))
    go r = ((l.1.answered, subst (λ n. LegalFrom jmax (past ++ e ∷ []) n es) l.1.leads r.0), r.1 ∙ ap (λ n. state_from n es) l.1.leads)

state_leads : (jmax : ℕ) (past : List (Entry Meaning)) (m : Plain) (h : List (Entry Meaning)) (new : Plain) → LegalFrom jmax past m h → new ≡ state_from m h → Leads jmax past m h new
state_leads jmax past m [] new l e = e
state_leads jmax past m (f ∷ fs) new l e = (after m f, record { answered = l.0; leads = refl }, state_leads jmax (past ++ f ∷ []) (after m f) fs new l.1 e)

pub state_unique : StateIsUnique
state_unique jmax h m = (leads_state jmax [] empty h m, λ p. state_leads jmax [] empty h m p.0 p.1)
