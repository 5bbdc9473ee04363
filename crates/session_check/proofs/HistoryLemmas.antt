-- A history goes wrong at one place at most, and its fronts grow by one entry.
use Rattle.std.proofs.Common.{◌≡◌, ◌↔◌, ℕ, ◌+◌, ◌^◌, ◌<◌, ◌≤◌, List, [], ◌∷◌, ◌++◌, take, length, slice_get, Option, Some, None, ◌⊎◌, inl, inr, subst, sym, ap, ◌∙◌, arith}
use Rattle.std.specs.Prelude.{Bool, false, IsTrue}
use Rattle.std.proofs.lemmas.Bool.{both_ways, cases_lt}
use Rattle.std.proofs.lemmas.List.{take-take, take-map, take_all}
use Rattle.std.proofs.lemmas.Option.{same_Some, none-some}
use Rattle.session_model.specs.Meaning.{Meaning}
use Rattle.session_model.specs.History.{IsLegal}
use Rattle.session_model.specs.Answer.{Answers}
use Rattle.session_model.specs.Plain.{Plain, empty}
use Rattle.session_model.specs.State.{after, plain_entry, plain_event, plain_history, state}
use Rattle.session_model.specs.declared.entry.Entry.{Entry}
use Rattle.session_laws.proofs.Declared.{one_more_legal, state_from_push, mapped_length, entries_are, front_legal}
use Rattle.session_check.specs.Replay.{LedTo}
use Rattle.session_check.specs.Wrong.{GoesWrongAt}
use Rattle.session_past.specs.Ends.{AreEnds}
use Rattle.session_past.specs.Fit.{FitStays, IsFit}
use Rattle.session_past.specs.declared.ends.Settled.{Settled}
use Rattle.session_past.proofs.CauseLemmas.{taken_more}

-- a front of a legal front is legal
shorter_legal : (jmax : ℕ) (h : List (Entry Meaning)) (a b : ℕ) → a ≤ b → IsLegal jmax (take b h) → IsLegal jmax (take a h)
shorter_legal jmax h a b c l = subst (IsLegal jmax) (take-take a b h c) (front_legal jmax (take b h) a l)

wrong_once : (jmax : ℕ) (h : List (Entry Meaning)) (j k : ℕ) → GoesWrongAt jmax h j → GoesWrongAt jmax h k → j ≡ k
wrong_once jmax h j k a b = at (cases_lt j k) (cases_lt k j)
  where
    at : (j < k) ⊎ (k ≤ j) → (k < j) ⊎ (j ≤ k) → j ≡ k
    at (inl c) d = absurd (a.1 (shorter_legal jmax h (j + 1) k (omega (arith, c)) b.0))
    at (inr c) (inl d) = absurd (b.1 (shorter_legal jmax h (k + 1) j (omega (arith, d)) a.0))
    at (inr c) (inr d) = omega (arith, c, d)

-- what the number of a wrong entry says
pub wrong_unlegal : (jmax : ℕ) (h : List (Entry Meaning)) (k : ℕ) → GoesWrongAt jmax h k → (Some k ≡ None) ↔ IsLegal jmax h
wrong_unlegal jmax h k w = (λ e. absurd (none-some k (sym e)), λ l. absurd (w.1 (front_legal jmax h (k + 1) l)))

pub wrong_first : (jmax : ℕ) (h : List (Entry Meaning)) (k : ℕ) → GoesWrongAt jmax h k → (j : ℕ) → (Some k ≡ Some j) ↔ GoesWrongAt jmax h j
wrong_first jmax h k w j = (λ e. subst (GoesWrongAt jmax h) (same_Some k j e) w, λ v. ap Some (wrong_once jmax h k j w v))

-- what none says
pub legal_first : (jmax : ℕ) (h : List (Entry Meaning)) → IsLegal jmax h → (j : ℕ) → (None ≡ Some j) ↔ GoesWrongAt jmax h j
legal_first jmax h l j = (λ e. absurd (none-some j e), λ w. absurd (w.1 (front_legal jmax h (j + 1) l)))

-- one more entry of a front
pub front_more : {U : Type 0} (means : U → Meaning) (h : List (Entry U)) (k : ℕ) (e : Entry U) → slice_get h k ≡ Some e →
    plain_history means (take (k + 1) h) ≡ plain_history means (take k h) ++ plain_entry means e ∷ []
front_more means h k e there = taken_more (plain_entry means) h k e there

pub front_of : {U : Type 0} (means : U → Meaning) (h : List (Entry U)) (k : ℕ) → plain_history means (take k h) ≡ take k (plain_history means h)
front_of means h k = sym (take-map (plain_entry means) k h)

-- a session counts the entries that led to it
pub counted : {U : Type 0} (means : U → Meaning) (past : List (Entry U)) (m : Plain) (ends : List (Option Settled)) → LedTo (plain_history means past) m ends → length past < 2 ^ 32 → m.entries < 2 ^ 32
counted means past m ends l b = subst (λ n. n < 2 ^ 32) (sym (ap (λ n. n.entries) l.leads ∙ (entries_are (plain_history means past) ∙ mapped_length (plain_entry means) past))) b

-- the session after the next entry, where its reply is right
pub led_on : (jmax : ℕ) (past : List (Entry Meaning)) (e : Entry Meaning) (m new : Plain) (ends ended : List (Option Settled)) → LedTo past m ends → Answers jmax past m e.seat.0 e.event e.reply → new ≡ after m e →
    (new ≡ state (past ++ e ∷ []) → AreEnds past (state past) ends → AreEnds (past ++ e ∷ []) new ended) → FitStays → LedTo (past ++ e ∷ []) new ended
led_on jmax past e m new ends ended l a is f stays = record {
  leads = leads;
  known = f leads (subst (λ n. AreEnds past n ends) l.leads l.known);
  fit = subst IsFit (sym is) (stays jmax past m e l.fit a);
}
  where
    leads : new ≡ state (past ++ e ∷ [])
    leads = is ∙ (ap (λ n. after n e) l.leads ∙ sym (state_from_push empty past e))

-- and the history with it is legal just where its reply is right
pub legal_on : (jmax : ℕ) (past : List (Entry Meaning)) (e : Entry Meaning) (m : Plain) (ends : List (Option Settled)) → LedTo past m ends → IsLegal jmax past → Answers jmax past m e.seat.0 e.event e.reply ↔ IsLegal jmax (past ++ e ∷ [])
legal_on jmax past e m ends l a =
    let one = one_more_legal jmax past e in
    (λ r. one.0 a (subst (λ n. Answers jmax past n e.seat.0 e.event e.reply) l.leads r), λ i. subst (λ n. Answers jmax past n e.seat.0 e.event e.reply) (sym l.leads) (one.1 i))

-- the history goes wrong at an entry whose reply isn't right
pub stops_here : {U : Type 0} (means : U → Meaning) (jmax : ℕ) (h : List (Entry U)) (k : ℕ) (e : Entry U) (m : Plain) (ends : List (Option Settled)) (b : Bool) → slice_get h k ≡ Some e →
    LedTo (plain_history means (take k h)) m ends → IsLegal jmax (plain_history means (take k h)) → IsTrue b ↔ Answers jmax (plain_history means (take k h)) m e.seat.0 (plain_event means e.event) e.reply →
    b ≡ false → GoesWrongAt jmax (plain_history means h) k
stops_here means jmax h k e m ends b there l a right n = (subst (IsLegal jmax) (front_of means h k) a, wrong)
  where
    wrong : IsLegal jmax (take (k + 1) (plain_history means h)) → ⊥
    wrong w =
        let more : IsLegal jmax (plain_history means (take k h) ++ plain_entry means e ∷ []) = subst (IsLegal jmax) (sym (front_of means h (k + 1)) ∙ front_more means h k e there) w in
        both_ways b n (right.1 ((legal_on jmax (plain_history means (take k h)) (plain_entry means e) m ends l a).1 more))

-- and goes on past one whose reply is
pub goes_on : {U : Type 0} (means : U → Meaning) (jmax : ℕ) (h : List (Entry U)) (k : ℕ) (e : Entry U) (m : Plain) (ends : List (Option Settled)) (b : Bool) → slice_get h k ≡ Some e →
    LedTo (plain_history means (take k h)) m ends → IsLegal jmax (plain_history means (take k h)) → IsTrue b ↔ Answers jmax (plain_history means (take k h)) m e.seat.0 (plain_event means e.event) e.reply →
    IsTrue b → IsLegal jmax (plain_history means (take (k + 1) h))
goes_on means jmax h k e m ends b there l a right t =
    subst (IsLegal jmax) (sym (front_more means h k e there)) ((legal_on jmax (plain_history means (take k h)) (plain_entry means e) m ends l a).0 (right.0 t))

pub led_more : {U : Type 0} (means : U → Meaning) (h : List (Entry U)) (k : ℕ) (e : Entry U) (new : Plain) (ended : List (Option Settled)) → slice_get h k ≡ Some e →
    LedTo (plain_history means (take k h) ++ plain_entry means e ∷ []) new ended → LedTo (plain_history means (take (k + 1) h)) new ended
led_more means h k e new ended there l = subst (λ p. LedTo p new ended) (sym (front_more means h k e there)) l

-- a front that is the whole
pub whole_legal : {U : Type 0} (means : U → Meaning) (jmax : ℕ) (h : List (Entry U)) (k : ℕ) → length h ≤ k → IsLegal jmax (plain_history means (take k h)) → IsLegal jmax (plain_history means h)
whole_legal means jmax h k b a = subst (λ l. IsLegal jmax (plain_history means l)) (take_all k h b) a
