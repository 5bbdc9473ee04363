-- What a seat knows of a history stays true of it after entries of other seats.
use Rattle.std.proofs.Common.{◌≡◌, ℕ, Bool, true, false, eqb, eq-eqb, cond, List, [], ◌∷◌, ◌++◌, length, zero, suc, arith, option_and_then, refl, ap, sym, subst, ◌∙◌}
use Rattle.std.proofs.lemmas.List.{map-append}
use Rattle.std.proofs.lemmas.Bool.{false≢true}
use Rattle.std.proofs.lemmas.Option.{none-some, same_Some}
use Rattle.orc_ids.specs.declared.groups.Group.{Group}
use Rattle.orc_ids.specs.declared.ids.UnitId.{UnitId}
use Rattle.orc_ids.specs.declared.place.Shape.{Shape}
use Rattle.session_model.specs.Meaning.{Meaning}
use Rattle.session_model.specs.Plain.{phase_address}
use Rattle.session_model.specs.Answer.{HasSource}
use Rattle.session_model.specs.Reach.{IsReady}
use Rattle.session_model.specs.State.{plain_entry, plain_history, state}
use Rattle.session_model.specs.History.{IsLegal, HasPlaces}
use Rattle.session_model.specs.declared.entry.Entry.{Entry}
use Rattle.session_model.specs.declared.entry.Why.{Why}
use Rattle.session_laws.specs.Holding.{AllOthers}
use Rattle.session_laws.specs.Readiness.{phase_at}
use Rattle.session_laws.proofs.Declared.{prefixes_legal, same_element, ready_stays_ready}
use Rattle.session_steps.specs.Allowed.{MayPlace, MayEmit, MayFail}
use Rattle.turn_lock.specs.Lists.{entries_of}
use Rattle.history_laws.specs.Conditions.{Stays}
use Rattle.history_laws.proofs.Calling.{place_stays, emit_stays, fail_stays}
use Rattle.history_laws.proofs.Dylibs.{source_stays}
use Rattle.shared_session.specs.Home.{IsLawful, IsPosted, seat_of}

module _ {U : Type 0} (means : U → Meaning) (jmax : ℕ) where
  -- what a history that goes on is to the definitions
  pub joined : (h more : List (Entry U)) → plain_history means (h ++ more) ≡ plain_history means h ++ plain_history means more
  joined h more = map-append (plain_entry means) h more

  pub legal_joined : (h more : List (Entry U)) → IsLawful means jmax (h ++ more) → IsLegal jmax (plain_history means h ++ plain_history means more)
  legal_joined h more lawful = subst (IsLegal jmax) (joined h more) lawful.legal

  pub places_joined : (h more : List (Entry U)) → IsLawful means jmax (h ++ more) → HasPlaces jmax (plain_history means h ++ plain_history means more)
  places_joined h more lawful = subst (HasPlaces jmax) (joined h more) lawful.places

  -- what a lawful history begins with is lawful
  pub lawful_before : (before more : List (Entry U)) → IsLawful means jmax (before ++ more) → IsLawful means jmax before
  lawful_before before more lawful = record {
    legal = (prefixes_legal jmax (plain_history means before) (plain_history means more)).0 (legal_joined before more lawful);
    places = (prefixes_legal jmax (plain_history means before) (plain_history means more)).1 (places_joined before more lawful);
  }

  -- an instance that is ready stays so, at its address
  pub stays_posted : (before : List (Entry U)) (e : Entry U) (k v : ℕ) → IsLawful means jmax (before ++ e ∷ []) → IsPosted means before k v → IsPosted means (before ++ e ∷ []) k v
  stays_posted before e k v lawful posted =
      let kept = ready_stays_ready jmax (plain_history means before) (plain_history means (e ∷ [])) (legal_joined before (e ∷ []) lawful) k posted.ready in
      let same = sym (joined before (e ∷ [])) in
      record {
        ready = subst (λ h. IsReady (state h).rows k) same kept.0;
        stands = ap (option_and_then phase_address) (ap (λ h. phase_at (state h).rows k) (sym same) ∙ kept.1) ∙ posted.stands;
        not_zero = posted.not_zero;
      }

  -- at one address
  pub posted_once : (log : List (Entry U)) (k v w : ℕ) → IsLawful means jmax log → IsPosted means log k v → IsPosted means log k w → v ≡ w
  posted_once log k v w lawful p q = same_element (option_and_then phase_address (phase_at (state (plain_history means log)).rows k)) v w p.stands q.stands

module _ {U : Type 0} (means : U → Meaning) (s : ℕ) where
  chosen_none : (c : Bool) (x : Entry U) (xs : List (Entry U)) → cond c (x ∷ xs) xs ≡ [] → (c ≡ false) × (xs ≡ [])
  chosen_none true x xs none = let some : length (x ∷ xs) ≡ 0 = ap length none in absurd (omega arith)
  chosen_none false x xs none = (refl, none)

  first_other : (x : Entry U) (xs : List (Entry U)) → entries_of seat_of s (x ∷ xs) ≡ [] → seat_of x ≡ s → ⊥
  first_other x xs none its = false≢true (sym (chosen_none (eqb (seat_of x) s) x (entries_of seat_of s xs) none).0 ∙ eq-eqb (seat_of x) s its)

  -- where a list has no entry of a seat all are of others
  pub all_others : (more : List (Entry U)) → entries_of seat_of s more ≡ [] → AllOthers s (plain_history means more)
  all_others [] none k e there its = none-some e there
  all_others (x ∷ xs) none zero e there its = first_other x xs none (ap (λ (y : Entry Meaning). y.seat.0) (same_Some (plain_entry means x) e there) ∙ its)
  all_others (x ∷ xs) none (suc k) e there its = all_others xs (chosen_none (eqb (seat_of x) s) x (entries_of seat_of s xs) none).1 k e there its

module _ {U : Type 0} (means : U → Meaning) (jmax s : ℕ) where
  -- a condition that other seats leave holds of the longer history
  pub is_carried : (P : List (Entry Meaning) → Type 0) → Stays jmax s P → (h more : List (Entry U)) → IsLawful means jmax (h ++ more) → entries_of seat_of s more ≡ [] → P (plain_history means h) → P (plain_history means (h ++ more))
  is_carried P stays h more lawful others known = subst P (sym (joined means jmax h more))
      (stays (plain_history means h) (plain_history means more) (legal_joined means jmax h more lawful) (places_joined means jmax h more lawful) (all_others means s more others) known)

  pub source_is_carried : (u : Meaning) (h more : List (Entry U)) → IsLawful means jmax (h ++ more) → entries_of seat_of s more ≡ [] → HasSource (state (plain_history means h)) u → HasSource (state (plain_history means (h ++ more))) u
  source_is_carried u = is_carried (λ h. HasSource (state h) u) (source_stays jmax s u)

  pub place_is_carried : (u : UnitId) (shape : Shape) (h more : List (Entry U)) → IsLawful means jmax (h ++ more) → entries_of seat_of s more ≡ [] → MayPlace (state (plain_history means h)) s u shape → MayPlace (state (plain_history means (h ++ more))) s u shape
  place_is_carried u shape = is_carried (λ h. MayPlace (state h) s u shape) (place_stays jmax s u shape)

  pub emit_is_carried : (u : UnitId) (groups : List Group) (bytes : List ℕ) (h more : List (Entry U)) → IsLawful means jmax (h ++ more) → entries_of seat_of s more ≡ [] → MayEmit (state (plain_history means h)) s u groups bytes → MayEmit (state (plain_history means (h ++ more))) s u groups bytes
  emit_is_carried u groups bytes = is_carried (λ h. MayEmit (state h) s u groups bytes) (emit_stays jmax s u groups bytes)

  pub fail_is_carried : (u : UnitId) (why : Why) (h more : List (Entry U)) → IsLawful means jmax (h ++ more) → entries_of seat_of s more ≡ [] → MayFail jmax (plain_history means h) (state (plain_history means h)) s u why → MayFail jmax (plain_history means (h ++ more)) (state (plain_history means (h ++ more))) s u why
  fail_is_carried u why = is_carried (λ h. MayFail jmax h (state h) s u why) (fail_stays jmax s u why)
