-- Inductions along a legal history.
use Rattle.std.proofs.Common.{List, [], ◌∷◌, ◌++◌, append_assoc, append-nil, subst, sym, ℕ}
use Rattle.session_model.specs.Meaning.{Meaning}
use Rattle.session_model.specs.Plain.{Plain, UnitRow, empty}
use Rattle.session_model.specs.Change.{change_of, changed, settled}
use Rattle.session_model.specs.State.{state}
use Rattle.session_model.specs.Answer.{Answers}
use Rattle.session_model.specs.History.{IsLegal}
use Rattle.session_model.specs.declared.change.Change.{Change}
use Rattle.session_model.specs.declared.entry.Entry.{Entry}
use Rattle.session_model.specs.declared.rows.InstRow.{InstRow}
use Rattle.session_model.specs.declared.rows.Query.{Query}
use Rattle.session_laws.proofs.Declared.{prefixes_legal, one_more_legal, state_from_push, guard_of, sound_changed, legal_is_sound, Guard}
use Rattle.session_laws.specs.Sound.{IsSound}

-- one more entry of a legal history
pub record OneMore (jmax : ℕ) (h : List (Entry Meaning)) (e : Entry Meaning) : Type 0 where
  pub legal : IsLegal jmax (h ++ e ∷ [])
  pub before : IsLegal jmax h
  pub answers : Answers jmax h (state h) e.seat.0 e.event e.reply
  pub sound : IsSound (state h)
  pub guard : Guard (state h) e.seat.0 (change_of (state h) e.seat.0 e.event e.reply)

pub one_more : (jmax : ℕ) (h : List (Entry Meaning)) (e : Entry Meaning) → IsLegal jmax (h ++ e ∷ []) → OneMore jmax h e
one_more jmax h e l =
    let before = (prefixes_legal jmax h (e ∷ [])).0 l in
    let answers = (one_more_legal jmax h e).1 l in
    record { legal = l; before = before; answers = answers; sound = legal_is_sound jmax h before; guard = guard_of jmax h (state h) e.seat.0 e.event e.reply answers }

-- what each entry keeps
pub kept_along : (jmax : ℕ) (P : List (Entry Meaning) → Type 0) → ((h : List (Entry Meaning)) (e : Entry Meaning) → OneMore jmax h e → P h → P (h ++ e ∷ [])) → (past h : List (Entry Meaning)) → IsLegal jmax (past ++ h) → P past → P (past ++ h)
kept_along jmax P step past [] l p = subst P (sym (append-nil past)) p
kept_along jmax P step past (e ∷ es) l p =
    let legal = subst (IsLegal jmax) (sym (append_assoc past (e ∷ []) es)) l in
    let one = one_more jmax past e ((prefixes_legal jmax (past ++ e ∷ []) es).0 legal) in
    subst P (append_assoc past (e ∷ []) es) (kept_along jmax P step (past ++ e ∷ []) es legal (step past e one p))

abbrev pub OnParts : (List InstRow → List UnitRow → List Query → Type 0) → Plain → Type 0
OnParts Q m = Q m.rows m.units m.queries

-- what each change and each settling keep
pub kept_by_changes : (Q : List InstRow → List UnitRow → List Query → Type 0) →
    ((m : Plain) (s : ℕ) (c : Change Meaning) → IsSound m → Guard m s c → OnParts Q m → OnParts Q (changed c m)) →
    ((m : Plain) → IsSound m → OnParts Q m → OnParts Q (settled m)) →
    (jmax : ℕ) (past h : List (Entry Meaning)) → IsLegal jmax (past ++ h) → OnParts Q (state past) → OnParts Q (state (past ++ h))
kept_by_changes Q change settle jmax past h l p = kept_along jmax (λ g. OnParts Q (state g)) step past h l p
  where
    step : (g : List (Entry Meaning)) (e : Entry Meaning) → OneMore jmax g e → OnParts Q (state g) → OnParts Q (state (g ++ e ∷ []))
    step g e one q =
        let c = change_of (state g) e.seat.0 e.event e.reply in
        subst (OnParts Q) (sym (state_from_push empty g e))
        (settle (changed c (state g)) (sound_changed (state g) e.seat.0 c one.sound one.guard) (change (state g) e.seat.0 c one.sound one.guard q))
