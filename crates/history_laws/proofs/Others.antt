-- Along entries of other seats.
use Rattle.std.proofs.Common.{◌≡◌, ℕ, zero, suc, true, false, List, [], ◌∷◌, ◌++◌, slice_get, ◌⊎◌, inl, inr, append_assoc, append-nil, subst, sym, refl, ◌∙◌, Some}
use Rattle.std.proofs.lemmas.Bool.{cases_Bool}
use Rattle.std.proofs.lemmas.Option.{none-some, same_Some}
use Rattle.session_model.proofs.Phases.{defunct_stage}
use Rattle.session_model.specs.Meaning.{Meaning}
use Rattle.session_model.specs.Plain.{Plain, UnitRow, is_defunct}
use Rattle.session_model.specs.State.{state}
use Rattle.session_model.specs.History.{IsLegal}
use Rattle.session_model.specs.declared.entry.Entry.{Entry}
use Rattle.session_laws.specs.Holding.{AllOthers}
use Rattle.session_laws.proofs.Declared.{prefixes_legal, held_stays, gone_stays_held}
use Rattle.closure_laws.proofs.Declared.{OneMore, one_more}

-- what each entry of another seat keeps
pub others_along : (jmax s : ℕ) (P : List (Entry Meaning) → Type 0) → ((h : List (Entry Meaning)) (e : Entry Meaning) → (e.seat.0 ≡ s → ⊥) → OneMore jmax h e → P h → P (h ++ e ∷ [])) →
    (past h : List (Entry Meaning)) → IsLegal jmax (past ++ h) → AllOthers s h → P past → P (past ++ h)
others_along jmax s P step past [] l o p = subst P (sym (append-nil past)) p
others_along jmax s P step past (e ∷ es) l o p =
    let legal = subst (IsLegal jmax) (sym (append_assoc past (e ∷ []) es)) l in
    let one = one_more jmax past e ((prefixes_legal jmax (past ++ e ∷ []) es).0 legal) in
    subst P (append_assoc past (e ∷ []) es) (others_along jmax s P step (past ++ e ∷ []) es legal (λ k f. o (suc k) f) (step past e (o 0 e refl) one p))

pub one_other : (s : ℕ) (e : Entry Meaning) → (e.seat.0 ≡ s → ⊥) → AllOthers s (e ∷ [])
one_other s e apart zero f is = subst (λ (g : Entry Meaning). g.seat.0 ≡ s → ⊥) (same_Some e f is) apart
one_other s e apart (suc k) f is = absurd (none-some f is)

-- the unit is the seat's, gone or not
abbrev pub IsSeated : Plain → ℕ → ℕ → Type 0
IsSeated m s u = (x : UnitRow) × (slice_get m.units u ≡ Some x) × (x.seat ≡ Some s)

pub seat_stays : (jmax : ℕ) (h more : List (Entry Meaning)) → IsLegal jmax (h ++ more) → (s u : ℕ) → AllOthers s more → IsSeated (state h) s u → IsSeated (state (h ++ more)) s u
seat_stays jmax h more l s u o p = split (cases_Bool (is_defunct p.0.phase))
  where
    split : (is_defunct p.0.phase ≡ true) ⊎ (is_defunct p.0.phase ≡ false) → IsSeated (state (h ++ more)) s u
    split (inl d) = let q = gone_stays_held jmax h more l s u p.0 p.1 p.2 (defunct_stage p.0.phase d) o in (q.0, q.1, q.3)
    split (inr d) = let q = held_stays jmax h more l s u p.0 p.1 p.2 d o in (q.unit, q.there, q.seat ∙ p.2)
