-- The history of one lookup is legal, step by step.
use Rattle.std.proofs.Common.{◌≡◌, ℕ, zero, suc, ◌+◌, ◌-◌, ◌<◌, ◌≤◌, false, [], ◌∷◌, take, Some, None, arith, refl, subst, sym}
use Rattle.orc_ids.specs.declared.lookup.Level.TheVariants.{Resolved, Ready}
use Rattle.session_model.specs.Query.{is_met}
use Rattle.graph_walks.specs.Walks.{within}
use Rattle.session_model.specs.State.{state, IsEnd}
use Rattle.session_laws.specs.Hello.{hello_history, HelloIsLegal}
use Rattle.session_model.specs.declared.rows.Ending.TheVariants.{Found}
use Rattle.session_model.specs.declared.rows.Query.{Query}

abbrev asked_query : Query
asked_query = record { asked = 4; matched = Some (record { 0 = 0 }) ∷ []; level = Ready; unit = None; note = None }

abbrev link_query : Query
link_query = record { asked = 7; matched = []; level = Resolved; unit = Some 0; note = None }

unmet_at : (j : ℕ) → j < 5 → is_met (state (take (4 + j) hello_history)).rows asked_query ≡ false
unfolding within
unmet_at zero b = refl
unmet_at (suc zero) b = refl
unmet_at (suc (suc zero)) b = refl
unmet_at (suc (suc (suc zero))) b = refl
unmet_at (suc (suc (suc (suc zero)))) b = refl
unmet_at (suc (suc (suc (suc (suc j))))) b = absurd (omega (arith, b))

unmet : (k : ℕ) → 4 ≤ k → k < 9 → is_met (state (take k hello_history)).rows asked_query ≡ false
unmet k a b = subst (λ n. is_met (state (take n hello_history)).rows asked_query ≡ false) is (unmet_at (k - 4) (omega (arith, a, b)))
  where
    is : 4 + (k - 4) ≡ k
    is = omega (arith, a)

front_same : (k : ℕ) → k < 9 → take k (take 9 hello_history) ≡ take k hello_history
front_same zero b = refl
front_same (suc zero) b = refl
front_same (suc (suc zero)) b = refl
front_same (suc (suc (suc zero))) b = refl
front_same (suc (suc (suc (suc zero)))) b = refl
front_same (suc (suc (suc (suc (suc zero))))) b = refl
front_same (suc (suc (suc (suc (suc (suc zero)))))) b = refl
front_same (suc (suc (suc (suc (suc (suc (suc zero))))))) b = refl
front_same (suc (suc (suc (suc (suc (suc (suc (suc zero)))))))) b = refl
front_same (suc (suc (suc (suc (suc (suc (suc (suc (suc k))))))))) b = absurd (omega (arith, b))

-- the lookup's end, before it is collected
lookup_ended : IsEnd (take 9 hello_history) 0 9 (Found (Some (record { 0 = 0 }, 64) ∷ []))
unfolding within
lookup_ended = record {
  query = asked_query;
  there = refl;
  ends = refl;
  settles = record { from = omega arith; here = omega arith; met = refl; first = λ k a b. subst (λ h. is_met (state h).rows asked_query ≡ false) (sym (front_same k b)) (unmet k a b) };
}

-- the link query's end, before its job is handed out
link_ended : IsEnd (take 7 hello_history) 1 7 (Found [])
unfolding within
link_ended = record {
  query = link_query;
  there = refl;
  ends = refl;
  settles = record { from = omega arith; here = omega arith; met = refl; first = λ k a b. absurd (omega (arith, a, b)) };
}

pub hello_is_legal : HelloIsLegal
unfolding within
hello_is_legal = (
  (refl, (refl, ((tt, refl), ((omega arith, omega arith, refl), (refl, (refl, (refl, ((refl, record { unit = _; there = refl; query = 1; its = refl; at = 7; ended = link_ended }), ((refl, refl, refl), (lookup_ended, tt)))))))))),
  (refl, (refl, (refl, (refl, (refl, (refl, (refl, (refl, (refl, (refl, tt)))))))))),
)
