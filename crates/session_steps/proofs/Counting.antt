-- An event that the journal isn't too full for has a free place.
use Rattle.std.proofs.Common.{◌≡◌, ℕ, zero, suc, ◌+◌, ◌≤◌, ◌<◌, inl, inr, Bool, true, false, cond, List, [], ◌∷◌, length, slice_get, Option, Some, None, is_some, refl, ap, sym, subst, ◌∙◌, arith, count_by}
use Rattle.std.specs.Bool.{if◌then◌else◌}
use Rattle.std.specs.Prelude.{nat_eq}
use Rattle.std.specs.Option.{option_map_or}
use Rattle.std.proofs.lemmas.Bool.{ltb-false, lt-ltb, le-ltb}
use Rattle.std.proofs.lemmas.List.{length-append}
use Rattle.std.proofs.lemmas.List.Sums.{sum_by-cons}
use Rattle.std.proofs.lemmas.Option.{none-some, same_Some}
use Rattle.session_model.specs.Meaning.{Meaning}
use Rattle.session_model.specs.Plain.{Plain, UnitRow, empty, kept}
use Rattle.session_model.specs.Answer.{is_held}
use Rattle.session_model.specs.History.{is_full, places}
use Rattle.session_model.specs.State.{state, state_from, after, plain_history}
use Rattle.session_model.specs.declared.entry.Entry.{Entry}
use Rattle.session_model.specs.declared.entry.Event.{Event}
use Rattle.session_model.specs.declared.entry.Event.TheVariants as event
use Rattle.session_laws.proofs.Declared.{entries_are, NewQuery, after_query}
use Rattle.session_steps.specs.Performs.{state_of, lacks_places}

counted_one : {X : Type 0} (p : X → Bool) (xs : List X) (k : ℕ) (x : X) → slice_get xs k ≡ Some x → p x ≡ true → 1 ≤ count_by p xs
counted_one p [] k x t h = absurd (none-some x t)
counted_one p (y ∷ ys) zero x t h = subst (λ n. 1 ≤ n) (sym (sum_by-cons (λ z. cond (p z) 1 0) y ys ∙ ap (λ b. cond b 1 0 + count_by p ys) (ap p (same_Some y x t) ∙ h))) (omega arith)
counted_one p (y ∷ ys) (suc k) x t h = subst (λ n. 1 ≤ n) (sym (sum_by-cons (λ z. cond (p z) 1 0) y ys)) (omega (arith, counted_one p ys k x t h))

-- a unit that a seat holds is counted
held_counted : (m : Plain) (s u : ℕ) (o : Option UnitRow) → slice_get m.units u ≡ o → option_map_or (is_held s) o false ≡ true → 1 ≤ kept m
held_counted m s u None t h = absurd cc
held_counted m s u (Some x) t h = counted_one (λ (y : UnitRow). is_some y.seat) m.units u x t (seated x.seat h)
  where
    seated : (o : Option ℕ) → option_map_or (nat_eq s) o false ≡ true → is_some o ≡ true
    seated None h = absurd cc
    seated (Some n) h = refl

pub free_place : (jmax : ℕ) (m : Plain) (s : ℕ) (e : Event Meaning) → is_full jmax m s e ≡ false → m.entries + kept m ≤ jmax → m.entries < jmax
free_place jmax m s e f within = by e (ltb-false jmax (m.entries + kept m + places m s e) f)
  where
    by : (e : Event Meaning) → m.entries + kept m + places m s e ≤ jmax → m.entries < jmax
    by (event.Fail u why) b = split (option_map_or (is_held s) (slice_get m.units u.0) false) refl b
      where
        split : (h : Bool) → option_map_or (is_held s) (slice_get m.units u.0) false ≡ h → m.entries + kept m + (if h then 0 else 1) ≤ jmax → m.entries < jmax
        split true h b = omega (arith, held_counted m s u.0 (slice_get m.units u.0) refl h, b)
        split false h b = omega (arith, b)
    by event.Take b = omega (arith, b)
    by (event.Dylib name) b = omega (arith, b)
    by (event.SetOrder d order) b = omega (arith, b)
    by (event.Attach d t u) b = omega (arith, b)
    by (event.Define d t u) b = omega (arith, b)
    by (event.Generate g) b = omega (arith, b)
    by (event.Ask order wanted lev n) b = omega (arith, b)
    by (event.Collect q) b = omega (arith, b)
    by (event.Place u shape) b = omega (arith, b)
    by (event.Resolve u) b = omega (arith, b)
    by (event.Emit u groups) b = omega (arith, b)
    by (event.Tracker d) b = omega (arith, b)
    by (event.MoveTracker t to) b = omega (arith, b)
    by (event.Remove t) b = omega (arith, b)
    by event.Image b = omega (arith, b)
    by (event.Link u) b = omega (arith, b)

pub plain_length : {U : Type 0} (means : U → Meaning) (h : List (Entry U)) → length (plain_history means h) ≡ length h
plain_length means [] = refl
plain_length means (e ∷ es) = ap suc (plain_length means es)

-- the session counts the entries of its journal
pub counted : {U : Type 0} (means : U → Meaning) (h : List (Entry U)) → (state_of means h).entries ≡ length h
counted means h = entries_are (plain_history means h) ∙ plain_length means h

-- whether there are no places for so many more, by the counts
pub lacks : {U : Type 0} (means : U → Meaning) (jmax : ℕ) (h : List (Entry U)) (n k : ℕ) → k ≡ kept (state_of means h) → jmax < length h + k + n → lacks_places means jmax h n ≡ true
lacks means jmax h n k held b = lt-ltb jmax ((state_of means h).entries + kept (state_of means h) + n) (omega (arith, b, held, counted means h))

pub fits : {U : Type 0} (means : U → Meaning) (jmax : ℕ) (h : List (Entry U)) (n k : ℕ) → k ≡ kept (state_of means h) → length h + k + n ≤ jmax → lacks_places means jmax h n ≡ false
fits means jmax h n k held b = le-ltb jmax ((state_of means h).entries + kept (state_of means h) + n) (omega (arith, b, held, counted means h))

-- a query for each entry at most
pub few_queries : (h : List (Entry Meaning)) → length (state h).queries ≤ (state h).entries
few_queries h = from empty h (omega arith)
  where
    one : (m : Plain) (e : Entry Meaning) → length m.queries ≤ m.entries → length (after m e).queries ≤ m.entries + 1
    one m e b = split (after_query m e)
      where
        split : NewQuery m (after m e).queries → length (after m e).queries ≤ m.entries + 1
        split (inl s) = omega (arith, b, ap length s)
        split (inr q) = omega (arith, b, ap length q.1, length-append m.queries (q.0 ∷ []))

    from : (m : Plain) (h : List (Entry Meaning)) → length m.queries ≤ m.entries → length (state_from m h).queries ≤ (state_from m h).entries
    from m [] b = b
    from m (e ∷ es) b = from (after m e) es (one m e b)
