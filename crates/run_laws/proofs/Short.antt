-- How long the history of a run is.
use Rattle.std.proofs.Common.{◌≡◌, ℕ, zero, suc, ◌+◌, ◌*◌, ◌<◌, ◌≤◌, List, [], ◌∷◌, ◌++◌, length, All, refl, sym, ap, subst, arith, append-nil}
use Rattle.std.specs.List.{AllByRecursion}
use Rattle.std.proofs.lemmas.List.{length-append}
use Rattle.std.proofs.lemmas.List.Elements.{All-head, All-tail}
use Rattle.orc_ids.specs.declared.ids.NameId.{NameId}
use Rattle.session_model.specs.Calls.{numbered_calls}
use Rattle.session_model.specs.History.{IsLegal, LegalFrom}
use Rattle.session_model.specs.Meaning.{Meaning}
use Rattle.session_model.specs.Plain.{empty}
use Rattle.session_model.specs.State.{state}
use Rattle.session_model.specs.declared.entry.Entry.{Entry}
use Rattle.session_model.specs.declared.entry.Event.TheVariants as event
use Rattle.session_laws.proofs.Declared.{prefixes_legal, legal_is_sound, legal_rest}
use Rattle.run_laws.specs.Laws.{RunIsShort}
use Rattle.run_laws.specs.Runs.{ClientCalls, IsRunBy, lookup_of}
use Rattle.run_laws.proofs.Calm.{IsCall, IsUnoffered, is_call, never_offered}
use Rattle.run_laws.proofs.Costs.{Costs, NumberedCall, NumberedUnoffered, each_front, each_joined, jobs_cost, looks_cost, taken, total_joined}
use Rattle.run_laws.proofs.Ends.{calls_later, set_up_of}
use Rattle.run_laws.proofs.Falling.{takes, takes_within, total, two_each}
use Rattle.run_laws.proofs.Ready.{IsReady}
use Rattle.run_laws.proofs.Sums.{above, each_call, each_entry, no_calls, over_seats, seats_at_least, seats_at_most, weighed}

abbrev one : Entry Meaning → ℕ
one e = 1

total_length : {X : Type 0} (xs : List X) → total (λ x. 1) xs ≡ length xs
total_length [] = refl
total_length (x ∷ xs) = omega (arith, total_length xs)

-- what a seat's calls come to beside its takes: only the client has some
abbrev extra : ℕ → ℕ
extra zero = 0
extra (suc zero) = 3
extra (suc (suc s)) = 0

three_extra : (s : ℕ) → over_seats extra (suc (suc s)) ≤ 3
three_extra zero = omega arith
three_extra (suc s) = omega (arith, three_extra s)

extra_at_most : (s : ℕ) → over_seats extra s ≤ 3
extra_at_most zero = omega arith
extra_at_most (suc zero) = omega arith
extra_at_most (suc (suc s)) = three_extra s

seats_bounded : (g t : ℕ → ℕ) → ((s : ℕ) → g s ≤ extra s + 5 * t s) → (s : ℕ) → over_seats g s ≤ over_seats extra s + 5 * over_seats t s
seats_bounded g t each zero = omega arith
seats_bounded g t each (suc s) = omega (arith, each s, seats_bounded g t each s)

images_are_calls : (cs : List (ℕ × Entry Meaning)) → All (λ (c : ℕ × Entry Meaning). c.1.event ≡ event.Image) cs → AllByRecursion NumberedCall cs
images_are_calls [] a = tt
images_are_calls (c ∷ cs) a = (ap is_call (All-head (λ (d : ℕ × Entry Meaning). d.1.event ≡ event.Image) c cs a), images_are_calls cs (All-tail (λ (d : ℕ × Entry Meaning). d.1.event ≡ event.Image) c cs a))

module _ (jmax : ℕ) (main entry : NameId) (units : List Meaning) (h setup later : List (Entry Meaning)) (run : IsRunBy jmax main units h setup later) (looked copied : List (ℕ × Entry Meaning)) (client : ClientCalls h entry looked copied) where
  looks : Costs 2 (looked ++ client.looks.rest)
  looks = looks_cost h (lookup_of entry) (looked ++ client.looks.rest) client.looks.would

  -- the calls of each seat

  calls_of_client : AllByRecursion NumberedCall (numbered_calls 1 1 h)
  calls_of_client = subst (AllByRecursion NumberedCall) (sym client.calls) (each_joined NumberedCall looked copied (each_front NumberedCall looked client.looks.rest looks.calls) (images_are_calls copied client.copies))

  calls_of_seat : (s : ℕ) → 0 < s → AllByRecursion NumberedCall (numbered_calls s 1 h)
  calls_of_seat zero b = absurd (omega (arith, b))
  calls_of_seat (suc zero) b = calls_of_client
  calls_of_seat (suc (suc s)) b = (jobs_cost h (numbered_calls (suc (suc s)) 1 h) (run.workers_do (suc (suc s)) (omega arith))).calls

  all_calls : AllByRecursion IsCall later
  all_calls = each_entry IsCall (1 + length setup) later run.later_seats (λ s b. subst (AllByRecursion NumberedCall) (calls_later jmax main units h setup later run s b) (calls_of_seat s b))

  -- the session along them

  legal : IsLegal jmax (setup ++ later)
  legal = subst (IsLegal jmax) run.parts run.legal

  ready : IsReady (length units) (state setup)
  ready = set_up_of jmax main units h setup later run

  legal_later : LegalFrom jmax setup (state setup) later
  legal_later = legal_rest jmax [] empty setup later legal

  unoffered : AllByRecursion IsUnoffered later
  unoffered = never_offered jmax setup (state setup) later legal_later all_calls ready.generators

  few_takes : total takes later ≤ 2 * length units
  few_takes = omega (arith, takes_within jmax setup (state setup) later legal_later all_calls ready.generators (legal_is_sound jmax setup ((prefixes_legal jmax setup later).0 legal)), two_each (state setup).units, ready.few)

  unoffered_of_seat : (s : ℕ) → 0 < s → AllByRecursion NumberedUnoffered (numbered_calls s 1 h)
  unoffered_of_seat s b = subst (AllByRecursion NumberedUnoffered) (sym (calls_later jmax main units h setup later run s b)) (each_call IsUnoffered s (1 + length setup) later unoffered)

  -- their costs

  client_is_short : length copied ≤ 1 → length (numbered_calls 1 1 h) ≤ 3 + 5 * total taken (numbered_calls 1 1 h)
  client_is_short few = subst (λ l. length l ≤ 3 + 5 * total taken l) (sym client.calls)
      (omega (
        arith,
        few,
        length-append looked copied,
        total_joined taken looked copied,
        looks.few looked client.looks.rest refl (each_front NumberedUnoffered looked copied (subst (AllByRecursion NumberedUnoffered) client.calls (unoffered_of_seat 1 (omega arith)))),
      ))

  worker_is_short : (s : ℕ) → length (numbered_calls (suc (suc s)) 1 h) ≤ 0 + 5 * total taken (numbered_calls (suc (suc s)) 1 h)
  worker_is_short s = (jobs_cost h (numbered_calls (suc (suc s)) 1 h) (run.workers_do (suc (suc s)) (omega arith))).few (numbered_calls (suc (suc s)) 1 h) [] (sym (append-nil (numbered_calls (suc (suc s)) 1 h))) (unoffered_of_seat (suc (suc s)) (omega arith))

  seat_is_short : length copied ≤ 1 → (s : ℕ) → length (numbered_calls s (1 + length setup) later) ≤ extra s + 5 * total taken (numbered_calls s (1 + length setup) later)
  seat_is_short few zero = subst (λ l. length l ≤ 0 + 5 * total taken l) (sym (no_calls (1 + length setup) later run.later_seats)) (omega arith)
  seat_is_short few (suc zero) = subst (λ l. length l ≤ 3 + 5 * total taken l) (calls_later jmax main units h setup later run 1 (omega arith)) (client_is_short few)
  seat_is_short few (suc (suc s)) = subst (λ l. length l ≤ 0 + 5 * total taken l) (calls_later jmax main units h setup later run (suc (suc s)) (omega arith)) (worker_is_short s)

  seats_are_short : length copied ≤ 1 → over_seats (weighed one (1 + length setup) later) (above later) ≤ 3 + 5 * over_seats (weighed takes (1 + length setup) later) (above later)
  seats_are_short few = omega (
    arith,
    extra_at_most (above later),
    seats_bounded (weighed one (1 + length setup) later) (weighed takes (1 + length setup) later)
        (λ s. omega (arith, seat_is_short few s, total_length (numbered_calls s (1 + length setup) later))) (above later),
  )

  is_short : length copied ≤ 1 → length later ≤ 3 + 12 * length units
  is_short few = omega (arith, total_length later, seats_at_least one (1 + length setup) later (above later) (omega arith), seats_are_short few, seats_at_most takes (1 + length setup) later (above later), few_takes)

pub run_is_short : RunIsShort
run_is_short jmax main entry units h setup later run looked copied client few = is_short jmax main entry units h setup later run looked copied client few
