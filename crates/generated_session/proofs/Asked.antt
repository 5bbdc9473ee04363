-- What the script of such a session asks for: how many units it defines, how many lines it has, and that no line defines anything.
use Rattle.std.proofs.Common.{◌≡◌, ℕ, ◌+◌, ◌*◌, ◌≤◌, Bool, true, List, [], ◌∷◌, ◌++◌, length, map, refl, arith}
use Rattle.std.specs.List.{AllByRecursion, filter, range_with_len}
use Rattle.std.proofs.lemmas.List.FromFn.{length-range_with_len}
use Rattle.std.proofs.lemmas.List.Sums.{count_by-le-length, length-filter}
use Rattle.session_model.specs.Meaning.{Meaning}
use Rattle.session_model.specs.declared.entry.Event.{Event}
use Rattle.session_model.specs.declared.entry.Event.TheVariants as event
use Rattle.script_model.specs.Asking.{Line, LookUp, One}
use Rattle.run_laws.proofs.Costs.{each_joined, total_joined}
use Rattle.run_laws.proofs.Falling.{total}
use Rattle.generated_session.specs.Scripts.{client_lines, definitions, heads, is_head, is_removed, lookup_of, removals, runs, set_up_events, tracker_of}
use Rattle.generated_session.proofs.Frames.{defines, is_set_up}
use Rattle.generated_session.proofs.Lines.{IsTame, cost}

abbrev pub IsFirst : Event Meaning → Type 0
IsFirst v = is_set_up v ≡ true

-- ---- the set-up

definitions_first : (k : ℕ) (units : List Meaning) → AllByRecursion IsFirst (definitions k units)
definitions_first k [] = tt
definitions_first k (u ∷ us) = (refl, (refl, definitions_first (k + 1) us))

pub set_up_first : (units : List Meaning) → AllByRecursion IsFirst (set_up_events units)
set_up_first units = (refl, (refl, (refl, (refl, (refl, (refl, (refl, (refl, definitions_first 0 units))))))))

definitions_define : (k : ℕ) (units : List Meaning) → total defines (definitions k units) ≡ length units
definitions_define k [] = refl
definitions_define k (u ∷ us) = let rest = definitions_define (k + 1) us in omega (arith, rest)

pub set_up_defines : (units : List Meaning) → total defines (set_up_events units) ≡ length units
set_up_defines units = let rest = definitions_define 0 units in omega (arith, rest)

definitions_length : (k : ℕ) (units : List Meaning) → length (definitions k units) ≡ 2 * length units
definitions_length k [] = refl
definitions_length k (u ∷ us) = let rest = definitions_length (k + 1) us in omega (arith, rest)

pub set_up_length : (units : List Meaning) → length (set_up_events units) ≡ 8 + 2 * length units
set_up_length units = let rest = definitions_length 0 units in omega (arith, rest)

-- ---- the client

filter_short : (test : ℕ → Bool) (n : ℕ) → length (filter test (range_with_len 0 n)) ≤ n
filter_short test n = omega (arith, length-filter test (range_with_len 0 n), count_by-le-length test (range_with_len 0 n), length-range_with_len 0 n)

abbrev removed : ℕ → Line
removed k = One (event.Remove (tracker_of k))

abbrev looked : ℕ → Line
looked k = LookUp (lookup_of k)

runs_tame : (ks : List ℕ) → AllByRecursion IsTame (runs ks)
runs_tame [] = tt
runs_tame (k ∷ ks) = (tt, (tt, runs_tame ks))

removed_tame : (ks : List ℕ) → AllByRecursion IsTame (map removed ks)
removed_tame [] = tt
removed_tame (k ∷ ks) = (refl, removed_tame ks)

looked_tame : (ks : List ℕ) → AllByRecursion IsTame (map looked ks)
looked_tame [] = tt
looked_tame (k ∷ ks) = (tt, looked_tame ks)

pub client_tame : (n : ℕ) → AllByRecursion IsTame (client_lines n)
client_tame n = each_joined IsTame (runs (heads n)) (map removed (removals n) ++ map looked (range_with_len 0 n)) (runs_tame (heads n))
    (each_joined IsTame (map removed (removals n)) (map looked (range_with_len 0 n)) (removed_tame (removals n)) (looked_tame (range_with_len 0 n)))

runs_cost : (ks : List ℕ) → total cost (runs ks) ≡ 3 * length ks
runs_cost [] = refl
runs_cost (k ∷ ks) = let rest = runs_cost ks in omega (arith, rest)

removed_cost : (ks : List ℕ) → total cost (map removed ks) ≡ length ks
removed_cost [] = refl
removed_cost (k ∷ ks) = let rest = removed_cost ks in omega (arith, rest)

looked_cost : (ks : List ℕ) → total cost (map looked ks) ≡ 2 * length ks
looked_cost [] = refl
looked_cost (k ∷ ks) = let rest = looked_cost ks in omega (arith, rest)

-- a head and a removal for each function, at most
pub client_cost : (n : ℕ) → total cost (client_lines n) ≤ 6 * n
client_cost n = omega (
  arith,
  total_joined cost (runs (heads n)) (map removed (removals n) ++ map looked (range_with_len 0 n)),
  total_joined cost (map removed (removals n)) (map looked (range_with_len 0 n)),
  runs_cost (heads n),
  removed_cost (removals n),
  looked_cost (range_with_len 0 n),
  filter_short is_head n,
  filter_short is_removed n,
  length-range_with_len 0 n,
)
