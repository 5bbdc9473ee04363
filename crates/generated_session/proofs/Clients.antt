-- The client's calls are its lines, and can be made.
use Rattle.std.proofs.Common.{◌≡◌, ◌<◌, ◌≤◌, ℕ, zero, suc, ◌+◌, List, [], ◌∷◌, ◌++◌, length, map, None, Some, Option, refl, sym, subst, arith}
use Rattle.std.specs.Prelude.{⊤, All}
use Rattle.std.specs.List.{AllByRecursion, range_with_len}
use Rattle.std.proofs.lemmas.List.Elements.{All-cons, All-filter, All-nil}
use Rattle.orc_ids.specs.declared.limits.TheConstants.{ORDER_LIMIT, WANTED_LIMIT}
use Rattle.orc_ids.specs.declared.lookup.Outcome.{Outcome}
use Rattle.script_model.specs.Asking.{Line, LookUp, One, PeekAt, Run}
use Rattle.script_model.specs.Plans.{CanCall, line_of}
use Rattle.script_model.specs.declared.calls.ClientCall.{ClientCall}
use Rattle.script_model.specs.declared.calls.ClientCall.TheVariants as client
use Rattle.session_model.specs.Meaning.{Meaning}
use Rattle.session_model.specs.declared.entry.Event.TheVariants as event
use Rattle.generated_session.specs.Scripts.{client_lines, heads, is_head, removals, runs}
use Rattle.generated_session.specs.Plans.{looked_up, removed}

-- ---- its functions

below : (a n most : ℕ) → a + n ≤ most → All (λ k. k < most) (range_with_len a n)
below a zero most few = All-nil (λ k. k < most)
below a (suc n) most few = All-cons (λ k. k < most) a (range_with_len (a + 1) n) (omega (arith, few)) (below (a + 1) n most (omega (arith, few)))

pub functions_below : (n most : ℕ) → n < most → All (λ k. k < most) (range_with_len 0 n)
functions_below n most few = below 0 n most (omega (arith, few))

pub heads_below : (n most : ℕ) → n < most → All (λ k. k < most) (heads n)
heads_below n most few = All-filter is_head (λ k. k < most) (range_with_len 0 n) (functions_below n most few)

-- ---- its lines

-- a line that can be called, without a note
abbrev IsPlain : Line → Type 0
IsPlain (One (event.Define d t unit)) = unit.source ≡ None
IsPlain (One e) = ⊤
IsPlain (LookUp l) = (length l.order ≤ ORDER_LIMIT) × (length l.wanted ≤ WANTED_LIMIT) × (l.note ≡ None)
IsPlain (Run name fuel args) = length args ≤ 8
IsPlain (PeekAt name) = ⊤

both : (xs ys : List Line) → AllByRecursion IsPlain xs → AllByRecursion IsPlain ys → AllByRecursion IsPlain (xs ++ ys)
both [] ys a b = b
both (x ∷ xs) ys a b = (a.0, both xs ys a.1 b)

one_is_few : 1 ≤ ORDER_LIMIT
one_is_few = omega arith

one_name_is_few : 1 ≤ WANTED_LIMIT
one_name_is_few = omega arith

looked_up_plain : (ks : List ℕ) → AllByRecursion IsPlain (looked_up ks)
looked_up_plain [] = tt
looked_up_plain (k ∷ ks) = ((one_is_few, one_name_is_few, refl), looked_up_plain ks)

removed_plain : (ks : List ℕ) → AllByRecursion IsPlain (removed ks)
removed_plain [] = tt
removed_plain (k ∷ ks) = (tt, removed_plain ks)

one_argument : 1 ≤ 8
one_argument = omega arith

runs_plain : (ks : List ℕ) → AllByRecursion IsPlain (runs ks)
runs_plain [] = tt
runs_plain (k ∷ ks) = ((one_is_few, one_name_is_few, refl), (one_argument, runs_plain ks))

lines_plain : (n : ℕ) → AllByRecursion IsPlain (client_lines n)
lines_plain n =
    both (runs (heads n)) (removed (removals n) ++ looked_up (range_with_len 0 n)) (runs_plain (heads n))
    (both (removed (removals n)) (looked_up (range_with_len 0 n)) (removed_plain (removals n)) (looked_up_plain (range_with_len 0 n)))

-- ---- its calls

module _ {U N : Type 0} (means : U → Meaning) (heard : N → Option Outcome) (number : N → ℕ) where
  can_call : (call : ClientCall U N) → IsPlain (line_of means call) → CanCall means heard number call
  can_call (client.Define d t unit) plain = plain
  can_call (client.LookUp names None) plain = (plain.0, plain.1, tt)
  can_call (client.LookUp names (Some w)) plain = absurd (let bad : Some w.0 ≡ None = plain.2 in cc)
  can_call (client.Move t to) plain = tt
  can_call (client.Remove t) plain = tt
  can_call (client.Run name fuel args) plain = plain
  can_call (client.Peek name) plain = tt

  can_call_each : (calls : List (ClientCall U N)) → AllByRecursion IsPlain (map (line_of means) calls) → All (CanCall means heard number) calls
  can_call_each [] plain = All-nil (CanCall means heard number)
  can_call_each (call ∷ calls) plain = All-cons (CanCall means heard number) call calls (can_call call plain.0) (can_call_each calls plain.1)

  pub can_call_all : (n : ℕ) (calls : List (ClientCall U N)) → map (line_of means) calls ≡ client_lines n → All (CanCall means heard number) calls
  can_call_all n calls are = can_call_each calls (subst (AllByRecursion IsPlain) (sym are) (lines_plain n))
