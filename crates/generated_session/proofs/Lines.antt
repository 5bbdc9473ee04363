-- How many calls lines make that define nothing.
use Rattle.std.proofs.Common.{◌≡◌, ℕ, ◌+◌, ◌*◌, ◌≤◌, true, List, [], ◌∷◌, ◌++◌, length, Option, Some, None, refl, sym, ap, ◌∙◌, subst, arith, append-nil}
use Rattle.std.specs.Prelude.{⊤}
use Rattle.std.specs.List.{AllByRecursion}
use Rattle.std.proofs.lemmas.List.{length-append}
use Rattle.exec_run.specs.declared.ran.RunEnd.{RunEnd}
use Rattle.session_model.specs.Meaning.{Meaning}
use Rattle.session_model.specs.declared.entry.Entry.{Entry}
use Rattle.session_model.specs.declared.entry.Event.{Event}
use Rattle.session_model.specs.declared.entry.Reply.{Reply}
use Rattle.script_model.specs.Asking.{Line, One, LookUp, Run, PeekAt}
use Rattle.script_model.specs.Given.{Given, address_of}
use Rattle.session_model.proofs.Stopping.{stopped_begins}
use Rattle.run_laws.specs.Runs.{IsCopy}
use Rattle.script_model.specs.Lines.{AreLines, AtEnd, CallsOf, CopiesAndRuns, Goes, IsLine, OneCall, Stops}
use Rattle.script_model.specs.declared.line_end.LineEnd.{LineEnd}
use Rattle.script_model.specs.declared.line_end.LineEnd.TheVariants.{Looked, Peeked, Ran, Replied, Unfound}
use Rattle.run_laws.proofs.Costs.{Costs, NumberedCall, NumberedUnoffered, each_back, each_front, each_joined, front_length, looks_cost, taken, total_joined}
use Rattle.run_laws.proofs.Falling.{total}
use Rattle.generated_session.proofs.Frames.{client_call, is_client}

-- it defines nothing
abbrev pub IsTame : Line → Type 0
IsTame (One v) = is_client v ≡ true
IsTame (LookUp l) = ⊤
IsTame (Run name fuel args) = ⊤
IsTame (PeekAt name) = ⊤

-- how many calls it makes beside jobs
abbrev pub cost : Line → ℕ
cost (One v) = 1
cost (LookUp l) = 2
cost (Run name fuel args) = 1
cost (PeekAt name) = 0

abbrev pub NumberedClient : ℕ × Entry Meaning → Type 0
NumberedClient c = is_client c.1.event ≡ true

-- These are calls of a client, and a beginning of them without an offer has, beyond five for each take, so many at most.
record LineCosts (k : ℕ) (cs : List (ℕ × Entry Meaning)) : Type 0 where
  calls : AllByRecursion NumberedClient cs
  few : (ds rest : List (ℕ × Entry Meaning)) → cs ≡ ds ++ rest → AllByRecursion NumberedUnoffered ds → length ds ≤ k + 5 * total taken ds

client_calls : (cs : List (ℕ × Entry Meaning)) → AllByRecursion NumberedCall cs → AllByRecursion NumberedClient cs
client_calls [] a = tt
client_calls (c ∷ cs) a = (client_call c.1.event a.0, client_calls cs a.1)

from_costs : (k : ℕ) (cs : List (ℕ × Entry Meaning)) → Costs k cs → LineCosts k cs
from_costs k cs c = record { calls = client_calls cs c.calls; few = c.few }

one_cost : (c : ℕ × Entry Meaning) → NumberedClient c → LineCosts 1 (c ∷ [])
one_cost c is = record { calls = (is, tt); few = λ ds rest e un. omega (arith, front_length (c ∷ []) ds rest e) }

no_cost : (k : ℕ) → LineCosts k []
no_cost k = record { calls = tt; few = λ ds rest e un. omega (arith, front_length [] ds rest e) }

-- ---- a line

event_cost : (v : Event Meaning) (r : Reply) (cs : List (ℕ × Entry Meaning)) → is_client v ≡ true → OneCall v r cs → LineCosts 1 cs
event_cost v r cs tame (n, c, are, is, answered) = subst (LineCosts 1) (sym are) (one_cost (n, c) (ap is_client is ∙ tame))

copy_cost : (cs : List (ℕ × Entry Meaning)) → IsCopy cs → LineCosts 1 cs
copy_cost [] p = absurd p
copy_cost (c ∷ []) p = one_cost c (ap is_client p)
copy_cost (c ∷ d ∷ cs) p = absurd p

run_cost : (h : List (Entry Meaning)) (address : Option ℕ) (fuel : ℕ) (args : List ℕ) (end : RunEnd) (output : List ℕ) (cs : List (ℕ × Entry Meaning)) → CopiesAndRuns h address fuel args end output cs → LineCosts 1 cs
run_cost h (Some a) fuel args end output [] p = absurd p
run_cost h (Some a) fuel args end output (c ∷ []) p = one_cost c (ap is_client p.0)
run_cost h (Some a) fuel args end output (c ∷ d ∷ cs) p = absurd p
run_cost h None fuel args end output cs p = absurd p

-- whatever comes of it
calls_cost : (h : List (Entry Meaning)) (given : Given) (line : Line) (cs : List (ℕ × Entry Meaning)) → IsTame line → CallsOf h given line cs → LineCosts (cost line) cs
calls_cost h given (One v) cs tame (r, one) = event_cost v r cs tame one
calls_cost h given (LookUp l) cs tame looks = from_costs 2 cs (looks_cost h l cs looks)
calls_cost h given (Run name fuel args) cs tame (address, there, copy) = copy_cost cs copy
calls_cost h given (PeekAt name) cs tame none = absurd none

-- and where it ended so
line_cost : (h : List (Entry Meaning)) (given : Given) (line : Line) (end : LineEnd) (cs : List (ℕ × Entry Meaning)) → IsTame line → IsLine h given line end cs → LineCosts (cost line) cs
line_cost h given (One v) (Replied r) cs tame one = event_cost v r cs tame one
line_cost h given (LookUp l) (Looked end) cs tame p = from_costs 2 cs (looks_cost h l cs p.0)
line_cost h given (Run name fuel args) Unfound cs tame p = subst (LineCosts 1) (sym p.1) (no_cost 1)
line_cost h given (Run name fuel args) (Ran end output) cs tame p = run_cost h (address_of name given) fuel args end output cs p
line_cost h given (One v) _ cs tame p = absurd p
line_cost h given (LookUp l) _ cs tame p = absurd p
line_cost h given (Run name fuel args) _ cs tame p = absurd p
line_cost h given (PeekAt name) (Peeked told) cs tame p = subst (LineCosts 0) (sym p.1) (no_cost 0)
line_cost h given (PeekAt name) _ cs tame p = absurd p

-- ---- lines

pub lines_are_calls : (h : List (Entry Meaning)) (given : Given) (lines : List Line) (ends : List LineEnd) (cs : List (ℕ × Entry Meaning)) → AreLines h given lines ends cs → AllByRecursion IsTame lines → AllByRecursion NumberedClient cs
lines_are_calls h given lines ends cs (AtEnd g) tame = tt
lines_are_calls h given lines ends cs (Goes g line rest end more now later is goes) tame =
    each_joined NumberedClient now later (line_cost h g line end now tame.0 is).calls (lines_are_calls h _ rest more later goes tame.1)
lines_are_calls h given lines ends cs (Stops g line rest st skipped now stopped skip) tame =
    let s = stopped_begins (CallsOf h g line) now st stopped in
    each_front NumberedClient now s.rest (calls_cost h g line (now ++ s.rest) tame.0 s.would).calls

pub lines_are_short : (h : List (Entry Meaning)) (given : Given) (lines : List Line) (ends : List LineEnd) (cs : List (ℕ × Entry Meaning)) → AreLines h given lines ends cs → AllByRecursion IsTame lines → AllByRecursion NumberedUnoffered cs → length cs ≤ total cost lines + 5 * total taken cs
lines_are_short h given lines ends cs (AtEnd g) tame un = omega arith
lines_are_short h given lines ends cs (Goes g line rest end more now later is goes) tame un =
    let first = (line_cost h g line end now tame.0 is).few now [] (sym (append-nil now)) (each_front NumberedUnoffered now later un) in
    let others = lines_are_short h _ rest more later goes tame.1 (each_back NumberedUnoffered now later un) in
    omega (arith, first, others, length-append now later, total_joined taken now later)
lines_are_short h given lines ends cs (Stops g line rest st skipped now stopped skip) tame un =
    let s = stopped_begins (CallsOf h g line) now st stopped in
    let first = (calls_cost h g line (now ++ s.rest) tame.0 s.would).few now s.rest refl un in
    omega (arith, first)
