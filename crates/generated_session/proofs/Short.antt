-- How long the history is, and that its journal is never full.
use Rattle.std.proofs.Common.{◌≡◌, ℕ, zero, suc, ◌+◌, ◌-◌, ◌*◌, ◌<◌, ◌≤◌, false, List, [], ◌∷◌, ◌++◌, length, map, take, slice_get, All, ◌⊎◌, inl, inr, Option, Some, refl, sym, ap, ◌∙◌, subst, arith, le_refl}
use Rattle.std.specs.Prelude.{is_some}
use Rattle.std.specs.List.{AllByRecursion}
use Rattle.std.proofs.Math.Seq.{take-append-add}
use Rattle.std.proofs.lemmas.Bool.{both_ways, cases_lt}
use Rattle.std.proofs.lemmas.List.{length-append, length-map, length-take-le, take-append-le}
use Rattle.std.proofs.lemmas.List.Elements.{All-weaker}
use Rattle.std.proofs.lemmas.List.Sums.{count_by-le-length}
use Rattle.std.proofs.lemmas.Option.{none-some, same_Some}
use Rattle.list_laws.proofs.Each.{each_taken, each_mapped}
use Rattle.orc_ids.specs.declared.lookup.Stop.{Stop}
use Rattle.orc_ids.specs.declared.lookup.Stop.TheVariants.{JournalFull}
use Rattle.session_model.specs.Calls.{numbered_calls}
use Rattle.session_model.specs.History.{IsLegal, LegalFrom}
use Rattle.session_model.specs.Meaning.{Meaning}
use Rattle.session_model.specs.Plain.{Plain, UnitRow, empty, kept}
use Rattle.session_model.specs.State.{state}
use Rattle.session_model.specs.declared.entry.Entry.{Entry}
use Rattle.session_laws.proofs.Declared.{prefixes_legal, legal_is_sound, legal_rest, state_from_joined}
use Rattle.run_laws.specs.Ended.{IsCauseIn, IsCrowded}
use Rattle.run_laws.proofs.Calm.{IsUnoffered}
use Rattle.run_laws.proofs.Costs.{NumberedUnoffered, taken}
use Rattle.run_laws.proofs.Falling.{takes, total, two_each}
use Rattle.run_laws.proofs.Seats.{calls_past}
use Rattle.script_model.specs.Asking.{Line}
use Rattle.script_model.specs.Lines.{AreLines, AreSkipped}
use Rattle.script_model.specs.Scripts.{AreCalled, InSetUp, IsScriptRun, Went, Whole}
use Rattle.script_model.specs.declared.line_end.LineEnd.{LineEnd}
use Rattle.script_model.specs.declared.line_end.LineEnd.TheVariants.{Skipped, Stopped}
use Rattle.generated_session.specs.Laws.{IsNeverFull, IsShort}
use Rattle.generated_session.specs.Runs.{IsGeneratedRun, is_stopped}
use Rattle.generated_session.specs.Scripts.{client_lines, generated_script, set_up_events}
use Rattle.generated_session.proofs.Asked.{IsFirst, client_cost, client_tame, set_up_defines, set_up_first, set_up_length}
use Rattle.generated_session.proofs.Frames.{IsClient, IsSetUp, IsWithin, clients_many, defined, defines, never_offered, set_up_within}
use Rattle.generated_session.proofs.Lines.{lines_are_calls, lines_are_short}
use Rattle.generated_session.proofs.Lists.{each_image, only_seat, total_mapped}
use Rattle.generated_session.proofs.Takes.{takes_few}

-- ---- beginnings of the set-up

-- what is called in a set-up that went so far
record IsSome (units : List Meaning) (setup : List (Entry Meaning)) : Type 0 where
  first : AllByRecursion IsSetUp setup
  few : total defined setup ≤ length units
  short : length setup ≤ 8 + 2 * length units

total_front : {X : Type 0} (f : X → ℕ) (n : ℕ) (xs : List X) → total f (take n xs) ≤ total f xs
total_front f zero xs = omega arith
total_front f (suc n) [] = omega arith
total_front f (suc n) (x ∷ xs) = omega (arith, total_front f n xs)

taken_short : {X : Type 0} (n : ℕ) (xs : List X) → length (take n xs) ≤ length xs
taken_short zero xs = omega arith
taken_short (suc n) [] = omega arith
taken_short (suc n) (x ∷ xs) = omega (arith, taken_short n xs)

-- a beginning of the events was called
some_called : (units : List Meaning) (setup : List (Entry Meaning)) (n : ℕ) → AreCalled (take n (set_up_events units)) setup → IsSome units setup
some_called units setup n called = record {
  first = each_mapped IsFirst (λ (e : Entry Meaning). e.event) setup (subst (AllByRecursion IsFirst) (sym called) (each_taken IsFirst n (set_up_events units) (set_up_first units)));
  few = omega (arith, total_mapped defines (λ (e : Entry Meaning). e.event) setup, ap (total defines) called, total_front defines n (set_up_events units), set_up_defines units);
  short = omega (arith, length-map setup (λ (e : Entry Meaning). e.event), ap length called, taken_short n (set_up_events units), set_up_length units);
}

all_called : (units : List Meaning) (setup : List (Entry Meaning)) → AreCalled (set_up_events units) setup → IsSome units setup
all_called units setup called = record {
  first = each_mapped IsFirst (λ (e : Entry Meaning). e.event) setup (subst (AllByRecursion IsFirst) (sym called) (set_up_first units));
  few = omega (arith, total_mapped defines (λ (e : Entry Meaning). e.event) setup, ap (total defines) called, set_up_defines units);
  short = omega (arith, length-map setup (λ (e : Entry Meaning). e.event), ap length called, set_up_length units);
}

nothing_within : IsWithin 0 empty
nothing_within = record { generators = refl; units = le_refl 0 }

within_after : (units : List Meaning) (setup : List (Entry Meaning)) → IsSome units setup → IsWithin (length units) (state setup)
within_after units setup s =
    let w = set_up_within 0 empty setup s.first nothing_within in
    let has = w.units in
    let few = s.few in
    record { generators = w.generators; units = omega (arith, has, few) }

-- ---- the whole history

-- A set-up, and then calls of the client, so many at most, which define nothing.
record IsParted (n : ℕ) (h : List (Entry Meaning)) : Type 0 where
  setup : List (Entry Meaning)
  later : List (Entry Meaning)
  parts : h ≡ setup ++ later
  units : List Meaning
  count : length units ≡ n
  some : IsSome units setup
  calls : AllByRecursion IsClient later
  few : length later ≤ 16 * n

module _ (jmax n : ℕ) (units : List Meaning) (ends : List LineEnd) (h : List (Entry Meaning)) (stopped : Option Stop) (count : length units ≡ n) (run : IsScriptRun jmax 0 (generated_script n units) stopped (ends ∷ []) h) where
  -- the entries after the set-up are all the client's

  seated : All (λ (e : Entry Meaning). e.seat.0 ≡ 1) run.later
  seated = All-weaker (λ (e : Entry Meaning). (0 < e.seat.0) × (e.seat.0 ≤ 1 + 0)) (λ (e : Entry Meaning). e.seat.0 ≡ 1) (λ e p. let low = p.0 in let high = p.1 in omega (arith, low, high)) run.later run.later_seats

  abbrev calls : List (ℕ × Entry Meaning)
  calls = numbered_calls 1 1 h

  calls_are : calls ≡ numbered_calls 1 (1 + length run.setup) run.later
  calls_are = ap (numbered_calls 1 1) run.parts ∙ calls_past 1 1 run.setup run.later run.setup_seat (omega arith)

  entries_are : map (λ (c : ℕ × Entry Meaning). c.1) calls ≡ run.later
  entries_are = ap (map (λ (c : ℕ × Entry Meaning). c.1)) calls_are ∙ only_seat (1 + length run.setup) run.later seated

  count_is : length calls ≡ length run.later
  count_is = sym (length-map calls (λ (c : ℕ × Entry Meaning). c.1)) ∙ ap length entries_are

  takes_are : total taken calls ≡ total takes run.later
  takes_are = total_mapped takes (λ (c : ℕ × Entry Meaning). c.1) calls ∙ ap (total takes) entries_are

  -- of which lines these are

  module _ (called : AreCalled (set_up_events units) run.setup) (lines : AreLines h [] (client_lines n) ends calls) where
    some : IsSome units run.setup
    some = all_called units run.setup called

    ready : IsWithin (length units) (state run.setup)
    ready = within_after units run.setup some

    later_calls : AllByRecursion IsClient run.later
    later_calls = subst (AllByRecursion IsClient) entries_are (each_image IsClient (λ (c : ℕ × Entry Meaning). c.1) calls (lines_are_calls h [] (client_lines n) ends calls lines (client_tame n)))

    legal : IsLegal jmax (run.setup ++ run.later)
    legal = subst (IsLegal jmax) run.parts run.legal

    legal_later : LegalFrom jmax run.setup (state run.setup) run.later
    legal_later = legal_rest jmax [] empty run.setup run.later legal

    unoffered : AllByRecursion NumberedUnoffered calls
    unoffered = each_mapped IsUnoffered (λ (c : ℕ × Entry Meaning). c.1) calls (subst (AllByRecursion IsUnoffered) (sym entries_are) (never_offered jmax run.setup (state run.setup) run.later legal_later later_calls ready.generators))

    few_takes : total takes run.later ≤ 2 * n
    few_takes = let has = ready.units in omega (
      arith,
      takes_few jmax run.setup (state run.setup) run.later legal_later later_calls ready.generators (legal_is_sound jmax run.setup ((prefixes_legal jmax run.setup run.later).0 legal)),
      two_each (state run.setup).units,
      has,
      count,
    )

    few_later : length run.later ≤ 16 * n
    few_later = omega (arith, lines_are_short h [] (client_lines n) ends calls lines (client_tame n) unoffered, client_cost n, count_is, takes_are, few_takes)

    whole_parts : IsParted n h
    whole_parts = record { setup = run.setup; later = run.later; parts = run.parts; units = units; count = count; some = some; calls = later_calls; few = few_later }

  parts_of : (st : Option Stop) → Went jmax (generated_script n units) (ends ∷ []) h run.setup run.later st → IsParted n h
  parts_of _ (Whole called ran) = whole_parts called (ran.each 0 (client_lines n) ends refl refl)
  parts_of _ (InSetUp k st less called none cause skipped) = record {
    setup = run.setup;
    later = [];
    parts = run.parts ∙ ap (λ l. run.setup ++ l) none;
    units = units;
    count = count;
    some = some_called units run.setup k called;
    calls = tt;
    few = omega arith;
  }

parted : (jmax n : ℕ) (stopped : Option Stop) (ends : List LineEnd) (h : List (Entry Meaning)) → IsGeneratedRun jmax n stopped ends h → IsParted n h
parted jmax n stopped ends h g = parts_of jmax n g.units ends h stopped g.are.whole g.run stopped g.run.went

parted_short : (n : ℕ) (h : List (Entry Meaning)) → IsParted n h → length h ≤ 20 * n + 8
parted_short n h p =
    let parts = ap length p.parts in
    let count = p.count in
    let short = p.some.short in
    let few = p.few in
    omega (arith, parts, count, short, few, length-append p.setup p.later)

pub is_short : IsShort
is_short jmax n stopped ends h g = parted_short n h (parted jmax n stopped ends h g)

-- ---- the journal

-- at any point of the history there are no more units than objects
front_within : (n len : ℕ) (h : List (Entry Meaning)) → IsParted n h → length (state (take len h)).units ≤ n
front_within n len h p = subst (λ l. length (state (take len l)).units ≤ n) (sym p.parts) (split (cases_lt len (length p.setup)))
  where
    count : length p.units ≡ n
    count = p.count

    set_up : (k : ℕ) → IsWithin (length p.units) (state (take k p.setup))
    set_up k = within_after p.units (take k p.setup) (record {
      first = each_taken IsSetUp k p.setup p.some.first;
      few = let few = p.some.few in omega (arith, total_front defined k p.setup, few);
      short = let short = p.some.short in omega (arith, taken_short k p.setup, short);
    })

    rest : (k : ℕ) → length (state (p.setup ++ take k p.later)).units ≤ n
    rest k =
        let w = within_after p.units p.setup p.some in
        let has = w.units in
        let same = (clients_many (state p.setup) (take k p.later) (each_taken IsClient k p.later p.calls) w.generators).units in
        let joined = ap (λ (m : Plain). length m.units) (state_from_joined empty p.setup (take k p.later)) in
        omega (arith, has, same, joined, count)

    past : length p.setup ≤ len → take len (p.setup ++ p.later) ≡ p.setup ++ take (len - length p.setup) p.later
    past ge =
        let sum : len ≡ length p.setup + (len - length p.setup) = omega (arith, ge) in
        ap (λ k. take k (p.setup ++ p.later)) sum ∙ take-append-add p.setup p.later (len - length p.setup)

    split : (len < length p.setup) ⊎ (length p.setup ≤ len) → length (state (take len (p.setup ++ p.later))).units ≤ n
    split (inl lt) =
        let has = (set_up len).units in
        subst (λ l. length (state l).units ≤ n) (sym (take-append-le len p.setup p.later (omega (arith, lt)))) (omega (arith, has, count))
    split (inr ge) = subst (λ l. length (state l).units ≤ n) (sym (past ge)) (rest (len - length p.setup))

-- no unit is held twice
held_few : (n : ℕ) (m : Plain) → length m.units ≤ n → kept m ≤ n
held_few n m few = omega (arith, few, count_by-le-length (λ (x : UnitRow). is_some x.seat) m.units)

never_crowded : (jmax n len : ℕ) (h : List (Entry Meaning)) → 21 * n + 9 < jmax → IsParted n h → IsCauseIn jmax h (JournalFull len) → ⊥
never_crowded jmax n len h room p cause = split cause.1
  where
    short : len ≤ 20 * n + 8
    short = let within = cause.0 in omega (arith, within, parted_short n h p)

    taken : length (take len h) ≡ len
    taken = length-take-le len h cause.0

    held : kept (state (take len h)) ≤ n
    held = held_few n (state (take len h)) (front_within n len h p)

    split : IsCrowded jmax (take len h) → ⊥
    split (inl full) = omega (arith, full, taken, held, short, room)
    split (inr almost) = let last = almost.0 in omega (arith, last, taken, held, short, room)

-- a line that was skipped wasn't stopped
skipped_stops : (lines : List Line) (ends : List LineEnd) (i : ℕ) (st : Stop) → AreSkipped lines ends → slice_get ends i ≡ Some (Stopped st) → ⊥
skipped_stops [] [] i st skipped at = none-some (Stopped st) at
skipped_stops (line ∷ lines) (Skipped ∷ ends) zero st skipped at = both_ways false refl (ap is_stopped (same_Some Skipped (Stopped st) at))
skipped_stops (line ∷ lines) (Skipped ∷ ends) (suc i) st skipped at = skipped_stops lines ends i st skipped at
skipped_stops [] (end ∷ ends) i st skipped at = absurd skipped
skipped_stops (line ∷ lines) [] i st skipped at = absurd skipped
skipped_stops (line ∷ lines) (_ ∷ ends) i st skipped at = absurd skipped

-- each stop has its cause
set_up_cause : (jmax n : ℕ) (units : List Meaning) (ends : List LineEnd) (h setup later : List (Entry Meaning)) (stopped : Option Stop) (st : Stop) → Went jmax (generated_script n units) (ends ∷ []) h setup later stopped → stopped ≡ Some st → IsCauseIn jmax h st
set_up_cause jmax n units ends h setup later stopped st (Whole called ran) is = absurd (none-some st is)
set_up_cause jmax n units ends h setup later stopped st (InSetUp k other less called none cause skipped) is = subst (IsCauseIn jmax h) (same_Some other st is) cause

line_cause : (jmax n : ℕ) (units : List Meaning) (ends : List LineEnd) (h setup later : List (Entry Meaning)) (stopped : Option Stop) (st : Stop) (i : ℕ) → Went jmax (generated_script n units) (ends ∷ []) h setup later stopped → slice_get ends i ≡ Some (Stopped st) → IsCauseIn jmax h st
line_cause jmax n units ends h setup later stopped st i (Whole called ran) at = ran.causes 0 i ends st refl at
line_cause jmax n units ends h setup later stopped st i (InSetUp k other less called none cause skipped) at = absurd (skipped_stops (client_lines n) ends i st (skipped.each 0 (client_lines n) ends refl refl) at)

pub is_never_full : IsNeverFull
is_never_full jmax n len stopped ends h room g =
    let p = parted jmax n stopped ends h g in (
      (λ is. never_crowded jmax n len h room p (set_up_cause jmax n g.units ends h g.run.setup g.run.later stopped (JournalFull len) g.run.went is)),
      (λ i at. never_crowded jmax n len h room p (line_cause jmax n g.units ends h g.run.setup g.run.later stopped (JournalFull len) i g.run.went at)),
    )
