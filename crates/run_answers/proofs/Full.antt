-- A journal with as many places as one can have is never full after a run.
use Rattle.std.proofs.Common.{◌≡◌, ◌≤◌, ◌<◌, ℕ, ◌+◌, ◌*◌, inl, inr, List, [], ◌∷◌, length, map, All, Option, Some, None, refl, sym, ◌∙◌, ap, subst, arith, append-nil}
use Rattle.std.specs.Prelude.{◌==◌, slice_get, take, is_some}
use Rattle.std.specs.Option.{option_map_or}
use Rattle.std.proofs.lemmas.List.{length-append, length-take-le}
use Rattle.std.proofs.lemmas.List.Sums.{count_by-le-length}
use Rattle.std.proofs.lemmas.List.Elements.{All-weaker, All-nil}
use Rattle.orc_ids.specs.declared.ids.NameId.{NameId}
use Rattle.orc_ids.specs.declared.limits.TheConstants.{ENTRY_LIMIT}
use Rattle.orc_ids.specs.declared.lookup.Stop.{Stop}
use Rattle.orc_ids.specs.declared.lookup.Stop.TheVariants as stop
use Rattle.session_model.specs.Change.{all_claimed, change_of, changed, defined, done_unit, failed_unit, finishing_unit, let_go_unit, moved_generator, moved_unit, gone_tracker, new_unit, placed_unit, removed_unit, resolved_row, resolved_unit, spent, started_unit, waiting_unit, without_replaced}
use Rattle.session_model.specs.Lists.{changed_at, numbered}
use Rattle.session_model.specs.declared.rows.Verdict.{Verdict}
use Rattle.session_model.specs.Meaning.{Meaning}
use Rattle.session_model.specs.Plain.{Plain, GenRow, UnitRow, empty, kept}
use Rattle.session_model.specs.State.{after, state, state_from}
use Rattle.session_model.specs.declared.change.Change.{Change}
use Rattle.session_model.specs.declared.change.Change.TheVariants.{Nothing, MakeDylib, MakeTracker, SetOrder, Attach, Define, Generate, Spend, Ask, Start, Finish, Place, Resolve, Link, Emit, Fail, Move, Remove, LetGo}
use Rattle.session_model.specs.declared.entry.Entry.{Entry}
use Rattle.session_model.specs.declared.entry.Event.TheVariants as event
use Rattle.session_laws.proofs.Declared.{changed_length, mapped_length, numbered_length, chosen}
use Rattle.exec_run.specs.declared.ran.RunEnd.{RunEnd}
use Rattle.exec_run.specs.declared.ran.RunEnd.TheVariants.{Exited as HasExited, Trap as HasTrapped, OutOfFuel as IsOutOfFuel, OutputFull as IsFull}
use Rattle.command_line.specs.Words.{Request}
use Rattle.run_laws.specs.Ended.{Ended, IsCauseIn, IsCrowded, IsRun, client_calls}
use Rattle.run_laws.specs.Runs.{IsRunBy, IsSetUp}
use Rattle.run_laws.specs.declared.linked.Linked.{Linked}
use Rattle.run_laws.specs.declared.linked.Linked.TheVariants as linked
use Rattle.run_laws.proofs.Cutting.{cut_client}
use Rattle.run_laws.proofs.Short.{run_is_short}
use Rattle.run_answers.specs.Clauses.{IsInSession, OfSession, call_of}
use Rattle.run_answers.specs.Laws.{NeverFull}
use Rattle.run_answers.specs.Sessions.{IsAnswerOf, Ran, NoEntry, NotReady, NotDefined, NoPlace, answer_of}
use Rattle.answers.specs.declared.answer.Answer.{Answer}
use Rattle.answers.specs.declared.answer.Answer.TheVariants.{JournalFull}
use Rattle.run_answers.proofs.Clauses.{lost_as, session}
use Rattle.run_answers.proofs.Words.{plain_units}
use Rattle.run_laws.proofs.Calm.{claims_many, settled_many}
use Rattle.run_laws.proofs.Ready.{setup_length}

-- There are at most as many units as entries

-- one more unit at most
abbrev Grown : Plain → Plain → Type 0
Grown m n = length n.units ≤ length m.units + 1

same_grown : (m n : Plain) → length n.units ≡ length m.units → Grown m n
same_grown m n e = omega (arith, e)

defined_grown : (d t : ℕ) (u : Meaning) (found : List Verdict) (m : Plain) → Grown m (defined d t u found m)
defined_grown d t u found m = omega (arith, length-append (numbered (without_replaced m.rows found) 0 m.units) (new_unit t u found ∷ []), numbered_length (without_replaced m.rows found) 0 m.units)

changed_grown : (m : Plain) (c : Change Meaning) → Grown m (changed c m)
changed_grown m Nothing = omega arith
changed_grown m (MakeDylib name) = omega arith
changed_grown m (MakeTracker d) = omega arith
changed_grown m (SetOrder d order) = omega arith
changed_grown m (Attach d t u) = omega arith
changed_grown m (Define d t u found) = defined_grown d.0 t.0 u found m
changed_grown m (Generate k found) = split (slice_get m.generators k.0)
  where
    split : (o : Option GenRow) → Grown m (option_map_or (λ (x : GenRow). spent k.0 (defined x.dylib x.tracker x.meaning found m)) o m)
    split None = omega arith
    split (Some x) = defined_grown x.dylib x.tracker x.meaning found m
changed_grown m (Spend k) = omega arith
changed_grown m (Ask found lev n) = omega (arith, claims_many found m)
changed_grown m (Start t u) = omega (arith, changed_length u.0 (started_unit t.0) m.units)
changed_grown m (Finish t u how) = omega (arith, changed_length u.0 (finishing_unit t.0 how) m.units)
changed_grown m (Place u base) = omega (arith, changed_length u.0 (placed_unit base) m.units)
changed_grown m (Resolve u) = split (slice_get m.units u.0)
  where
    split : (o : Option UnitRow) → Grown m (option_map_or (λ (x : UnitRow). record m { rows = map (resolved_row u.0 (resolved_unit x)) m.rows; units = changed_at u.0 resolved_unit m.units }) o m)
    split None = omega arith
    split (Some x) = omega (arith, changed_length u.0 resolved_unit m.units)
changed_grown m (Link u found) = omega (arith, changed_length u.0 (waiting_unit (length m.queries)) (all_claimed found m).units, claims_many found m)
changed_grown m (Emit u groups) = omega (arith, changed_length u.0 done_unit m.units)
changed_grown m (Fail u) = omega (arith, changed_length u.0 failed_unit m.units)
changed_grown m (Move t to) = chosen (Grown m) (t.0 == to.0) m (record m { units = map (moved_unit t.0 to.0) m.units; generators = map (moved_generator t.0 to.0) m.generators; trackers = changed_at t.0 gone_tracker m.trackers })
    (λ b. omega arith)
    (λ b. omega (arith, mapped_length (moved_unit t.0 to.0) m.units))
changed_grown m (Remove t) = omega (arith, mapped_length (removed_unit t.0) m.units)
changed_grown m (LetGo t u) = omega (arith, changed_length u.0 (let_go_unit t.0) m.units)

units_along : (m : Plain) (es : List (Entry Meaning)) → length (state_from m es).units ≤ length m.units + length es
units_along m [] = omega arith
units_along m (e ∷ es) =
    let n = changed (change_of m e.seat.0 e.event e.reply) m in
    omega (arith, units_along (after m e) es, settled_many n, changed_grown m (change_of m e.seat.0 e.event e.reply))

few_kept : (h : List (Entry Meaning)) → kept (state h) ≤ length h
few_kept h = omega (arith, units_along empty h, count_by-le-length (λ (x : UnitRow). is_some x.seat) (state h).units)

-- so a long journal isn't crowded
never_crowded : {P : Type 0} (jmax : ℕ) (h : List (Entry Meaning)) → length h + length h + 1 < jmax → IsCrowded jmax h → P
never_crowded jmax h long (inl full) = absurd (omega (arith, long, full, few_kept h))
never_crowded jmax h long (inr almost) = let full = almost.0 in absurd (omega (arith, long, full, few_kept h))

-- The history of a run is short

pub run_by : (jmax workers : ℕ) (main entry : NameId) (units : List Meaning) (h : List (Entry Meaning)) (end : Linked) (r : IsRun jmax workers main entry units h end) → IsSetUp main units r.setup → All (λ (u : Meaning). u.source ≡ None) units → IsRunBy jmax main units h r.setup r.later
run_by jmax workers main entry units h end r set_up plain = record {
  legal = r.legal;
  parts = r.parts;
  setup_seat = r.setup_seat;
  later_seats = All-weaker (λ (e : Entry Meaning). (0 < e.seat.0) × (e.seat.0 ≤ 1 + workers)) (λ (e : Entry Meaning). 0 < e.seat.0) (λ e p. p.0) r.later r.later_seats;
  set_up = set_up;
  plain_units = plain;
  workers_do = r.workers_do;
}

-- a run that was stopped for want of places has few entries, and was crowded
record WasFull (jmax count len : ℕ) (h : List (Entry Meaning)) : Type 0 where
  short : length h ≤ 5 + 13 * count
  before : len ≤ length h
  crowded : IsCrowded jmax (take len h)

full_cause : (jmax count len : ℕ) (h : List (Entry Meaning)) (st : Stop) → st ≡ stop.JournalFull len → IsCauseIn jmax h st → length h ≤ 5 + 13 * count → WasFull jmax count len h
full_cause jmax count len h st e c short = let cause = subst (IsCauseIn jmax h) e c in record { short = short; before = cause.0; crowded = cause.1 }

was_full : (jmax workers : ℕ) (main entry : NameId) (units : List Meaning) (h : List (Entry Meaning)) (end : Linked) (len : ℕ) (r : IsRun jmax workers main entry units h end) → All (λ (u : Meaning). u.source ≡ None) units →
    (last : Linked) → Ended jmax main entry units h r.setup r.later last → last ≡ linked.Stopped (stop.JournalFull len) → WasFull jmax (length units) len h
was_full jmax workers main entry units h end len r plain last (Ended.InDefinition k refused none) e = absurd (cc)
was_full jmax workers main entry units h end len r plain last (Ended.InSetUp n st to at few none cause) e =
    let same : st ≡ stop.JournalFull len = cc in
    full_cause jmax (length units) len h st same cause (omega (arith, ap length r.parts, length-append r.setup r.later, ap length none, at, few))
was_full jmax workers main entry units h end len r plain last (Ended.InLookup st set_up stopped cause) e =
    let same : st ≡ stop.JournalFull len = cc in
    let later = run_is_short jmax main entry units h r.setup r.later (run_by jmax workers main entry units h end r set_up plain) (client_calls h) []
    (record { calls = sym (append-nil (client_calls h)); looks = cut_client h entry (client_calls h) stopped; copies = All-nil (λ (c : ℕ × Entry Meaning). c.1.event ≡ event.Image) }) (omega arith) in
    full_cause jmax (length units) len h st same cause (omega (arith, ap length r.parts, length-append r.setup r.later, setup_length main units r.setup set_up, later))
was_full jmax workers main entry units h end len r plain last (Ended.NotThere before n c set_up calls looks is) e = absurd (cc)
was_full jmax workers main entry units h end len r plain last (Ended.NotReady before n c at i set_up calls looks is) e = absurd (cc)
was_full jmax workers main entry units h end len r plain last (Ended.IsReady before m n at address c copy i ranges set_up calls looks is image memory) e = absurd (cc)

-- The answer

end_not_full : {P : Type 0} (e : RunEnd) (len : ℕ) → answer_of e ≡ JournalFull len → P
end_not_full (HasExited code) len e = absurd (cc)
end_not_full (HasTrapped pc cause) len e = absurd (cc)
end_not_full IsOutOfFuel len e = absurd (cc)
end_not_full IsFull len e = absurd (cc)

full_end : (run : Request) (h : List (Entry Meaning)) (end : Linked) (answer : Answer) (output : List ℕ) (len : ℕ) → IsAnswerOf run h end answer output → answer ≡ JournalFull len → end ≡ linked.Stopped (stop.JournalFull len)
full_end run h end answer output len (Ran address memory a text has) e = end_not_full has.0 len (sym has.2 ∙ e)
full_end run h end answer output len NoEntry e = absurd (cc)
full_end run h end answer output len (NotReady i some) e = lost_as (λ a. a ≡ JournalFull len → linked.Failed i ≡ linked.Stopped (stop.JournalFull len)) (λ q. absurd (cc)) (λ r q. absurd (cc)) (λ j q. absurd (cc)) h i e
full_end run h end answer output len (NotDefined word file is) e = absurd (cc)
full_end run h end answer output len (NoPlace k) e = let same : k ≡ len = cc in ap (λ n. linked.Stopped (stop.JournalFull n)) same

limit_is : ENTRY_LIMIT ≡ 1048576
limit_is = refl

pub never_full : NeverFull
never_full asked told before after out out' log log' answer few is len e = never_crowded ENTRY_LIMIT (take len s.history) (omega (arith, limit_is, w.short, w.before, length-take-le len s.history w.before, count)) w.crowded
  where
    s : OfSession ENTRY_LIMIT (call_of asked told before after out out' log log') answer
    s = session ENTRY_LIMIT asked told before after out out' log log' answer is (subst IsInSession (sym e) tt)

    run : IsRun ENTRY_LIMIT s.run.workers s.session.main s.session.entry s.session.units s.history s.end
    run = s.session.is_run

    plain : All (λ (u : Meaning). u.source ≡ None) s.session.units
    plain = plain_units told s.run.files s.names s.session.file_units s.session.units s.session.loaded s.session.of_words

    w : WasFull ENTRY_LIMIT (length s.session.units) len s.history
    w = was_full ENTRY_LIMIT s.run.workers s.session.main s.session.entry s.session.units s.history s.end len run plain s.end run.ended (full_end s.run s.history s.end answer s.output len s.answers e)

    count : length s.session.units ≤ 1024
    count = subst (λ n. n ≤ 1024) (sym s.session.of_words.count) (few s.run s.asks)
